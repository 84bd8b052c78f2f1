-- A file that can change lacks its way just where it isn't noted.
use Rattle.std.proofs.Common.{◌≡◌, ◌∙◌, ◌<◌, [], ℕ, List, Bool, not, ⊎_elim, ap, sym, get_or, length}
use Rattle.std.proofs.lemmas.Bool.{true≢false, cases_Bool, cases_lt, not-true}
use Rattle.mk_lines.specs.Names.{has_name}
use Rattle.mk_subject.specs.NodeRow.{NodeRow}
use Rattle.mk_subject.specs.Subject.{footprints}
use Rattle.mk_subject.specs.Target.{Target}
use Rattle.mk_subject.proofs.Past.{past_reads}
use Rattle.mk_cert.proofs.lacking.lacks.Goals as goal

pub returns-then-can_change : goal.returns-then-can_change
returns-then-can_change c = λ ways seen.
    let x = c.args.subject.now in
    let e = c.args.row.now in
    let f = c.args.file.now.file in
    let sets = c.args.seen.now in
    let read = c.requires.read in
    let node : e.number < length x.graph.nodes = ⊎_elim (λ less. less) (λ past. absurd (past_reads x.graph (footprints x.setting) e.number past f read)) (cases_lt e.number (length x.graph.nodes)) in
    let number : c.row.inside.number ≡ e.number = ap (λ (k : NodeRow). k.number) c.row.view_is in
    let named : c.file.inside.file.now ≡ f = ap (λ (t : Target). t.file) c.file.view_is in
    let told : c.stands_at.result ≡ has_name (get_or sets e.number []) f =
    c.stands_at.ensures ∙ (ap (λ (n : ℕ). has_name (get_or sets n []) c.file.inside.file.now) number ∙ ap (λ (g : List ℕ). has_name (get_or sets e.number []) g) named) in
    let noted = seen e.number node f in (
      λ t. ((read, c.can_change.ensures.0 c.if-can_change.true), λ h. true≢false (sym (told ∙ noted.1 h) ∙ not-true c.stands_at.result t)),
      λ lacks. ⊎_elim (λ t. absurd (lacks.1 (noted.0 (sym told ∙ t)))) (λ out. ap (λ (b : Bool). not b) out) (cases_Bool c.stands_at.result),
    )
