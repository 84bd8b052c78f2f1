use Rattle.std.proofs.Common.{◌≡◌, ◌∙◌, ℕ, List, map, ap, sym, subst}
use Rattle.std.specs.Prelude.{filter}
use Rattle.std.proofs.lemmas.Bool.{true≢false}
use Rattle.std.proofs.lemmas.Result.{on_ok_weaker}
use Rattle.mk_lemmas.proofs.Members.{Has-from_filter}
use Rattle.mk_graph.specs.Membership.{Has}
use Rattle.mk_graph.specs.Serial.{serial_order}
use Rattle.mk_lines.specs.Names.{has_name}
use Rattle.mk_subject.specs.Subject.{writes_of}
use Rattle.mk_find.specs.Candidates.{two_writers}
use Rattle.mk_find.specs.Listed.{Adds}
use Rattle.mk_subject.specs.NodeRow.{NodeRow, writers_of}
use Rattle.mk_find.specs.NodeChecks.{behind}
use Rattle.mk_subject.specs.Target.{Target}
use Rattle.mk_find.proofs.Adding.{adds_lifted}
use Rattle.mk_find.proofs.Behind.{behind_other, behind_filter}
use Rattle.mk_subject.proofs.Decided.{has_decides}
use Rattle.mk_find.proofs.pairs.note_file.Goals as goal

pub note_pairs_with-requires : goal.note_pairs_with-requires
note_pairs_with-requires c =
    let x = c.args.subject.now in
    let e = c.args.row.now in
    let f = c.args.file.now.file in
    let order = serial_order x.graph in
    let writes = λ (t : ℕ). has_name (writes_of x t) f in
    let writers : c.writers-writers.result.now ≡ writers_of x f = c.writers-writers.ensures ∙ ap (λ (k : Target). k.known.writers) c.requires.file in
    let number : c.row.inside.number ≡ e.number = ap (λ (k : NodeRow). k.number) c.row.view_is in
    let same : c.behind-others.result.now ≡ filter writes (behind e.number order) = c.behind-others.ensures
    ∙ (ap (λ n. behind n c.writers-writers.result.now) number
    ∙ (ap (behind e.number) writers ∙ behind_filter writes e.number order
    ((has_decides (writes_of x e.number) f).1 c.requires.written))) in
    let distinct = (c.serial_reaches_each_once.ensures x.graph c.graph-graph.ensures.graph.no_cycle).0 in
    record {
      row = c.requires.row;
      written = λ t h.
          let kept = subst (λ (ns : List ℕ). Has ns t) same h in
          (behind_other e.number order t distinct ((Has-from_filter writes (behind e.number order) t kept).0), c.requires.written, (has_decides (writes_of x t) f).0 ((Has-from_filter writes (behind e.number order) t kept).1));
    }

pub returns : goal.returns
returns c =
    let x = c.args.subject.now in
    let e = c.args.row.now in
    let f = c.args.file.now.file in
    let order = serial_order x.graph in
    let writes = λ (t : ℕ). has_name (writes_of x t) f in
    let writers : c.writers-writers.result.now ≡ writers_of x f = c.writers-writers.ensures ∙ ap (λ (k : Target). k.known.writers) c.requires.file in
    let number : c.row.inside.number ≡ e.number = ap (λ (k : NodeRow). k.number) c.row.view_is in
    let same : c.behind-others.result.now ≡ filter writes (behind e.number order) = c.behind-others.ensures
    ∙ (ap (λ n. behind n c.writers-writers.result.now) number
    ∙ (ap (behind e.number) writers ∙ behind_filter writes e.number order
    ((has_decides (writes_of x e.number) f).1 c.requires.written))) in
    let old = c.args.found.now in
    let new = c.note_pairs_with.new.found in
    on_ok_weaker c.note_pairs_with.result
    (λ h. adds_lifted x (λ t. two_writers e.number t f) writes (behind e.number order) old new
    (λ t out k. true≢false (sym ((has_decides (writes_of x t) f).1 k.2) ∙ out))
    (subst (λ (ns : List ℕ). Adds x (map (λ t. two_writers e.number t f) ns) old new) same h))
    c.note_pairs_with.ensures
