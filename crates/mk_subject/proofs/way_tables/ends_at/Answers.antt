use Rattle.std.proofs.Common.{◌≡◌, ◌∙◌, ℕ, List, ap, sym, subst, ⊎_elim}
use Rattle.std.proofs.lemmas.Bool.{cases_Bool}
use Rattle.mk_lemmas.proofs.Members.{Has-filter, Has-from_has, not-from_has}
use Rattle.mk_lines.specs.Names.{has_name}
use Rattle.mk_graph.specs.Membership.{Has, has}
use Rattle.mk_graph.specs.Serial.{serial_order}
use Rattle.mk_cert_text.specs.declared.certificate.Finish.{Finish}
use Rattle.mk_subject.specs.Subject.{footprints, writes_of}
use Rattle.mk_subject.specs.NodeRow.{writers_of}
use Rattle.mk_subject.specs.Target.{Target}
use Rattle.mk_subject.specs.Paths.{EndsAt}
use Rattle.mk_subject.proofs.Decided.{has_decides}
use Rattle.mk_subject.proofs.FileDecided.{writers_write}
use Rattle.mk_subject.proofs.InOrder.{writer_in_order}
use Rattle.mk_subject.proofs.way_tables.ends_at.Goals as goal

pub returns-in-Written : goal.returns-in-Written
returns-in-Written c =
    let x = c.args.subject.now in
    let f = c.args.file.now.file in
    let n = c.args.number in
    let ns = c.writers.result.now in
    let writers : ns ≡ writers_of x f = c.writers.ensures ∙ ap (λ (v : Target). v.known.writers) c.requires.file in (
      λ t. subst (λ (finish : Finish). EndsAt x.graph (footprints x.setting) f finish n) (sym c.in-Written.is) (writers_write x f ns writers n (Has-from_has ns n (sym c.has_number.ensures ∙ t))),
      λ ends.
          let wrote : Has (writes_of x n) f = subst (λ (finish : Finish). EndsAt x.graph (footprints x.setting) f finish n) c.in-Written.is ends in
          let stands : Has ns n = subst (λ (l : List ℕ). Has l n) (sym writers) (Has-filter (λ o. has_name (writes_of x o) f) (serial_order x.graph) n (writer_in_order x c.graph-graph.ensures.graph c.serial_reaches_each_once.ensures n f wrote) ((has_decides (writes_of x n) f).1 wrote)) in
          ⊎_elim (λ t. c.has_number.ensures ∙ t) (λ out. absurd (not-from_has ns n out stands)) (cases_Bool (has ns n)),
    )
