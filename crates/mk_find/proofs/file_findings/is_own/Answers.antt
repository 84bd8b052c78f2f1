-- The recipe writes the file just where it is one of its writers.
use Rattle.std.proofs.Common.{◌≡◌, ◌∙◌, ℕ, List, false, ⊎_elim, ap, sym, subst}
use Rattle.std.proofs.lemmas.Bool.{cases_Bool}
use Rattle.std.proofs.lemmas.Result.{IfOk-weaker}
use Rattle.mk_lemmas.proofs.Members.{Has-filter, not-from_has}
use Rattle.mk_lines.specs.Names.{has_name}
use Rattle.mk_graph.specs.Graph.{IsGraph}
use Rattle.mk_graph.specs.Laws.{SerialReachesEachOnce}
use Rattle.mk_graph.specs.Membership.{Has, has}
use Rattle.mk_graph.specs.Serial.{serial_order}
use Rattle.mk_subject.specs.NodeRow.{NodeRow, row_writes, writers_of}
use Rattle.mk_subject.specs.Subject.{Subject, writes_of}
use Rattle.mk_subject.specs.Target.{Target}
use Rattle.mk_subject.proofs.Decided.{has_decides}
use Rattle.mk_subject.proofs.Entries.{same_writes}
use Rattle.mk_find.proofs.FileDecided.{own_there}
use Rattle.mk_subject.proofs.InOrder.{writer_in_order}
use Rattle.mk_find.proofs.file_findings.is_own.Goals as goal

not_written : (x : Subject) (t : ℕ) (f : List ℕ) (ns : List ℕ) (n : ℕ) → IsGraph x.graph → SerialReachesEachOnce → ns ≡ writers_of x f → n ≡ t → has ns n ≡ false → ¬ (Has (writes_of x t) f)
not_written x t f ns n is reaches same number out wrote =
    not-from_has ns n out (subst (λ (k : ℕ). Has ns k) (sym number) (subst (λ (l : List ℕ). Has l t) (sym same) (Has-filter (λ o. has_name (writes_of x o) f) (serial_order x.graph) t (writer_in_order x is reaches t f wrote) ((has_decides (writes_of x t) f).1 wrote))))

pub returns-then-writers-le-FEW_NUMBERS-clause-own : goal.returns-then-writers-le-FEW_NUMBERS-clause-own
returns-then-writers-le-FEW_NUMBERS-clause-own c =
    let x = c.args.subject.now in
    let t = c.args.row.now.number in
    let f = c.args.file.now.file in
    let ns = c.writers-writers.result.now in
    let n = c.row.inside.number in
    let number : n ≡ t = ap (λ (e : NodeRow). e.number) c.row.view_is in
    let writers : ns ≡ writers_of x f = c.writers-writers.ensures ∙ ap (λ (k : Target). k.known.writers) c.requires.file in
    let other = not_written x t f ns n c.graph-graph.ensures.graph c.serial_reaches_each_once.ensures writers number in (
      λ yes. own_there x t f ns n writers number (sym c.has_number.ensures ∙ yes),
      λ wrote. ⊎_elim (λ yes. c.has_number.ensures ∙ yes) (λ out. absurd (other out wrote)) (cases_Bool (has ns n)),
    )

pub returns-clause-own : goal.returns-clause-own
returns-clause-own c =
    let x = c.args.subject.now in
    let e = c.args.row.now in
    let files = writes_of x e.number in
    let f = c.args.file.now.file in
    let named : c.file.inside.file.now ≡ f = ap (λ (k : Target). k.file) c.file.view_is in
    let same : has_name (row_writes e) c.file.inside.file.now ≡ has_name files f = ap (λ (g : List ℕ). has_name (row_writes e) g) named ∙ ap (λ (l : List (List ℕ)). has_name l f) (same_writes x e c.requires.row) in
    let decides = has_decides files f in
    IfOk-weaker c.writes_name.result _ _ (λ writes told. ((λ t. decides.0 (sym (told ∙ same) ∙ t)), (λ wrote. (told ∙ same) ∙ decides.1 wrote))) c.writes_name.ensures.writes
