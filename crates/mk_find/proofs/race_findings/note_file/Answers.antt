use Rattle.std.proofs.Common.{◌≡◌, ◌∙◌, [], ℕ, List, map, ap, sym, subst, length}
use Rattle.std.proofs.lemmas.Bool.{true≢false, eqb-true}
use Rattle.std.proofs.lemmas.List.{nil_from_length}
use Rattle.std.proofs.lemmas.Result.{on_ok_weaker}
use Rattle.mk_graph.specs.Serial.{serial_order}
use Rattle.mk_lines.specs.Names.{has_name}
use Rattle.mk_subject.specs.NodeRow.{NodeRow, writers_of}
use Rattle.mk_subject.specs.Subject.{Subject, writes_of}
use Rattle.mk_find.specs.Candidates.{race}
use Rattle.mk_find.specs.Listed.{Adds}
use Rattle.mk_subject.specs.Target.{Target}
use Rattle.mk_find.specs.declared.finding.Finding.{Finding}
use Rattle.mk_find.proofs.Adding.{adds_lifted, adds_nothing}
use Rattle.mk_subject.proofs.Decided.{has_decides}
use Rattle.mk_subject.proofs.FileDecided.{writers_write}
use Rattle.mk_find.proofs.race_findings.note_file.Goals as goal

-- who doesn't write the file doesn't race for it
with_writers : (x : Subject) (t : ℕ) (f : List ℕ) (ns : List ℕ) (old new : List Finding) → ns ≡ writers_of x f → Adds x (map (λ o. race t o f) ns) old new → Adds x (map (λ o. race t o f) (serial_order x.graph)) old new
with_writers x t f ns old new same h =
    adds_lifted x (λ o. race t o f) (λ o. has_name (writes_of x o) f) (serial_order x.graph) old new
    (λ o out k. true≢false (sym ((has_decides (writes_of x o) f).1 k.2) ∙ out))
    (subst (λ (l : List ℕ). Adds x (map (λ o. race t o f) l) old new) same h)

pub returns-then-is_empty-clause-found : goal.returns-then-is_empty-clause-found
returns-then-is_empty-clause-found c =
    let x = c.args.read.now.subject.now in
    let f = c.args.read.now.file.file in
    let old = c.args.found.now in
    let ns = c.writers-writers.result.now in
    let none : ns ≡ [] = nil_from_length ns (eqb-true (length ns) 0 (sym c.is_empty.ensures ∙ c.if-is_empty.true)) in
    let writers : ns ≡ writers_of x f = c.writers-writers.ensures ∙ ap (λ (t : Target). t.known.writers) c.requires.read.file in
    with_writers x c.args.read.now.row.now.number f [] old old (sym none ∙ writers) (adds_nothing x old)

pub note_races_with-requires : goal.note_races_with-requires
note_races_with-requires c =
    let x = c.args.read.now.subject.now in
    let e = c.args.read.now.row.now in
    let f = c.args.read.now.file.file in
    let ns = c.writers-writers.result.now in
    let writers : ns ≡ writers_of x f = c.writers-writers.ensures ∙ ap (λ (t : Target). t.known.writers) c.requires.read.file in
    record {
      read = c.requires.read;
      graph = c.turn_to.ensures.graph ∙ c.requires.graph;
      number = c.turn_to.ensures.number ∙ ap (λ (k : NodeRow). k.number) c.row.view_is;
      written = λ o h. writers_write x f ns writers o h;
    }

pub returns-clause-found : goal.returns-clause-found
returns-clause-found c =
    let x = c.args.read.now.subject.now in
    let t = c.args.read.now.row.now.number in
    let f = c.args.read.now.file.file in
    let ns = c.writers-writers.result.now in
    let writers : ns ≡ writers_of x f = c.writers-writers.ensures ∙ ap (λ (k : Target). k.known.writers) c.requires.read.file in
    let old = c.args.found.now in
    let new = c.note_races_with.new.found in
    on_ok_weaker c.note_races_with.result
    (λ h. with_writers x t f ns old new writers h)
    c.note_races_with.ensures.found
