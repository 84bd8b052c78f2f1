use Rattle.std.proofs.Common.{◌≡◌, ◌∙◌, ℕ, List, true, map, ap, sym, subst}
use Rattle.std.proofs.lemmas.Bool.{true≢false}
use Rattle.std.proofs.lemmas.Result.{on_ok_weaker}
use Rattle.mk_graph.specs.declared.node.Node.{Node}
use Rattle.mk_graph.specs.Graph.{node}
use Rattle.mk_graph.specs.Serial.{serial_order}
use Rattle.mk_lines.specs.Names.{has_name}
use Rattle.mk_subject.specs.Subject.{name_of, writes_of}
use Rattle.mk_find.specs.Candidates.{loose}
use Rattle.mk_find.specs.Listed.{Adds}
use Rattle.mk_subject.specs.NodeRow.{NodeRow, writers_of}
use Rattle.mk_find.proofs.Adding.{adds_lifted, adds_none_of}
use Rattle.mk_subject.proofs.Decided.{has_decides}
use Rattle.mk_subject.proofs.FileDecided.{writers_write}
use Rattle.mk_find.proofs.writer_findings.note_loose.Goals as goal

pub returns-then-row : goal.returns-then-row
returns-then-row c =
    let x = c.args.subject.now in
    let e = c.args.row.now in
    let recipe : (node x.graph e.number).recipe ≡ true = sym (ap (λ (n : Node). n.recipe) c.requires.same_node) ∙ (sym (ap (λ (k : NodeRow). k.node.recipe) c.row.view_is) ∙ (sym c.row.invariant ∙ c.if-row.true)) in
    adds_none_of x (λ o. loose e.number o) (serial_order x.graph) c.args.found.now (λ o h. true≢false (sym recipe ∙ h.0))

pub note_loose_writers-requires : goal.note_loose_writers-requires
note_loose_writers-requires c =
    let x = c.args.subject.now in
    let e = c.args.row.now in
    let same : c.writers_for-writers.result.now ≡ writers_of x (name_of x e.number) = c.writers_for-writers.ensures in
    record {
      row = c.requires;
      bare = sym (ap (λ (k : NodeRow). k.node.recipe) c.row.view_is) ∙ (sym c.row.invariant ∙ c.if-row.false);
      written = λ o h. writers_write x (name_of x e.number) c.writers_for-writers.result.now same o h;
    }

pub returns : goal.returns
returns c =
    let x = c.args.subject.now in
    let e = c.args.row.now in
    let old = c.args.found.now in
    let new = c.note_loose_writers.new.found in
    let same : c.writers_for-writers.result.now ≡ writers_of x (name_of x e.number) = c.writers_for-writers.ensures in
    on_ok_weaker c.note_loose_writers.result
    (λ h. adds_lifted x (λ o. loose e.number o) (λ o. has_name (writes_of x o) (name_of x e.number)) (serial_order x.graph) old new
    (λ o out k. true≢false (sym ((has_decides (writes_of x o) (name_of x e.number)).1 k.1) ∙ out))
    (subst (λ (ns : List ℕ). Adds x (map (λ o. loose e.number o) ns) old new) same h))
    c.note_loose_writers.ensures
