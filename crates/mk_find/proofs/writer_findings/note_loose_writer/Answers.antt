use Rattle.std.proofs.Common.{◌≡◌, ◌∙◌, ◌∷◌, ◌++◌, [], ℕ, List, false, ap, sym, subst}
use Rattle.mk_lemmas.proofs.Members.{Has-from_has, not-from_has}
use Rattle.mk_graph.specs.declared.node.Node.{Node}
use Rattle.mk_graph.specs.Graph.{Graph, node, prerequisites}
use Rattle.mk_graph.specs.Membership.{Has}
use Rattle.mk_find.specs.declared.finding.Finding.TheVariants.{Loose}
use Rattle.mk_subject.specs.Subject.{name_of}
use Rattle.mk_find.specs.Candidates.{loose}
use Rattle.mk_subject.specs.NodeRow.{NodeRow}
use Rattle.mk_subject.specs.Target.{Target}
use Rattle.mk_find.proofs.Adding.{adds_pushed, adds_none}
use Rattle.mk_find.proofs.Decided.{name_is}
use Rattle.mk_subject.proofs.FileDecided.{writer_is_node}
use Rattle.mk_find.proofs.writer_findings.note_loose_writer.Goals as goal

pub returns-then-has_number : goal.returns-then-has_number
returns-then-has_number c =
    let x = c.args.subject.now in
    let e = c.args.row.now in
    let number : c.row.inside.number ≡ e.number = ap (λ (k : NodeRow). k.number) c.row.view_is in
    let needs : c.prerequisites.result.now ≡ prerequisites x.graph e.number = c.prerequisites.ensures ∙ (ap (λ (g : Graph). prerequisites g c.row.inside.number) c.graph.ensures.value ∙ ap (prerequisites x.graph) number) in
    adds_none x (loose e.number c.args.writer) c.args.found.now (λ h. h.2 (subst (λ (l : List ℕ). Has l c.args.writer) needs (Has-from_has c.prerequisites.result.now c.args.writer (sym c.if-has_number.ensures))))

pub file_of_node-requires : goal.file_of_node-requires
file_of_node-requires c = writer_is_node c.args.subject.now c.args.writer _ c.requires.written

pub returns : goal.returns
returns c =
    let x = c.args.subject.now in
    let e = c.args.row.now in
    let old = c.args.found.now in
    let mid = c.name_of.new.self in
    let is = c.requires.row in
    let number : c.row.inside.number ≡ e.number = ap (λ (k : NodeRow). k.number) c.row.view_is in
    let needs : c.prerequisites.result.now ≡ prerequisites x.graph e.number = c.prerequisites.ensures ∙ (ap (λ (g : Graph). prerequisites g c.row.inside.number) c.graph.ensures.value ∙ ap (prerequisites x.graph) number) in
    let bare : (node x.graph e.number).recipe ≡ false = sym (ap (λ (n : Node). n.recipe) is.same_node) ∙ c.requires.bare in
    let named = ap (λ (k : List ℕ). mid ++ Loose k c.in_ok-writer.writer ∷ []) (name_is x e c.in_ok-name.name is c.in_ok-name.ensures) in
    adds_pushed x (loose e.number c.args.writer) old mid c.push.new.self c.in_ok-writer.ensures.same (bare, c.requires.written, λ h. not-from_has c.prerequisites.result.now c.args.writer (sym c.if-has_number.ensures) (subst (λ (l : List ℕ). Has l c.args.writer) (sym needs) h))
    (c.in_ok-push.ensures ∙ (named ∙ ap (λ (k : List ℕ). mid ++ Loose (name_of x e.number) k ∷ []) (c.in_ok-writer.ensures.name ∙ ap (λ (t : Target). t.file) c.file_of_node.ensures)))
