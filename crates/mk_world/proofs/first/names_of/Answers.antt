use Rattle.std.proofs.Common.{◌≡◌, ℕ, List, length, sym, ap, inl, inr, subst, arith, ◌⊎◌, ◌∙◌}
use Rattle.std.specs.Prelude.{◌↔◌}
use Rattle.mk_lemmas.proofs.Results.{IfOk-map}
use Rattle.mk_graph.specs.declared.node.Node.{Node}
use Rattle.mk_graph.specs.Membership.{Has}
use Rattle.mk_graph.specs.Graph.{node}
use Rattle.mk_world.specs.First.{IsNameOf}
use Rattle.mk_world.proofs.Judged.{node_is}
use Rattle.mk_world.proofs.FirstDisk.{next_node, of_world}
use Rattle.mk_world.proofs.Ascending.{all_has}
use Rattle.mk_world.proofs.first.names_of.Goals as goal

pub loop-node-init : goal.loop-node-init
loop-node-init c = λ f.
    let given = c.as_slice.ensures ∙ c.sources.ensures in
    let all = all_has _ c.new-names.result f in
    let none = subst (λ (l : List (List ℕ)). Has l f → ⊥) (sym c.new-names.ensures) (λ h. h) in
    rw c.in_ok-insert_all.ensures (
      λ h. elim (all.0 h) [ inl e ↦ absurd (none e) | inr s ↦ inl (subst (λ (l : List (List ℕ)). Has l f) given s) ],
      λ h. elim h [ inl s ↦ all.1 (inr (subst (λ (l : List (List ℕ)). Has l f) (sym given) s)) | inr b ↦ absurd (omega (arith, b.1)) ],
    )

pub loop-node-preserved : goal.loop-node-preserved
loop-node-preserved c = λ f.
    let this = node_is c.args.graph.now c.nodes-node-items.result.now c.loop-node.node-index c.node-item.result c.nodes-node-items.ensures.value c.loop-node-test.true c.node-item.is in
    next_node (λ n. IsNameOf c.args.setting.now (node c.args.graph.now n) f) (Has c.loop-node.names f)
    (Has c.add_node.new.names f) (Has c.args.setting.now.sources f) c.loop-node.node-index
    (subst (λ (v : Node). Has c.add_node.new.names f ↔ (Has c.loop-node.names f
    ⊎ IsNameOf c.args.setting.now v f)) this (c.in_ok-add_node.ensures f)) (c.loop-node.invariant f)

pub returns-clause-sorted : goal.returns-clause-sorted
returns-clause-sorted c = c.in_order.ensures.sorted

pub returns-clause-all : goal.returns-clause-all
returns-clause-all c =
    let many : c.loop-node.node-index ≡ length c.args.graph.now.nodes = omega (arith, c.loop-node.auto.node-index-end, c.loop-node-test.false, ap length c.nodes-node-items.ensures.value) in
    let world = λ (f : List ℕ). of_world (Has c.loop-node.names f) c.args.graph.now c.args.setting.now c.loop-node.node-index f many (c.loop-node.invariant f) in
    IfOk-map c.in_order.result (λ names all f. (λ h. (world f).0 ((all f).0 h), λ h. (all f).1 ((world f).1 h))) c.in_order.ensures.all
