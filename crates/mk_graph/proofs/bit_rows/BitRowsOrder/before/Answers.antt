-- What the rows hold tells.
use Rattle.std.proofs.Common.{◌≡◌, ℕ, ◌<◌, List, length, get_or, true, false, refl, sym, ap, subst, ⊎_elim, ◌∙◌}
use Rattle.std.specs.Prelude.{◌↔◌}
use Rattle.std.proofs.lemmas.Bool.{false≢true, cases_Bool}
use Rattle.mk_graph.specs.declared.node.Node.{Node}
use Rattle.mk_graph.specs.Membership.{Has}
use Rattle.mk_graph.specs.Graph.{no_node, node}
use Rattle.mk_graph.specs.Without.{joined}
use Rattle.mk_graph.specs.Bits.{is_set}
use Rattle.mk_graph.specs.BitRows.{row, RowLacks, lists}
use Rattle.mk_graph.proofs.Settling.{has_row, is_before_by_rows, is_not_before_by_rows}
use Rattle.mk_graph.proofs.bit_rows.BitRowsOrder.before.Goals as goal

pub returns-then-has : goal.returns-then-has
returns-then-has c =
    let it = c.self.inside in
    let there : is_set (row it.stride it.first.items c.args.t) c.args.o ≡ true = sym (c.has.ensures ∙ ap (λ (l : List ℕ). is_set (row it.stride l c.args.t) c.args.o) c.deref.ensures.value) ∙ c.if-has.true in
    rw (← c.self.view_is) (λ e. is_before_by_rows it.graph.now c.nodes.ensures.graph (RowLacks it.stride it.first.items) (RowLacks it.stride it.done.items) c.self.invariant.settled c.args.o c.args.t (λ both. false≢true (sym both.0 ∙ there)), λ before. refl)

pub groups_have-requires : goal.groups_have-requires
groups_have-requires c n h =
    let it = c.self.inside in
    let g = it.graph.now in
    let found = c.in-Some.ensures.lookup.3 in
    let node_is : c.in-Some.node.now ≡ node g c.args.t = found.1 no_node ∙ ap (λ (l : List Node). get_or l c.args.t no_node) c.nodes.ensures.value in
    let groups : lists c.as_slice.result.now ≡ (node g c.args.t).groups = c.as_slice.ensures ∙ ap (λ (v : Node). v.groups) node_is in
    rw c.deref-2.ensures.value (has_row g it.stride it.done.items c.self.invariant.done_sized n (c.nodes.ensures.graph.sound.edges c.args.t n (subst (λ (l : List (List ℕ)). Has (joined l) n) groups h)))

pub returns : goal.returns
returns c =
    let it = c.self.inside in
    let g = it.graph.now in
    let first = RowLacks it.stride it.first.items in
    let done = RowLacks it.stride it.done.items in
    let found = c.in-Some.ensures.lookup.3 in
    let node_is : c.in-Some.node.now ≡ node g c.args.t = found.1 no_node ∙ ap (λ (l : List Node). get_or l c.args.t no_node) c.nodes.ensures.value in
    let groups : lists c.as_slice.result.now ≡ (node g c.args.t).groups = c.as_slice.ensures ∙ ap (λ (v : Node). v.groups) node_is in
    let recipe : (node g c.args.t).recipe ≡ true = sym (ap (λ (v : Node). v.recipe) node_is) ∙ c.if-not-node.false in
    let low : c.args.t < length g.nodes = rw c.nodes.ensures.value at found.0 in
    let lacks : first c.args.t c.args.o = sym (c.has.ensures ∙ ap (λ (l : List ℕ). is_set (row it.stride l c.args.t) c.args.o) c.deref.ensures.value) ∙ c.if-has.false in
    let told : (c.groups_have.result ≡ false) ↔ ((p : ℕ) → Has (joined (node g c.args.t).groups) p → done p c.args.o) = subst (λ (l : List (List ℕ)). (c.groups_have.result ≡ false) ↔ ((p : ℕ) → Has (joined l) p → done p c.args.o)) groups (rw c.deref-2.ensures.value at c.groups_have.ensures) in
    rw (← c.self.view_is) (
      λ e. is_before_by_rows g c.nodes.ensures.graph first done c.self.invariant.settled c.args.o c.args.t (λ both. false≢true (sym (told.1 both.1) ∙ e)),
      λ before. ⊎_elim (λ e. e) (λ e. absurd (is_not_before_by_rows g c.nodes.ensures.graph first done c.self.invariant.settled c.args.o c.args.t low recipe lacks (told.0 e) before)) (cases_Bool c.groups_have.result),
    )
