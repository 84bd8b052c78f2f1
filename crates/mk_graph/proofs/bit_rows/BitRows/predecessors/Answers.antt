-- What the rows hold tells.
use Rattle.std.proofs.Common.{◌≡◌, ℕ, ◌<◌, List, length, get_or, true, sym, ap, subst, ⊎_elim, ◌∙◌}
use Rattle.std.specs.Prelude.{◌↔◌}
use Rattle.std.proofs.lemmas.Bool.{false≢true, cases_Bool}
use Rattle.mk_graph.specs.declared.node.Node.{Node}
use Rattle.mk_graph.specs.Membership.{Has}
use Rattle.mk_graph.specs.Graph.{no_node, node}
use Rattle.mk_graph.specs.Without.{joined}
use Rattle.mk_graph.specs.Bits.{is_set}
use Rattle.mk_graph.specs.BitRows.{row, Lacks, RowLacks, lists}
use Rattle.mk_graph.proofs.Settling.{has_row, is_before_by_rows, is_not_before_by_rows}
use Rattle.mk_graph.proofs.bit_rows.BitRows.predecessors.Goals as goal

pub join_rows-requires-clause-rows : goal.join_rows-requires-clause-rows
join_rows-requires-clause-rows c n h =
    let it = c.self.inside in
    let g = it.graph.now in
    let found = c.in-Some.ensures.lookup.3 in
    let node_is : c.in-Some.node.now ≡ node g c.args.t = found.1 no_node ∙ ap (λ (l : List Node). get_or l c.args.t no_node) c.nodes.ensures.value in
    let groups : lists c.as_slice.result.now ≡ (node g c.args.t).groups = c.as_slice.ensures ∙ ap (λ (v : Node). v.groups) node_is in
    rw c.deref-2.ensures.value (has_row g it.stride it.done.items c.self.invariant.done_sized n (c.nodes.ensures.graph.sound.edges c.args.t n (subst (λ (l : List (List ℕ)). Has (joined l) n) groups h)))

pub returns : goal.returns
returns c o =
    let it = c.self.inside in
    let g = it.graph.now in
    let first = RowLacks it.stride it.first.items in
    let done = RowLacks it.stride it.done.items in
    let found = c.in-Some.ensures.lookup.3 in
    let node_is : c.in-Some.node.now ≡ node g c.args.t = found.1 no_node ∙ ap (λ (l : List Node). get_or l c.args.t no_node) c.nodes.ensures.value in
    let groups : lists c.as_slice.result.now ≡ (node g c.args.t).groups = c.as_slice.ensures ∙ ap (λ (v : Node). v.groups) node_is in
    let recipe : (node g c.args.t).recipe ≡ true = sym (ap (λ (v : Node). v.recipe) node_is) ∙ c.if-not-node.false in
    let low : c.args.t < length g.nodes = rw c.nodes.ensures.value at found.0 in
    let words = c.join_rows.new.words in
    let own : c.row-first.result.now ≡ row it.stride it.first.items c.args.t = c.row-first.ensures.value ∙ ap (λ (l : List ℕ). row it.stride l c.args.t) c.deref.ensures.value in
    let rows : Lacks words o ↔ (first c.args.t o × ((p : ℕ) → Has (joined (node g c.args.t).groups) p
    → done p o)) = subst (λ (l : List (List ℕ)). Lacks words o
    ↔ (first c.args.t o × ((p : ℕ) → Has (joined l) p → done p o))) groups
    (subst (λ (l : List ℕ). Lacks words o ↔ (Lacks l o × ((p : ℕ)
    → Has (joined (lists c.as_slice.result.now)) p → done p o))) own
    (rw c.deref-2.ensures.value at c.join_rows.ensures o)) in
    let has = c.of.ensures o in
    rw (← c.self.view_is) (
      λ h. is_before_by_rows g c.nodes.ensures.graph first done c.self.invariant.settled o c.args.t (λ both. false≢true (sym (rows.1 both) ∙ has.0 h)),
      λ before. ⊎_elim (λ e. has.1 e) (λ e. let lacks = rows.0 e in absurd (is_not_before_by_rows g c.nodes.ensures.graph first done c.self.invariant.settled o c.args.t low recipe lacks.0 lacks.1 before)) (cases_Bool (is_set words o)),
    )
