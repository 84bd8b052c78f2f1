-- The place of a node is in the table, or behind what the table has.
use Rattle.std.proofs.Common.{◌≡◌, ◌<◌, ◌≤◌, ℕ, List, length, nat_eq, is_some, false, MatchOption, ap, sym, subst, arith}
use Rattle.indexmap.specs.IndexMap.{get}
use Rattle.mk_graph.specs.Membership.{Has}
use Rattle.mk_graph_search.specs.declared.visits.Visit.{Visit}
use Rattle.mk_graph_search.specs.Progress.{nodes_of, visit_at}
use Rattle.mk_graph_search.proofs.Tables.{found_behind}
use Rattle.mk_graph_search.proofs.visits.Visits.place_of.Goals as goal
use Rattle.mk_graph_search.proofs.visits.Visits.place_of.Goals.{then-self-gt0+in_default, else-self-gt0}

pub returns-in-Some : goal.returns-in-Some
returns-in-Some c =
    subst (λ (l : List Visit). (c.in-Some.place.now < length l) × ((visit_at l c.in-Some.place.now).node ≡ c.args.node)) c.self.view_is (c.self.invariant.stand c.args.node c.in-Some.place.now (sym c.in-Some.ensures.value))

pub returns : goal.returns
returns c =
    let lacks : 0 < c.self.inside.noted → is_some (get nat_eq c.self.inside.places c.args.node) ≡ false = λ lt. elim c.if-self-gt0.branch [
      | then-self-gt0+in_default w ↦ ap is_some (sym (w.in_default.ensures.value))
      | else-self-gt0 w ↦ absurd (omega (arith, lt, w.if-self-gt0.false))
    ] in
    let found = subst (λ (l : List Visit). MatchOption c.place_from.result ((k : ℕ) → c.self.inside.noted ≤ k → k < length l → ¬ ((visit_at l k).node ≡ c.args.node)) (λ place. (place < length l) × ((visit_at l place).node ≡ c.args.node))) c.as_slice.ensures.value c.place_from.ensures in
    subst (λ (l : List Visit). MatchOption c.place_from.result (¬ (Has (nodes_of l) c.args.node)) (λ place. (place < length l) × ((visit_at l place).node ≡ c.args.node))) c.self.view_is
    (found_behind c.self.inside.list.items (get nat_eq c.self.inside.places) c.self.inside.noted c.args.node c.place_from.result c.self.invariant lacks found)
