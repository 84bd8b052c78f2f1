use Rattle.std.proofs.Common.{ℕ, ◌≤◌, take}
use Rattle.mk_graph.specs.Membership.{Has}
use Rattle.mk_graph_search.specs.Places.{IsOutBefore}
use Rattle.mk_graph_search.specs.Ways.{successors}
use Rattle.mk_find.proofs.first_path.least_place_of_all.Given as goal

abbrev pub invariant-loop-recipe : goal.invariant-loop-recipe
invariant-loop-recipe l =
    (l.place ≤ l.passed) × ((n : ℕ) → Has (take l.recipe-index l.recipes) n → IsOutBefore (successors l.search.rows) l.search.start l.place n)
