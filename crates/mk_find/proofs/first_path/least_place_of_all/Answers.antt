-- The place of one more recipe isn't passed.
use Rattle.std.proofs.Common.{ℕ, ◌<◌, ◌≤◌, List, length, take, get_or, sym, subst, arith}
use Rattle.std.proofs.Math.Nat.{min-le_left}
use Rattle.std.proofs.lemmas.List.{take_more, take_all}
use Rattle.mk_graph.specs.Membership.{Has}
use Rattle.mk_graph_search.specs.Places.{IsOutBefore}
use Rattle.mk_graph_search.specs.Ways.{successors}
use Rattle.mk_find.proofs.Trying.{all_out}
use Rattle.mk_find.proofs.first_path.least_place_of_all.Goals as goal

pub loop-recipe-preserved : goal.loop-recipe-preserved
loop-recipe-preserved c =
    let succ = successors c.args.search.now.rows in
    let start = c.args.search.now.start in
    let recipes = c.args.recipes.now in
    let i = c.loop-recipe.recipe-index in
    let place = c.loop-recipe.place in
    let other = c.least_place_of.result in
    let low : i < length recipes = omega (arith, c.loop-recipe-test.true) in (
      omega (arith, c.min-place.ensures, min-le_left place other, c.loop-recipe.invariant.0),
      λ n h. subst (λ (k : ℕ). IsOutBefore succ start k n) (sym c.min-place.ensures)
          (all_out succ start place other (take i recipes) (get_or recipes i 0) c.loop-recipe.invariant.1
          c.least_place_of.ensures n (subst (λ (l : List ℕ). Has l n) (take_more recipes i 0 low) h)),
    )

pub returns-clause-out : goal.returns-clause-out
returns-clause-out c = λ n h.
    let recipes = c.args.recipes.now in
    let past : length recipes ≤ c.loop-recipe.recipe-index = omega (arith, c.loop-recipe-test.false) in
    c.loop-recipe.invariant.1 n (subst (λ (l : List ℕ). Has l n) (sym (take_all c.loop-recipe.recipe-index recipes past)) h)
