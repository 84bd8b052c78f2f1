use Rattle.std.proofs.Common.{◌≡◌, map, take}
use Rattle.std.specs.String.{string_bytes}
use Rattle.mk_since.specs.Past.{PastRecipe}
use Rattle.mk_since.proofs.past.targets_of.Given as goal

-- the targets of the first recipes
abbrev pub invariant-loop-recipe : goal.invariant-loop-recipe
invariant-loop-recipe l = map string_bytes l.targets.items ≡ map (λ (r : PastRecipe). r.target) (take l.recipe-index l.recipes)
