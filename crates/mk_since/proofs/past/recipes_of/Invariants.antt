use Rattle.std.proofs.Common.{◌≡◌, map, take}
use Rattle.std.specs.Prelude.{filter}
use Rattle.mk_subject.specs.NodeRow.{NodeRow}
use Rattle.mk_since.specs.Parts.{recipe_in}
use Rattle.mk_since.proofs.past.recipes_of.Given as goal

-- the recipes of the first rows
abbrev pub invariant-loop-entry : goal.invariant-loop-entry
invariant-loop-entry l = l.recipes.items ≡ map recipe_in (filter (λ (e : NodeRow). e.node.recipe) (take l.entry-index l.entry-items))
