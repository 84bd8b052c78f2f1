use Rattle.std.proofs.Common.{◌≡◌, ◌<◌, ◌∙◌, ap, get_or, List, length, map, subst, take, refl, arith}
use Rattle.std.specs.String.{string_bytes}
use Rattle.std.proofs.lemmas.List.{take_all}
use Rattle.mk_since.specs.Past.{PastRecipe}
use Rattle.mk_since.specs.Parts.{Leaves}
use Rattle.mk_since.proofs.Naming.{AreNoted, leaves_noted, none_noted, noted_more}
use Rattle.mk_since.proofs.named.note_left_over.Goals as goal

pub loop-recipe-init : goal.loop-recipe-init
loop-recipe-init c = none_noted (Leaves c.args.subject.now) c.args.names.now c.args.names.now refl

pub loop-recipe-preserved : goal.loop-recipe-preserved
loop-recipe-preserved c =
    let y = c.args.subject.now in
    let recipes = c.recipes-recipe-items.result.now in
    let i = c.loop-recipe.recipe-index in
    let lt : i < length recipes = omega arith in
    noted_more (Leaves y) c.loop-recipe.names c.note_lacking.new.names c.args.names.now recipes i c.recipe-item.result lt (leaves_noted y (get_or recipes i c.recipe-item.result) c.loop-recipe.names c.note_lacking.new.names (map string_bytes c.writes.result.now) (c.writes.ensures ∙ ap (λ (r : PastRecipe). r.writes) c.recipe-item.is) c.in_ok-note_lacking.ensures) c.loop-recipe.invariant

pub returns : goal.returns
returns c =
    let recipes = c.recipes-recipe-items.result.now in
    let all : take c.loop-recipe.recipe-index recipes ≡ recipes = take_all c.loop-recipe.recipe-index recipes (omega arith) in
    subst (λ (l : List PastRecipe). AreNoted (Leaves c.args.subject.now) c.loop-recipe.names c.args.names.now l) (all ∙ c.recipes-recipe-items.ensures) c.loop-recipe.invariant
