use Rattle.std.proofs.Common.{◌≡◌, ◌∙◌, ℕ, List, Some, ap, get_or, sym}
use Rattle.mk_lines.specs.Names.{place_from}
use Rattle.mk_since.specs.Past.{Past, PastRecipe}
use Rattle.mk_since.proofs.Targets.{found_at, none_at, targets}
use Rattle.mk_since.proofs.past.Past.recipe.Goals as goal

pub returns-in-Some : goal.returns-in-Some
returns-in-Some c =
    let q = c.args.target.now in
    let rs = c.args.self.now.recipes in
    let place = c.in-Some.place in
    let found = c.index-recipes-place.result in
    let all : c.self.inside.targets ≡ targets rs = c.self.invariant ∙ ap (λ (p : Past). targets p.recipes) c.self.view_is in
    let at : place_from 0 (targets rs) q ≡ Some place = ap (λ (l : List (List ℕ)). place_from 0 l q) (sym all) ∙ sym c.in-Some.ensures.place in
    ap Some (c.index-recipes-place.is ∙ ap (λ (l : List PastRecipe). get_or l place found) c.recipes.ensures) ∙ sym (found_at q rs place found at)

pub returns-in-None : goal.returns-in-None
returns-in-None c =
    let q = c.args.target.now in
    let rs = c.args.self.now.recipes in
    let all : c.self.inside.targets ≡ targets rs = c.self.invariant ∙ ap (λ (p : Past). targets p.recipes) c.self.view_is in
    sym (none_at q 0 rs (ap (λ (l : List (List ℕ)). place_from 0 l q) (sym all) ∙ sym c.in-None.ensures.place))
