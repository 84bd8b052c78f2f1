-- What the commands of a name speak of.
use Rattle.std.proofs.Common.{◌≡◌, ℕ, List, [], ◌∷◌, Option, Some, None, Ok, refl, ap, ◌∙◌}
use Rattle.std.specs.Prelude.{slice_get}
use Rattle.std.specs.Borrow.{Bor}
use Rattle.std.specs.Option.{option_map, option_map_or}
use Rattle.mk_lemmas.proofs.Texts.{texts}
use Rattle.mk_macros.specs.Locals.{Recipe}
use Rattle.mk_macros.specs.Table.{Macro}
use Rattle.mk_read.specs.Reading.{Makefile}
use Rattle.mk_read.specs.State.{Command}
use Rattle.mk_infer.specs.Commands.{commands, expanded, no_commands, recipe_for}
use Rattle.mk_infer.specs.Inference.{chosen_commands, stem}
use Rattle.mk_infer.specs.Selection.{needs}
use Rattle.mk_infer.specs.There.{Exists}

-- the first of the names
pub first_text : (names : List (Bor (List ℕ))) → option_map (λ (name : Bor (List ℕ)). name.now) (slice_get names 0) ≡ slice_get (texts names) 0
first_text [] = refl
first_text (name ∷ names) = refl

module _ (m : Makefile) (e : Exists) (name : List ℕ) where
  abbrev recipe : List ℕ → Option (List ℕ) → List (List ℕ) → Recipe
  recipe front first all = record { target = name; stem = front; first = first; all = all }

  -- there are commands
  pub commands_are : (macros : List Macro) (front : List ℕ) (first : Option (List ℕ)) (all : List (List ℕ)) (found : List Command) → macros ≡ m.macros → front ≡ stem m name → all ≡ needs m e name → first ≡ slice_get all 0
      → Some found ≡ chosen_commands m e name → expanded macros (Some (recipe front first all)) found ≡ commands m e name
  unfolding commands
  commands_are macros front first all found by_macros by_stem by_all by_first by_found =
      ap (λ (ms : List Macro). expanded ms (Some (recipe front first all)) found) by_macros
      ∙ (ap (λ (s : List ℕ). expanded m.macros (Some (recipe s first all)) found) by_stem
      ∙ (ap (λ (f : Option (List ℕ)). expanded m.macros (Some (recipe (stem m name) f all)) found) by_first
      ∙ (ap (λ (ns : List (List ℕ)). expanded m.macros (Some (recipe (stem m name) (slice_get ns 0) ns)) found) by_all
      ∙ ap (λ (o : Option (List Command)). option_map_or (expanded m.macros (Some (recipe_for m e name))) o (Ok no_commands)) by_found)))

  -- there are none
  pub no_commands_are : None ≡ chosen_commands m e name → Ok no_commands ≡ commands m e name
  unfolding commands
  no_commands_are none = ap (λ (o : Option (List Command)). option_map_or (expanded m.macros (Some (recipe_for m e name))) o (Ok no_commands)) none
