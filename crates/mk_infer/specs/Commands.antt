-- The expanded commands of a name.
use Rattle.std.specs.Prelude.{ℕ, Bool, false, ◌||◌, List, [], ◌∷◌, slice_get, Option, Some, Result, Ok}
use Rattle.std.specs.Option.{option_map_or}
use Rattle.mk_macros.specs.Expansion.{expansion}
use Rattle.mk_macros.specs.Locals.{Recipe}
use Rattle.mk_macros.specs.Table.{Macro}
use Rattle.mk_read.specs.Reading.{Makefile}
use Rattle.mk_read.specs.State.{Command}
use Rattle.mk_infer.specs.declared.fault.InferFault.{InferFault}
use Rattle.mk_infer.specs.Inference.{chosen_commands, stem}
use Rattle.mk_infer.specs.Selection.{needs}
use Rattle.mk_infer.specs.Steps.{◌>>=◌, at_place}
use Rattle.mk_infer.specs.There.{Exists}

-- expanded commands, and whether they vary from make to make
pub record Commands : Type 0 where
  pub lines : List (List ℕ)
  pub varying : Bool

-- no commands
abbrev pub no_commands : Commands
no_commands = record { lines = []; varying = false }

-- the commands expanded in order, or the first fault, at the place of its command
unfoldable pub expanded : List Macro → Option Recipe → List Command → Result Commands InferFault
expanded macros recipe [] = Ok no_commands
expanded macros recipe (command ∷ commands) = do
  first ← at_place command.place (expansion macros recipe command.text)
  rest ← expanded macros recipe commands
  Ok (record { lines = first.text ∷ rest.lines; varying = first.varying || rest.varying })

-- what the internal macros in the commands of a name stand for; the first prerequisite is the
-- inferred one, if there is one
abbrev pub recipe_for : Makefile → Exists → List ℕ → Recipe
recipe_for m e name =
    record {
      target = name;
      stem = stem m name;
      first = slice_get (needs m e name) 0;
      all = needs m e name;
    }

-- the commands of a name, expanded with the macros as they are after all reading
unfoldable pub commands : Makefile → Exists → List ℕ → Result Commands InferFault
commands m e name =
    option_map_or (expanded m.macros (Some (recipe_for m e name))) (chosen_commands m e name)
    (Ok no_commands)
