-- The words of the old build.
use Rattle.std.specs.Prelude.{ℕ, ◌+◌, ◌==◌, Bool, true, false, List, [], ◌∷◌, codes, Option, None, Some, Result, Ok, Err, if◌then◌else◌}
use Rattle.std.specs.List.{slice_split}
use Rattle.std.specs.Str.{is_utf8}
use Rattle.mk_infer.specs.declared.fault.InferFault.TheVariants.{BadGoal}
use Rattle.mk_core_text.specs.declared.fault.Fault.{Fault}
use Rattle.mk_core_text.specs.declared.fault.Fault.TheVariants.{Infer}
use Rattle.mk_core.specs.declared.request.Request.{Request}
use Rattle.mk_core.specs.Words.{goals_of, operands_of}
use Rattle.mk_core.specs.Steps.{◌>>=◌}

-- The name of the old build's words in its folder.
abbrev pub words_name : List ℕ
words_name = codes "words"

-- The text isn't empty.
abbrev pub is_some_text : List ℕ → Bool
is_some_text [] = false
is_some_text (b ∷ rest) = true

-- The lines that aren't empty, or `BadGoal` for the first one that isn't UTF-8, with its number
-- counted from n.
abbrev pub words_from : ℕ → List (List ℕ) → Result (List (List ℕ)) Fault
words_from n [] = Ok []
words_from n (line ∷ lines) =
    if is_utf8 line then (do
      rest ← words_from (n + 1) lines
      Ok (if is_some_text line then line ∷ rest else rest))
    else Err (Infer (BadGoal (record { file = words_name; line = n })))

-- The lines of a text; if it ends in a newline, the last one is empty.
abbrev pub lines_of : List ℕ → List (List ℕ)
lines_of text = slice_split (λ b. b == 10) text

-- The words of a text.
abbrev pub words_of : List ℕ → Result (List (List ℕ)) Fault
words_of text = words_from 1 (lines_of text)

-- The operands and the goals in a text.
abbrev pub given_in : List ℕ → Result (List (List ℕ) × List (List ℕ)) Fault
given_in text = do
  words ← words_of text
  Ok (operands_of words, goals_of words)

-- The operands and the goals in this text; without a text those of the request.
abbrev pub given_by : Option (List ℕ) → Request → Result (List (List ℕ) × List (List ℕ)) Fault
given_by None request = Ok (request.operands, request.goals)
given_by (Some text) request = given_in text
