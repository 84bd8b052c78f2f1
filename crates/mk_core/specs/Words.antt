-- The words of a command line.
use Rattle.std.specs.Prelude.{ℕ, Bool, not, List, filter, ◌==◌}
use Rattle.std.specs.List.{list_any}

-- Whether a word is a macro operand: it contains `=`.
abbrev pub is_operand : List ℕ → Bool
is_operand word = list_any (λ b. b == 61) word

-- The macro operands among the words, in their order.
abbrev pub operands_of : List (List ℕ) → List (List ℕ)
operands_of words = filter is_operand words

-- The goals among the words, in their order.
abbrev pub goals_of : List (List ℕ) → List (List ℕ)
goals_of words = filter (λ word. not (is_operand word)) words
