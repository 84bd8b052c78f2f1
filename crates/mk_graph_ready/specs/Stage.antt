-- The stages of nodes, one byte for each node. Any other byte is that of a node that was checked.
use Rattle.std.specs.Prelude.{◌≡◌, ℕ, List, slice_index}

-- The node isn't wanted.
abbrev pub IsUnwanted : (stages : List ℕ) → ℕ → Type 0
IsUnwanted stages n = slice_index stages n ≡ 0

-- The node is wanted and must be checked.
abbrev pub IsToCheck : (stages : List ℕ) → ℕ → Type 0
IsToCheck stages n = slice_index stages n ≡ 1
