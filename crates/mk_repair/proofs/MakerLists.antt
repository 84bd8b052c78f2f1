-- Makers that were found, before those that are left.
use Rattle.std.proofs.Common.{ℕ, List, ◌∷◌, Option, None, Some}

-- the names, behind the one that was found
abbrev pub with_first : Option (List ℕ) → List (List ℕ) → List (List ℕ)
with_first None names = names
with_first (Some name) names = name ∷ names
