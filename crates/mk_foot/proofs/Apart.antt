-- Names that come once.
use Rattle.std.proofs.Common.{◌≡◌, ℕ, ◌<◌, List, [], ◌∷◌, length, refl, arith}
use Rattle.mk_foot.specs.Names.{once}

-- fewer than two names are kept
pub once_short : (names : List (List ℕ)) → length names < 2 → once names ≡ names
once_short [] lt = refl
once_short (name ∷ []) lt = refl
once_short (name ∷ other ∷ names) lt = absurd (omega arith)
