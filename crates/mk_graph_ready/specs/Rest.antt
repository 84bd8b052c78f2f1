-- What remains of the groups of a node.
use Rattle.std.specs.Prelude.{ℕ, List}

-- The remaining members of the open group, and the groups after it.
pub record Rest : Type 0 where
  pub group : List ℕ
  pub behind : List (List ℕ)
