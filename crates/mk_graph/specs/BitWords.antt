-- Combining two lists of words, word by word.
use Rattle.std.specs.Prelude.{◌≡◌, ℕ, ◌<◌, ◌≤◌, List, length, slice_index}

-- The words before this place are `f` of the old word and the other word, and the words from this
-- place on are unchanged.
pub record AreCombined (f : ℕ → ℕ →
    ℕ) (old others : List ℕ) (place : ℕ) (new : List ℕ) : Type 0 where
  pub within : place ≤ length new
  pub before : (k : ℕ) → k < place →
      slice_index new k ≡ f (slice_index old k) (slice_index others k)
  pub behind : (k : ℕ) → place ≤ k → slice_index new k ≡ slice_index old k
