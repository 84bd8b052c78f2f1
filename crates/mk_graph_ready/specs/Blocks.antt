-- Blocks of 64 bytes.
use Rattle.std.specs.Prelude.{◌≡◌, ℕ, ◌+◌, ◌/◌, List, length, slice_index}

-- There is one byte for each block, and it is 1 if the block contains a 1.
pub record AreBlocks (bytes blocks : List ℕ) : Type 0 where
  pub many : length blocks ≡ length bytes / 64 + 1
  pub noted : (i : ℕ) → slice_index bytes i ≡ 1 → slice_index blocks (i / 64) ≡ 1
