-- Rows of numbers in one list.
use Rattle.std.specs.Prelude.{◌≡◌, ℕ, List}
use Rattle.std.specs.List.{concat}
use Rattle.mk_cert_text.specs.Packing.{cut_from, ends_from}

-- Cutting `numbers` at `ends` gives rows that together are all of it, with these ends.
pub record AreRows (ends numbers : List ℕ) : Type 0 where
  pub whole : concat (cut_from 0 ends numbers) ≡ numbers
  pub places : ends_from 0 (cut_from 0 ends numbers) ≡ ends
