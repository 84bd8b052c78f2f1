-- Ends of lists, and blocks of bytes.
use Rattle.std.proofs.Common.{◌≡◌, ℕ, ◌+◌, ◌*◌, ◌-◌, ◌/◌, ◌<◌, ◌≤◌, List, length, get_or, drop, take, min, inl, inr, ap, sym, ◌∙◌, arith}
use Rattle.std.proofs.lemmas.List.{get_or-take, get_or-drop, length-take-le, length-drop}
use Rattle.std.proofs.lemmas.Bool.{cases_lt}
use Rattle.mk_graph_ready.specs.Blocks.{AreBlocks}
use Rattle.mk_graph_ready.proofs.Standing.{at_one}

-- the end of a list, as it is sliced
abbrev pub end_of : List ℕ → ℕ → List ℕ
end_of xs start = take (length xs - start) (drop start xs)

pub end_length : (xs : List ℕ) (start : ℕ) → length (end_of xs start) ≡ length xs - start
end_length xs start = length-take-le (length xs - start) (drop start xs) (omega (arith, length-drop start xs))

pub end_at : (xs : List ℕ) (start k : ℕ) → start + k < length xs → get_or (end_of xs start) k 0 ≡ get_or xs (start + k) 0
end_at xs start k lt = get_or-take (length xs - start) (drop start xs) k 0 (omega arith) ∙ get_or-drop start xs k 0

-- a place behind the start has one in the end
pub from_start : (xs : List ℕ) (start i : ℕ) → start ≤ i → i < length xs → get_or (end_of xs start) (i - start) 0 ≡ get_or xs i 0
from_start xs start i after lt = end_at xs start (i - start) (omega arith) ∙ ap (λ k. get_or xs k 0) (let e : start + (i - start) ≡ i = omega arith in e)

-- no 1 is in a block in which none was found
pub none_noted : (xs : List ℕ) (block end : ℕ) → block * 64 ≤ length xs → end ≡ min (length (end_of xs (block * 64))) 64
    → ((k : ℕ) → k < length (take end (end_of xs (block * 64))) → ¬ (get_or (take end (end_of xs (block * 64))) k 0 ≡ 1))
    → (i : ℕ) → i / 64 ≡ block → get_or xs i 0 ≡ 1 → ⊥
none_noted xs block end low is none i within one =
    let start = block * 64 in
    let lt : i < length xs = at_one xs i one in
    let many = end_length xs start in
    let after : start ≤ i = omega arith in
    let k = i - start in
    let short : k < end = omega arith in
    let all : length (take end (end_of xs start)) ≡ end = length-take-le end (end_of xs start) (omega arith) in
    none k (omega arith) (get_or-take end (end_of xs start) k 0 short ∙ (from_start xs start i after lt ∙ one))

-- no 1 is before the first block that has one
pub none_before : (bytes blocks : List ℕ) (block i : ℕ) → AreBlocks bytes blocks → ((j : ℕ) → j < block → ¬ (get_or blocks j 0 ≡ 1)) → i < block * 64 → ¬ (get_or bytes i 0 ≡ 1)
none_before bytes blocks block i are first lt one = first (i / 64) (omega arith) (are.noted i one)

-- nor is one anywhere, where none is from there on
pub none_after : (bytes blocks : List ℕ) (block : ℕ) → AreBlocks bytes blocks → ((j : ℕ) → j < block → ¬ (get_or blocks j 0 ≡ 1))
    → ((k : ℕ) → k < length (end_of bytes (block * 64)) → ¬ (get_or (end_of bytes (block * 64)) k 0 ≡ 1))
    → (i : ℕ) → i < length bytes → ¬ (get_or bytes i 0 ≡ 1)
none_after bytes blocks block are first none i lt one =
    elim (cases_lt i (block * 64)) [
      | inl before ↦ none_before bytes blocks block i are first before one
      | inr after ↦ none (i - block * 64) (omega (arith, end_length bytes (block * 64))) (from_start bytes (block * 64) i after lt ∙ one)
    ]

-- the first 1 from there on is the first one
pub first_found : (bytes blocks : List ℕ) (block place : ℕ) → AreBlocks bytes blocks → ((j : ℕ) → j < block → ¬ (get_or blocks j 0 ≡ 1))
    → place < length (end_of bytes (block * 64)) → get_or (end_of bytes (block * 64)) place 0 ≡ 1
    → ((k : ℕ) → k < place → ¬ (get_or (end_of bytes (block * 64)) k 0 ≡ 1))
    → (block * 64 + place < length bytes) × (get_or bytes (block * 64 + place) 0 ≡ 1) × ((i : ℕ) → i < block * 64 + place → ¬ (get_or bytes i 0 ≡ 1))
first_found bytes blocks block place are first within one none =
    let many = end_length bytes (block * 64) in
    let lt : block * 64 + place < length bytes = omega arith in
    (lt, sym (end_at bytes (block * 64) place lt) ∙ one, λ i low e. none_at i low e)
  where
    none_at : (i : ℕ) → i < block * 64 + place → ¬ (get_or bytes i 0 ≡ 1)
    none_at i low e = elim (cases_lt i (block * 64)) [
      | inl before ↦ none_before bytes blocks block i are first before e
      | inr after ↦ none (i - block * 64) (omega arith) (from_start bytes (block * 64) i after (at_one bytes i e) ∙ e)
    ]
