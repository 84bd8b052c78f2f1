-- Words that are combined with others, eight at a time.
use Rattle.std.proofs.Common.{◌≡◌, ℕ, ◌+◌, ◌-◌, ◌<◌, ◌≤◌, List, length, get_or, inl, inr, sym, ap, ◌∙◌, arith}
use Rattle.std.specs.Simd.Lanes.{chunk, zip2, put_chunk}
use Rattle.std.proofs.lemmas.Bool.{cases_lt}
use Rattle.std.proofs.lemmas.List.{ext_get_or}
use Rattle.std.proofs.lemmas.Simd.{length-chunk, get_or-chunk, get_or-zip2, length-zip2, length-put_chunk, get_or-put_chunk_below, get_or-put_chunk_at, get_or-put_chunk_above}
use Rattle.mk_graph.specs.BitWords.{AreCombined}

module _ (f : ℕ → ℕ → ℕ) (old others now : List ℕ) (place : ℕ) (so_far : AreCombined f old others place now) (same : length now ≡ length others) (room : place + 8 ≤ length now) where
  -- the next eight words, combined
  abbrev next : List ℕ
  next = zip2 f (chunk place 8 now) (chunk place 8 others)

  next_length : length next ≡ 8
  next_length =
      let of_now = length-chunk place 8 now room in
      let of_others = length-chunk place 8 others (omega arith) in
      length-zip2 f (chunk place 8 now) (chunk place 8 others) (omega arith) ∙ of_now

  -- each of them
  next_word : (j : ℕ) → j < 8 → get_or next j 0 ≡ f (get_or now (place + j) 0) (get_or others (place + j) 0)
  next_word j low =
      let of_now = length-chunk place 8 now room in
      let of_others = length-chunk place 8 others (omega arith) in
      get_or-zip2 f (chunk place 8 now) (chunk place 8 others) j 0 0 0 (omega arith) (omega arith) ∙ ap (λ w. f w (get_or (chunk place 8 others) j 0)) (get_or-chunk place 8 now j 0 low) ∙ ap (λ w. f (get_or now (place + j) 0) w) (get_or-chunk place 8 others j 0 low)

  -- a word below the next place
  word_below : (k : ℕ) → k < place + 8 → get_or (put_chunk place now next) k 0 ≡ f (get_or old k 0) (get_or others k 0)
  word_below k low =
      let long = next_length in
      elim (cases_lt k place) [
        | inl before ↦ get_or-put_chunk_below place now next k 0 before
            ∙ so_far.before k before
        | inr behind ↦ (let at : place + (k - place)
            ≡ k = omega arith in ap (λ i. get_or (put_chunk place now next) i 0) (sym at)
            ∙ get_or-put_chunk_at place now next (k - place) 0 (omega arith) (omega arith)
            ∙ next_word (k - place) (omega arith) ∙ ap (λ i. f (get_or now i 0) (get_or others i 0)) at
            ∙ ap (λ w. f w (get_or others k 0)) (so_far.behind k behind))
      ]

  -- once they are stored, the words below the next place are combined
  pub combined_more : AreCombined f old others (place + 8) (put_chunk place now next)
  combined_more =
      let long = next_length in
      record {
        within = omega (arith, length-put_chunk place now next);
        before = word_below;
        behind = λ k le. get_or-put_chunk_above place now next k 0 (omega arith) ∙ so_far.behind k (omega arith);
      }

-- all words are combined
pub combined_all : (f : ℕ → ℕ → ℕ) (old others new : List ℕ) (place : ℕ) → AreCombined f old others place new → length new ≤ place → length new ≡ length old → length old ≡ length others → new ≡ zip2 f old others
combined_all f old others new place so_far past same size =
    let long = length-zip2 f old others size in
    ext_get_or 0 new (zip2 f old others) (same ∙ sym long) (λ k low. so_far.before k (omega arith) ∙ sym (get_or-zip2 f old others k 0 0 0 (omega arith) (omega arith)))
