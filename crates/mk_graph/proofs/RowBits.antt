-- Which numbers stand in rows of bits, as rows are united and intersected.
use Rattle.std.proofs.Common.{◌≡◌, ℕ, suc, replicate, ◌+◌, ◌-◌, ◌*◌, ◌/◌, ◌%◌, ◌^◌, ◌<◌, ◌≤◌, List, [], ◌∷◌, ◌++◌, length, get_or, take, drop, Vec, min, max, eqb, inl, inr, ⊎_elim, ◌⊎◌, refl, sym, ap, subst, ◌∙◌, arith}
use Rattle.std.specs.Prelude.{bit_and, bit_or, ◌↔◌, ◌≢◌, sum}
use Rattle.std.specs.Int.{bit_at}
use Rattle.std.proofs.lemmas.Bool.{cases_lt, ne_eqb, eqb-false, cases_eq}
use Rattle.std.proofs.lemmas.List.{length-take-le, length-take, length-drop, length-replicate, take_at, drop_at, drop-take, drop_more, drop_all, get_or-take, get_or-drop, get_or-replicate, get_or_past, get_or_append_left, get_or-append_right}
use Rattle.std.proofs.lemmas.List.Sums.{sum_by-cons}
use Rattle.std.specs.Simd.Lanes.{zip2}
use Rattle.std.proofs.lemmas.Simd.{get_or-zip2}
use Rattle.std.proofs.lemmas.Slice.{take-put_mid_below, drop-put_mid}
use Rattle.std.proofs.lemmas.Nat.{row_fits, div-add-mod', mod_below, div-mul-add, mod-mul-add, and_le_l, and_le_r}
use Rattle.std.proofs.lemmas.Nat.Bits.{shr_and_one, same_from_bits_below, bit_at_ones, bit_at-zero, bit_at-lt, bit_at_and, bit_at_or}
use borrow.Rule.Slice.PartMut.{put_mid}
use Rattle.std.specs.declared.alloc.Global.{Global}
use Rattle.mk_lemmas.proofs.Members.{Has-cases, Has-left, Has-right}
use Rattle.mk_graph.specs.Membership.{Has}
use Rattle.mk_graph.specs.Without.{joined}
use Rattle.mk_graph.specs.Bits.{is_set}
use Rattle.mk_graph.specs.BitRows.{row, Lacks, RowLacks, Stays, IsOpenTo, lists}
use Rattle.mk_graph.proofs.Loops.{lists_more}
use Rattle.mk_graph.proofs.Sets.{bit_of, bit_beyond, with_bit, set_there, kept_elsewhere}

-- what isn't there has no bit set
pub lacks_bit : (words : List ℕ) (o : ℕ) → Lacks words o ↔ (bit_of words o ≡ 0)
unfolding is_set
lacks_bit words o =
    let small = bit_at-lt (get_or words (o / 64) 0) (o % 64) in
    (λ e. let ne : bit_of words o ≢ 1 = eqb-false (bit_of words o) 1 e in omega arith, λ e. ne_eqb (bit_of words o) 1 (omega arith))

-- beyond the words nothing is there
pub lacks_beyond : (words : List ℕ) (o : ℕ) → length words ≤ o / 64 → Lacks words o
lacks_beyond words o past = (lacks_bit words o).1 (bit_beyond words o past)

module _ (old others new : List ℕ) (same : length new ≡ length old) (size : length old ≡ length others) (o : ℕ) where
  -- each word that is combined
  each_word : (f : ℕ → ℕ → ℕ) → new ≡ zip2 f old others → (k : ℕ) → k < length new → get_or new k 0 ≡ f (get_or old k 0) (get_or others k 0)
  each_word f is k low = ap (λ (l : List ℕ). get_or l k 0) is ∙ get_or-zip2 f old others k 0 0 0 (omega arith) (omega arith)

  -- words that were intersected lack what one of the two lacked
  pub lacks_met : new ≡ zip2 bit_and old others → Lacks new o ↔ (Lacks old o ⊎ Lacks others o)
  lacks_met is =
      elim (cases_lt (o / 64) (length new)) [
        | inl low ↦ (let bit : bit_of new o
            ≡ min (bit_of old o) (bit_of others o) = ap (λ w. bit_at w (o % 64))
            (each_word bit_and is (o / 64) low) ∙ bit_at_and (get_or old (o / 64) 0) (get_or others (o / 64) 0)
            (o % 64) in (
              λ h. let none = (lacks_bit new o).0 h in elim (cases_lt 0 (bit_of old o)) [
                | inl some ↦ inr ((lacks_bit others o).1 (omega arith))
                | inr zero ↦ inl ((lacks_bit old o).1 (omega arith))
              ],
              λ h. (lacks_bit new o).1
                  (⊎_elim (λ l. let none = (lacks_bit old o).0 l in omega arith)
                  (λ l. let none = (lacks_bit others o).0 l in omega arith) h),
            ))
        | inr past ↦ (λ h. inl (lacks_beyond old o (omega arith)), λ h. lacks_beyond new o past)
      ]

  -- words that were united lack what both lacked
  pub lacks_united : new ≡ zip2 bit_or old others → Lacks new o ↔ (Lacks old o × Lacks others o)
  lacks_united is =
      elim (cases_lt (o / 64) (length new)) [
        | inl low ↦ (let bit : bit_of new o
            ≡ max (bit_of old o) (bit_of others o) = ap (λ w. bit_at w (o % 64))
            (each_word bit_or is (o / 64) low) ∙ bit_at_or (get_or old (o / 64) 0) (get_or others (o / 64) 0)
            (o % 64) in (
              λ h. let none = (lacks_bit new o).0 h in
                  ((lacks_bit old o).1 (omega arith), (lacks_bit others o).1 (omega arith)),
              λ h. let none =
                  (lacks_bit old o).0 h.0 in let none' = (lacks_bit others o).0 h.1 in (lacks_bit new o).1
                  (omega arith),
            ))
        | inr past ↦ (
          λ h. (
            lacks_beyond old o (omega arith),
            lacks_beyond others o
                (omega arith),
          ),
          λ h. lacks_beyond new o past,
        )
      ]

module _ (stride : ℕ) (words : List ℕ) (number : ℕ) (room : number * stride + stride ≤ length words) where
  -- a row has as many words as its stride says
  pub length-row : length (row stride words number) ≡ stride
  length-row = length-take-le stride (drop (number * stride) words) (omega (arith, length-drop (number * stride) words))

  module _ (k : ℕ) (part : List ℕ) (k_is : k ≡ stride) (long : length part ≡ stride) where
    -- the words with this row written anew
    abbrev written : List ℕ
    written = put_mid (number * stride) k words part

    -- the row is what was written
    pub row_same : row stride written number ≡ part
    row_same =
        let front : length (take (number * stride) words) ≡ number * stride = length-take-le (number * stride) words (omega arith) in
        ap (λ (l : List ℕ). take stride l) (drop_at (take (number * stride) words) (part ++ drop k (drop (number * stride) words)) (number * stride) front) ∙ take_at part (drop k (drop (number * stride) words)) stride long

    -- the other rows stay
    pub row_other : (n : ℕ) → n ≢ number → row stride written n ≡ row stride words n
    row_other n ne =
        elim (cases_lt n number) [
          | inl below ↦ (let fits : n * stride + stride ≤ number * stride = row_fits n
              stride number stride below (omega arith) in sym (drop-take (n * stride) stride written)
              ∙ ap (λ (l : List ℕ). drop (n * stride) l) (take-put_mid_below (number * stride) k words part
              (n * stride + stride) fits (omega arith)) ∙ drop-take (n * stride) stride words)
          | inr above ↦ (let fits : number * stride + stride ≤ n * stride = row_fits number stride n stride
              (omega (arith, ne)) (omega arith) in ap (λ (l : List ℕ). take stride l)
              (drop-put_mid (number * stride) k words part (n * stride) (omega arith) (omega arith)
              (omega arith)))
        ]

    -- a row that was intersected with a gate
    pub row_met : (gate : List ℕ) → length gate ≡ stride → part ≡ zip2 bit_and (take k (drop (number * stride) words)) gate → (n o : ℕ) → RowLacks stride written n o ↔ (RowLacks stride words n o ⊎ ((n ≡ number) × Lacks gate o))
    row_met gate size is n o =
        let old : List ℕ = row stride words number in
        let combined : part ≡ zip2 bit_and old gate = is ∙ ap (λ j. zip2 bit_and (take j (drop (number * stride) words)) gate) k_is in
        let met : Lacks part o ↔ (Lacks old o ⊎ Lacks gate o) = lacks_met old gate part (long ∙ sym length-row) (length-row ∙ sym size) o combined in
        elim (cases_eq n number) [
          | inl same ↦ (
            λ h. elim (met.0
                (subst (λ (l : List ℕ). Lacks l o) (ap (λ m. row stride written m) same ∙ row_same) h)) [
                  | inl lacked ↦ inl (subst (λ m. RowLacks stride words m o) (sym same) lacked)
                  | inr gated ↦ inr (same, gated)
                ],
            λ h. subst (λ (l : List ℕ). Lacks l o)
                (sym (ap (λ m. row stride written m) same ∙ row_same))
                (met.1 (⊎_elim (λ lacked. inl (subst (λ m. RowLacks stride words m o) same lacked))
                (λ gated. inr gated.1) h)),
          )
          | inr other ↦ (
            λ h. inl
                (subst (λ (l : List ℕ). Lacks l o) (row_other n other) h),
            λ h. ⊎_elim
                (λ lacked. subst (λ (l : List ℕ). Lacks l o) (sym (row_other n other)) lacked)
                (λ gated. absurd (other gated.0)) h,
          )
        ]

-- what the code reads of a word of a row
pub reads_row : (words : List ℕ) (o word : ℕ) → word ≡ get_or words (o / 64) 0 → eqb (bit_and (word / 2 ^ (o % 64)) 1) 1 ≡ is_set words o
unfolding is_set
reads_row words o word is = ap (λ b. eqb b 1) (shr_and_one word (o % 64) ∙ ap (λ w. bit_at w (o % 64)) is)

-- a number's bit was set
pub lacks_inserted : (words : List ℕ) (k : ℕ) → k / 64 < length words → (o : ℕ) → Lacks (with_bit words k) o ↔ (Lacks words o × (¬ (o ≡ k)))
lacks_inserted words k low o =
    let is = lacks_bit (with_bit words k) o in
    let was = lacks_bit words o in
    elim (cases_eq o k) [
      | inl same ↦ (
        λ h. let none = is.0 (subst (λ m. Lacks (with_bit words k) m) refl h) in
            let one : bit_of (with_bit words k) o ≡ 1 = subst (λ m. bit_of (with_bit words k) m ≡ 1) (sym same)
            (set_there words k low) in absurd (omega arith),
        λ h. absurd (h.1 same),
      )
      | inr other ↦ (let kept = kept_elsewhere words k low o other in
          (λ h. (was.1 (sym kept ∙ is.0 h), other), λ h. is.1 (kept ∙ was.0 h.0)))
    ]

module _ (numbers : List ℕ) (i : ℕ) (low : i < length numbers) where
  -- all of these and all behind them
  each_more : (P : ℕ → Type 0) → ((n : ℕ) → Has (drop i numbers) n → P n) ↔ (P (get_or numbers i 0) × ((n : ℕ) → Has (drop (i + 1) numbers) n → P n))
  each_more P =
      let e = drop_more numbers i 0 low in
      (λ all. (all (get_or numbers i 0) (subst (λ (l : List ℕ). Has l (get_or numbers i 0)) (sym e) (inl refl)), λ n h. all n (subst (λ (l : List ℕ). Has l n) (sym e) (inr h))), λ both n h. elim (subst (λ (l : List ℕ). Has l n) e h) [ inl here ↦ subst P here both.0 | inr there ↦ both.1 n there ])

  -- a row more was intersected
  pub met_more : (stride : ℕ) (was old new gate : List ℕ)
      → ((n o : ℕ) → RowLacks stride new n o ↔ (RowLacks stride old n o
      ⊎ ((n ≡ get_or numbers i 0) × Lacks gate o))) → ((n o : ℕ)
      → (RowLacks stride was n o ⊎ (Has numbers n × Lacks gate o))
      ↔ (RowLacks stride old n o ⊎ (Has (drop i numbers) n × Lacks gate o))) → (n o : ℕ)
      → (RowLacks stride was n o ⊎ (Has numbers n × Lacks gate o))
      ↔ (RowLacks stride new n o ⊎ (Has (drop (i + 1) numbers) n × Lacks gate o))
  met_more stride was old new gate met rest n o =
      let e = drop_more numbers i 0 low in (
        λ h. elim ((rest n o).0 h) [ inl lacked ↦ inl ((met n o).1 (inl lacked)) | inr gated ↦ (elim (subst (λ (l : List ℕ). Has l n) e gated.0) [ inl here ↦ inl ((met n o).1 (inr (sym here, gated.1))) | inr there ↦ inr (there, gated.1) ]) ],
        λ h. (rest n o).1 (elim h [ inl lacks ↦ (elim ((met n o).0 lacks) [ inl lacked ↦ inl lacked | inr gated ↦ inr (subst (λ (l : List ℕ). Has l n) (sym e) (inl (sym gated.0)), gated.1) ]) | inr gated ↦ inr (subst (λ (l : List ℕ). Has l n) (sym e) (inr gated.0), gated.1) ]),
      )

  module _ (stride : ℕ) (words : List ℕ) where
    -- a row more was united
    pub united_more : (was old new : List ℕ) → ((o : ℕ) → Lacks new o
        ↔ (Lacks old o × RowLacks stride words (get_or numbers i 0) o))
        → ((o : ℕ) → (Lacks was o × ((n : ℕ) → Has numbers n → RowLacks stride words n o))
        ↔ (Lacks old o × ((n : ℕ) → Has (drop i numbers) n → RowLacks stride words n o))) → (o : ℕ)
        → (Lacks was o × ((n : ℕ) → Has numbers n → RowLacks stride words n o))
        ↔ (Lacks new o × ((n : ℕ) → Has (drop (i + 1) numbers) n → RowLacks stride words n o))
    united_more was old new united rest o =
        let more = each_more (λ n. RowLacks stride words n o) in
        (λ h. let both = (rest o).0 h in let split = more.0 both.1 in ((united o).1 (both.0, split.0), split.1), λ h. let both = (united o).0 h.0 in (rest o).1 (both.0, more.1 (both.1, h.1)))

    -- a row more lacks the member
    pub lacks_more : (o : ℕ) → RowLacks stride words (get_or numbers i 0) o
        → (((n : ℕ) → Has numbers n → RowLacks stride words n o)
        ↔ ((n : ℕ) → Has (drop i numbers) n → RowLacks stride words n o))
        → ((n : ℕ) → Has numbers n → RowLacks stride words n o)
        ↔ ((n : ℕ) → Has (drop (i + 1) numbers) n → RowLacks stride words n o)
    lacks_more o lacks rest =
        let more = each_more (λ n. RowLacks stride words n o) in
        (λ h. (more.0 (rest.0 h)).1, λ h. rest.1 (more.1 (lacks, h)))

-- words of zeros have no other word
word_of_zeros : (count stride k : ℕ) → get_or (take stride (replicate {A = ℕ} count 0)) k 0 ≡ 0
word_of_zeros count stride k =
    let zeros : List ℕ = replicate count 0 in
    elim (cases_lt k stride) [
      | inl low ↦ get_or-take stride zeros k 0 low
          ∙ (elim (cases_lt k count) [
            | inl small ↦ get_or-replicate count k 0 0 small
            | inr large ↦ get_or_past zeros k 0 (omega (arith, length-replicate {A = ℕ} count 0))
          ])
      | inr past ↦ get_or_past (take stride zeros) k 0 (omega (arith, length-take stride zeros))
    ]

-- zeros behind words are no other words
pub word_before_zeros : (words : List ℕ) (count k : ℕ) → get_or (words ++ replicate count 0) k 0 ≡ get_or words k 0
word_before_zeros words count k =
    elim (cases_lt k (length words)) [ inl low ↦ get_or_append_left words (replicate count 0) 0 k low | inr past ↦ get_or-append_right words (replicate count 0) (length words) k 0 refl past ∙ word_of_none count (k - length words) ∙ sym (get_or_past words k 0 past) ]
  where
    word_of_none : (count k : ℕ) → get_or (replicate {A = ℕ} count 0) k 0 ≡ 0
    word_of_none count k = elim (cases_lt k count) [ inl low ↦ get_or-replicate count k 0 0 low | inr past ↦ get_or_past (replicate {A = ℕ} count 0) k 0 (omega (arith, length-replicate {A = ℕ} count 0)) ]

-- so they change nothing
pub lacks_before_zeros : (words : List ℕ) (count o : ℕ) → Lacks (words ++ replicate count 0) o ↔ Lacks words o
lacks_before_zeros words count o =
    let same : bit_of (words ++ replicate count 0) o ≡ bit_of words o = ap (λ w. bit_at w (o % 64)) (word_before_zeros words count (o / 64)) in
    let more = lacks_bit (words ++ replicate count 0) o in
    let own = lacks_bit words o in
    (λ h. own.1 (sym same ∙ more.0 h), λ h. more.1 (same ∙ own.0 h))

-- they lack everything
pub zeros_lack : (count stride o : ℕ) → Lacks (take stride (replicate count 0)) o
zeros_lack count stride o =
    (lacks_bit (take stride (replicate count 0)) o).1 (ap (λ w. bit_at w (o % 64)) (word_of_zeros count stride (o / 64)) ∙ bit_at-zero (o % 64))

-- a row of ones lacks nothing that it has a bit for
pub ones_lack : (stride total n o : ℕ) → n * stride + stride ≤ total → RowLacks stride (replicate total 18446744073709551615) n o → 64 * stride ≤ o
ones_lack stride total n o room lacks =
    elim (cases_lt (o / 64) stride) [
      | inl low ↦ (let word : get_or
          (row stride (replicate total 18446744073709551615) n) (o / 64) 0
          ≡ 18446744073709551615 = get_or-take stride (drop (n * stride) (replicate total 18446744073709551615))
          (o / 64) 0 low ∙ get_or-drop (n * stride) (replicate total 18446744073709551615) (o / 64) 0
          ∙ get_or-replicate total (n * stride + o / 64) 18446744073709551615 0 (omega arith) in let one :
          bit_of (row stride (replicate total 18446744073709551615) n) o ≡ 1 = ap (λ w. bit_at w (o % 64)) word
          ∙ bit_at_ones 64 (o % 64) (omega arith) in let none =
          (lacks_bit (row stride (replicate total 18446744073709551615) n) o).0 lacks in absurd (omega arith))
      | inr past ↦ omega arith
    ]

-- numbers that fall have a sum that falls, or are the same
pub sum_falls : (xs ys : List ℕ) → length ys ≡ length xs → ((k : ℕ) → k < length ys → get_or ys k 0 ≤ get_or xs k 0) → (sum ys ≤ sum xs) × (sum ys ≡ sum xs → ys ≡ xs)
sum_falls [] [] same falls = (omega arith, λ e. refl)
sum_falls [] (y ∷ ys) same falls = absurd (omega arith)
sum_falls (x ∷ xs) [] same falls = absurd (omega arith)
sum_falls (x ∷ xs) (y ∷ ys) same falls =
    let rest = sum_falls xs ys (omega arith) (λ k low. falls (suc k) (omega arith)) in
    let here : y ≤ x = falls 0 (omega arith) in
    let of_x : sum (x ∷ xs) ≡ x + sum xs = sum_by-cons (λ n. n) x xs in
    let of_y : sum (y ∷ ys) ≡ y + sum ys = sum_by-cons (λ n. n) y ys in
    let lower = rest.0 in
    (omega arith, λ e. let head : y ≡ x = omega arith in let tail : ys ≡ xs = rest.1 (omega arith) in cc)

-- rows of ones lack what is no node alone
pub ones_full : (stride count : ℕ) (words : List ℕ) → words ≡ replicate (count * stride) 18446744073709551615 → count ≤ 64 * stride → (n o : ℕ) → n < count → RowLacks stride words n o → count ≤ o
ones_full stride count words is wide n o low lacks =
    let room : n * stride + stride ≤ count * stride = row_fits n stride count stride low (omega arith) in
    let past = ones_lack stride (count * stride) n o room (subst (λ (l : List ℕ). RowLacks stride l n o) is lacks) in
    omega arith

module _ (stride count : ℕ) where
  -- where there is a word, rows have words
  some_stride : (k : ℕ) → k < count * stride → 0 < stride
  some_stride k low = elim (cases_lt 0 stride) [ inl some ↦ some | inr none ↦ (let e : stride ≡ 0 = omega arith in let z : count * stride ≡ count * 0 = ap (λ s. count * s) e in absurd (omega arith)) ]

  -- a word of the list is a word of a row
  row_word : (words : List ℕ) (k : ℕ) → k < count * stride → get_or (row stride words (k / stride)) (k % stride) 0 ≡ get_or words k 0
  row_word words k low =
      let start = k / stride * stride in
      get_or-take stride (drop start words) (k % stride) 0 (mod_below k stride (some_stride k low)) ∙ get_or-drop start words (k % stride) 0 ∙ ap (λ i. get_or words i 0) (div-add-mod' k stride)

  -- a bit of a word of the list is a bit of a row
  word_bit : (words : List ℕ) (k i : ℕ) → k < count * stride → i < 64 → RowLacks stride words (k / stride) (k % stride * 64 + i) ↔ (bit_at (get_or words k 0) i ≡ 0)
  word_bit words k i low small =
      let o = k % stride * 64 + i in
      let place : o / 64 ≡ k % stride = div-mul-add (k % stride) 64 i small in
      let at : o % 64 ≡ i = mod-mul-add (k % stride) 64 i small in
      let e : bit_of (row stride words (k / stride)) o ≡ bit_at (get_or words k 0) i = ap (λ j. bit_at (get_or (row stride words (k / stride)) j 0) (o % 64)) place ∙ ap (λ j. bit_at (get_or (row stride words (k / stride)) (k % stride) 0) j) at ∙ ap (λ w. bit_at w i) (row_word words k low) in
      let bit = lacks_bit (row stride words (k / stride)) o in
      (λ h. sym e ∙ bit.0 h, λ h. bit.1 (e ∙ h))

  module _ (old new : List ℕ) (long : length old ≡ count * stride) (same : length new ≡ length old) (stays : Stays (RowLacks stride old) (RowLacks stride new)) (fits : (k : ℕ) → get_or new k 0 < 2 ^ 64) where
    -- a word whose bits are among those of another is at most that
    word_falls : (k : ℕ) → k < count * stride → get_or new k 0 ≤ get_or old k 0
    word_falls k low =
        let a = get_or old k 0 in
        let b = get_or new k 0 in
        let small = fits k in
        let within : bit_and a b ≤ b = and_le_r a b in
        let same : bit_and a b ≡ b = same_from_bits_below 64 (bit_and a b) b (omega arith) small
        (λ i lower. let of_a = bit_at-lt a i in let of_b = bit_at-lt b i in elim (cases_lt 0 (bit_at a i)) [
          | inl some ↦ bit_at_and a b i ∙ omega arith
          | inr none ↦
              (let zero_b : bit_at b i ≡ 0 = (word_bit new k i low lower).0
              (stays (k / stride) (k % stride * 64 + i) ((word_bit old k i low lower).1 (omega arith))) in
              bit_at_and a b i ∙ omega arith)
        ]) in
        let falls = and_le_l a b in
        omega arith

    -- a round lowers the sum, or leaves all words as they are
    pub round_falls : (sum new ≤ sum old) × (sum new ≡ sum old → new ≡ old)
    round_falls = sum_falls old new same (λ k low. word_falls k (omega arith))

module _ (groups : List (Vec ℕ Global)) (i : ℕ) (group : Vec ℕ Global) (numbers : List ℕ) (low : i < length groups) (is : group ≡ get_or groups i group) (value : numbers ≡ group.items) where
  -- all of a group and of all groups behind it
  each_group : (P : ℕ → Type 0) → ((n : ℕ) → Has (joined (lists (drop i groups))) n → P n) ↔ (((n : ℕ) → Has numbers n → P n) × ((n : ℕ) → Has (joined (lists (drop (i + 1) groups))) n → P n))
  each_group P =
      let e = lists_more groups i group numbers low is value in
      let rest : List ℕ = joined (lists (drop (i + 1) groups)) in (
        λ all. (
          λ n h. all n (subst (λ (l : List (List ℕ)). Has (joined l) n) (sym e)
              (Has-left numbers rest n h)),
          λ n h. all n (subst (λ (l : List (List ℕ)). Has (joined l) n) (sym e)
              (Has-right numbers rest n h)),
        ),
        λ both n h. ⊎_elim (both.0 n) (both.1 n)
            (Has-cases numbers rest n (subst (λ (l : List (List ℕ)). Has (joined l) n) e h)),
      )

  module _ (stride : ℕ) (words : List ℕ) where
    -- the rows of a group more were united
    pub group_united : (was old new : List ℕ) → ((o : ℕ) → Lacks new o
        ↔ (Lacks old o × ((n : ℕ) → Has numbers n → RowLacks stride words n o)))
        → ((o : ℕ) → (Lacks was o × ((n : ℕ) → Has (joined (lists groups)) n → RowLacks stride words n o))
        ↔ (Lacks old o × ((n : ℕ) → Has (joined (lists (drop i groups))) n → RowLacks stride words n o)))
        → (o : ℕ) → (Lacks was o × ((n : ℕ) → Has (joined (lists groups)) n → RowLacks stride words n o))
        ↔ (Lacks new o × ((n : ℕ) → Has (joined (lists (drop (i + 1) groups))) n → RowLacks stride words n o))
    group_united was old new united rest o =
        let more = each_group (λ n. RowLacks stride words n o) in
        (λ h. let both = (rest o).0 h in let split = more.0 both.1 in ((united o).1 (both.0, split.0), split.1), λ h. let both = (united o).0 h.0 in (rest o).1 (both.0, more.1 (both.1, h.1)))

    module _ (o : ℕ) (rest : ((n : ℕ) → Has (joined (lists groups)) n → RowLacks stride words n o) ↔ ((n : ℕ) → Has (joined (lists (drop i groups))) n → RowLacks stride words n o)) where
      -- the rows of a group more lack the member
      pub group_lacks_member : ((n : ℕ) → Has numbers n → RowLacks stride words n o) → ((n : ℕ) → Has (joined (lists groups)) n → RowLacks stride words n o) ↔ ((n : ℕ) → Has (joined (lists (drop (i + 1) groups))) n → RowLacks stride words n o)
      group_lacks_member lacks =
          let more = each_group (λ n. RowLacks stride words n o) in
          (λ h. (more.0 (rest.0 h)).1, λ h. rest.1 (more.1 (lacks, h)))

      -- one of them has it
      pub group_has_member : ¬ ((n : ℕ) → Has numbers n → RowLacks stride words n o) → ¬ ((n : ℕ) → Has (joined (lists groups)) n → RowLacks stride words n o)
      group_has_member some h = some ((each_group (λ n. RowLacks stride words n o)).0 (rest.0 h)).0

  module _ (lacks : (n o : ℕ) → Type 0) (was old new : (n o : ℕ) → Type 0) (start gate : ℕ → Type 0)
      (met : (n o : ℕ) → new n o ↔ (old n o ⊎ (Has numbers n × gate o)))
      (rest : (n o : ℕ) → (was n o ⊎ (start o × IsOpenTo (λ m. lacks m o) (lists groups) n))
      ↔ (old n o ⊎ (gate o × IsOpenTo (λ m. lacks m o) (lists (drop i groups)) n))) where
    -- the gate was passed on to a group and takes its rows
    pub gate_goes_on : (next : ℕ → Type 0) → ((o : ℕ) → next o ↔ (gate o × ((m : ℕ) → Has numbers m → lacks m o))) → (n o : ℕ) → (was n o ⊎ (start o × IsOpenTo (λ m. lacks m o) (lists groups) n)) ↔ (new n o ⊎ (next o × IsOpenTo (λ m. lacks m o) (lists (drop (i + 1) groups)) n))
    gate_goes_on next united n o =
        let e = lists_more groups i group numbers low is value in (
          λ h. elim ((rest n o).0 h) [ inl had ↦ inl ((met n o).1 (inl had)) | inr gated ↦ (elim (subst (λ (l : List (List ℕ)). IsOpenTo (λ m. lacks m o) l n) e gated.1) [ inl here ↦ inl ((met n o).1 (inr (here, gated.0))) | inr later ↦ inr ((united o).1 (gated.0, later.0), later.1) ]) ],
          λ h. (rest n o).1 (elim h [
            | inl has ↦ (elim ((met n o).0 has) [
              | inl had ↦ inl had
              | inr here ↦ inr (
                here.1,
                subst
                    (λ (l : List (List ℕ)). IsOpenTo (λ m. lacks m o) l n) (sym e) (inl here.0),
              )
            ])
            | inr later ↦ (let both = (united o).0 later.0 in inr (
              both.0,
              subst (λ (l : List (List ℕ)). IsOpenTo (λ m. lacks m o) l n) (sym e)
                  (inr (both.1, later.1)),
            ))
          ]),
        )

    -- the gate was passed on to the last group
    pub gate_ends : length groups ≤ i + 1 → (n o : ℕ) → (was n o ⊎ (start o × IsOpenTo (λ m. lacks m o) (lists groups) n)) ↔ (new n o ⊎ (gate o × IsOpenTo (λ m. lacks m o) (lists (drop (i + 1) groups)) n))
    gate_ends past n o =
        let e = lists_more groups i group numbers low is value in
        let none : lists (drop (i + 1) groups) ≡ [] = ap (λ (l : List (Vec ℕ Global)). lists l) (drop_all (i + 1) groups past) in (
          λ h. elim ((rest n o).0 h) [ inl had ↦ inl ((met n o).1 (inl had)) | inr gated ↦ (elim (subst (λ (l : List (List ℕ)). IsOpenTo (λ m. lacks m o) l n) e gated.1) [ inl here ↦ inl ((met n o).1 (inr (here, gated.0))) | inr later ↦ inr (gated.0, later.1) ]) ],
          λ h. (rest n o).1 (elim h [
            | inl has ↦ (elim ((met n o).0 has) [
              | inl had ↦ inl had
              | inr here ↦ inr (
                here.1,
                subst
                    (λ (l : List (List ℕ)). IsOpenTo (λ m. lacks m o) l n) (sym e) (inl here.0),
              )
            ])
            | inr later ↦ absurd (subst (λ (l : List (List ℕ)). IsOpenTo (λ m. lacks m o) l n) none later.1)
          ]),
        )
