-- Rows of numbers that stand one behind another in one list.
use Rattle.std.proofs.Common.{◌≡◌, ℕ, zero, suc, ◌+◌, ◌<◌, ◌≤◌, List, [], ◌∷◌, ◌++◌, length, get_or, take, drop, arith, refl, sym, ap, subst, ◌∙◌, add-one, append-nil, length-append, take-append-drop}
use Rattle.std.specs.List.{concat, slice_range}
use Rattle.std.proofs.lemmas.List.{drop_more, take_more, get_or_past}
use Rattle.std.proofs.lemmas.List.Folds.{concat-append}
use Rattle.mk_cert_text.proofs.Packed.{begins_from, cut_names, ends_more, length-ends, piece_at}
use Rattle.mk_cert_text.specs.Packing.{cut_from, ends_from}
use Rattle.mk_subject.specs.NumberRows.{AreRows}

are_rows : (rows : List (List ℕ)) (ends numbers : List ℕ) → ends_from 0 rows ≡ ends → concat rows ≡ numbers → AreRows ends numbers
are_rows rows ends numbers places whole =
    let same = sym (cut_names rows ends numbers places whole) in
    record {
      whole = subst (λ (l : List (List ℕ)). concat l ≡ numbers) same whole;
      places = subst (λ (l : List (List ℕ)). ends_from 0 l ≡ ends) same places;
    }

-- a row is pushed
module _ (ends numbers : List ℕ) (is : AreRows ends numbers) (row : List ℕ) (place : ℕ) (new_ends new_numbers : List ℕ) (grown : new_numbers ≡ numbers ++ row) (at_end : place ≡ length new_numbers) (more : new_ends ≡ ends ++ place ∷ []) where
  pushed_rows : List (List ℕ)
  pushed_rows = cut_from 0 ends numbers ++ row ∷ []

  pushed_whole : concat pushed_rows ≡ new_numbers
  unfolding pushed_rows
  pushed_whole = concat-append (cut_from 0 ends numbers) (row ∷ []) ∙ (ap (λ (l : List ℕ). concat (cut_from 0 ends numbers) ++ l) (append-nil row) ∙ (ap (λ (l : List ℕ). l ++ row) is.whole ∙ sym grown))

  pushed_places : ends_from 0 pushed_rows ≡ new_ends
  unfolding pushed_rows
  pushed_places =
      let v = cut_from 0 ends numbers in
      let here : 0 + length (concat v ++ row) ≡ place = omega (arith, ap (λ (l : List ℕ). length (l ++ row)) is.whole, ap length grown, at_end) in
      ends_more v row 0 ∙ (ap (λ n. ends_from 0 v ++ n ∷ []) here ∙ (ap (λ (l : List ℕ). l ++ place ∷ []) is.places ∙ sym more))

  pub still_rows : AreRows new_ends new_numbers
  unfolding pushed_rows
  still_rows = are_rows pushed_rows new_ends new_numbers pushed_places pushed_whole

  pub pushed : cut_from 0 new_ends new_numbers ≡ cut_from 0 ends numbers ++ row ∷ []
  unfolding pushed_rows
  pushed = cut_names pushed_rows new_ends new_numbers pushed_places pushed_whole

pub counted : (ends numbers : List ℕ) → AreRows ends numbers → length ends ≡ length (cut_from 0 ends numbers)
counted ends numbers is = ap length (sym is.places) ∙ length-ends (cut_from 0 ends numbers) 0

-- the row at a place
module _ (ends numbers : List ℕ) (is : AreRows ends numbers) (i : ℕ) (low : i < length ends) where
  row : List ℕ
  row = get_or (cut_from 0 ends numbers) i []

  before : List ℕ
  before = concat (take i (cut_from 0 ends numbers))

  after : List ℕ
  after = concat (drop (i + 1) (cut_from 0 ends numbers))

  row_low : i < length (cut_from 0 ends numbers)
  row_low = omega (arith, low, counted ends numbers is)

  parts : numbers ≡ before ++ (row ++ after)
  unfolding before row after
  parts =
      let v = cut_from 0 ends numbers in
      let split : v ≡ take i v ++ get_or v i [] ∷ drop (i + 1) v = sym (take-append-drop i v) ∙ ap (λ (l : List (List ℕ)). take i v ++ l) (drop_more v i [] row_low) in
      sym is.whole ∙ (ap concat split ∙ concat-append (take i v) (get_or v i [] ∷ drop (i + 1) v))

  begins : get_or (0 ∷ ends) i 0 ≡ length before
  unfolding before
  begins = ap (λ (l : List ℕ). get_or (0 ∷ l) i 0) (sym is.places) ∙ (begins_from (cut_from 0 ends numbers) 0 i (omega (arith, row_low)) ∙ omega arith)

  ends_at : get_or ends i 0 ≡ length before + length row
  unfolding before row
  ends_at =
      let v = cut_from 0 ends numbers in
      let next : get_or (0 ∷ ends) (suc i) 0 ≡ 0 + length (concat (take (suc i) v)) = ap (λ (l : List ℕ). get_or (0 ∷ l) (suc i) 0) (sym is.places) ∙ begins_from v 0 (suc i) (omega (arith, row_low)) in
      let taken : concat (take (i + 1) v) ≡ concat (take i v) ++ get_or v i [] = ap concat (take_more v i [] row_low) ∙ (concat-append (take i v) (get_or v i [] ∷ []) ∙ ap (λ (l : List ℕ). concat (take i v) ++ l) (append-nil (get_or v i []))) in
      omega (arith, next, ap length taken, length-append (concat (take i v)) (get_or v i []), ap (λ n. length (concat (take n v))) (add-one i))

  pub in_order : get_or (0 ∷ ends) i 0 ≤ get_or ends i 0
  in_order = omega (arith, begins, ends_at)

  pub within : get_or ends i 0 ≤ length numbers
  within = omega (arith, ends_at, ap length parts, length-append before (row ++ after), length-append row after)

  pub cut : slice_range numbers (get_or (0 ∷ ends) i 0) (get_or ends i 0) ≡ get_or (cut_from 0 ends numbers) i []
  unfolding row
  cut = rw (begins, ends_at) (piece_at (length before) before row after numbers refl parts)

-- past the last there are no numbers
pub past_last : (ends numbers : List ℕ) → AreRows ends numbers → (i : ℕ) → length ends ≤ i → get_or (cut_from 0 ends numbers) i [] ≡ []
past_last ends numbers is i high = get_or_past (cut_from 0 ends numbers) i [] (omega (arith, high, counted ends numbers is))

-- no row has more numbers than all have together
pub row_within : (rows : List (List ℕ)) (i : ℕ) → length (get_or rows i []) ≤ length (concat rows)
row_within [] i = omega arith
row_within (row ∷ rows) zero = omega (arith, length-append row (concat rows))
row_within (row ∷ rows) (suc i) = omega (arith, row_within rows i, length-append row (concat rows))
