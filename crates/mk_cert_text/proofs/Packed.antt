-- Names that stand one behind another in one text.
use Rattle.std.proofs.Common.{◌≡◌, ℕ, zero, suc, ◌+◌, ◌-◌, ◌<◌, ◌≤◌, true, List, [], ◌∷◌, ◌++◌, length, get_or, take, drop, arith, refl, sym, ap, subst, ◌∙◌, add-one, append_assoc, append-nil, length-append, take-append-drop}
use Rattle.std.specs.List.{concat, list_all, slice_range}
use Rattle.std.specs.Str.{IsUtf8, is_utf8, IsCharBoundary}
use Rattle.std.proofs.Math.Seq.{drop-append_seam, take-append_seam}
use Rattle.std.proofs.lemmas.Bool.{and_parts, and_from}
use Rattle.std.proofs.lemmas.List.{drop_more, take_more}
use Rattle.std.proofs.lemmas.List.Folds.{list_all-append, concat-append}
use Rattle.std.proofs.lemmas.Str.{IsUtf8-append, IsUtf8-nil, IsUtf8-from_is_utf8, is_utf8-from_IsUtf8, IsCharBoundary-at_seam}
use Rattle.mk_cert_text.specs.Packing.{cut_from, ends_from, IsPacked}

-- the piece of a text that stands between two others
pub piece_at : (s : ℕ) (before piece after text : List ℕ) → length before ≡ s → text ≡ before ++ (piece ++ after) → slice_range text s (s + length piece) ≡ piece
piece_at s before piece after text at is =
    let rest : drop s text ≡ piece ++ after = ap (drop s) is ∙ (ap (λ n. drop n (before ++ (piece ++ after))) (sym at) ∙ drop-append_seam before (piece ++ after)) in
    let long : (s + length piece) - s ≡ length piece = omega arith in
    ap (λ n. take n (drop s text)) long ∙ (ap (take (length piece)) rest ∙ take-append_seam piece after)

-- names are cut out of the text in which they stand
pub cut_back : (names : List (List ℕ)) (s : ℕ) (before after text : List ℕ) → length before ≡ s → text ≡ before ++ (concat names ++ after) → cut_from s (ends_from s names) text ≡ names
cut_back [] s before after text at is = refl
cut_back (name ∷ names) s before after text at is =
    let first : text ≡ before ++ (name ++ (concat names ++ after)) = is ∙ ap (λ (l : List ℕ). before ++ l) (append_assoc name (concat names) after) in
    let here : slice_range text s (s + length name) ≡ name = piece_at s before name (concat names ++ after) text at first in
    let more : cut_from (s + length name) (ends_from (s + length name) names) text ≡ names = cut_back names (s + length name) (before ++ name) after text (length-append before name ∙ ap (λ n. n + length name) at) (first ∙ sym (append_assoc before name (concat names ++ after))) in
    ap (λ (l : List ℕ). l ∷ cut_from (s + length name) (ends_from (s + length name) names) text) here ∙ ap (λ (l : List (List ℕ)). name ∷ l) more

-- what holds of a text, if these names are all of it
pub cut_names : (names : List (List ℕ)) (ends text : List ℕ) → ends_from 0 names ≡ ends → concat names ≡ text → cut_from 0 ends text ≡ names
cut_names names ends text places whole =
    ap (λ (l : List ℕ). cut_from 0 l text) (sym places) ∙ cut_back names 0 [] [] text refl (sym whole ∙ sym (append-nil (concat names)))

pub is_packed : (names : List (List ℕ)) (ends text : List ℕ) → ends_from 0 names ≡ ends → concat names ≡ text → list_all is_utf8 names ≡ true → IsPacked ends text
is_packed names ends text places whole texts =
    let same = sym (cut_names names ends text places whole) in
    record {
      whole = subst (λ (l : List (List ℕ)). concat l ≡ text) same whole;
      places = subst (λ (l : List (List ℕ)). ends_from 0 l ≡ ends) same places;
      texts = subst (λ (l : List (List ℕ)). list_all is_utf8 l ≡ true) same texts;
    }

-- how many there are
pub length-ends : (names : List (List ℕ)) (s : ℕ) → length (ends_from s names) ≡ length names
length-ends [] s = refl
length-ends (name ∷ names) s = ap suc (length-ends names (s + length name))

-- one more at the end
pub ends_more : (names : List (List ℕ)) (name : List ℕ) (s : ℕ) → ends_from s (names ++ name ∷ []) ≡ ends_from s names ++ (s + length (concat names ++ name)) ∷ []
ends_more [] name s = refl
ends_more (first ∷ names) name s =
    let long : (s + length first) + length (concat names ++ name) ≡ s + length ((first ++ concat names) ++ name) = omega (arith, length-append (first ++ concat names) name, length-append first (concat names), length-append (concat names) name) in
    ap (λ (l : List ℕ). (s + length first) ∷ l) (ends_more names name (s + length first) ∙ ap (λ n. ends_from (s + length first) names ++ n ∷ []) long)

-- where the name at a place begins
pub begins_from : (names : List (List ℕ)) (s i : ℕ) → i ≤ length names → get_or (s ∷ ends_from s names) i 0 ≡ s + length (concat (take i names))
begins_from names s zero low = sym (omega arith)
begins_from [] s (suc i) low = absurd (omega arith)
begins_from (name ∷ names) s (suc i) low =
    begins_from names (s + length name) i (omega arith) ∙ omega (arith, length-append name (concat (take i names)))

all_utf8 : (names : List (List ℕ)) → list_all is_utf8 names ≡ true → IsUtf8 (concat names)
all_utf8 [] texts = IsUtf8-nil
all_utf8 (name ∷ names) texts =
    let both = and_parts (is_utf8 name) (list_all is_utf8 names) texts in
    IsUtf8-append name (concat names) (IsUtf8-from_is_utf8 name both.0) (all_utf8 names both.1)

-- a name is pushed
module _ (ends text : List ℕ) (is : IsPacked ends text) (name : List ℕ) (place : ℕ) (new_ends new_text : List ℕ) (grown : new_text ≡ text ++ name) (at_end : place ≡ length new_text) (more : new_ends ≡ ends ++ place ∷ []) where
  pushed_names : List (List ℕ)
  pushed_names = cut_from 0 ends text ++ name ∷ []

  pushed_whole : concat pushed_names ≡ new_text
  unfolding pushed_names
  pushed_whole = concat-append (cut_from 0 ends text) (name ∷ []) ∙ (ap (λ (l : List ℕ). concat (cut_from 0 ends text) ++ l) (append-nil name) ∙ (ap (λ (l : List ℕ). l ++ name) is.whole ∙ sym grown))

  pushed_places : ends_from 0 pushed_names ≡ new_ends
  unfolding pushed_names
  pushed_places =
      let v = cut_from 0 ends text in
      let here : 0 + length (concat v ++ name) ≡ place = omega (arith, ap (λ (l : List ℕ). length (l ++ name)) is.whole, ap length grown, at_end) in
      ends_more v name 0 ∙ (ap (λ n. ends_from 0 v ++ n ∷ []) here ∙ (ap (λ (l : List ℕ). l ++ place ∷ []) is.places ∙ sym more))

  pub still_packed : IsUtf8 name → IsPacked new_ends new_text
  unfolding pushed_names
  still_packed utf8 =
      is_packed pushed_names new_ends new_text pushed_places pushed_whole (list_all-append is_utf8 (cut_from 0 ends text) (name ∷ []) ∙ and_from _ _ is.texts (and_from _ _ (is_utf8-from_IsUtf8 name utf8) refl))

  pub pushed : cut_from 0 new_ends new_text ≡ cut_from 0 ends text ++ name ∷ []
  unfolding pushed_names
  pushed = cut_names pushed_names new_ends new_text pushed_places pushed_whole

pub counted : (ends text : List ℕ) → IsPacked ends text → length ends ≡ length (cut_from 0 ends text)
counted ends text is = ap length (sym is.places) ∙ length-ends (cut_from 0 ends text) 0

-- the name at a place
module _ (ends text : List ℕ) (is : IsPacked ends text) (i : ℕ) (low : i < length (cut_from 0 ends text)) where
  names : List (List ℕ)
  names = cut_from 0 ends text

  name : List ℕ
  name = get_or (cut_from 0 ends text) i []

  before : List ℕ
  before = concat (take i (cut_from 0 ends text))

  after : List ℕ
  after = concat (drop (i + 1) (cut_from 0 ends text))

  split : cut_from 0 ends text ≡ take i (cut_from 0 ends text) ++ get_or (cut_from 0 ends text) i [] ∷ drop (i + 1) (cut_from 0 ends text)
  split =
      let v = cut_from 0 ends text in
      sym (take-append-drop i v) ∙ ap (λ (l : List (List ℕ)). take i v ++ l) (drop_more v i [] low)

  parts : text ≡ before ++ (name ++ after)
  unfolding before name after
  parts =
      let v = cut_from 0 ends text in
      sym is.whole ∙ (ap concat split ∙ concat-append (take i v) (get_or v i [] ∷ drop (i + 1) v))

  rest_utf8 : IsUtf8 (name ++ after)
  unfolding name after
  rest_utf8 =
      let v = cut_from 0 ends text in
      let all = sym (list_all-append is_utf8 (take i v) (get_or v i [] ∷ drop (i + 1) v)) ∙ (sym (ap (list_all is_utf8) split) ∙ is.texts) in
      all_utf8 (get_or v i [] ∷ drop (i + 1) v) (and_parts _ _ all).1

  after_utf8 : IsUtf8 after
  unfolding after
  after_utf8 =
      let v = cut_from 0 ends text in
      let all = sym (list_all-append is_utf8 (take i v) (get_or v i [] ∷ drop (i + 1) v)) ∙ (sym (ap (list_all is_utf8) split) ∙ is.texts) in
      all_utf8 (drop (i + 1) v) (and_parts _ _ (and_parts _ _ all).1).1

  pub place_low : i < length ends
  place_low = omega (arith, low, counted ends text is)

  begins : get_or (0 ∷ ends) i 0 ≡ length before
  unfolding before
  begins = ap (λ (l : List ℕ). get_or (0 ∷ l) i 0) (sym is.places) ∙ (begins_from (cut_from 0 ends text) 0 i (omega (arith, low)) ∙ omega arith)

  ends_at : get_or ends i 0 ≡ length before + length name
  unfolding before name
  ends_at =
      let v = cut_from 0 ends text in
      let next : get_or (0 ∷ ends) (suc i) 0 ≡ 0 + length (concat (take (suc i) v)) = ap (λ (l : List ℕ). get_or (0 ∷ l) (suc i) 0) (sym is.places) ∙ begins_from v 0 (suc i) (omega (arith, low)) in
      let taken : concat (take (i + 1) v) ≡ concat (take i v) ++ get_or v i [] = ap concat (take_more v i [] low) ∙ (concat-append (take i v) (get_or v i [] ∷ []) ∙ ap (λ (l : List ℕ). concat (take i v) ++ l) (append-nil (get_or v i []))) in
      omega (arith, next, ap length taken, length-append (concat (take i v)) (get_or v i []), ap (λ n. length (concat (take n v))) (add-one i))

  pub in_order : get_or (0 ∷ ends) i 0 ≤ get_or ends i 0
  in_order = omega (arith, begins, ends_at)

  pub start_boundary : IsCharBoundary text (get_or (0 ∷ ends) i 0)
  start_boundary = rw begins (IsCharBoundary-at_seam text before (name ++ after) parts rest_utf8)

  pub end_boundary : IsCharBoundary text (get_or ends i 0)
  end_boundary = rw (ends_at, ← length-append before name) (IsCharBoundary-at_seam text (before ++ name) after (parts ∙ sym (append_assoc before name after)) after_utf8)

  pub cut : slice_range text (get_or (0 ∷ ends) i 0) (get_or ends i 0) ≡ get_or (cut_from 0 ends text) i []
  unfolding name
  cut = rw (begins, ends_at) (piece_at (length before) before name after text refl parts)
