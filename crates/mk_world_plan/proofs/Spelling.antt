-- Words that are well spelled, and the lines that they make.
use Rattle.std.proofs.Common.{◌≡◌, ℕ, ◌<◌, ◌^◌, Bool, true, false, not, ◌&&◌, List, [], ◌∷◌, ◌++◌, All, length, get_or, nat_lt, nat_le, ◌==◌, ◌≤◌, filter, flat_map, decimal, refl, sym, ap, ◌∙◌, arith, append-nil}
use Rattle.std.specs.List.{slice_split, list_all}
use Rattle.std.specs.Str.{is_utf8}
use Rattle.std.specs.Char.{is_ascii_digit}
use Rattle.std.proofs.lemmas.Bool.{and_parts, and_from, ltb-true, ne_eqb, le-leb, leb-true, cond-true}
use Rattle.std.proofs.lemmas.List.Splits.{slice_split_at, slice_split_none}
use Rattle.std.proofs.lemmas.List.Sums.{AllPass-from_list_all, list_all-from_AllPass}
use Rattle.std.proofs.lemmas.List.Elements.{All-from_get_or}
use Rattle.std.proofs.lemmas.Fmt.{decimal_is_IsNumeral, decimal_nonempty, IsAscii-decimal}
use Rattle.std.proofs.lemmas.Str.{IsUtf8-from_ascii, is_utf8-from_IsUtf8}
use Rattle.std.proofs.lemmas.Str.Parse.{digit_at}
use Rattle.mk_lines.specs.Bytes.{is_blank, is_byte}
use Rattle.mk_lines.specs.Words.{words, is_word}
use Rattle.mk_lines.specs.Paths.{is_plain_path, has_path_shape, is_visible}
use Rattle.mk_world_plan.specs.Spelling.{is_of_word, IsWellSpelled, PlainPathsAreWellSpelled}

-- a test that follows from another one at each byte
passes_too : (p q : ℕ → Bool) (bs : List ℕ) → ((b : ℕ) → p b ≡ true → q b ≡ true) → list_all p bs ≡ true → list_all q bs ≡ true
passes_too p q [] more h = refl
passes_too p q (b ∷ bs) more h =
    let parts = and_parts (p b) (list_all p bs) h in
    and_from (q b) (list_all q bs) (more b parts.0) (passes_too p q bs more parts.1)

-- a test that fails at each byte
fails_at_all : (p q : ℕ → Bool) (bs : List ℕ) → ((b : ℕ) → p b ≡ true → q b ≡ false) → list_all p bs ≡ true → All (λ b. q b ≡ false) bs
fails_at_all p q bs more h = λ k d lt. more (get_or bs k d) (AllPass-from_list_all p bs h k d lt)

not_blank : (b : ℕ) → is_of_word b ≡ true → is_blank b ≡ false
not_blank b h = at (is_blank b) (is_byte 10 b) h
  where
    at : (x y : Bool) → (not x && not y) ≡ true → x ≡ false
    at true y e = absurd cc
    at false y e = refl

not_newline : (b : ℕ) → is_of_word b ≡ true → is_byte 10 b ≡ false
not_newline b h = at (is_blank b) (is_byte 10 b) h
  where
    at : (x y : Bool) → (not x && not y) ≡ true → y ≡ false
    at true y e = absurd cc
    at false true e = absurd cc
    at false false e = refl

-- a visible byte is one of a word
visible_of_word : (b : ℕ) → is_visible b ≡ true → is_of_word b ≡ true
visible_of_word b h =
    let parts = and_parts (nat_lt 32 b) _ h in
    let high : 32 < b = ltb-true 32 b parts.0 in
    let space = ne_eqb b 32 (λ e. omega arith) in
    let tab = ne_eqb b 9 (λ e. omega arith) in
    let newline = ne_eqb b 10 (λ e. omega arith) in
    simp (space, tab, newline)

pub plain_spelled : PlainPathsAreWellSpelled
unfolding is_plain_path
plain_spelled f h =
    let parts = and_parts (has_path_shape f) (is_utf8 f) h in
    let some = and_parts (nat_lt 0 (length f)) _ parts.0 in
    let short = and_parts _ _ some.1 in
    let shape = and_parts (list_all is_visible f) _ short.1 in
    record {
      not_empty = ltb-true 0 (length f) some.0;
      utf8 = parts.1;
      one_word = passes_too is_visible is_of_word f visible_of_word shape.0;
    }

-- a word has no newline
pub no_newline : (w : List ℕ) → IsWellSpelled w → All (λ b. is_byte 10 b ≡ false) w
no_newline w spelled = fails_at_all is_of_word (is_byte 10) w not_newline spelled.one_word

-- the digits of a number are a word
digit_of_word : (b : ℕ) → is_ascii_digit b ≡ true → is_of_word b ≡ true
digit_of_word b h =
    let parts = and_parts (nat_le 48 b) (nat_le b 57) h in
    let high : 48 ≤ b = leb-true 48 b parts.0 in
    let space = ne_eqb b 32 (λ e. omega arith) in
    let tab = ne_eqb b 9 (λ e. omega arith) in
    let newline = ne_eqb b 10 (λ e. omega arith) in
    simp (space, tab, newline)

range_digit : (b : ℕ) → (48 ≤ b) × (b ≤ 57) → is_ascii_digit b ≡ true
range_digit b range = and_from (nat_le 48 b) (nat_le b 57) (le-leb 48 b range.0) (le-leb b 57 range.1)

pub decimal_digits : (n : ℕ) → n < 2 ^ 64 → list_all is_ascii_digit (decimal n) ≡ true
decimal_digits n small =
    list_all-from_AllPass is_ascii_digit (decimal n) (All-from_get_or (λ b. is_ascii_digit b ≡ true) (decimal n) 0 (λ k lt. range_digit (get_or (decimal n) k 0) (digit_at (decimal n) k (decimal_is_IsNumeral n small).0.1 lt)))

pub decimal_spelled : (n : ℕ) → n < 2 ^ 64 → IsWellSpelled (decimal n)
decimal_spelled n small = record {
  not_empty = decimal_nonempty n small;
  utf8 = is_utf8-from_IsUtf8 (decimal n) (IsUtf8-from_ascii (decimal n) (IsAscii-decimal n small));
  one_word = passes_too is_ascii_digit is_of_word (decimal n) digit_of_word (decimal_digits n small);
}

-- words that are well spelled
abbrev pub AreSpelled : List (List ℕ) → Type 0
AreSpelled [] = Unit {0}
AreSpelled (w ∷ ws) = IsWellSpelled w × AreSpelled ws

-- words with a space between each two
abbrev pub joined : List (List ℕ) → List ℕ
joined [] = []
joined (w ∷ []) = w
joined (w ∷ v ∷ ws) = w ++ 32 ∷ joined (v ∷ ws)

kept : (w : List ℕ) (ws : List (List ℕ)) → 0 < length w → filter is_word (w ∷ ws) ≡ w ∷ filter is_word ws
kept w ws some = cond-true (is_word w) (w ∷ filter is_word ws) (filter is_word ws) (there (length w) some)
  where
    there : (n : ℕ) → 0 < n → not (n == 0) ≡ true
    there n lt = ap not (ne_eqb n 0 (λ e. omega arith))

-- the words of such a line are these
pub words_joined : (ws : List (List ℕ)) → AreSpelled ws → words (joined ws) ≡ ws
words_joined [] spelled = refl
words_joined (w ∷ []) spelled =
    ap (filter is_word) (slice_split_none is_blank w (fails_at_all is_of_word is_blank w not_blank spelled.0.one_word)) ∙ kept w [] spelled.0.not_empty
words_joined (w ∷ v ∷ ws) spelled =
    ap (filter is_word) (slice_split_at is_blank w 32 (joined (v ∷ ws)) (fails_at_all is_of_word is_blank w not_blank spelled.0.one_word) refl) ∙ (kept w (slice_split is_blank (joined (v ∷ ws))) spelled.0.not_empty ∙ ap (λ us. w ∷ us) (words_joined (v ∷ ws) spelled.1))

-- names behind a word, each behind a space
pub joined_names : (w : List ℕ) (ws : List (List ℕ)) → joined (w ∷ ws) ≡ w ++ flat_map (λ f. 32 ∷ f) ws
joined_names w [] = sym (append-nil w)
joined_names w (v ∷ ws) = ap (λ t. w ++ 32 ∷ t) (joined_names v ws)
