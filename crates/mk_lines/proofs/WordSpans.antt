-- Where the parts of a text stand, part by part.
use Rattle.std.proofs.Common.{◌≡◌, ℕ, suc, ◌+◌, ◌<◌, ◌≤◌, Bool, true, false, cond, ltb, List, [], ◌∷◌, ◌++◌, length, get_or, drop, filter, refl, sym, ap, ◌∙◌, arith, append_assoc}
use Rattle.std.specs.List.{slice_split, onto_first}
use Rattle.std.proofs.lemmas.Bool.{lt-ltb, le-ltb}
use Rattle.std.proofs.lemmas.List.{drop_all, at_drop_more}
use Rattle.std.proofs.lemmas.List.Splits.{length-slice_split}
use Rattle.mk_lines.specs.declared.spans.Span.{Span}
use Rattle.mk_lines.specs.Words.{has_bytes, spans_from}

-- the bytes of parts, and one behind each
abbrev pub room : List (List ℕ) → ℕ
room [] = 0
room (part ∷ parts) = suc (length part) + room parts

room_onto : (x : ℕ) (parts : List (List ℕ)) → 0 < length parts → room (onto_first x parts) ≡ suc (room parts)
room_onto x [] lt = absurd (omega arith)
room_onto x (part ∷ parts) lt = omega arith

room_case : (p : ℕ → Bool) (b : Bool) (x : ℕ) (xs : List ℕ) → room (slice_split p xs) ≡ length xs + 1 → room (cond b ([] ∷ slice_split p xs) (onto_first x (slice_split p xs))) ≡ suc (length xs) + 1
room_case p true x xs e = omega arith
room_case p false x xs e = room_onto x (slice_split p xs) (omega (arith, length-slice_split p xs)) ∙ omega arith

-- a text's parts, with the separators, are as long as it, and one byte longer
pub room_split : (p : ℕ → Bool) (xs : List ℕ) → room (slice_split p xs) ≡ length xs + 1
room_split p [] = refl
room_split p (x ∷ xs) = room_case p (p x) x xs (room_split p xs)

-- the span of a part
abbrev pub span_at : ℕ → List ℕ → Span
span_at at part = record { start = at; end = at + length part }

-- the words from a part on
abbrev pub words_left : ℕ → List (List ℕ) → List Span
words_left at parts = filter has_bytes (spans_from at parts)

words_left_cons : (at : ℕ) (part : List ℕ) (parts : List (List ℕ)) → words_left at (part ∷ parts) ≡ cond (ltb at (at + length part)) (span_at at part ∷ words_left (at + length part + 1) parts) (words_left (at + length part + 1) parts)
unfolding spans_from
words_left_cons at part parts =
    ap (λ n. cond (ltb at (at + length part)) (span_at at part ∷ words_left n parts) (words_left n parts)) (let e : suc (at + length part) ≡ at + length part + 1 = omega arith in e)

words_left_nil : (at : ℕ) → words_left at [] ≡ []
unfolding spans_from
words_left_nil at = refl

pub room_at : (parts : List (List ℕ)) (k : ℕ) (part : List ℕ) → (k < length parts) × (part ≡ get_or parts k part) → room (drop k parts) ≡ suc (length part) + room (drop (k + 1) parts)
room_at parts k part h = at_drop_more room parts k part h.0 ∙ ap (λ (x : List ℕ). suc (length x) + room (drop (k + 1) parts)) (sym h.1)

pub words_left_at : (at : ℕ) (parts : List (List ℕ)) (k : ℕ) (part : List ℕ) → (k < length parts)
    × (part ≡ get_or parts k part) → words_left at (drop k parts)
    ≡ cond (ltb at (at + length part)) (span_at at part ∷ words_left (at + length part + 1)
    (drop (k + 1) parts)) (words_left (at + length part + 1) (drop (k + 1) parts))
words_left_at at parts k part h = at_drop_more (words_left at) parts k part h.0 ∙ (ap (λ (x : List ℕ). words_left at (x ∷ drop (k + 1) parts)) (sym h.1) ∙ words_left_cons at part (drop (k + 1) parts))

pub words_left_end : (at : ℕ) (parts : List (List ℕ)) (k : ℕ) → length parts ≤ k → words_left at (drop k parts) ≡ []
words_left_end at parts k le = ap (words_left at) (drop_all k parts le) ∙ words_left_nil at

-- one more part is a word, or is none
pub words_more : (before : List Span) (at : ℕ) (parts : List (List ℕ)) (k : ℕ) (part : List ℕ) → (k < length parts) × (part ≡ get_or parts k part) → 0 < length part → (before ++ span_at at part ∷ []) ++ words_left (at + length part + 1) (drop (k + 1) parts) ≡ before ++ words_left at (drop k parts)
words_more before at parts k part h lt =
    let longer : ltb at (at + length part) ≡ true = lt-ltb at (at + length part) (omega arith) in
    append_assoc before (span_at at part ∷ []) (words_left (at + length part + 1) (drop (k + 1) parts))
    ∙ ap (λ rest. before ++ rest) (sym (words_left_at at parts k part h
    ∙ ap (λ b. cond b (span_at at part ∷ words_left (at + length part + 1) (drop (k + 1) parts))
    (words_left (at + length part + 1) (drop (k + 1) parts))) longer))

pub words_skip : (before : List Span) (at : ℕ) (parts : List (List ℕ)) (k : ℕ) (part : List ℕ) → (k < length parts) × (part ≡ get_or parts k part) → length part ≡ 0 → before ++ words_left (at + length part + 1) (drop (k + 1) parts) ≡ before ++ words_left at (drop k parts)
words_skip before at parts k part h none =
    let same : ltb at (at + length part) ≡ false = le-ltb at (at + length part) (omega arith) in
    ap (λ rest. before ++ rest) (sym (words_left_at at parts k part h ∙ ap (λ b. cond b (span_at at part ∷ words_left (at + length part + 1) (drop (k + 1) parts)) (words_left (at + length part + 1) (drop (k + 1) parts))) same))
