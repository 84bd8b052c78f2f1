-- Texts without backslashes, tabs and pieces of blanks alone.
use Rattle.std.proofs.Common.{◌≡◌, ℕ, ◌+◌, ◌%◌, Bool, true, false, not, ◌||◌, cond, eqb, List, [], ◌∷◌, drop, map, filter, reverse, refl, ap, ◌∙◌}
use Rattle.std.specs.List.{onto_first, list_any, prefix_len, enumerate_from}
use Rattle.std.proofs.lemmas.List.{reverse-append}
use Rattle.std.proofs.lemmas.List.Folds.{list_any-append}
use Rattle.std.proofs.lemmas.Bool.{or_from}
use Rattle.mk_lemmas.proofs.Bools.{or-false_left, or-false_right}
use Rattle.mk_lines.specs.Bytes.{is_byte, is_blank_alone}
use Rattle.mk_lines.specs.Lines.{Line, PieceRun, escapes, with_piece_in_front, runs, number_runs, is_command, plain_text, command_text, joined, line_of, is_kept, runs_of}
use Rattle.mk_lines.specs.Laws.{plain, PlainTextsAreTheirPieces}
use Rattle.mk_lines.proofs.Pieces.{pieces}

none_reversed : (p : ℕ → Bool) (xs : List ℕ) → list_any p xs ≡ false → list_any p (reverse xs) ≡ false
none_reversed p [] e = refl
none_reversed p (x ∷ xs) e =
    ap (list_any p) (reverse-append (x ∷ []) xs) ∙ (list_any-append p (reverse xs) (x ∷ []) ∙ or_from (list_any p (reverse xs)) (p x || false) (none_reversed p xs (or-false_right (p x) (list_any p xs) e)) (or_from (p x) false (or-false_left (p x) (list_any p xs) e) refl))

no_prefix : (p : ℕ → Bool) (xs : List ℕ) → list_any p xs ≡ false → prefix_len p xs ≡ 0
no_prefix p [] e = refl
no_prefix p (x ∷ xs) e = ap (λ t. cond t (1 + prefix_len p xs) 0) (or-false_left (p x) (list_any p xs) e)

no_escape : (piece : List ℕ) → list_any (is_byte 92) piece ≡ false → escapes piece ≡ false
no_escape piece e = ap (λ n. eqb (n % 2) 1) (no_prefix (is_byte 92) (reverse piece) (none_reversed (is_byte 92) piece e))

no_tab_first : (piece : List ℕ) → list_any (is_byte 9) piece ≡ false → is_command piece ≡ false
no_tab_first [] e = refl
no_tab_first (b ∷ piece) e = or-false_left (eqb b 9) (list_any (is_byte 9) piece) e

-- the pieces of a text have no byte that the text doesn't have
none_onto : (p : ℕ → Bool) (x : ℕ) (parts : List (List ℕ)) → p x ≡ false → list_any (list_any p) parts ≡ false → list_any (list_any p) (onto_first x parts) ≡ false
none_onto p x [] e h = or_from (p x || false) false (or_from (p x) false e refl) refl
none_onto p x (part ∷ parts) e h =
    or_from (p x || list_any p part) (list_any (list_any p) parts) (or_from (p x) (list_any p part) e (or-false_left (list_any p part) (list_any (list_any p) parts) h)) (or-false_right (list_any p part) (list_any (list_any p) parts) h)

none_case : (t : Bool) (p : ℕ → Bool) (x : ℕ) (parts : List (List ℕ)) → p x ≡ false → list_any (list_any p) parts ≡ false → list_any (list_any p) (cond t ([] ∷ parts) (onto_first x parts)) ≡ false
none_case true p x parts e h = h
none_case false p x parts e h = none_onto p x parts e h

none_in_pieces : (p : ℕ → Bool) (text : List ℕ) → list_any p text ≡ false → list_any (list_any p) (pieces text) ≡ false
none_in_pieces p [] e = refl
none_in_pieces p (x ∷ text) e = none_case (is_byte 10 x) p x (pieces text) (or-false_left (p x) (list_any p text) e) (none_in_pieces p text (or-false_right (p x) (list_any p text) e))

abbrev alone : List ℕ → List (List ℕ)
alone piece = piece ∷ []

runs_alone : (xs : List (List ℕ)) → list_any (list_any (is_byte 92)) xs ≡ false → runs xs ≡ map alone xs
unfolding runs
runs_alone [] e = refl
runs_alone (piece ∷ xs) e =
    ap (λ t. cond t (with_piece_in_front piece (runs xs)) ((piece ∷ []) ∷ runs xs)) (no_escape piece (or-false_left (list_any (is_byte 92) piece) (list_any (list_any (is_byte 92)) xs) e))
    ∙ ap (λ rs. (piece ∷ []) ∷ rs) (runs_alone xs (or-false_right (list_any (is_byte 92) piece) (list_any (list_any (is_byte 92)) xs) e))

line_alone : (n : ℕ) (piece : List ℕ) → is_command piece ≡ false → joined n (piece ∷ []) ≡ plain (n, piece)
unfolding plain_text
line_alone n piece e = ap (λ t. let line : Line = cond t (record { first = n; command = true; text = command_text (drop 1 piece) [] }) (record { first = n; command = false; text = piece }) in line) e

lines_alone : (n : ℕ) (xs : List (List ℕ)) → list_any (list_any (is_byte 9)) xs ≡ false → list_any is_blank_alone xs ≡ false → map line_of (filter is_kept (number_runs n (map alone xs))) ≡ map plain (enumerate_from n xs)
unfolding number_runs
lines_alone n [] t b = refl
lines_alone n (piece ∷ xs) t b =
    let run : PieceRun = record { first = n; pieces = piece ∷ [] } in
    let line : joined n (piece ∷ []) ≡ plain (n, piece) = line_alone n piece (no_tab_first piece (or-false_left (list_any (is_byte 9) piece) (list_any (list_any (is_byte 9)) xs) t)) in
    let kept : is_kept run ≡ true = ap (λ (x : Line). not (is_blank_alone x.text)) line ∙ ap not (or-false_left (is_blank_alone piece) (list_any is_blank_alone xs) b) in
    let rest = filter is_kept (number_runs (n + 1) (map alone xs)) in
    ap (λ t. map line_of (cond t (run ∷ rest) rest)) kept
    ∙ (ap (λ x. x ∷ map line_of rest) line ∙ ap (λ lines. plain (n, piece) ∷ lines)
    (lines_alone (n + 1) xs (or-false_right (list_any (is_byte 9) piece)
    (list_any (list_any (is_byte 9)) xs) t) (or-false_right (is_blank_alone piece)
    (list_any is_blank_alone xs) b)))

pub plain_texts_are_their_pieces : PlainTextsAreTheirPieces
unfolding runs_of
plain_texts_are_their_pieces text s t b =
    ap (λ rs. map line_of (filter is_kept (number_runs 1 rs))) (runs_alone (pieces text) (none_in_pieces (is_byte 92) text s))
    ∙ lines_alone 1 (pieces text) (none_in_pieces (is_byte 9) text t) b
