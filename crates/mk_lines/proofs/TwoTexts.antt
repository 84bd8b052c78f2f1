-- The lines of two texts in sequence.
use Rattle.std.proofs.Common.{◌≡◌, ℕ, ◌+◌, ◌<◌, ◌%◌, Bool, true, false, not, cond, eqb, List, [], ◌∷◌, ◌++◌, length, drop, map, filter, reverse, refl, sym, ap, ◌∙◌, arith, append_assoc, append-nil}
use Rattle.std.specs.List.{onto_first, prefix_len}
use Rattle.std.proofs.lemmas.Bool.{eqb-true, not-true}
use Rattle.std.proofs.lemmas.List.{reverse-append, map-append}
use Rattle.std.proofs.lemmas.List.Elements.{filter-append}
use Rattle.mk_lines.specs.Bytes.{is_byte, is_blank_alone}
use Rattle.mk_lines.specs.Lines.{Line, PieceRun, escapes, with_piece_in_front, runs, number_runs, is_command, plain_text, command_text, joined, line_of, is_kept, runs_of, lines_of}
use Rattle.mk_lines.specs.Laws.{renumbered, LinesOfTwoTexts}
use Rattle.mk_lines.proofs.Pieces.{pieces, some_piece}

-- a text cut at newlines
abbrev Cut : List ℕ → List (List ℕ) → Type 0
Cut text [] = ⊥
Cut text (part ∷ []) = text ≡ part
Cut text (part ∷ next ∷ parts) = (after : List ℕ) × (text ≡ part ++ 10 ∷ after) × Cut after (next ∷ parts)

cut_onto : (x : ℕ) (text : List ℕ) (parts : List (List ℕ)) → Cut text parts → Cut (x ∷ text) (onto_first x parts)
cut_onto x text [] h = absurd h
cut_onto x text (part ∷ []) h = ap (λ xs. x ∷ xs) h
cut_onto x text (part ∷ next ∷ parts) h = (h.0, ap (λ xs. x ∷ xs) h.1, h.2)

cut_new : (x : ℕ) (text : List ℕ) (parts : List (List ℕ)) → x ≡ 10 → Cut text parts → Cut (x ∷ text) ([] ∷ parts)
cut_new x text [] e h = absurd h
cut_new x text (part ∷ parts) e h = (text, ap (λ b. b ∷ text) e, h)

cut_case : (t : Bool) (x : ℕ) (text : List ℕ) (parts : List (List ℕ)) → eqb x 10 ≡ t → Cut text parts → Cut (x ∷ text) (cond t ([] ∷ parts) (onto_first x parts))
cut_case true x text parts e h = cut_new x text parts (eqb-true x 10 e) h
cut_case false x text parts e h = cut_onto x text parts h

cut_pieces : (text : List ℕ) → Cut text (pieces text)
cut_pieces [] = refl
cut_pieces (x ∷ text) = cut_case (is_byte 10 x) x text (pieces text) refl (cut_pieces text)

-- the last piece isn't one that goes on
abbrev ends : List (List ℕ) → Bool
ends [] = true
ends (part ∷ []) = not (escapes part)
ends (part ∷ next ∷ parts) = ends (next ∷ parts)

prefix_stop : (q : ℕ → Bool) (xs : List ℕ) (z : ℕ) (ys : List ℕ) → q z ≡ false → prefix_len q (xs ++ z ∷ ys) ≡ prefix_len q xs
prefix_stop q [] z ys e = ap (λ t. cond t (1 + prefix_len q ys) 0) e
prefix_stop q (x ∷ xs) z ys e = ap (λ n. cond (q x) (1 + n) 0) (prefix_stop q xs z ys e)

escapes_behind : (part after : List ℕ) → escapes (part ++ 10 ∷ after) ≡ escapes after
escapes_behind part after =
    ap (λ n. eqb (n % 2) 1) (ap (prefix_len (is_byte 92)) (reverse-append part (10 ∷ after) ∙ (ap (λ xs. xs ++ reverse part) (reverse-append (10 ∷ []) after) ∙ append_assoc (reverse after) (10 ∷ []) (reverse part))) ∙ prefix_stop (is_byte 92) (reverse after) 10 (reverse part) refl)

ends_as : (text : List ℕ) (parts : List (List ℕ)) → Cut text parts → ends parts ≡ not (escapes text)
ends_as text [] h = absurd h
ends_as text (part ∷ []) h = ap (λ x. not (escapes x)) (sym h)
ends_as text (part ∷ next ∷ parts) h = ends_as h.0 (next ∷ parts) h.2 ∙ sym (ap not (ap escapes h.1 ∙ escapes_behind part h.0))

-- the pieces of two texts round a newline
onto_append : (x : ℕ) (xs ys : List (List ℕ)) → 0 < length xs → onto_first x (xs ++ ys) ≡ onto_first x xs ++ ys
onto_append x [] ys lt = absurd (omega arith)
onto_append x (part ∷ xs) ys lt = refl

pieces_case : (t : Bool) (x : ℕ) (xs ys : List (List ℕ)) → 0 < length xs → cond t ([] ∷ (xs ++ ys)) (onto_first x (xs ++ ys)) ≡ cond t ([] ∷ xs) (onto_first x xs) ++ ys
pieces_case true x xs ys lt = refl
pieces_case false x xs ys lt = onto_append x xs ys lt

pieces_round : (front tail : List ℕ) → pieces (front ++ 10 ∷ tail) ≡ pieces front ++ pieces tail
pieces_round [] tail = refl
pieces_round (x ∷ front) tail =
    ap (λ xs. cond (is_byte 10 x) ([] ∷ xs) (onto_first x xs)) (pieces_round front tail) ∙ pieces_case (is_byte 10 x) x (pieces front) (pieces tail) (some_piece front)

-- runs of both, where the first ends
some_run_case : (t : Bool) (part : List ℕ) (rs : List (List (List ℕ))) → 0 < length (cond t (with_piece_in_front part rs) ((part ∷ []) ∷ rs))
some_run_case true part [] = omega arith
some_run_case true part (run ∷ rs) = omega arith
some_run_case false part rs = omega arith

some_run : (part : List ℕ) (parts : List (List ℕ)) → 0 < length (runs (part ∷ parts))
unfolding runs
some_run part parts = some_run_case (escapes part) part (runs parts)

goes_append : (part : List ℕ) (rs ss : List (List (List ℕ))) → 0 < length rs → with_piece_in_front part (rs ++ ss) ≡ with_piece_in_front part rs ++ ss
goes_append part [] ss lt = absurd (omega arith)
goes_append part (run ∷ rs) ss lt = refl

runs_case : (t : Bool) (part : List ℕ) (rs ss : List (List (List ℕ))) → 0 < length rs → cond t (with_piece_in_front part (rs ++ ss)) ((part ∷ []) ∷ (rs ++ ss)) ≡ cond t (with_piece_in_front part rs) ((part ∷ []) ∷ rs) ++ ss
runs_case true part rs ss lt = goes_append part rs ss lt
runs_case false part rs ss lt = refl

runs_append : (xs ys : List (List ℕ)) → ends xs ≡ true → runs (xs ++ ys) ≡ runs xs ++ runs ys
unfolding runs
runs_append [] ys e = refl
runs_append (part ∷ []) ys e =
    ap (λ t. cond t (with_piece_in_front part (runs ys)) ((part ∷ []) ∷ runs ys)) (not-true (escapes part) e) ∙ sym (ap (λ t. cond t (with_piece_in_front part []) ((part ∷ []) ∷ []) ++ runs ys) (not-true (escapes part) e))
runs_append (part ∷ next ∷ xs) ys e =
    ap (λ rs. cond (escapes part) (with_piece_in_front part rs) ((part ∷ []) ∷ rs)) (runs_append (next ∷ xs) ys e) ∙ runs_case (escapes part) part (runs (next ∷ xs)) (runs ys) (some_run next xs)

-- pieces in runs
abbrev total : List (List (List ℕ)) → ℕ
total [] = 0
total (run ∷ rs) = length run + total rs

total_on : (part : List ℕ) (rs : List (List (List ℕ))) → total (with_piece_in_front part rs) ≡ total rs + 1
total_on part [] = refl
total_on part (run ∷ rs) = omega arith

total_case : (t : Bool) (part : List ℕ) (rs : List (List (List ℕ))) → total (cond t (with_piece_in_front part rs) ((part ∷ []) ∷ rs)) ≡ total rs + 1
total_case true part rs = total_on part rs
total_case false part rs = omega arith

total_runs : (xs : List (List ℕ)) → total (runs xs) ≡ length xs
unfolding runs
total_runs [] = refl
total_runs (part ∷ xs) = total_case (escapes part) part (runs xs) ∙ (let e = total_runs xs in omega arith)

numbered_append : (n : ℕ) (rs ss : List (List (List ℕ))) → number_runs n (rs ++ ss) ≡ number_runs n rs ++ number_runs (n + total rs) ss
unfolding number_runs
numbered_append n [] ss = ap (λ k. number_runs k ss) (let e : n ≡ n + 0 = omega arith in e)
numbered_append n (run ∷ rs) ss =
    ap (λ xs. record { first = n; pieces = run } ∷ xs) (numbered_append (n + length run) rs ss ∙ ap (λ k. number_runs (n + length run) rs ++ number_runs k ss) (let e : n + length run + total rs ≡ n + (length run + total rs) = omega arith in e))

-- numbers moved on
joined_case : (t : Bool) (by n : ℕ) (a b : List ℕ) → (let line : Line = cond t
    (record { first = by + n; command = true; text = a })
    (record { first = by + n; command = false; text = b }) in line)
    ≡ renumbered by (cond t (record { first = n; command = true; text = a })
    (record { first = n; command = false; text = b }))
joined_case true by n a b = refl
joined_case false by n a b = refl

joined_moved : (by n : ℕ) (run : List (List ℕ)) → joined (by + n) run ≡ renumbered by (joined n run)
joined_moved by n [] = refl
joined_moved by n (part ∷ rest) = joined_case (is_command part) by n (command_text (drop 1 part) rest) (plain_text part rest)

abbrev kept_lines : ℕ → List (List (List ℕ)) → List Line
kept_lines n rs = map line_of (filter is_kept (number_runs n rs))

moved_case : (s t : Bool) (by : ℕ) (r q : PieceRun) (rs qs : List PieceRun) → s ≡ t → line_of r ≡ renumbered by (line_of q) → map line_of rs ≡ map (renumbered by) (map line_of qs) → map line_of (cond s (r ∷ rs) rs) ≡ map (renumbered by) (map line_of (cond t (q ∷ qs) qs))
moved_case true true by r q rs qs e l h = ap (λ x. x ∷ map line_of rs) l ∙ ap (λ xs. renumbered by (line_of q) ∷ xs) h
moved_case false false by r q rs qs e l h = h
moved_case true false by r q rs qs e l h = absurd cc
moved_case false true by r q rs qs e l h = absurd cc

kept_moved : (by n : ℕ) (rs : List (List (List ℕ))) → kept_lines (by + n) rs ≡ map (renumbered by) (kept_lines n rs)
unfolding number_runs
kept_moved by n [] = refl
kept_moved by n (run ∷ rs) =
    let r : PieceRun = record { first = by + n; pieces = run } in
    let q : PieceRun = record { first = n; pieces = run } in
    let line : line_of r ≡ renumbered by (line_of q) = joined_moved by n run in
    moved_case (is_kept r) (is_kept q) by r q (filter is_kept (number_runs (by + n + length run) rs)) (filter is_kept (number_runs (n + length run) rs)) (ap (λ (x : Line). not (is_blank_alone x.text)) line) line
    (ap (λ k. kept_lines k rs) (let e : by + n + length run ≡ by + (n + length run) = omega arith in e) ∙ kept_moved by (n + length run) rs)

kept_append : (n : ℕ) (rs ss : List (List (List ℕ))) → kept_lines n (rs ++ ss) ≡ kept_lines n rs ++ kept_lines (n + total rs) ss
kept_append n rs ss =
    ap (λ xs. map line_of (filter is_kept xs)) (numbered_append n rs ss)
    ∙ (ap (map line_of) (filter-append is_kept (number_runs n rs) (number_runs (n + total rs) ss)) ∙ map-append line_of (filter is_kept (number_runs n rs)) (filter is_kept (number_runs (n + total rs) ss)))

-- a last piece that is empty is no line
last_empty : (n : ℕ) → kept_lines n (runs (pieces [])) ≡ []
unfolding runs number_runs plain_text
last_empty n = refl

lines_are : (text : List ℕ) → lines_of text ≡ kept_lines 1 (runs (pieces text))
unfolding runs_of
lines_are text = refl

lines_round : (front tail : List ℕ) → escapes front ≡ false → lines_of (front ++ 10 ∷ tail) ≡ kept_lines 1 (runs (pieces front)) ++ kept_lines (1 + length (pieces front)) (runs (pieces tail))
lines_round front tail e =
    let ended : ends (pieces front) ≡ true = ends_as front (pieces front) (cut_pieces front) ∙ ap not e in
    lines_are (front ++ 10 ∷ tail) ∙ (ap (λ xs. kept_lines 1 (runs xs)) (pieces_round front tail)
    ∙ (ap (kept_lines 1) (runs_append (pieces front) (pieces tail) ended)
    ∙ (kept_append 1 (runs (pieces front)) (runs (pieces tail))
    ∙ ap (λ n. kept_lines 1 (runs (pieces front)) ++ kept_lines (1 + n) (runs (pieces tail)))
    (total_runs (pieces front)))))

pub lines_of_two_texts : LinesOfTwoTexts
lines_of_two_texts front other e =
    let by = length (pieces front) in
    let first : lines_of (front ++ 10 ∷ []) ≡ kept_lines 1 (runs (pieces front)) =
    lines_round front [] e ∙ (ap (λ xs. kept_lines 1 (runs (pieces front)) ++ xs) (last_empty (1 + by)) ∙ append-nil (kept_lines 1 (runs (pieces front)))) in
    let second : kept_lines (1 + by) (runs (pieces other)) ≡ map (renumbered by) (lines_of other) =
    ap (λ n. kept_lines n (runs (pieces other))) (let s : 1 + by ≡ by + 1 = omega arith in s) ∙ (kept_moved by 1 (runs (pieces other)) ∙ ap (map (renumbered by)) (sym (lines_are other))) in
    ap lines_of (append_assoc front (10 ∷ []) other) ∙ (lines_round front other e ∙ (ap (λ xs. xs ++ kept_lines (1 + by) (runs (pieces other))) (sym first) ∙ ap (λ xs. lines_of (front ++ 10 ∷ []) ++ xs) second))
