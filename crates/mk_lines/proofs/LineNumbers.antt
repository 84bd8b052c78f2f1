-- The numbers of lines.
use Rattle.std.proofs.Common.{◌≡◌, ℕ, ◌+◌, ◌<◌, Bool, true, false, cond, List, [], ◌∷◌, length, drop, map, filter, refl, arith}
use Rattle.mk_lines.specs.Lines.{Line, PieceRun, escapes, with_piece_in_front, runs, number_runs, is_command, plain_text, command_text, joined, line_of, is_kept, runs_of}
use Rattle.mk_lines.specs.Laws.{AreAscendingFrom, FirstLinesAscend}
use Rattle.mk_lines.proofs.Pieces.{pieces}

-- no run is empty
abbrev pub Full : List (List (List ℕ)) → Type 0
Full [] = Unit {0}
Full (run ∷ rs) = (0 < length run) × Full rs

full_on : (piece : List ℕ) (rs : List (List (List ℕ))) → Full rs → Full (with_piece_in_front piece rs)
full_on piece [] h = (omega arith, tt)
full_on piece (run ∷ rs) h = (omega arith, h.1)

full_case : (t : Bool) (piece : List ℕ) (rs : List (List (List ℕ))) → Full rs → Full (cond t (with_piece_in_front piece rs) ((piece ∷ []) ∷ rs))
full_case true piece rs h = full_on piece rs h
full_case false piece rs h = (omega arith, h)

pub full_runs : (xs : List (List ℕ)) → Full (runs xs)
unfolding runs
full_runs [] = tt
full_runs (piece ∷ xs) = full_case (escapes piece) piece (runs xs) (full_runs xs)

-- a line has the number of its run
first_case : (t : Bool) (n : ℕ) (a b : List ℕ) → (let line : Line = cond t (record { first = n; command = true; text = a }) (record { first = n; command = false; text = b }) in line.first) ≡ n
first_case true n a b = refl
first_case false n a b = refl

pub first_of : (n : ℕ) (run : List (List ℕ)) → (joined n run).first ≡ n
first_of n [] = refl
first_of n (piece ∷ rest) = first_case (is_command piece) n (command_text (drop 1 piece) rest) (plain_text piece rest)

-- the numbers of lines
abbrev numbers : List PieceRun → List ℕ
numbers rs = map (λ line. line.first) (map line_of rs)

grow_case : (t : Bool) (first : ℕ) (run : List (List ℕ)) (rest : List PieceRun) → 0 < length run
    → ((before : ℕ) → before < first + length run → AreAscendingFrom before (numbers rest)) → (before : ℕ)
    → before < first → AreAscendingFrom before (numbers (cond t
    (record { first = first; pieces = run } ∷ rest) rest))
unfolding AreAscendingFrom
grow_case true first run rest some h before lt =
    let n = first_of first run in
    (omega (arith, n), h (joined first run).first (omega (arith, n)))
grow_case false first run rest some h before lt = h before (omega arith)

grow_from : (rs : List (List (List ℕ))) (first : ℕ) → Full rs → (before : ℕ) → before < first → AreAscendingFrom before (numbers (filter is_kept (number_runs first rs)))
unfolding number_runs AreAscendingFrom
grow_from [] first h before lt = tt
grow_from (run ∷ rs) first h before lt = grow_case (is_kept (record { first = first; pieces = run })) first run (filter is_kept (number_runs (first + length run) rs)) h.0 (grow_from rs (first + length run) h.1) before lt

pub first_lines_ascend : FirstLinesAscend
unfolding runs_of
first_lines_ascend text = grow_from (runs (pieces text)) 1 (full_runs (pieces text)) 0 (omega arith)
