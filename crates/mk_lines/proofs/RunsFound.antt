-- The first run, piece by piece.
use Rattle.std.proofs.Common.{◌≡◌, ℕ, suc, ◌+◌, ◌<◌, Bool, true, false, cond, List, [], ◌∷◌, ◌++◌, length, take, drop, refl, sym, ap, ◌∙◌, arith}
use Rattle.std.specs.List.{All}
use Rattle.std.proofs.lemmas.List.{take_all, drop-drop, drop_at, take-append-le}
use Rattle.std.proofs.lemmas.List.Splits.{slice_split_at, slice_split_none}
use Rattle.mk_lines.specs.Bytes.{is_byte}
use Rattle.mk_lines.specs.Lines.{escapes, with_piece_in_front, runs}
use Rattle.mk_lines.proofs.Pieces.{pieces, some_piece}

-- the first run, and the pieces behind it
abbrev pub first_run : List (List ℕ) → List (List ℕ)
first_run [] = []
first_run (piece ∷ rest) = cond (escapes piece) (piece ∷ first_run rest) (piece ∷ [])

abbrev pub behind_run : List (List ℕ) → List (List ℕ)
behind_run [] = []
behind_run (piece ∷ rest) = cond (escapes piece) (behind_run rest) rest

run_case : (t : Bool) (piece : List ℕ) (rest : List (List ℕ)) → with_piece_in_front piece (runs rest)
    ≡ (piece ∷ first_run rest) ∷ runs (behind_run rest) → cond t (with_piece_in_front piece (runs rest))
    ((piece ∷ []) ∷ runs rest) ≡ cond t (piece ∷ first_run rest) (piece ∷ [])
    ∷ runs (cond t (behind_run rest) rest)
run_case true piece rest h = h
run_case false piece rest h = refl

runs_first : (piece : List ℕ) (rest : List (List ℕ)) → runs (piece ∷ rest) ≡ first_run (piece ∷ rest) ∷ runs (behind_run (piece ∷ rest))
unfolding runs
runs_first piece [] = run_case (escapes piece) piece [] refl
runs_first piece (next ∷ rest) = run_case (escapes piece) piece (next ∷ rest) (ap (with_piece_in_front piece) (runs_first next rest))

runs_of_some : (xs : List (List ℕ)) → 0 < length xs → runs xs ≡ first_run xs ∷ runs (behind_run xs)
runs_of_some [] lt = absurd (omega arith)
runs_of_some (piece ∷ rest) lt = runs_first piece rest

pub runs_of_text : (text : List ℕ) → runs (pieces text) ≡ first_run (pieces text) ∷ runs (behind_run (pieces text))
runs_of_text text = runs_of_some (pieces text) (some_piece text)

pub no_runs : runs [] ≡ []
unfolding runs
no_runs = refl

-- a piece that goes on, one that doesn't, and the last one
pub first_goes_on : (piece : List ℕ) (xs rest : List (List ℕ)) → xs ≡ piece ∷ rest → escapes piece ≡ true → first_run xs ≡ piece ∷ first_run rest
first_goes_on piece xs rest e t = ap first_run e ∙ ap (λ b. cond b (piece ∷ first_run rest) (piece ∷ [])) t

pub behind_goes_on : (piece : List ℕ) (xs rest : List (List ℕ)) → xs ≡ piece ∷ rest → escapes piece ≡ true → behind_run xs ≡ behind_run rest
behind_goes_on piece xs rest e t = ap behind_run e ∙ ap (λ b. cond b (behind_run rest) rest) t

pub first_ends : (piece : List ℕ) (xs rest : List (List ℕ)) → xs ≡ piece ∷ rest → escapes piece ≡ false → first_run xs ≡ piece ∷ []
first_ends piece xs rest e t = ap first_run e ∙ ap (λ b. cond b (piece ∷ first_run rest) (piece ∷ [])) t

pub behind_ends : (piece : List ℕ) (xs rest : List (List ℕ)) → xs ≡ piece ∷ rest → escapes piece ≡ false → behind_run xs ≡ rest
behind_ends piece xs rest e t = ap behind_run e ∙ ap (λ b. cond b (behind_run rest) rest) t

last_first : (t : Bool) (piece : List ℕ) → cond t (piece ∷ []) (piece ∷ []) ≡ piece ∷ []
last_first true piece = refl
last_first false piece = refl

last_behind : (t : Bool) → cond {A = List (List ℕ)} t [] [] ≡ []
last_behind true = refl
last_behind false = refl

pub first_last : (piece : List ℕ) (xs : List (List ℕ)) → xs ≡ piece ∷ [] → first_run xs ≡ piece ∷ []
first_last piece xs e = ap first_run e ∙ last_first (escapes piece) piece

pub behind_last : (piece : List ℕ) (xs : List (List ℕ)) → xs ≡ piece ∷ [] → behind_run xs ≡ []
behind_last piece xs e = ap behind_run e ∙ last_behind (escapes piece)

-- the front of a text, cut behind a piece
take_over : (front after : List ℕ) (m : ℕ) → take (length front + 1 + m) (front ++ 10 ∷ after) ≡ front ++ 10 ∷ take m after
take_over [] after m = ap (λ n. take n (10 ∷ after)) (let e : 0 + 1 + m ≡ suc m = omega arith in e)
take_over (b ∷ front) after m =
    ap (λ n. take n ((b ∷ front) ++ 10 ∷ after)) (let e : suc (length front) + 1 + m ≡ suc (length front + 1 + m) = omega arith in e) ∙ ap (λ xs. b ∷ xs) (take_over front after m)

pub cut_on : (piece after text : List ℕ) → text ≡ piece ++ 10 ∷ after → All (λ b. is_byte 10 b ≡ false) piece → escapes piece ≡ true → (m : ℕ) → pieces (take m after) ≡ first_run (pieces after) → pieces (take (length piece + 1 + m) text) ≡ first_run (pieces text)
cut_on piece after text w clean t m h =
    let parts : pieces text ≡ piece ∷ pieces after = ap pieces w ∙ slice_split_at (is_byte 10) piece 10 after clean refl in
    ap (λ x. pieces (take (length piece + 1 + m) x)) w ∙ (ap pieces (take_over piece after m) ∙ (slice_split_at (is_byte 10) piece 10 (take m after) clean refl ∙ (ap (λ xs. piece ∷ xs) h ∙ sym (first_goes_on piece (pieces text) (pieces after) parts t))))

pub cut_here : (piece after text : List ℕ) → text ≡ piece ++ 10 ∷ after → All (λ b. is_byte 10 b ≡ false) piece → escapes piece ≡ false → pieces (take (length piece) text) ≡ first_run (pieces text)
cut_here piece after text w clean t =
    let parts : pieces text ≡ piece ∷ pieces after = ap pieces w ∙ slice_split_at (is_byte 10) piece 10 after clean refl in
    ap (λ x. pieces (take (length piece) x)) w ∙ (ap pieces (take-append-le (length piece) piece (10 ∷ after) (omega arith) ∙ take_all (length piece) piece (omega arith)) ∙ (slice_split_none (is_byte 10) piece clean ∙ sym (first_ends piece (pieces text) (pieces after) parts t)))

-- what is left behind a piece
pub left_behind : (text rest piece after : List ℕ) (end : ℕ) → rest ≡ drop end text → rest ≡ piece ++ 10 ∷ after → after ≡ drop (end + length piece + 1) text
left_behind text rest piece after end d w =
    let cut : drop (length piece) rest ≡ 10 ∷ after = ap (drop (length piece)) w ∙ drop_at piece (10 ∷ after) (length piece) refl in
    let one : after ≡ drop 1 (drop (length piece) rest) = sym (ap (drop 1) cut) in
    one ∙ (drop-drop 1 (length piece) rest ∙ (ap (drop (length piece + 1)) d ∙ (drop-drop (length piece + 1) end text ∙ ap (λ n. drop n text) (let e : end + (length piece + 1) ≡ end + length piece + 1 = omega arith in e))))
