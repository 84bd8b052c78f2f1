-- The lines so far, and the runs that are left.
use Rattle.std.proofs.Common.{◌≡◌, ℕ, ◌+◌, true, false, not, cond, eqb, List, [], ◌∷◌, ◌++◌, length, map, filter, Option, None, Some, Ok, Err, refl, sym, ap, ◌∙◌, append-nil}
use Rattle.std.specs.Option.{option_or}
use Rattle.std.proofs.lemmas.List.{length_push}
use Rattle.mk_lines.specs.Bytes.{is_blank_alone}
use Rattle.mk_lines.specs.declared.fault.LineFault.{LineFault}
use Rattle.mk_lines.specs.declared.lines.Line as code
use Rattle.mk_lines.specs.Lines.{Line, PieceRun, runs, number_runs, joined, line_of, is_kept, runs_of, lines_of, line_fault, first_fault, unless, logical_lines}
use Rattle.mk_lines.specs.Views.{line_view, is_single_line, borrows_text}
use Rattle.mk_lines.proofs.Pieces.{pieces}
use Rattle.mk_lines.proofs.RunsFound.{no_runs}

-- the runs that are left, and kept
abbrev pub left : ℕ → List (List (List ℕ)) → List PieceRun
left first rs = filter is_kept (number_runs first rs)

-- The lines so far and those of the remaining runs are the lines of the text. Its first fault is
-- among the remaining ones.
pub record Left (items : List code.Line) (first : ℕ) (rs : List (List (List ℕ))) (text : List ℕ) : Type 0 where
  pub found : map line_view items ++ map line_of (left first rs) ≡ lines_of text
  pub lends : map borrows_text items ++ map is_single_line (left first rs) ≡ map is_single_line (runs_of text)
  pub fault : first_fault (length items) (map line_of (left first rs)) ≡ first_fault 0 (lines_of text)

pub nothing_read : (text : List ℕ) → Left [] 1 (runs (pieces text)) text
unfolding runs_of
nothing_read text = record { found = refl; lends = refl; fault = refl }

abbrev run_at : ℕ → List (List ℕ) → PieceRun
run_at first run = record { first = first; pieces = run }

left_kept : (first : ℕ) (run : List (List ℕ)) (rest : List (List (List ℕ))) → is_blank_alone (joined first run).text ≡ false → left first (run ∷ rest) ≡ run_at first run ∷ left (first + length run) rest
unfolding number_runs
left_kept first run rest e = ap (λ b. cond (not b) (run_at first run ∷ left (first + length run) rest) (left (first + length run) rest)) e

left_dropped : (first : ℕ) (run : List (List ℕ)) (rest : List (List (List ℕ))) → is_blank_alone (joined first run).text ≡ true → left first (run ∷ rest) ≡ left (first + length run) rest
unfolding number_runs
left_dropped first run rest e = ap (λ b. cond (not b) (run_at first run ∷ left (first + length run) rest) (left (first + length run) rest)) e

left_none : (first : ℕ) → left first [] ≡ []
unfolding number_runs
left_none first = refl

map_more : {A B : Type 0} (f : A → B) (xs : List A) (x : A) (ys : List B) → map f (xs ++ x ∷ []) ++ ys ≡ map f xs ++ f x ∷ ys
map_more f [] x ys = refl
map_more f (z ∷ xs) x ys = ap (λ zs. f z ∷ zs) (map_more f xs x ys)

fault_here : (before : ℕ) (line : Line) (lines : List Line) (f : LineFault) → line_fault before line ≡ Some f → first_fault before (line ∷ lines) ≡ Some f
unfolding first_fault
fault_here before line lines f e = ap (λ o. option_or o (first_fault (before + 1) lines)) e

fault_later : (before : ℕ) (line : Line) (lines : List Line) → line_fault before line ≡ None → first_fault before (line ∷ lines) ≡ first_fault (before + 1) lines
unfolding first_fault
fault_later before line lines e = ap (λ o. option_or o (first_fault (before + 1) lines)) e

fault_nowhere : (before : ℕ) → first_fault before [] ≡ None
unfolding first_fault
fault_nowhere before = refl

-- a line of blanks alone is dropped
pub one_dropped : (items : List code.Line) (line : code.Line) (text : List ℕ) (first count : ℕ)
    (run : List (List ℕ)) (rs rest : List (List (List ℕ))) → Left items first rs text → rs ≡ run ∷ rest
    → line_view line ≡ joined first run → count ≡ length run → is_blank_alone (line_view line).text ≡ true
    → Left items (first + count) rest text
one_dropped items line text first count run rs rest l e v n b =
    let blank : is_blank_alone (joined first run).text ≡ true = ap (λ (x : Line). is_blank_alone x.text) (sym v) ∙ b in
    let step : left (first + count) rest ≡ left first rs = ap (λ k. left (first + k) rest) n ∙ sym (ap (left first) e ∙ left_dropped first run rest blank) in
    record {
      found = ap (λ rs. map line_view items ++ map line_of rs) step ∙ l.found;
      lends = ap (λ rs. map borrows_text items ++ map is_single_line rs) step ∙ l.lends;
      fault = ap (λ rs. first_fault (length items) (map line_of rs)) step ∙ l.fault;
    }

-- what a kept run is among those that are left
kept_step : (line : code.Line) (first count : ℕ) (run : List (List ℕ)) (rs rest : List (List (List ℕ))) → rs ≡ run ∷ rest → line_view line ≡ joined first run → count ≡ length run → is_blank_alone (line_view line).text ≡ false → left first rs ≡ run_at first run ∷ left (first + count) rest
kept_step line first count run rs rest e v n b =
    let kept : is_blank_alone (joined first run).text ≡ false = ap (λ (x : Line). is_blank_alone x.text) (sym v) ∙ b in
    ap (left first) e ∙ (left_kept first run rest kept ∙ ap (λ k. run_at first run ∷ left (first + k) rest) (sym n))

-- another line is kept
pub one_kept : (items : List code.Line) (line : code.Line) (text : List ℕ) (first count : ℕ)
    (run : List (List ℕ)) (rs rest : List (List (List ℕ))) → Left items first rs text → rs ≡ run ∷ rest
    → line_view line ≡ joined first run → borrows_text line ≡ eqb (length run) 1 → count ≡ length run
    → is_blank_alone (line_view line).text ≡ false → line_fault (length items) (line_view line) ≡ None
    → Left (items ++ line ∷ []) (first + count) rest text
one_kept items line text first count run rs rest l e v w n b f =
    let step : left first rs ≡ run_at first run ∷ left (first + count) rest = kept_step line first count run rs rest e v n b in
    record {
      found = map_more line_view items line (map line_of (left (first + count) rest)) ∙ (ap (λ x. map line_view items ++ x ∷ map line_of (left (first + count) rest)) v ∙ (ap (λ rs. map line_view items ++ map line_of rs) (sym step) ∙ l.found));
      lends = map_more borrows_text items line (map is_single_line (left (first + count) rest)) ∙ (ap (λ x. map borrows_text items ++ x ∷ map is_single_line (left (first + count) rest)) w ∙ (ap (λ rs. map borrows_text items ++ map is_single_line rs) (sym step) ∙ l.lends));
      fault = ap (λ k. first_fault k (map line_of (left (first + count) rest))) (length_push items line)
          ∙ (sym (fault_later (length items) (joined first run) (map line_of (left (first + count) rest))
          (ap (line_fault (length items)) (sym v) ∙ f)) ∙ (ap
          (λ rs. first_fault (length items) (map line_of rs)) (sym step) ∙ l.fault));
    }

-- another line is faulty
pub one_faulty : (items : List code.Line) (line : code.Line) (text : List ℕ) (first count : ℕ)
    (run : List (List ℕ)) (rs rest : List (List (List ℕ))) (f : LineFault) → Left items first rs text → rs
    ≡ run ∷ rest → line_view line ≡ joined first run → count ≡ length run
    → is_blank_alone (line_view line).text ≡ false → line_fault (length items) (line_view line) ≡ Some f
    → logical_lines text ≡ Err f
unfolding logical_lines
one_faulty items line text first count run rs rest f l e v n b g =
    let step : left first rs ≡ run_at first run ∷ left (first + count) rest = kept_step line first count run rs rest e v n b in
    let found : first_fault 0 (lines_of text) ≡ Some f = sym l.fault ∙ (ap (λ rs. first_fault (length items) (map line_of rs)) step ∙ fault_here (length items) (joined first run) (map line_of (left (first + count) rest)) f (ap (line_fault (length items)) (sym v) ∙ g)) in
    ap (λ o. unless o (lines_of text)) found

-- no run is left
nothing_left : (first : ℕ) (rs : List (List (List ℕ))) → rs ≡ runs [] → left first rs ≡ []
nothing_left first rs e = ap (left first) (e ∙ no_runs) ∙ left_none first

pub all_read : (items : List code.Line) (text : List ℕ) (first : ℕ) (rs : List (List (List ℕ))) → Left items first rs text → rs ≡ runs [] → logical_lines text ≡ Ok (map line_view items)
unfolding logical_lines
all_read items text first rs l e =
    let none : left first rs ≡ [] = nothing_left first rs e in
    let found : lines_of text ≡ map line_view items = sym l.found ∙ (ap (λ rs. map line_view items ++ map line_of rs) none ∙ append-nil (map line_view items)) in
    let sound : first_fault 0 (lines_of text) ≡ None = sym l.fault ∙ (ap (λ rs. first_fault (length items) (map line_of rs)) none ∙ fault_nowhere (length items)) in
    ap (λ o. unless o (lines_of text)) sound ∙ ap (λ (lines : List Line). Ok lines) found

pub all_lent : (items : List code.Line) (text : List ℕ) (first : ℕ) (rs : List (List (List ℕ))) → Left items first rs text → rs ≡ runs [] → map borrows_text items ≡ map is_single_line (runs_of text)
all_lent items text first rs l e = sym (append-nil (map borrows_text items)) ∙ (ap (λ rs. map borrows_text items ++ map is_single_line rs) (sym (nothing_left first rs e)) ∙ l.lends)

-- what a test of a line says
pub tested_well : (o : Option LineFault) (u : Unit {0}) → Ok u ≡ unless {A = Unit {0}} o tt → o ≡ None
tested_well None u e = refl
tested_well (Some f) u e = absurd cc

pub tested_ill : (o : Option LineFault) (f : LineFault) → Err f ≡ unless {A = Unit {0}} o tt → o ≡ Some f
tested_ill None f e = absurd cc
tested_ill (Some g) f e = let same : g ≡ f = cc in ap (λ (x : LineFault). Some x) same
