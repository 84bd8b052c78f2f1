-- The lines of plans, one after another.
use Rattle.std.proofs.Common.{◌≡◌, ℕ, ◌+◌, ◌-◌, ◌<◌, ◌≤◌, Bool, true, false, cond, ltb, List, [], ◌∷◌, ◌++◌, length, take, drop, position, Option, Some, None, Ok, Err, refl, sym, ap, ◌∙◌, arith, append_assoc, inl, inr}
use Rattle.std.specs.Prelude.{find}
use Rattle.std.specs.List.{slice_split, position_or_len, after_first, filter_map, cons_option, enumerate_from}
use Rattle.std.proofs.lemmas.Bool.{cases_Bool, cond-true, cond-false, ltb-true, ltb-false}
use Rattle.std.proofs.lemmas.List.{take_rest, append-nil}
use Rattle.std.proofs.lemmas.List.Splits.{slice_split_first, slice_split_none, length-slice_split}
use Rattle.std.proofs.lemmas.List.Sums.{fails_before_first}
use Rattle.std.proofs.lemmas.List.Elements.{All-from_get_or}
use Rattle.mk_lines.specs.Bytes.{is_byte}
use Rattle.mk_world_plan.specs.PlanReading.{without_empty_last, lines_of, is_bad, planned, line_read, plan_of, numbered_lines, unless_bad}
use Rattle.mk_world.specs.declared.plan.PlanLine.{PlanLine}
use Rattle.mk_world.specs.declared.plan.PlanFault.{PlanFault}
use Rattle.mk_world.specs.declared.plan.PlanFault.TheVariants.{Line}

-- what stands before others is no empty last piece
pub front_stays : (piece : List ℕ) (pieces : List (List ℕ)) → 0 < length pieces → without_empty_last (piece ∷ pieces) ≡ piece ∷ without_empty_last pieces
front_stays piece [] lt = absurd (omega arith)
front_stays piece (next ∷ pieces) lt = refl

whole_stays : (text : List ℕ) → 0 < length text → without_empty_last (text ∷ []) ≡ text ∷ []
whole_stays [] lt = absurd (omega arith)
whole_stays (b ∷ text) lt = refl

pub parts_there : (text : List ℕ) → 0 < length (slice_split (is_byte 10) text)
parts_there text = omega (arith, length-slice_split (is_byte 10) text)

one_value : {a b : ℕ} → Some a ≡ Some b → a ≡ b
one_value h = cc

none_some : {a : ℕ} → None ≡ Some a → ⊥
none_some h = cc

-- the lines behind the first newline
pub line_cut : (text : List ℕ) (i : ℕ) → Some i ≡ position (is_byte 10) text → lines_of text ≡ take i text ∷ lines_of (take (length text - (i + 1)) (drop (i + 1) text))
line_cut text i e = elim (cases_Bool (ltb (position_or_len (is_byte 10) text) (length text))) [
  | inl t ↦
      let at : i ≡ position_or_len (is_byte 10) text = one_value (e ∙ cond-true (ltb (position_or_len (is_byte 10) text) (length text)) (Some (position_or_len (is_byte 10) text)) None t) in
      let low : position_or_len (is_byte 10) text < length text = ltb-true _ _ t in
      let cut = slice_split_first (is_byte 10) text 0 low in
      ap without_empty_last cut ∙ (front_stays _ _ (parts_there (after_first (is_byte 10) text)) ∙ rw (at, take_rest) refl)
  | inr f ↦ absurd (none_some (sym (cond-false (ltb (position_or_len (is_byte 10) text) (length text)) (Some (position_or_len (is_byte 10) text)) None f) ∙ sym e))
]

-- without a newline the text is one line
pub line_whole : (text : List ℕ) → 0 < length text → None ≡ position (is_byte 10) text → lines_of text ≡ text ∷ lines_of (take (length text - length text) (drop (length text) text))
line_whole text some e = elim (cases_Bool (ltb (position_or_len (is_byte 10) text) (length text))) [
  | inl t ↦ absurd (none_some (e ∙ cond-true (ltb (position_or_len (is_byte 10) text) (length text)) (Some (position_or_len (is_byte 10) text)) None t))
  | inr f ↦
      let high : length text ≤ position_or_len (is_byte 10) text = ltb-false _ _ f in
      let none = slice_split_none (is_byte 10) text (All-from_get_or (λ x. is_byte 10 x ≡ false) text 0 (λ k lt. fails_before_first (is_byte 10) text k 0 (omega arith))) in
      let left : length text - length text ≡ 0 = omega arith in
      ap without_empty_last none ∙ (whole_stays text some ∙ ap (λ n. text ∷ lines_of (take n (drop (length text) text))) (sym left))
]

-- What is left of a plan's text: the lines behind this number.
pub record Left (kept : List PlanLine) (number : ℕ) (rest text : List ℕ) : Type 0 where
  pub lines : kept ++ filter_map planned (enumerate_from (number + 1) (lines_of rest)) ≡ filter_map planned (numbered_lines text)
  pub bad : find is_bad (enumerate_from (number + 1) (lines_of rest)) ≡ find is_bad (numbered_lines text)

well_read : (e : ℕ × List ℕ) (o : Option PlanLine) → line_read e ≡ Ok o → (is_bad e ≡ false) × (planned e ≡ o)
well_read e o h = at (is_bad e) refl h
  where
    at : (b : Bool) → is_bad e ≡ b → cond b (Err (Line e.0)) (Ok (planned e)) ≡ Ok o → (is_bad e ≡ false) × (planned e ≡ o)
    at true t k = absurd cc
    at false t k = (t, cc)

ill_read : (e : ℕ × List ℕ) (fault : PlanFault) → line_read e ≡ Err fault → (is_bad e ≡ true) × (fault ≡ Line e.0)
ill_read e fault h = at (is_bad e) refl h
  where
    at : (b : Bool) → is_bad e ≡ b → cond b (Err (Line e.0)) (Ok (planned e)) ≡ Err fault → (is_bad e ≡ true) × (fault ≡ Line e.0)
    at true t k = (t, cc)
    at false t k = absurd cc

abbrev with_line : List PlanLine → Option PlanLine → List PlanLine
with_line lines None = lines
with_line lines (Some line) = lines ++ line ∷ []

planned_more : (lines : List PlanLine) (o : Option PlanLine) (e : ℕ × List ℕ) (left : List (ℕ × List ℕ)) → planned e ≡ o → with_line lines o ++ filter_map planned left ≡ lines ++ filter_map planned (e ∷ left)
planned_more lines None e left is = sym (ap (λ p. lines ++ cons_option p (filter_map planned left)) is)
planned_more lines (Some line) e left is = append_assoc lines (line ∷ []) (filter_map planned left) ∙ sym (ap (λ p. lines ++ cons_option p (filter_map planned left)) is)

good_more : (e : ℕ × List ℕ) (left : List (ℕ × List ℕ)) → is_bad e ≡ false → find is_bad left ≡ find is_bad (e ∷ left)
good_more e left is = sym (cond-false (is_bad e) (Some e) (find is_bad left) is)

-- at first nothing is read
pub nothing_read : (text : List ℕ) → Left [] 0 text text
nothing_read text = record { lines = refl; bad = refl }

-- a line that orders nothing, and one that does
pub one_passed : (lines : List PlanLine) (number : ℕ) (line rest after text : List ℕ) → Left lines number rest text → lines_of rest ≡ line ∷ lines_of after → line_read (number + 1, line) ≡ Ok None → Left lines (number + 1) after text
one_passed lines number line rest after text left is read =
    let well = well_read (number + 1, line) None read in
    record {
      lines = planned_more lines None (number + 1, line) (enumerate_from (number + 1 + 1) (lines_of after)) well.1 ∙ (ap (λ ls. lines ++ filter_map planned (enumerate_from (number + 1) ls)) (sym is) ∙ left.lines);
      bad = good_more (number + 1, line) (enumerate_from (number + 1 + 1) (lines_of after)) well.0 ∙ (ap (λ ls. find is_bad (enumerate_from (number + 1) ls)) (sym is) ∙ left.bad);
    }

pub one_taken : (lines : List PlanLine) (number : ℕ) (line rest after text : List ℕ) (found : PlanLine) → Left lines number rest text → lines_of rest ≡ line ∷ lines_of after → line_read (number + 1, line) ≡ Ok (Some found) → Left (lines ++ found ∷ []) (number + 1) after text
one_taken lines number line rest after text found left is read =
    let well = well_read (number + 1, line) (Some found) read in
    record {
      lines = planned_more lines (Some found) (number + 1, line) (enumerate_from (number + 1 + 1) (lines_of after)) well.1 ∙ (ap (λ ls. lines ++ filter_map planned (enumerate_from (number + 1) ls)) (sym is) ∙ left.lines);
      bad = good_more (number + 1, line) (enumerate_from (number + 1 + 1) (lines_of after)) well.0 ∙ (ap (λ ls. find is_bad (enumerate_from (number + 1) ls)) (sym is) ∙ left.bad);
    }

-- a bad line is the first
pub one_bad : (lines : List PlanLine) (number : ℕ) (line rest after text : List ℕ) (fault : PlanFault) → Left lines number rest text → lines_of rest ≡ line ∷ lines_of after → line_read (number + 1, line) ≡ Err fault → plan_of text ≡ Err fault
one_bad lines number line rest after text fault left is read =
    let ill = ill_read (number + 1, line) fault read in
    let first = cond-true (is_bad (number + 1, line)) (Some (number + 1, line)) (find is_bad (enumerate_from (number + 1 + 1) (lines_of after))) ill.0 in
    let found = sym left.bad ∙ (ap (λ ls. find is_bad (enumerate_from (number + 1) ls)) is ∙ first) in
    ap (λ o. unless_bad o (filter_map planned (numbered_lines text))) found ∙ ap (λ f. Err f) (sym ill.1)

-- no line is bad
pub all_read : (lines : List PlanLine) (number : ℕ) (rest text : List ℕ) → Left lines number rest text → rest ≡ [] → plan_of text ≡ Ok lines
all_read lines number rest text left none =
    let found = sym left.bad ∙ ap (λ r. find is_bad (enumerate_from (number + 1) (lines_of r))) none in
    let all = sym left.lines ∙ (ap (λ r. lines ++ filter_map planned (enumerate_from (number + 1) (lines_of r))) none ∙ append-nil lines) in
    ap (λ o. unless_bad o (filter_map planned (numbered_lines text))) found ∙ ap (λ l. Ok l) all
