-- Lines of blanks or of a comment alone in a text.
use Rattle.std.proofs.Common.{◌≡◌, ℕ, Bool, true, false, not, cond, List, [], ◌∷◌, ◌++◌, length, map, filter, drop, Option, None, Some, Result, Ok, refl, sym, ap, ◌∙◌, inl, inr, ⊎_elim}
use Rattle.std.specs.Prelude.{◌&&◌, ◌||◌}
use Rattle.std.specs.List.{list_any, slice_split, onto_first}
use Rattle.std.proofs.lemmas.Bool.{cases_Bool, and_parts, or_parts, or_cases, both_ways, not-true, not_from_true}
use Rattle.std.specs.Str.{bytes_eq}
use Rattle.std.proofs.lemmas.Slice.Eq.{bytes_eq-Decides}
use Rattle.std.proofs.lemmas.List.{map-append}
use Rattle.std.proofs.lemmas.List.Elements.{filter-append}
use Rattle.std.proofs.lemmas.List.Splits.{slice_split-cons_yes, slice_split-cons_no}
use Rattle.mk_lines.specs.Bytes.{is_byte, is_blank_alone}
use Rattle.mk_lines.specs.Comments.{uncomment}
use Rattle.mk_lines.specs.declared.fault.LineFault.{LineFault}
use Rattle.mk_lines.specs.Laws.{LinesOfTwoTexts, renumbered}
use Rattle.mk_lines.specs.Lines.{Line, PieceRun, escapes, with_piece_in_front, runs, plain_text, command_text, is_command, number_runs, line_of, is_kept, runs_of, lines_of, unless, first_fault, logical_lines}
use Rattle.mk_read.specs.Kinds.{kind_of}
use Rattle.mk_read.specs.PlaceLaws.{is_comment_kind, is_comment_line, unnumbered, lines_said, text_said}
use Rattle.mk_read.specs.TextLaws.{EndsALine, SilentLinesSayNothing, SilentLinesChangeOnlyPlaces}
use Rattle.mk_read_laws.proofs.SameLines.{comments_and_numbers_change_only_places}

-- what lines say
abbrev told : List Line → List Line
told lines = map unnumbered (filter (λ (line : Line). not (is_comment_line line)) lines)

told_both : (lines others : List Line) → told (lines ++ others) ≡ told lines ++ told others
told_both lines others = ap (map unnumbered) (filter-append (λ (line : Line). not (is_comment_line line)) lines others) ∙ map-append unnumbered (filter (λ (line : Line). not (is_comment_line line)) lines) (filter (λ (line : Line). not (is_comment_line line)) others)

told_moved : (by : ℕ) (lines : List Line) → told (map (renumbered by) lines) ≡ told lines
told_moved by [] = refl
told_moved by (line ∷ lines) = at (not (is_comment_line line)) (told_moved by lines)
  where
    at : (b : Bool) → told (map (renumbered by) lines) ≡ told lines
        → map unnumbered (cond b (renumbered by line ∷ filter (λ (line : Line). not (is_comment_line line)) (map (renumbered by) lines)) (filter (λ (line : Line). not (is_comment_line line)) (map (renumbered by) lines)))
        ≡ map unnumbered (cond b (line ∷ filter (λ (line : Line). not (is_comment_line line)) lines) (filter (λ (line : Line). not (is_comment_line line)) lines))
    at true e = ap (λ (l : List Line). unnumbered line ∷ l) e
    at false e = e

-- a text behind one that ends a line
told_behind : LinesOfTwoTexts → (front other : List ℕ) → EndsALine front → told (lines_of (front ++ other)) ≡ told (lines_of front) ++ told (lines_of other)
unfolding runs_of runs number_runs plain_text
told_behind two front other (inl none) = ap (λ (f : List ℕ). told (lines_of (f ++ other))) none ∙ sym (ap (λ (f : List ℕ). told (lines_of f) ++ told (lines_of other)) none)
told_behind two front other (inr ends) =
    ap (λ (f : List ℕ). told (lines_of (f ++ other))) ends.1
    ∙ (ap told (two ends.0 other ends.2)
    ∙ (told_both (lines_of (ends.0 ++ 10 ∷ [])) (map (renumbered (length (slice_split (is_byte 10) ends.0))) (lines_of other))
    ∙ (ap (λ (l : List Line). told (lines_of (ends.0 ++ 10 ∷ [])) ++ l) (told_moved (length (slice_split (is_byte 10) ends.0)) (lines_of other))
    ∙ sym (ap (λ (f : List ℕ). told (lines_of f) ++ told (lines_of other)) ends.1))))

-- ---- one line

cut_once : (line : List ℕ) → list_any (is_byte 10) line ≡ false → slice_split (is_byte 10) (line ++ 10 ∷ []) ≡ line ∷ [] ∷ []
cut_once [] none = slice_split-cons_yes (is_byte 10) 10 [] refl
cut_once (b ∷ line) none =
    let parts = or_parts (is_byte 10 b) (list_any (is_byte 10) line) none in
    slice_split-cons_no (is_byte 10) b (line ++ 10 ∷ []) parts.0 ∙ ap (onto_first b) (cut_once line parts.1)

-- the first run of a text of one line
abbrev alone : List ℕ → PieceRun
alone line = record { first = 1; pieces = line ∷ [] }

lines_of_one : (line : List ℕ) → list_any (is_byte 10) line ≡ false → escapes line ≡ false → lines_of (line ++ 10 ∷ []) ≡ map line_of (cond (is_kept (alone line)) (alone line ∷ []) [])
unfolding runs_of runs number_runs plain_text command_text
lines_of_one line none ends =
    ap (λ (pieces : List (List ℕ)). map line_of (filter is_kept (number_runs 1 (runs pieces)))) (cut_once line none)
    ∙ ap (λ b. map line_of (filter is_kept (number_runs 1 (cond b (with_piece_in_front line (([] ∷ []) ∷ [])) ((line ∷ []) ∷ ([] ∷ []) ∷ []))))) ends

-- without the first byte a text of blanks is one
fewer_blanks : (line : List ℕ) → is_blank_alone line ≡ true → is_blank_alone (drop 1 line) ≡ true
fewer_blanks [] blank = refl
fewer_blanks (b ∷ line) blank = (and_parts _ (is_blank_alone line) blank).1

dropped : (b : Bool) (l : Line) → is_blank_alone l.text ≡ b → (b ≡ false → is_comment_line l ≡ true) → told (cond (not b) (l ∷ []) []) ≡ []
dropped true l is comment = refl
dropped false l is comment = ap (λ c. map unnumbered (cond (not c) (l ∷ []) [])) (comment refl)

through : (b : Bool) (run : PieceRun) → map line_of (cond b (run ∷ []) []) ≡ cond b (line_of run ∷ []) []
through true run = refl
through false run = refl

module _ (line : List ℕ) (silent : (is_blank_alone line || (not (is_command line) && is_comment_kind (kind_of (uncomment line)))) ≡ true) where
  -- the line, by whether it is a command line
  abbrev one : Bool → Line
  one b = cond b (record { first = 1; command = true; text = drop 1 line }) (record { first = 1; command = false; text = line })

  by_command : (b : Bool) → is_command line ≡ b → told (cond (not (is_blank_alone (one b).text)) (one b ∷ []) []) ≡ []
  by_command true is =
      dropped (is_blank_alone (drop 1 line)) (one true) refl (λ some. absurd (both_ways (is_blank_alone (drop 1 line)) some (fewer_blanks line
      (⊎_elim (λ blank. blank) (λ comment. absurd (both_ways (not (is_command line)) (not_from_true (is_command line) is) ((and_parts (not (is_command line)) (is_comment_kind (kind_of (uncomment line))) comment).0)))
      (or_cases (is_blank_alone line) (not (is_command line) && is_comment_kind (kind_of (uncomment line))) silent)))))
  by_command false is =
      dropped (is_blank_alone line) (one false) refl (λ some.
      ⊎_elim (λ blank. absurd (both_ways (is_blank_alone line) some blank)) (λ comment. (and_parts (not (is_command line)) (is_comment_kind (kind_of (uncomment line))) comment).1)
      (or_cases (is_blank_alone line) (not (is_command line) && is_comment_kind (kind_of (uncomment line))) silent))

  silent_alone : told (map line_of (cond (is_kept (alone line)) (alone line ∷ []) [])) ≡ []
  unfolding plain_text command_text
  silent_alone = ap told (through (is_kept (alone line)) (alone line)) ∙ by_command (is_command line) refl

-- ---- a line in a text

-- the lines of a text without fault
lines_are : (text : List ℕ) (lines : List Line) → logical_lines text ≡ Ok lines → lines_of text ≡ lines
unfolding logical_lines
lines_are text lines e = at (first_fault 0 (lines_of text)) e
  where
    at : (o : Option LineFault) → unless o (lines_of text) ≡ Ok lines → lines_of text ≡ lines
    at None e = cc
    at (Some fault) e = absurd cc

pub silent_lines_say_nothing : LinesOfTwoTexts → SilentLinesSayNothing
silent_lines_say_nothing two front line other without having ends silent e h =
    let parts = and_parts (not (list_any (is_byte 10) line)) (not (escapes line) && (is_blank_alone line || (not (is_command line) && is_comment_kind (kind_of (uncomment line))))) silent in
    let more = and_parts (not (escapes line)) (is_blank_alone line || (not (is_command line) && is_comment_kind (kind_of (uncomment line)))) parts.1 in
    let stays : escapes line ≡ false = not-true (escapes line) more.0 in
    let nothing : told (lines_of (line ++ 10 ∷ [])) ≡ [] = ap told (lines_of_one line (not-true (list_any (is_byte 10) line) parts.0) stays) ∙ silent_alone line more.1 in
    let inner : told (lines_of ((line ++ 10 ∷ []) ++ other)) ≡ told (lines_of other) = told_behind two (line ++ 10 ∷ []) other (inr (line, refl, stays)) ∙ ap (λ (l : List Line). l ++ told (lines_of other)) nothing in
    let both : told (lines_of (front ++ ((line ++ 10 ∷ []) ++ other))) ≡ told (lines_of (front ++ other)) =
    told_behind two front ((line ++ 10 ∷ []) ++ other) ends ∙ (ap (λ (l : List Line). told (lines_of front) ++ l) inner ∙ sym (told_behind two front other ends)) in
    ap (λ (r : Result (List Line) LineFault). Some (lines_said r)) h
    ∙ (ap (λ (l : List Line). Some (Ok l)) (sym (ap told (lines_are (front ++ ((line ++ 10 ∷ []) ++ other)) having h)) ∙ (both ∙ ap told (lines_are (front ++ other) without e)))
    ∙ sym (ap (λ (r : Result (List Line) LineFault). Some (lines_said r)) e))

-- all texts say the same
pub silent_lines_change_only_places : LinesOfTwoTexts → SilentLinesChangeOnlyPlaces
silent_lines_change_only_places two reader other file defaults operands changed front line rest without having failing same there here ends silent e h =
    comments_and_numbers_change_only_places reader other file defaults operands failing (λ name.
    elim (cases_Bool (bytes_eq name changed)) [
      | inl t ↦
          let is : name ≡ changed = (bytes_eq-Decides name changed).0 t in
          ap (λ (n : List ℕ). text_said (reader.text n)) is
          ∙ (ap text_said there ∙ (silent_lines_say_nothing two front line rest without having ends silent e h ∙ (sym (ap text_said here) ∙ sym (ap (λ (n : List ℕ). text_said (other.text n)) is))))
      | inr f ↦ ap text_said (same name f)
    ])
