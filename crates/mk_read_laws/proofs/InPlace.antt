-- An include line may be replaced by the lines of its file.
use Rattle.std.proofs.Common.{◌≡◌, ◌<◌, ℕ, zero, suc, ◌+◌, Bool, true, false, not, cond, List, [], ◌∷◌, ◌++◌, length, map, filter, Option, None, Some, Result, Ok, Err, refl, sym, ap, ◌∙◌, append-nil, append_assoc}
use Rattle.std.specs.Prelude.{nat_le}
use Rattle.std.specs.List.{list_any}
use Rattle.std.proofs.lemmas.Bool.{lt-leb, or_parts, cond-false, not-true}
use Rattle.mk_lines.specs.Comments.{uncomment}
use Rattle.mk_lines.specs.Lines.{Line, logical_lines}
use Rattle.mk_lines.specs.declared.fault.LineFault.{LineFault}
use Rattle.mk_read.specs.declared.fault.KindFault.{KindFault}
use Rattle.mk_read.specs.declared.fault.Place.{Place}
use Rattle.mk_read.specs.declared.fault.ReadFault.{ReadFault}
use Rattle.mk_read.specs.declared.fault.ReadFault.TheVariants.{TooManyFiles, IncludeEmpty, ReadFailed}
use Rattle.mk_read.specs.Kinds.{Kind, kind_of}
use Rattle.mk_read.specs.Names.{is_empty}
use Rattle.mk_read.specs.PlaceLaws.{unplaced_rule, but_places, unnumbered, is_comment_line, is_include_line, includes_nothing, begins_without_command, said, NamesOneFile, StandAlone, IncludeLinesFailAsTheirLines}
use Rattle.mk_read.specs.Reading.{Reader, Deeper, Text, Makefile, makefile_of, counts, is_number, fails, found, one_file, files, plain_line, with_line, with_lines, with_text, reading}
use Rattle.mk_read.specs.Rules.{rule}
use Rattle.mk_read.specs.State.{RuleRead, State, rules_of, parted}
use Rattle.mk_read.specs.Steps.{◌>>=◌, in_file, of_kind}
use Rattle.mk_read_laws.proofs.Unplaced.{step_but_places, stripped, stripped_rules, stripped_parted, unnamed, line_stripped}
use Rattle.mk_read_laws.proofs.Parting.{same_after, in_a_row, blind_lines, with_both}

-- ---- lines without their numbers

unnumbered_begins : (lines : List Line) → begins_without_command (map unnumbered lines) ≡ begins_without_command lines
unfolding begins_without_command
unnumbered_begins [] = refl
unnumbered_begins (line ∷ lines) = ap (λ b. cond (is_comment_line line) b (not line.command)) (unnumbered_begins lines)

-- the texts forgotten
abbrev pub forgotten : List (List ℕ) → List (List ℕ)
forgotten texts = []

lines_stripped : (reader : Reader) (deeper others : Deeper) (text : Text) (lines : List Line) (state : State) → list_any is_include_line lines ≡ false
    → but_places (stripped forgotten) (with_lines reader deeper text lines state) ≡ with_lines reader others (unnamed text) (map unnumbered lines) (stripped forgotten state)
unfolding with_lines
lines_stripped reader deeper others text [] state none = refl
lines_stripped reader deeper others text (line ∷ lines) state none =
    let parts = or_parts (is_include_line line) (list_any is_include_line lines) none in
    step_but_places (stripped forgotten) (stripped forgotten) (with_line reader deeper text state line) _ _ _ (line_stripped forgotten reader reader deeper others text state line parts.0) (λ next. lines_stripped reader deeper others text lines next parts.1)

-- ---- what has been read

pub filter_stripped : (suffixes : List (List ℕ)) (rules : List RuleRead) → map unplaced_rule (filter (counts suffixes) rules) ≡ filter (counts suffixes) (map unplaced_rule rules)
filter_stripped suffixes [] = refl
filter_stripped suffixes (rule ∷ rules) = at (counts suffixes rule) (filter_stripped suffixes rules)
  where
    at : (b : Bool) → map unplaced_rule (filter (counts suffixes) rules) ≡ filter (counts suffixes) (map unplaced_rule rules)
        → map unplaced_rule (cond b (rule ∷ filter (counts suffixes) rules) (filter (counts suffixes) rules)) ≡ cond b (unplaced_rule rule ∷ filter (counts suffixes) (map unplaced_rule rules)) (filter (counts suffixes) (map unplaced_rule rules))
    at true e = ap (λ (l : List RuleRead). unplaced_rule rule ∷ l) e
    at false e = e

-- with these rule lines
abbrev with_rules : State → List RuleRead → Makefile
with_rules state rules = record { rules = rules; suffixes = state.suffixes; phony = state.phony; not_parallel = state.not_parallel; macros = state.table; texts = []; passed_over = state.missing }

pub said_stripped : (state : State) → said state ≡ makefile_of (stripped forgotten state)
said_stripped state = ap (with_rules state) (filter_stripped state.suffixes (rules_of state.read) ∙ ap (filter (counts state.suffixes)) (stripped_rules state.read))

abbrev pub made : State → Result Makefile ReadFault
made state = Ok (makefile_of state)

said_made : (r : Result State ReadFault) → but_places said r ≡ (but_places (stripped forgotten) r >>= made)
said_made (Ok state) = ap (λ (m : Makefile). Ok m) (said_stripped state)
said_made (Err fault) = refl

pub made_blind : (state : State) → made (parted state) ≡ made state
made_blind state = ap (λ (rules : List RuleRead). Ok (record (makefile_of state) { rules = filter (counts state.suffixes) rules })) (append-nil (rules_of state.read))

-- ---- the include line

-- how a text at this level is read
reading_is : (levels : ℕ) (reader : Reader) → (deeper : Deeper) × ((file bytes : List ℕ) (state : State) → reading levels reader file bytes state ≡ with_text reader deeper (record { file = file; default = false }) bytes state)
unfolding reading
reading_is zero reader = (None, λ file bytes state. refl)
reading_is (suc levels) reader = (Some (reading levels reader), λ file bytes state. refl)

-- and then parted
abbrev then_parted : State → Result State ReadFault
then_parted state = Ok (parted state)

no_more : (r : Result State ReadFault) (f : State → Result State ReadFault) → ((state : State) → f state ≡ Ok state) → (r >>= f) ≡ r
no_more (Ok state) f h = h state
no_more (Err fault) f h = refl

module _ (reader : Reader) (levels : ℕ) (text : Text) (line : Line) (name bytes : List ℕ) (lines : List Line) (never : reader.failing ≡ None) (there : reader.text name ≡ Some bytes) (good : logical_lines bytes ≡ Ok lines) where
  abbrev Deep : Deeper
  Deep = (reading_is levels reader).0

  -- the state in which the file is read
  abbrev opened : State → State
  opened state = record (parted state) { texts = state.texts ++ name ∷ [] }

  abbrev Own : Text
  Own = record { file = name; default = false }

  read_file : (state : State) → reading levels reader name bytes state ≡ with_lines reader Deep Own lines state
  read_file state = (reading_is levels reader).1 name bytes state ∙ ap (λ (r : Result (List Line) LineFault). in_file name r >>= λ lines. with_lines reader Deep Own lines state) good

  one_more : (place : Place) (optional : Bool) (state : State) → length state.texts < 1024
      → one_file reader (reading levels reader) place optional (parted state) name ≡ (with_lines reader Deep Own lines (opened state) >>= then_parted)
  unfolding one_file
  one_more place optional state few =
      let not_full : nat_le 1024 (length state.texts) ≡ false = lt-leb 1024 (length state.texts) few in
      let works : fails reader (parted state) ≡ false = ap (λ (o : Option ℕ). is_number o (suc (length state.texts + length state.missing))) never in
      cond-false (nat_le 1024 (length state.texts)) (Err (TooManyFiles place)) _ not_full
      ∙ (cond-false (fails reader (parted state)) (Err (ReadFailed (Some place) name)) _ works
      ∙ (ap (found (reading levels reader) place optional (parted state) name) there
      ∙ ap (λ (r : Result State ReadFault). r >>= then_parted) (read_file (opened state))))

  included : (state : State) → NamesOneFile reader text line name state → with_line reader (Some (reading levels reader)) text state line ≡ (with_lines reader Deep Own lines (opened state) >>= then_parted)
  unfolding with_line files
  included state names =
      let place : Place = record { file = text.file; line = line.first } in
      let read = reading levels reader in
      cond-false line.command _ (of_kind place (kind_of (uncomment line.text)) >>= plain_line reader (Some read) text.default place state) names.plain
      ∙ (ap (λ (k : Result Kind KindFault). of_kind place k >>= plain_line reader (Some read) text.default place state) names.kind
      ∙ (ap (λ (r : Result (List (List ℕ)) ReadFault). r >>= λ all. cond (is_empty all) (Err (IncludeEmpty place)) (files reader read place names.include.optional all (parted state))) names.one_name
      ∙ (no_more (one_file reader read place names.include.optional (parted state) name) (files reader read place names.include.optional []) (λ state. refl)
      ∙ one_more place names.include.optional state names.not_too_many)))

  -- lines without places, of a text that isn't the default text
  abbrev Bare : Text
  Bare = record { file = []; default = false }

  abbrev bare : List Line → State → Result State ReadFault
  bare list = with_lines reader None Bare (map unnumbered list)

  to_bare : (deeper : Deeper) (list : List Line) (state : State) → text.default ≡ false → includes_nothing list ≡ true → but_places (stripped forgotten) (with_lines reader deeper text list state) ≡ bare list (stripped forgotten state)
  to_bare deeper list state other none =
      lines_stripped reader deeper None text list state (not-true (list_any is_include_line list) none)
      ∙ ap (λ d. with_lines reader None (record { file = []; default = d }) (map unnumbered list) (stripped forgotten state)) other

  to_bare_own : (state : State) → includes_nothing lines ≡ true → but_places (stripped forgotten) (with_lines reader Deep Own lines (opened state) >>= then_parted) ≡ (bare lines (parted (stripped forgotten state)) >>= then_parted)
  to_bare_own state none =
      step_but_places (stripped forgotten) (stripped forgotten) (with_lines reader Deep Own lines (opened state)) _ _ _ (lines_stripped reader Deep None Own lines (opened state) (not-true (list_any is_include_line lines) none) ∙ ap (bare lines) (stripped_parted forgotten state))
      (λ next. ap (λ (s : State). Ok s) (stripped_parted forgotten next))

  -- lines that stand alone don't depend on what command lines belong to, where what follows doesn't
  -- either
  alone : {B : Type 0} (next : State → Result B ReadFault) → ((state : State) → next (parted state) ≡ next state) → (list : List Line) → StandAlone list → (state : State) → (bare list (parted state) >>= next) ≡ (bare list state >>= next)
  alone next blind list stands state =
      blind_lines reader None Bare next blind (map unnumbered list) state (unnumbered_begins list ∙ stands.beginning)

  in_place : (after : List Line) (state : State) → text.default ≡ false → NamesOneFile reader text line name state → StandAlone lines → StandAlone after
      → but_places said (with_line reader (Some (reading levels reader)) text state line >>= with_lines reader (Some (reading levels reader)) text after)
      ≡ but_places said (with_lines reader (Some (reading levels reader)) text lines state >>= with_lines reader (Some (reading levels reader)) text after)
  in_place after state other names first second =
      let deeper : Deeper = Some (reading levels reader) in
      let start : State = stripped forgotten state in
      let rest : State → Result State ReadFault = with_lines reader deeper text after in
      let end : State → Result Makefile ReadFault = λ s. bare after s >>= made in
      let blind : (s : State) → end (parted s) ≡ end s = alone made made_blind after second in
      let by_include : but_places (stripped forgotten) (with_line reader deeper text state line >>= rest) ≡ ((bare lines (parted start) >>= then_parted) >>= bare after) =
      ap (λ (r : Result State ReadFault). but_places (stripped forgotten) (r >>= rest)) (included state names)
      ∙ step_but_places (stripped forgotten) (stripped forgotten) (with_lines reader Deep Own lines (opened state) >>= then_parted) _ rest (bare after) (to_bare_own state first.including) (λ next. to_bare deeper after next other second.including) in
      let by_lines : but_places (stripped forgotten) (with_lines reader deeper text lines state >>= rest) ≡ (bare lines start >>= bare after) =
      step_but_places (stripped forgotten) (stripped forgotten) (with_lines reader deeper text lines state) _ rest (bare after) (to_bare deeper lines state other first.including) (λ next. to_bare deeper after next other second.including) in
      said_made (with_line reader deeper text state line >>= rest)
      ∙ (ap (λ (r : Result State ReadFault). r >>= made) by_include
      ∙ (in_a_row (bare lines (parted start) >>= then_parted) (bare after) made
      ∙ (in_a_row (bare lines (parted start)) then_parted end
      ∙ (same_after (bare lines (parted start)) (λ s. end (parted s)) end blind
      ∙ (alone end blind lines first start
      ∙ (sym (in_a_row (bare lines start) (bare after) made)
      ∙ (sym (ap (λ (r : Result State ReadFault). r >>= made) by_lines)
      ∙ sym (said_made (with_lines reader deeper text lines state >>= rest)))))))))

-- what stands before both
pub include_lines_fail_as_their_lines : IncludeLinesFailAsTheirLines
unfolding with_lines
include_lines_fail_as_their_lines reader levels text before lines after line name bytes start never other names there good first second =
    let deeper : Deeper = Some (reading levels reader) in
    ap (but_places said) (with_both reader deeper text before (line ∷ after) start)
    ∙ (at (with_lines reader deeper text before start) refl
    ∙ sym (ap (but_places said) (ap (λ (l : List Line). with_lines reader deeper text l start) (append_assoc before lines after) ∙ with_both reader deeper text before (lines ++ after) start)))
  where
    at : (r : Result State ReadFault) → with_lines reader (Some (reading levels reader)) text before start ≡ r
        → but_places said (r >>= with_lines reader (Some (reading levels reader)) text (line ∷ after)) ≡ but_places said (r >>= with_lines reader (Some (reading levels reader)) text (lines ++ after))
    at (Ok state) is = in_place reader levels text line name bytes lines never there good after state other (names state is) first second ∙ sym (ap (but_places said) (with_both reader (Some (reading levels reader)) text lines after state))
    at (Err fault) is = refl
