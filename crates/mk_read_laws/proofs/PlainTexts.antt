-- The names of texts are plain paths.
use Rattle.std.proofs.Common.{◌≡◌, ℕ, zero, suc, Bool, true, false, cond, not, List, [], ◌∷◌, ◌++◌, codes, length, Option, None, Some, Result, Ok, Err, refl, subst, ◌∙◌}
use Rattle.std.specs.Prelude.{◌||◌, nat_le, nat_lt, ◌==◌}
use Rattle.std.specs.List.{list_all, list_any}
use Rattle.std.specs.Str.{bytes_eq, is_utf8}
use Rattle.std.proofs.lemmas.Bool.{and_parts, and_from}
use Rattle.std.proofs.lemmas.List.Folds.{list_all-append}
use Rattle.std.proofs.lemmas.Str.{IsUtf8-from_ascii, is_utf8-from_IsUtf8}
use Rattle.mk_lemmas.proofs.Texts.{IsAscii-from_list_all}
use Rattle.mk_lines.specs.Comments.{uncomment}
use Rattle.mk_lines.specs.Lines.{Line, logical_lines}
use Rattle.mk_lines.specs.Paths.{has_path_shape, is_plain_path}
use Rattle.mk_macros.specs.Definitions.{defined, without_blanks}
use Rattle.mk_macros.specs.Expansion.{expansion}
use Rattle.mk_read.specs.declared.fault.Place.{Place}
use Rattle.mk_read.specs.declared.fault.ReadFault.{ReadFault}
use Rattle.mk_read.specs.declared.fault.ReadFault.TheVariants.{BadMakefileName, IncludeEmpty, NoMakefile}
use Rattle.mk_read.specs.declared.special.Special.{Special}
use Rattle.mk_read.specs.declared.special.Special.TheVariants.{Suffixes, Phony, NotParallel, Wordless, Unread}
use Rattle.mk_read.specs.Kinds.{Kind, IncludeLine, AssignmentLine, RuleLine, Comment, Include, Assignment, Rule, kind_of}
use Rattle.mk_read.specs.Names.{has_name, is_empty, is_make_name, is_reserved, names_in}
use Rattle.mk_read.specs.Reading.{Reader, Makefile, Text, Deeper, max_levels, max_texts, named, fails, found, one_file, files, include, plain_line, with_line, with_lines, with_text, reading, default_text, after_default, text_or, own_text, from_named}
use Rattle.mk_read.specs.RuleLaws.{TextsArePlain}
use Rattle.mk_read.specs.Rules.{command_line, assignment, has_some, special_words, special_rule, new_rule, by_special, by_names, rule}
use Rattle.mk_read.specs.Special.{is_suffix, is_unknown_special, special_among}
use Rattle.mk_read.specs.State.{SpecialTarget, State, nothing_read, owned, parted}
use Rattle.mk_read.specs.Steps.{◌>>=◌, at_place, in_file, of_kind}
use Rattle.mk_read_laws.proofs.Kept.{Holds, holds_step, holds_then, holds_if}
use Rattle.mk_read_laws.proofs.OneLine.{parts_of}
use Rattle.mk_read_laws.proofs.WellNamed.{names_in_good}

abbrev ArePlain : List (List ℕ) → Type 0
ArePlain names = list_all is_plain_path names ≡ true

-- the texts of a state have plain paths for names
abbrev HasPlain : State → Type 0
HasPlain state = ArePlain state.texts

make_names_plain : (names : List (List ℕ)) → list_all is_make_name names ≡ true → ArePlain names
unfolding is_make_name
make_names_plain [] h = refl
make_names_plain (name ∷ names) h =
    let p = and_parts (is_make_name name) (list_all is_make_name names) h in
    and_from (is_plain_path name) (list_all is_plain_path names) (and_parts (is_plain_path name) (not (list_any is_reserved name)) p.0).0 (make_names_plain names p.1)

one_more : (names : List (List ℕ)) (name : List ℕ) → ArePlain names → is_plain_path name ≡ true → ArePlain (names ++ name ∷ [])
one_more names name all plain = list_all-append is_plain_path names (name ∷ []) ∙ and_from (list_all is_plain_path names) (list_all is_plain_path (name ∷ [])) all (and_from (is_plain_path name) true plain refl)

word_plain : (w : List ℕ) → list_all (λ b. nat_lt b 128) w ≡ true → has_path_shape w ≡ true → is_plain_path w ≡ true
unfolding is_plain_path
word_plain w ascii shape = and_from (has_path_shape w) (is_utf8 w) shape (is_utf8-from_IsUtf8 w (IsUtf8-from_ascii w (IsAscii-from_list_all w ascii)))

-- ---- lines that read no text

by_words : (place : Place) (state : State) (words : List (List ℕ)) (special : Special) → HasPlain state → Holds HasPlain (special_words place state words special)
by_words place state words Suffixes plain = holds_if HasPlain (list_all is_suffix words) _ _ plain tt
by_words place state words Phony plain = plain
by_words place state words NotParallel plain = holds_if HasPlain (is_empty words) _ _ plain tt
by_words place state words Wordless plain = holds_if HasPlain (is_empty words) _ _ plain tt
by_words place state words Unread plain = plain

by_kind : (default : Bool) (place : Place) (state : State) (targets words : List (List ℕ)) (command : Option (List ℕ)) (special : Option Special) → HasPlain state → Holds HasPlain (by_special default place state targets words command special)
unfolding special_rule
by_kind default place state targets words command (Some special) plain =
    holds_if HasPlain (not (length targets == 1) || (has_some command || has_name words (codes ".WAIT"))) _ _ tt (by_words place (record state { read = owned SpecialTarget state.read }) words special plain)
by_kind default place state targets words command None plain = holds_step HasPlain (new_rule _ state.read) _ (λ read. plain)

by_rule : (default : Bool) (place : Place) (state : State) (line : RuleLine) → HasPlain state → Holds HasPlain (rule default place state line)
unfolding rule by_names
by_rule default place state line plain =
    holds_step HasPlain (names_in place state.table line.targets) _ (λ targets. holds_if HasPlain (is_empty targets) _ _ plain
    (holds_step HasPlain (names_in place state.table line.words) _ (λ words. holds_if HasPlain (list_any is_unknown_special targets) _ _ tt (by_kind default place state targets words line.command (special_among targets) plain))))

by_assignment : (place : Place) (state : State) (line : AssignmentLine) → HasPlain state → Holds HasPlain (assignment place state line)
unfolding assignment
by_assignment place state line plain =
    holds_step HasPlain (at_place place (expansion state.table None line.name)) _ (λ name. holds_step HasPlain (at_place place (defined state.table (without_blanks name.text) line.op line.value)) _ (λ table. plain))

-- ---- texts

module _ (reader : Reader) where
  abbrev Keeps : (List ℕ → List ℕ → State → Result State ReadFault) → Type 0
  Keeps read = (name bytes : List ℕ) (state : State) → HasPlain state → Holds HasPlain (read name bytes state)

  abbrev KeepsDeeper : Deeper → Type 0
  KeepsDeeper None = Unit {0}
  KeepsDeeper (Some read) = Keeps read

  by_found : (read : List ℕ → List ℕ → State → Result State ReadFault) → Keeps read → (place : Place) (optional : Bool) (state : State) (name : List ℕ) (text : Option (List ℕ)) → is_plain_path name ≡ true → HasPlain state → Holds HasPlain (found read place optional state name text)
  by_found read keeps place true state name None named plain = plain
  by_found read keeps place false state name None named plain = tt
  by_found read keeps place optional state name (Some text) named plain =
      holds_then HasPlain (read name text (record state { texts = state.texts ++ name ∷ [] })) (λ after. Ok (parted after)) (keeps name text _ (one_more state.texts name plain named)) (λ after kept. kept)

  by_file : (read : List ℕ → List ℕ → State → Result State ReadFault) → Keeps read → (place : Place) (optional : Bool) (state : State) (name : List ℕ) → is_plain_path name ≡ true → HasPlain state → Holds HasPlain (one_file reader read place optional state name)
  unfolding one_file
  by_file read keeps place optional state name named plain =
      holds_if HasPlain (nat_le max_texts (length state.texts)) _ _ tt (holds_if HasPlain (fails reader state) _ _ tt (by_found read keeps place optional state name (reader.text name) named plain))

  by_files : (read : List ℕ → List ℕ → State → Result State ReadFault) → Keeps read → (place : Place) (optional : Bool) (names : List (List ℕ)) (state : State) → ArePlain names → HasPlain state → Holds HasPlain (files reader read place optional names state)
  unfolding files
  by_files read keeps place optional [] state named plain = plain
  by_files read keeps place optional (name ∷ names) state named plain =
      let p = and_parts (is_plain_path name) (list_all is_plain_path names) named in
      holds_then HasPlain (one_file reader read place optional state name) _ (by_file read keeps place optional state name p.0 plain) (λ after kept. by_files read keeps place optional names after p.1 kept)

  by_include : (deeper : Deeper) → KeepsDeeper deeper → (place : Place) (state : State) (line : IncludeLine) → HasPlain state → Holds HasPlain (include reader deeper place state line)
  by_include None keeps place state line plain = tt
  by_include (Some read) keeps place state line plain = at (names_in place state.table line.names) (λ names e. make_names_plain names (names_in_good place state.table line.names names e))
    where
      at : (r : Result (List (List ℕ)) ReadFault) → ((names : List (List ℕ)) → r ≡ Ok names → ArePlain names)
          → Holds HasPlain (r >>= λ names. cond (is_empty names) (Err (IncludeEmpty place)) (files reader read place line.optional names (parted state)))
      at (Ok names) named = holds_if HasPlain (is_empty names) _ _ tt (by_files read keeps place line.optional names (parted state) (named names refl) plain)
      at (Err fault) named = tt

  by_plain : (deeper : Deeper) → KeepsDeeper deeper → (default : Bool) (place : Place) (state : State) (line : Kind) → HasPlain state → Holds HasPlain (plain_line reader deeper default place state line)
  by_plain deeper keeps default place state Comment plain = plain
  by_plain deeper keeps default place state (Include line) plain = by_include deeper keeps place state line plain
  by_plain deeper keeps default place state (Assignment line) plain = by_assignment place state line plain
  by_plain deeper keeps default place state (Rule line) plain = by_rule default place state line plain

  by_line : (deeper : Deeper) → KeepsDeeper deeper → (text : Text) (state : State) (line : Line) → HasPlain state → Holds HasPlain (with_line reader deeper text state line)
  unfolding with_line
  by_line deeper keeps text state line plain =
      holds_if HasPlain line.command _ _ (holds_step HasPlain (command_line _ line.text state.read.earlier state.read.owner) _ (λ read. plain))
      (holds_step HasPlain (of_kind _ (kind_of (uncomment line.text))) _ (λ kind. by_plain deeper keeps text.default _ state kind plain))

  by_lines : (deeper : Deeper) → KeepsDeeper deeper → (text : Text) (lines : List Line) (state : State) → HasPlain state → Holds HasPlain (with_lines reader deeper text lines state)
  unfolding with_lines
  by_lines deeper keeps text [] state plain = plain
  by_lines deeper keeps text (line ∷ lines) state plain = holds_then HasPlain (with_line reader deeper text state line) _ (by_line deeper keeps text state line plain) (by_lines deeper keeps text lines)

  by_text : (deeper : Deeper) → KeepsDeeper deeper → (text : Text) (bytes : List ℕ) (state : State) → HasPlain state → Holds HasPlain (with_text reader deeper text bytes state)
  by_text deeper keeps text bytes state plain = holds_step HasPlain (in_file text.file (logical_lines bytes)) _ (λ lines. by_lines deeper keeps text lines state plain)

  by_reading : (levels : ℕ) → Keeps (reading levels reader)
  unfolding reading
  by_reading zero name bytes state plain = by_text None tt _ bytes state plain
  by_reading (suc levels) name bytes state plain = by_text (Some (reading levels reader)) (by_reading levels) _ bytes state plain

  by_default : (defaults : Bool) → Holds HasPlain (after_default reader defaults)
  unfolding after_default
  by_default true = by_text None tt _ default_text nothing_read refl
  by_default false = refl

  by_own : (state : State) (name : List ℕ) (other : Result State ReadFault) → is_plain_path name ≡ true → Holds HasPlain other → Holds HasPlain (own_text reader state name other)
  unfolding own_text
  by_own state name other named rest = holds_if HasPlain (fails reader state) _ _ tt (at (reader.text name))
    where
      at : (text : Option (List ℕ)) → Holds HasPlain (text_or reader state name other text)
      at None = rest
      at (Some bytes) = by_reading max_levels name bytes _ (and_from (is_plain_path name) true named refl)

  -- the makefile's name, where it is given, is a plain path
  abbrev IsNamed : Option (List ℕ) → Type 0
  IsNamed None = Unit {0}
  IsNamed (Some name) = is_plain_path name ≡ true

  by_named : (state : State) (file : Option (List ℕ)) → IsNamed file → Holds HasPlain (from_named reader state file)
  unfolding from_named
  by_named state (Some name) is = by_own state name (Err (NoMakefile (Some name))) is tt
  by_named state None is = by_own state (codes "makefile") _ (word_plain (codes "makefile") refl refl) (by_own (record state { missing = codes "makefile" ∷ [] }) (codes "Makefile") (Err (NoMakefile None)) (word_plain (codes "Makefile") refl refl) tt)

  is_named : (file chosen : Option (List ℕ)) → named file ≡ Ok chosen → IsNamed chosen
  is_named None chosen e = let same : None ≡ chosen = cc in subst IsNamed same tt
  is_named (Some name) chosen e = at (is_plain_path name) (bytes_eq name (codes "-")) refl e
    where
      at : (a b : Bool) → is_plain_path name ≡ a → cond (not a || b) (Err (BadMakefileName name)) (Ok (Some name)) ≡ Ok chosen → IsNamed chosen
      at true false is made = let same : Some name ≡ chosen = cc in subst IsNamed same is
      at true true is made = absurd cc
      at false b is made = absurd cc

pub texts_are_plain : TextsArePlain
texts_are_plain reader file defaults operands m e =
    let parts = parts_of reader file defaults operands m e in
    let last : HasPlain parts.state = subst (Holds HasPlain) parts.reads (by_named reader (record parts.start { table = parts.table }) parts.chosen (is_named reader file parts.chosen parts.named_as)) in
    subst (λ (m : Makefile). ArePlain m.texts) parts.is last
