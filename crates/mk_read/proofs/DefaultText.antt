-- The reading of the default text.
use Rattle.std.proofs.Common.{◌≡◌, ℕ, zero, suc, Bool, true, false, not, cond, List, [], ◌∷◌, codes, None, Result, Ok, Err, refl, ap, ◌∙◌}
use Rattle.std.specs.Prelude.{◌&&◌, nat_lt}
use Rattle.std.specs.List.{list_any, list_all}
use Rattle.std.specs.Str.{IsAscii, is_utf8}
use Rattle.std.proofs.lemmas.Bool.{and_parts, and_from, ltb-true, not-true, cond-true, cond-false}
use Rattle.std.proofs.lemmas.Str.{IsUtf8-from_ascii, is_utf8-from_IsUtf8}
use Rattle.std.proofs.lemmas.Str.Ascii.{IsAscii-nil}
use Rattle.mk_lines.specs.Comments.{comment_from, unescaped, uncomment}
use Rattle.mk_lines.specs.Lines.{Line, logical_lines, runs, plain_text, command_text, number_runs, runs_of, first_fault}
use Rattle.mk_lines.specs.Paths.{has_path_shape, is_plain_path}
use Rattle.mk_lines.specs.References.{first_from}
use Rattle.mk_lines.specs.RuleLines.{is_rule_line}
use Rattle.mk_macros.specs.Definitions.{defined}
use Rattle.mk_macros.specs.Expansion.{in_order, expanded}
use Rattle.mk_macros.specs.Forms.{some_forms}
use Rattle.mk_macros.specs.Table.{with_macro}
use Rattle.mk_read.specs.declared.fault.Place.{Place}
use Rattle.mk_read.specs.declared.fault.ReadFault.{ReadFault}
use Rattle.mk_read.specs.declared.fault.ReadFault.TheVariants.{ArchiveMember, BadName}
use Rattle.mk_read.specs.DefaultLaws.{default_command, default_rule, default_state, DefaultTextSaysThis}
use Rattle.mk_read.specs.Kinds.{RuleLine, kind_of}
use Rattle.mk_read.specs.Names.{is_reserved, is_make_name, is_bracket, name_of, names_of}
use Rattle.mk_read.specs.Reading.{Reader, Text, after_default, with_line, with_lines}
use Rattle.mk_read.specs.Rules.{command_line, assignment, special_rule, new_rule, by_targets, by_names, rule}
use Rattle.mk_read.specs.Special.{special_among}
use Rattle.mk_read.specs.State.{RuleRead, Owner, Nobody, Last, State, nothing_read}
use Rattle.mk_read.specs.Steps.{◌>>=◌}

-- ---- names of ASCII

abbrev is_ascii : ℕ → Bool
is_ascii b = nat_lt b 128

ascii : (name : List ℕ) → list_all is_ascii name ≡ true → IsAscii name
ascii [] all i = IsAscii-nil i
ascii (b ∷ name) all zero = ltb-true b 128 (and_parts (is_ascii b) (list_all is_ascii name) all).0
ascii (b ∷ name) all (suc i) = ascii name (and_parts (is_ascii b) (list_all is_ascii name) all).1 i

-- a make name of ASCII
abbrev is_plain_name : List ℕ → Bool
is_plain_name name = list_all is_ascii name && (has_path_shape name && (not (list_any is_reserved name) && not (list_any is_bracket name)))

name_stays : (place : Place) (name : List ℕ) → is_plain_name name ≡ true → name_of place name ≡ Ok name
unfolding name_of is_make_name is_plain_path
name_stays place name plain =
    let one = and_parts (list_all is_ascii name) (has_path_shape name && (not (list_any is_reserved name) && not (list_any is_bracket name))) plain in
    let two = and_parts (has_path_shape name) (not (list_any is_reserved name) && not (list_any is_bracket name)) one.1 in
    let three = and_parts (not (list_any is_reserved name)) (not (list_any is_bracket name)) two.1 in
    let utf8 : is_utf8 name ≡ true = is_utf8-from_IsUtf8 name (IsUtf8-from_ascii name (ascii name one.0)) in
    cond-false (list_any is_bracket name) (Err (ArchiveMember place name)) (cond (is_make_name name) (Ok name) (Err (BadName place name))) (not-true (list_any is_bracket name) three.1)
    ∙ cond-true (is_make_name name) (Ok name) (Err (BadName place name)) (and_from (has_path_shape name && is_utf8 name) (not (list_any is_reserved name)) (and_from (has_path_shape name) (is_utf8 name) two.0 utf8) three.0)

names_stay : (place : Place) (names : List (List ℕ)) → list_all is_plain_name names ≡ true → names_of place names ≡ Ok names
unfolding names_of
names_stay place [] plain = refl
names_stay place (name ∷ names) plain =
    let parts = and_parts (is_plain_name name) (list_all is_plain_name names) plain in
    ap (λ (r : Result (List ℕ) ReadFault). r >>= λ name. names_of place names >>= λ names. Ok (name ∷ names)) (name_stays place name parts.0) ∙ ap (λ (r : Result (List (List ℕ)) ReadFault). r >>= λ names. Ok (name ∷ names)) (names_stay place names parts.1)

-- ---- the lines

abbrev plain_at : ℕ → List ℕ → Line
plain_at number text = record { first = number; command = false; text = text }

abbrev command_at : ℕ → List ℕ → Line
command_at number text = record { first = number; command = true; text = text }

abbrev behind_11 : List Line
behind_11 = command_at 12 (codes "$(CC) $(CFLAGS) -c $<") ∷ []

abbrev behind_8 : List Line
behind_8 = command_at 9 (codes "cp $< $@") ∷ command_at 10 (codes "chmod a+x $@") ∷ plain_at 11 (codes ".c.o:") ∷ behind_11

abbrev behind_6 : List Line
behind_6 = command_at 7 (codes "$(CC) $(CFLAGS) $(LDFLAGS) -o $@ $<") ∷ plain_at 8 (codes ".sh:") ∷ behind_8

abbrev behind_1 : List Line
behind_1 = plain_at 2 (codes "MAKE = make") ∷ plain_at 3 (codes "CC = c17") ∷ plain_at 4 (codes "CFLAGS = -O1") ∷ plain_at 5 (codes "LDFLAGS =") ∷ plain_at 6 (codes ".c:") ∷ behind_6

abbrev place_at : ℕ → Place
place_at number = record { file = codes "(default)"; line = number }

abbrev text : Text
text = record { file = codes "(default)"; default = true }

abbrev targets_alone : List ℕ → RuleLine
targets_alone targets = record { targets = targets; words = []; command = None }

-- the state with these rule lines
abbrev so_far : List RuleRead → Owner → State
so_far earlier owner = record default_state { read = record { earlier = earlier; owner = owner } }

-- each rule line by its names, and the lines behind it
module _ (reader : Reader) where
  abbrev on : List Line → State → Result State ReadFault
  on lines = with_lines reader None text lines

  abbrev with_targets : ℕ → State → RuleLine → List Line → Result (List (List ℕ)) ReadFault → Result State ReadFault
  with_targets number state line lines names = (names >>= by_targets true (place_at number) state line) >>= on lines

  abbrev suffixes_line : RuleLine
  suffixes_line = record { targets = codes ".SUFFIXES"; words = codes " .o .c .sh"; command = None }

  abbrev with_words : Result (List (List ℕ)) ReadFault → Result State ReadFault
  with_words names = (names >>= by_names true (place_at 1) nothing_read (codes ".SUFFIXES" ∷ []) None) >>= on behind_1

  first_line : after_default reader true ≡ with_targets 1 nothing_read suffixes_line behind_1 (names_of (place_at 1) (codes ".SUFFIXES" ∷ []))
  unfolding logical_lines runs plain_text command_text number_runs runs_of first_fault comment_from unescaped uncomment first_from is_rule_line in_order expanded some_forms kind_of after_default with_line with_lines rule
  first_line = refl

  its_words : with_targets 1 nothing_read suffixes_line behind_1 (Ok (codes ".SUFFIXES" ∷ [])) ≡ with_words (names_of (place_at 1) (codes ".o" ∷ codes ".c" ∷ codes ".sh" ∷ []))
  unfolding in_order expanded some_forms
  its_words = refl

  sixth_line : with_words (Ok (codes ".o" ∷ codes ".c" ∷ codes ".sh" ∷ [])) ≡ with_targets 6 (so_far [] Nobody) (targets_alone (codes ".c")) behind_6 (names_of (place_at 6) (codes ".c" ∷ []))
  unfolding by_names special_among special_rule comment_from unescaped uncomment first_from is_rule_line in_order expanded some_forms kind_of with_line with_lines rule assignment defined with_macro
  sixth_line = refl

  -- the first two rule lines with their commands
  abbrev first_rule : RuleRead
  first_rule = default_rule 6 (codes ".c") (default_command 7 (codes "$(CC) $(CFLAGS) $(LDFLAGS) -o $@ $<") ∷ [])

  abbrev second_rule : RuleRead
  second_rule = default_rule 8 (codes ".sh") (default_command 9 (codes "cp $< $@") ∷ default_command 10 (codes "chmod a+x $@") ∷ [])

  eighth_line : with_targets 6 (so_far [] Nobody) (targets_alone (codes ".c")) behind_6 (Ok (codes ".c" ∷ [])) ≡ with_targets 8 (so_far [] (Last first_rule)) (targets_alone (codes ".sh")) behind_8 (names_of (place_at 8) (codes ".sh" ∷ []))
  unfolding by_names special_among new_rule command_line comment_from unescaped uncomment first_from is_rule_line in_order expanded some_forms names_of kind_of with_line with_lines rule
  eighth_line = refl

  eleventh_line : with_targets 8 (so_far [] (Last first_rule)) (targets_alone (codes ".sh")) behind_8 (Ok (codes ".sh" ∷ [])) ≡ with_targets 11 (so_far (first_rule ∷ []) (Last second_rule)) (targets_alone (codes ".c.o")) behind_11 (names_of (place_at 11) (codes ".c.o" ∷ []))
  unfolding by_names special_among new_rule command_line comment_from unescaped uncomment first_from is_rule_line in_order expanded some_forms names_of kind_of with_line with_lines rule
  eleventh_line = refl

  end : with_targets 11 (so_far (first_rule ∷ []) (Last second_rule)) (targets_alone (codes ".c.o")) behind_11 (Ok (codes ".c.o" ∷ [])) ≡ Ok default_state
  unfolding by_names special_among new_rule command_line in_order expanded some_forms names_of with_line with_lines
  end = refl

pub default_text_says_this : DefaultTextSaysThis
default_text_says_this reader =
    first_line reader
    ∙ (ap (with_targets reader 1 nothing_read (suffixes_line reader) behind_1) (names_stay (place_at 1) (codes ".SUFFIXES" ∷ []) refl)
    ∙ (its_words reader
    ∙ (ap (with_words reader) (names_stay (place_at 1) (codes ".o" ∷ codes ".c" ∷ codes ".sh" ∷ []) refl)
    ∙ (sixth_line reader
    ∙ (ap (with_targets reader 6 (so_far [] Nobody) (targets_alone (codes ".c")) behind_6) (names_stay (place_at 6) (codes ".c" ∷ []) refl)
    ∙ (eighth_line reader
    ∙ (ap (with_targets reader 8 (so_far [] (Last (first_rule reader))) (targets_alone (codes ".sh")) behind_8) (names_stay (place_at 8) (codes ".sh" ∷ []) refl)
    ∙ (eleventh_line reader
    ∙ (ap (with_targets reader 11 (so_far (first_rule reader ∷ []) (Last (second_rule reader))) (targets_alone (codes ".c.o")) behind_11) (names_stay (place_at 11) (codes ".c.o" ∷ []) refl)
    ∙ end reader)))))))))
