-- The names of rule lines.
use Rattle.std.proofs.Common.{◌≡◌, ℕ, Bool, true, false, cond, not, List, [], ◌∷◌, ◌++◌, filter, Option, None, Some, Result, Ok, Err, refl, sym, ap, subst, ◌∙◌}
use Rattle.std.specs.Prelude.{◌&&◌, ◌||◌, codes, length, ◌==◌}
use Rattle.std.specs.List.{list_any, list_all}
use Rattle.std.specs.Option.{option_map}
use Rattle.std.proofs.lemmas.Bool.{and_parts, and_from, or_parts, or_from, not_from_false}
use Rattle.std.proofs.lemmas.List.Folds.{list_all-append}
use Rattle.mk_lines.specs.Bytes.{trimmed}
use Rattle.mk_lines.specs.Words.{words}
use Rattle.mk_macros.specs.Definitions.{defined, without_blanks}
use Rattle.mk_macros.specs.Expansion.{expansion}
use Rattle.mk_macros.specs.Table.{Macro}
use Rattle.mk_read.specs.declared.fault.Place.{Place}
use Rattle.mk_read.specs.declared.fault.ReadFault.{ReadFault}
use Rattle.mk_read.specs.declared.fault.ReadFault.TheVariants.{StrayCommand, BadName, ArchiveMember, UnknownSpecial}
use Rattle.mk_read.specs.declared.special.Special.{Special}
use Rattle.mk_read.specs.declared.special.Special.TheVariants.{Suffixes, Phony, NotParallel, Wordless, Unread}
use Rattle.mk_read.specs.Kinds.{AssignmentLine, RuleLine}
use Rattle.mk_read.specs.Names.{names_in, has_name, is_empty, is_make_name, is_bracket, name_of, names_of}
use Rattle.mk_read.specs.Reading.{Makefile, counts}
use Rattle.mk_read.specs.RuleLaws.{is_well_named, RuleLinesAreWellNamed}
use Rattle.mk_read.specs.Rules.{has_some, taken, unless_taken, is_comment, command_line, commanded, assignment, special_words, special_rule, new_rule, commands_behind, by_special, by_names, by_targets, rule}
use Rattle.mk_read.specs.Special.{is_suffix, is_special, is_unknown, is_unknown_special, special_of, special_among, first_known}
use Rattle.mk_read.specs.State.{RuleRead, Owner, Nobody, Last, SpecialTarget, PassedOver, Read, State, last_rule, rules_of, owned}
use Rattle.mk_read.specs.Steps.{◌>>=◌, at_place}
use Rattle.mk_read_laws.proofs.Kept.{Holds, holds_step, holds_if, IsKept, by_default, by_named}
use Rattle.mk_read_laws.proofs.OneLine.{bind_ok, parts_of}

-- ---- names

name_good : (place : Place) (word name : List ℕ) → name_of place word ≡ Ok name → is_make_name name ≡ true
unfolding name_of
name_good place word name e = at (list_any is_bracket word) (is_make_name word) refl e
  where
    at : (b c : Bool) → is_make_name word ≡ c → cond b (Err (ArchiveMember place word)) (cond c (Ok word) (Err (BadName place word))) ≡ Ok name → is_make_name name ≡ true
    at true c is e = absurd cc
    at false true is e = let one : word ≡ name = cc in subst (λ n. is_make_name n ≡ true) one is
    at false false is e = absurd cc

names_good : (place : Place) (list names : List (List ℕ)) → names_of place list ≡ Ok names → list_all is_make_name names ≡ true
unfolding names_of
names_good place [] names e = let one : [] ≡ names = cc in subst (λ n. list_all is_make_name n ≡ true) one refl
names_good place (word ∷ rest) names e =
    let first = bind_ok (name_of place word) (λ name. names_of place rest >>= λ names. Ok (name ∷ names)) names e in
    let second = bind_ok (names_of place rest) (λ names. Ok (first.0 ∷ names)) names first.2 in
    let one : first.0 ∷ second.0 ≡ names = cc in
    subst (λ n. list_all is_make_name n ≡ true) one (and_from (is_make_name first.0) (list_all is_make_name second.0) (name_good place word first.0 first.1) (names_good place rest second.0 second.1))

pub names_in_good : (place : Place) (table : List Macro) (text : List ℕ) (names : List (List ℕ)) → names_in place table text ≡ Ok names → list_all is_make_name names ≡ true
names_in_good place table text names e =
    let expanded = bind_ok (at_place place (expansion table None text)) (λ expanded. names_of place (words expanded.text)) names e in
    names_good place (words expanded.0.text) names expanded.2

-- a name that is neither a known special one nor an unknown one
no_special : (name : List ℕ) (o : Option Special) → is_special name && is_unknown o ≡ false → o ≡ None → is_special name ≡ false
no_special name o unknown none = at (is_special name) (ap (λ x. is_special name && is_unknown x) (sym none) ∙ unknown)
  where
    at : (b : Bool) → b && true ≡ false → b ≡ false
    at true e = e
    at false e = refl

first_none : (o rest : Option Special) → first_known o rest ≡ None → (o ≡ None) × (rest ≡ None)
first_none None rest e = (refl, e)
first_none (Some special) rest e = absurd cc

none_special : (targets : List (List ℕ)) → list_any is_unknown_special targets ≡ false → special_among targets ≡ None → list_any is_special targets ≡ false
unfolding special_among
none_special [] unknown none = refl
none_special (target ∷ targets) unknown none =
    let parts = or_parts (is_unknown_special target) (list_any is_unknown_special targets) unknown in
    let firsts = first_none (special_of target) (special_among targets) none in
    or_from (is_special target) (list_any is_special targets) (no_special target (special_of target) parts.0 firsts.0) (none_special targets parts.1 firsts.1)

-- ---- rule lines

abbrev AllNamed : List RuleRead → Type 0
AllNamed rules = list_all is_well_named rules ≡ true

one_more : (rules : List RuleRead) (rule : RuleRead) → AllNamed rules → is_well_named rule ≡ true → AllNamed (rules ++ rule ∷ [])
one_more rules rule all good = list_all-append is_well_named rules (rule ∷ []) ∙ and_from (list_all is_well_named rules) (list_all is_well_named (rule ∷ [])) all (and_from (is_well_named rule) true good refl)

both_named : (rules others : List RuleRead) → AllNamed (rules ++ others) → AllNamed rules × AllNamed others
both_named rules others all = and_parts (list_all is_well_named rules) (list_all is_well_named others) (sym (list_all-append is_well_named rules others) ∙ all)

abbrev IsNamed : State → Type 0
IsNamed state = AllNamed (rules_of state.read)

abbrev ReadsNamed : Result Read ReadFault → Type 0
ReadsNamed (Ok read) = AllNamed (rules_of read)
ReadsNamed (Err fault) = Unit {0}

with_read : (state : State) (r : Result Read ReadFault) → ReadsNamed r → Holds IsNamed (r >>= λ read. Ok (record state { read = read }))
with_read state (Ok read) named = named
with_read state (Err fault) named = tt

owned_named : (owner : Owner) (read : Read) → last_rule owner ≡ [] → AllNamed (rules_of read) → AllNamed (rules_of (owned owner read))
owned_named owner read none named =
    list_all-append is_well_named (rules_of read) (last_rule owner) ∙ and_from (list_all is_well_named (rules_of read)) (list_all is_well_named (last_rule owner)) named (ap (list_all is_well_named) none)

unless_named : (o : Option (List ℕ)) (rule : RuleRead) (earlier : List RuleRead) → AllNamed earlier → is_well_named rule ≡ true → ReadsNamed (unless_taken o rule earlier)
unless_named None rule earlier all good = one_more earlier rule all good
unless_named (Some target) rule earlier all good = tt

command_named : (place : Place) (text : List ℕ) (earlier : List RuleRead) (owner : Owner) → AllNamed (earlier ++ last_rule owner) → ReadsNamed (command_line place text earlier owner)
unfolding command_line
command_named place text earlier Nobody all = at (is_comment text)
  where
    at : (b : Bool) → ReadsNamed (cond b (Ok (record { earlier = earlier; owner = Nobody })) (Err (StrayCommand place)))
    at true = all
    at false = tt
command_named place text earlier SpecialTarget all = tt
command_named place text earlier PassedOver all = all
command_named place text earlier (Last rule) all = at (has_some rule.commands)
  where
    more : RuleRead
    more = commanded rule (record { text = trimmed text; place = place })

    good : is_well_named more ≡ true
    good = (and_parts (is_well_named rule) true (both_named earlier (rule ∷ []) all).1).0

    at : (b : Bool) → ReadsNamed (cond b (Ok (record { earlier = earlier; owner = Last more })) (unless_taken (taken earlier rule) more earlier))
    at true = one_more earlier more (both_named earlier (rule ∷ []) all).0 good
    at false = unless_named (taken earlier rule) more earlier (both_named earlier (rule ∷ []) all).0 good

by_assignment : (place : Place) (state : State) (line : AssignmentLine) → IsNamed state → Holds IsNamed (assignment place state line)
unfolding assignment
by_assignment place state line named =
    holds_step IsNamed (at_place place (expansion state.table None line.name)) _ (λ name. holds_step IsNamed (at_place place (defined state.table (without_blanks name.text) line.op line.value)) _ (λ table. owned_named Nobody state.read refl named))

by_words : (place : Place) (state : State) (words : List (List ℕ)) (special : Special) → IsNamed state → Holds IsNamed (special_words place state words special)
by_words place state words Suffixes named = holds_if IsNamed (list_all is_suffix words) _ _ named tt
by_words place state words Phony named = named
by_words place state words NotParallel named = holds_if IsNamed (is_empty words) _ _ named tt
by_words place state words Wordless named = holds_if IsNamed (is_empty words) _ _ named tt
by_words place state words Unread named = named

by_special_rule : (place : Place) (state : State) (targets words : List (List ℕ)) (commands : Bool) (special : Special) → IsNamed state → Holds IsNamed (special_rule place state targets words commands special)
unfolding special_rule
by_special_rule place state targets words commands special named =
    holds_if IsNamed (not (length targets == 1) || (commands || has_name words (codes ".WAIT"))) _ _ tt (by_words place (record state { read = owned SpecialTarget state.read }) words special (owned_named SpecialTarget state.read refl named))

by_new_rule : (rule : RuleRead) (read : Read) → AllNamed (rules_of read) → is_well_named rule ≡ true → ReadsNamed (new_rule rule read)
unfolding new_rule
by_new_rule rule read all good = at (has_some rule.commands)
  where
    at : (b : Bool) → ReadsNamed (cond b (unless_taken (taken (rules_of read) rule) rule (rules_of read)) (Ok (owned (Last rule) read)))
    at true = unless_named (taken (rules_of read) rule) rule (rules_of read) all good
    at false = one_more (rules_of read) rule all good

module _ (default : Bool) (place : Place) (state : State) where
  by_specials : (targets words : List (List ℕ)) (command : Option (List ℕ)) (special : Option Special) → special_among targets ≡ special → list_any is_unknown_special targets ≡ false → is_empty targets ≡ false
      → list_all is_make_name targets ≡ true → list_all is_make_name words ≡ true → IsNamed state → Holds IsNamed (by_special default place state targets words command special)
  by_specials targets words command (Some special) is unknown some all_targets all_words named = by_special_rule place state targets words (has_some command) special named
  by_specials targets words command None is unknown some all_targets all_words named =
      let made : RuleRead = record { targets = targets; words = words; commands = option_map (commands_behind place) command; place = place; default = default } in
      let plain : not (list_any is_special targets) ≡ true = not_from_false (list_any is_special targets) (none_special targets unknown is) in
      let good : is_well_named made ≡ true =
      and_from (not (is_empty targets)) (list_all is_make_name targets && (list_all is_make_name words && not (list_any is_special targets))) (not_from_false (is_empty targets) some)
      (and_from (list_all is_make_name targets) (list_all is_make_name words && not (list_any is_special targets)) all_targets (and_from (list_all is_make_name words) (not (list_any is_special targets)) all_words plain)) in
      with_read state (new_rule made state.read) (by_new_rule made state.read named good)

  by_all_names : (targets : List (List ℕ)) (command : Option (List ℕ)) (words : List (List ℕ)) → is_empty targets ≡ false → list_all is_make_name targets ≡ true → list_all is_make_name words ≡ true → IsNamed state → Holds IsNamed (by_names default place state targets command words)
  unfolding by_names
  by_all_names targets command words some all_targets all_words named = at (list_any is_unknown_special targets) refl
    where
      at : (b : Bool) → list_any is_unknown_special targets ≡ b → Holds IsNamed (cond b (Err (UnknownSpecial place)) (by_special default place state targets words command (special_among targets)))
      at true is = tt
      at false is = by_specials targets words command (special_among targets) refl is some all_targets all_words named

  by_all_targets : (line : RuleLine) (targets : List (List ℕ)) → list_all is_make_name targets ≡ true → IsNamed state → Holds IsNamed (by_targets default place state line targets)
  by_all_targets line targets all_targets named = at (is_empty targets) refl
    where
      of_words : (r : Result (List (List ℕ)) ReadFault) → names_in place state.table line.words ≡ r → is_empty targets ≡ false → Holds IsNamed (r >>= by_names default place state targets line.command)
      of_words (Ok words) is some = by_all_names targets line.command words some all_targets (names_in_good place state.table line.words words is) named
      of_words (Err fault) is some = tt

      at : (b : Bool) → is_empty targets ≡ b → Holds IsNamed (cond b (Ok (record state { read = owned PassedOver state.read })) (names_in place state.table line.words >>= by_names default place state targets line.command))
      at true is = owned_named PassedOver state.read refl named
      at false is = of_words (names_in place state.table line.words) refl is

  by_rule : (line : RuleLine) → IsNamed state → Holds IsNamed (rule default place state line)
  unfolding rule
  by_rule line named = at (names_in place state.table line.targets) refl
    where
      at : (r : Result (List (List ℕ)) ReadFault) → names_in place state.table line.targets ≡ r → Holds IsNamed (r >>= by_targets default place state line)
      at (Ok targets) is = by_all_targets line targets (names_in_good place state.table line.targets targets is) named
      at (Err fault) is = tt

stays_named : IsKept IsNamed (λ default. Unit {0})
stays_named = record {
  own = tt;
  by_assignment = by_assignment;
  by_rule = λ default place state line any named. by_rule default place state line named;
  by_command = λ place text state named. with_read state (command_line place text state.read.earlier state.read.owner) (command_named place text state.read.earlier state.read.owner named);
  by_parting = λ state named. owned_named Nobody state.read refl named;
  by_texts = λ state texts named. named;
  by_missing = λ state missing named. named;
}

fewer_named : (test : RuleRead → Bool) (rules : List RuleRead) → AllNamed rules → AllNamed (filter test rules)
fewer_named test [] all = refl
fewer_named test (rule ∷ rules) all = at (test rule) (fewer_named test rules parts.1)
  where
    parts : (is_well_named rule ≡ true) × AllNamed rules
    parts = and_parts (is_well_named rule) (list_all is_well_named rules) all

    at : (b : Bool) → AllNamed (filter test rules) → AllNamed (cond b (rule ∷ filter test rules) (filter test rules))
    at true more = and_from (is_well_named rule) (list_all is_well_named (filter test rules)) parts.0 more
    at false more = more

pub rule_lines_are_well_named : RuleLinesAreWellNamed
rule_lines_are_well_named reader file defaults operands m e =
    let parts = parts_of reader file defaults operands m e in
    let first : IsNamed parts.start = subst (Holds IsNamed) parts.starts (by_default IsNamed (λ default. Unit {0}) stays_named reader defaults tt refl) in
    let last : IsNamed parts.state = subst (Holds IsNamed) parts.reads (by_named IsNamed (λ default. Unit {0}) stays_named reader (record parts.start { table = parts.table }) parts.chosen first) in
    subst (λ (m : Makefile). AllNamed m.rules) parts.is (fewer_named (counts parts.state.suffixes) (rules_of parts.state.read) last)
