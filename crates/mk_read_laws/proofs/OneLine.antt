-- At most one rule line gives a name its commands.
use Rattle.std.proofs.Common.{◌≡◌, ℕ, Bool, true, false, not, cond, List, [], ◌∷◌, ◌++◌, Option, None, Some, Result, Ok, Err, filter, refl, sym, ap, subst, ◌∙◌, ⊎_elim, append-nil, append_assoc}
use Rattle.std.specs.Prelude.{◌&&◌, ◌||◌, find, codes, length, ◌==◌}
use Rattle.std.specs.List.{list_any, list_all}
use Rattle.std.specs.Option.{option_map}
use Rattle.std.specs.Str.{bytes_eq}
use Rattle.std.proofs.lemmas.Bool.{cases_Bool, and_parts, or_parts, or_from, or_cases, or_left, or_right, cond-true, cond-false, both_ways, not-true}
use Rattle.std.proofs.lemmas.List.Folds.{list_any-append}
use Rattle.std.proofs.lemmas.Slice.Eq.{bytes_eq-Decides}
use Rattle.mk_lines.specs.Bytes.{trimmed}
use Rattle.mk_macros.specs.Table.{Macro}
use Rattle.mk_macros.specs.Definitions.{defined, without_blanks}
use Rattle.mk_macros.specs.Expansion.{expansion}
use Rattle.mk_read.specs.declared.fault.Place.{Place}
use Rattle.mk_read.specs.declared.fault.ReadFault.{ReadFault}
use Rattle.mk_read.specs.declared.fault.ReadFault.TheVariants.{StrayCommand}
use Rattle.mk_read.specs.declared.special.Special.{Special}
use Rattle.mk_read.specs.declared.special.Special.TheVariants.{Suffixes, Phony, NotParallel, Wordless, Unread}
use Rattle.mk_read.specs.Kinds.{AssignmentLine, RuleLine}
use Rattle.mk_read.specs.Names.{names_in, has_name, is_empty}
use Rattle.mk_read.specs.Needs.{commands_in, commands_of, has_commands}
use Rattle.mk_read.specs.Reading.{Reader, Makefile, makefile, makefile_of, counts, named, after_default, with_operands, from_named}
use Rattle.mk_read.specs.RuleLaws.{OneLineHasTheCommands, CommandsAreOfTheOneLine, ElseCommandsAreOfTheDefaultText, of_default_text}
use Rattle.mk_read.specs.Rules.{has_some, gives_commands, is_commanded, taken, unless_taken, is_comment, command_line, commanded, assignment, special_words, special_rule, new_rule, commands_behind, by_special, by_names, by_targets, rule}
use Rattle.mk_read.specs.Special.{is_suffix, is_unknown_special, special_among}
use Rattle.mk_read.specs.State.{Command, RuleRead, Owner, Nobody, Last, SpecialTarget, PassedOver, Read, State, last_rule, rules_of, owned}
use Rattle.mk_read.specs.Steps.{◌>>=◌, at_place}
use Rattle.mk_read_laws.proofs.Kept.{Holds, holds_step, holds_if, IsKept, by_default, by_named}

-- the rule lines of a list leave a rule line alone with its commands
abbrev Leave : List RuleRead → RuleRead → Type 0
Leave rules rule = (name : List ℕ) → gives_commands name rule ≡ true → is_commanded rules name ≡ false

-- no two rule lines give one name commands
abbrev Alone : List RuleRead → Type 0
Alone [] = Unit {0}
Alone (rule ∷ rules) = Leave rules rule × Alone rules

-- one more at the end, that has no name with another one
alone_more : (rules : List RuleRead) (rule : RuleRead) → Alone rules → Leave rules rule → Alone (rules ++ rule ∷ [])
alone_more [] rule alone leave = ((λ name gives. refl), tt)
alone_more (first ∷ rules) rule alone leave = (
  (λ name gives. list_any-append (gives_commands name) rules (rule ∷ [])
      ∙ or_from (is_commanded rules name) (is_commanded (rule ∷ []) name) (alone.0 name gives)
      (or_from (gives_commands name rule) false (other name gives) refl)),
  alone_more rules rule alone.1
      (λ name gives. (or_parts (gives_commands name first) (is_commanded rules name) (leave name gives)).1),
)
  where
    other : (name : List ℕ) → gives_commands name first ≡ true → gives_commands name rule ≡ false
    other name gives = ⊎_elim (λ t. absurd (both_ways (gives_commands name first) ((or_parts (gives_commands name first) (is_commanded rules name) (leave name t)).0) gives)) (λ f. f) (cases_Bool (gives_commands name rule))

-- what stands before the end
alone_front : (rules : List RuleRead) (rule : RuleRead) → Alone (rules ++ rule ∷ []) → Alone rules
alone_front [] rule alone = tt
alone_front (first ∷ rules) rule alone = ((λ name gives. (or_parts (is_commanded rules name) (is_commanded (rule ∷ []) name) (sym (list_any-append (gives_commands name) rules (rule ∷ [])) ∙ alone.0 name gives)).0), alone_front rules rule alone.1)

-- the rule line at the end
alone_end : (rules : List RuleRead) (rule : RuleRead) → Alone (rules ++ rule ∷ []) → Leave rules rule
alone_end [] rule alone = λ name gives. refl
alone_end (first ∷ rules) rule alone = λ name gives. or_from (gives_commands name first) (is_commanded rules name)
    (⊎_elim (λ t. absurd (both_ways (is_commanded (rules ++ rule ∷ []) name) (alone.0 name t)
    (list_any-append (gives_commands name) rules (rule ∷ [])
    ∙ or_right (is_commanded rules name) (is_commanded (rule ∷ []) name)
    (or_left (gives_commands name rule) false gives)))) (λ f. f) (cases_Bool (gives_commands name first)))
    (alone_end rules rule alone.1 name gives)

-- what isn't found among names has none of them
not_found : (test : List ℕ → Bool) (names : List (List ℕ)) (name : List ℕ) → find test names ≡ None → has_name names name ≡ true → test name ≡ false
not_found test [] name none has = absurd (both_ways false refl has)
not_found test (first ∷ names) name none has = at (test first) refl none (not_found test names name)
  where
    at : (b : Bool) → test first ≡ b → cond b (Some first) (find test names) ≡ None → (find test names ≡ None → has_name names name ≡ true → test name ≡ false) → test name ≡ false
    at true t k more = absurd cc
    at false f k more = ⊎_elim (λ same. ap test ((bytes_eq-Decides name first).0 same) ∙ f) (λ rest. more k rest) (or_cases (bytes_eq name first) (has_name names name) has)

-- where no target is taken, no other rule line gives commands to a name of this one
free : (earlier : List RuleRead) (rule : RuleRead) → taken earlier rule ≡ None → Leave earlier rule
free earlier rule none name gives =
    let parts = and_parts (not rule.default) (has_some rule.commands && has_name rule.targets name) gives in
    let found : find (is_commanded earlier) rule.targets ≡ None = sym (cond-false rule.default None (find (is_commanded earlier) rule.targets) (not-true rule.default parts.0)) ∙ none in
    not_found (is_commanded earlier) rule.targets name found ((and_parts (has_some rule.commands) (has_name rule.targets name) parts.1).1)

-- what has been read has no two such lines
abbrev pub IsAlone : State → Type 0
IsAlone state = Alone (rules_of state.read)

abbrev ReadsAlone : Result Read ReadFault → Type 0
ReadsAlone (Ok read) = Alone (rules_of read)
ReadsAlone (Err fault) = Unit {0}

with_read : (state : State) (r : Result Read ReadFault) → ReadsAlone r → Holds IsAlone (r >>= λ read. Ok (record state { read = read }))
with_read state (Ok read) alone = alone
with_read state (Err fault) alone = tt

alone_unless_taken : (earlier : List RuleRead) (rule : RuleRead) (o : Option (List ℕ)) → taken earlier rule ≡ o → Alone earlier → ReadsAlone (unless_taken o rule earlier)
alone_unless_taken earlier rule None none alone = alone_more earlier rule alone (free earlier rule none)
alone_unless_taken earlier rule (Some target) is alone = tt

alone_owned : (owner : Owner) (read : Read) → last_rule owner ≡ [] → Alone (rules_of read) → Alone (rules_of (owned owner read))
alone_owned owner read none alone = subst Alone (sym (ap (λ (l : List RuleRead). rules_of read ++ l) none ∙ append-nil (rules_of read))) alone

module _ (place : Place) (text : List ℕ) (earlier : List RuleRead) where
  -- with one more command a rule line gives commands to the same names
  more_alone : (rule : RuleRead) (command : Command) → has_some rule.commands ≡ true → Alone (earlier ++ rule ∷ []) → Alone (earlier ++ commanded rule command ∷ [])
  more_alone rule command some alone =
      alone_more earlier (commanded rule command) (alone_front earlier rule alone) (λ name gives. alone_end earlier rule alone name (subst (λ b. (not rule.default && (b && has_name rule.targets name)) ≡ true) (sym some) gives))

  pub alone_command : (owner : Owner) → Alone (earlier ++ last_rule owner) → ReadsAlone (command_line place text earlier owner)
  unfolding command_line
  alone_command Nobody alone = at (is_comment text)
    where
      at : (b : Bool) → ReadsAlone (cond b (Ok (record { earlier = earlier; owner = Nobody })) (Err (StrayCommand place)))
      at true = alone
      at false = tt
  alone_command SpecialTarget alone = tt
  alone_command PassedOver alone = alone
  alone_command (Last rule) alone = at (has_some rule.commands) refl
    where
      more : RuleRead
      more = commanded rule (record { text = trimmed text; place = place })

      at : (b : Bool) → has_some rule.commands ≡ b → ReadsAlone (cond b (Ok (record { earlier = earlier; owner = Last more })) (unless_taken (taken earlier rule) more earlier))
      at true some = more_alone rule _ some alone
      at false none = alone_unless_taken earlier more (taken earlier rule) refl (alone_front earlier rule alone)

by_assignment : (place : Place) (state : State) (line : AssignmentLine) → IsAlone state → Holds IsAlone (assignment place state line)
unfolding assignment
by_assignment place state line alone =
    holds_step IsAlone (at_place place (expansion state.table None line.name)) _ (λ name. holds_step IsAlone (at_place place (defined state.table (without_blanks name.text) line.op line.value)) _ (λ table. alone_owned Nobody state.read refl alone))

by_words : (place : Place) (state : State) (words : List (List ℕ)) (special : Special) → IsAlone state → Holds IsAlone (special_words place state words special)
by_words place state words Suffixes alone = holds_if IsAlone (list_all is_suffix words) _ _ alone tt
by_words place state words Phony alone = alone
by_words place state words NotParallel alone = holds_if IsAlone (is_empty words) _ _ alone tt
by_words place state words Wordless alone = holds_if IsAlone (is_empty words) _ _ alone tt
by_words place state words Unread alone = alone

by_special_rule : (place : Place) (state : State) (targets words : List (List ℕ)) (commands : Bool) (special : Special) → IsAlone state → Holds IsAlone (special_rule place state targets words commands special)
unfolding special_rule
by_special_rule place state targets words commands special alone =
    holds_if IsAlone (not (length targets == 1) || (commands || has_name words (codes ".WAIT"))) _ _ tt (by_words place (record state { read = owned SpecialTarget state.read }) words special (alone_owned SpecialTarget state.read refl alone))

by_new_rule : (rule : RuleRead) (read : Read) → Alone (rules_of read) → ReadsAlone (new_rule rule read)
unfolding new_rule
by_new_rule rule read alone = at (has_some rule.commands) refl
  where
    at : (b : Bool) → has_some rule.commands ≡ b → ReadsAlone (cond b (unless_taken (taken (rules_of read) rule) rule (rules_of read)) (Ok (owned (Last rule) read)))
    at true some = alone_unless_taken (rules_of read) rule (taken (rules_of read) rule) refl alone
    at false none = alone_more (rules_of read) rule alone (λ name gives. absurd (both_ways (has_some rule.commands) none ((and_parts (has_some rule.commands) (has_name rule.targets name) ((and_parts (not rule.default) (has_some rule.commands && has_name rule.targets name) gives).1)).0)))

module _ (default : Bool) (place : Place) (state : State) where
  by_specials : (targets words : List (List ℕ)) (command : Option (List ℕ)) (special : Option Special) → IsAlone state → Holds IsAlone (by_special default place state targets words command special)
  by_specials targets words command (Some special) alone = by_special_rule place state targets words (has_some command) special alone
  by_specials targets words command None alone =
      let made : RuleRead = record { targets = targets; words = words; commands = option_map (commands_behind place) command; place = place; default = default } in
      with_read state (new_rule made state.read) (by_new_rule made state.read alone)

  by_all_names : (targets : List (List ℕ)) (command : Option (List ℕ)) (words : List (List ℕ)) → IsAlone state → Holds IsAlone (by_names default place state targets command words)
  unfolding by_names
  by_all_names targets command words alone = holds_if IsAlone (list_any is_unknown_special targets) _ _ tt (by_specials targets words command (special_among targets) alone)

  by_all_targets : (line : RuleLine) (targets : List (List ℕ)) → IsAlone state → Holds IsAlone (by_targets default place state line targets)
  by_all_targets line targets alone =
      holds_if IsAlone (is_empty targets) _ _ (alone_owned PassedOver state.read refl alone) (holds_step IsAlone (names_in place state.table line.words) _ (λ words. by_all_names targets line.command words alone))

  by_rule : (line : RuleLine) → IsAlone state → Holds IsAlone (rule default place state line)
  unfolding rule
  by_rule line alone = holds_step IsAlone (names_in place state.table line.targets) _ (λ targets. by_all_targets line targets alone)

stays_alone : IsKept IsAlone (λ default. Unit {0})
stays_alone = record {
  by_assignment = by_assignment;
  own = tt;
  by_rule = λ default place state line any holds. by_rule default place state line holds;
  by_command = λ place text state alone. with_read state (command_line place text state.read.earlier state.read.owner) (alone_command place text state.read.earlier state.read.owner alone);
  by_parting = λ state alone. alone_owned Nobody state.read refl alone;
  by_texts = λ state texts alone. alone;
  by_missing = λ state missing alone. alone;
}

-- fewer rule lines give no more commands
fewer : (test : RuleRead → Bool) (name : List ℕ) (rules : List RuleRead) → is_commanded rules name ≡ false → is_commanded (filter test rules) name ≡ false
fewer test name [] none = refl
fewer test name (other ∷ rules) none = pick (test other) (fewer test name rules (or_parts (gives_commands name other) (is_commanded rules name) none).1)
  where
    pick : (b : Bool) → is_commanded (filter test rules) name ≡ false → is_commanded (cond b (other ∷ filter test rules) (filter test rules)) name ≡ false
    pick true rest = or_from (gives_commands name other) (is_commanded (filter test rules) name) (or_parts (gives_commands name other) (is_commanded rules name) none).0 rest
    pick false rest = rest

-- the rule lines that count are still alone
alone_counted : (test : RuleRead → Bool) (rules : List RuleRead) → Alone rules → Alone (filter test rules)
alone_counted test [] alone = tt
alone_counted test (first ∷ rules) alone = at (test first) (alone_counted test rules alone.1)
  where
    at : (b : Bool) → Alone (filter test rules) → Alone (cond b (first ∷ filter test rules) (filter test rules))
    at true more = ((λ name gives. fewer test name rules (alone.0 name gives)), more)
    at false more = more

-- what a makefile is made of
pub record Parts (reader : Reader) (file : Option (List ℕ)) (defaults : Bool) (operands : List (List ℕ)) (m : Makefile) : Type 0 where
  pub chosen : Option (List ℕ)
  pub start : State
  pub table : List Macro
  pub state : State
  pub named_as : named file ≡ Ok chosen
  pub starts : after_default reader defaults ≡ Ok start
  pub fixed : with_operands 1 operands start.table ≡ Ok table
  pub reads : from_named reader (record start { table = table }) chosen ≡ Ok state
  pub is : makefile_of state ≡ m

pub bind_ok : {A B : Type 0} (r : Result A ReadFault) (f : A → Result B ReadFault) (y : B) → (r >>= f) ≡ Ok y → (x : A) × (r ≡ Ok x) × (f x ≡ Ok y)
bind_ok (Ok x) f y e = (x, refl, e)
bind_ok (Err fault) f y e = absurd cc

pub parts_of : (reader : Reader) (file : Option (List ℕ)) (defaults : Bool) (operands : List (List ℕ)) (m : Makefile) → makefile reader file defaults operands ≡ Ok m → Parts reader file defaults operands m
unfolding makefile
parts_of reader file defaults operands m e =
    let a = bind_ok (named file) _ m e in
    let b = bind_ok (after_default reader defaults) _ m a.2 in
    let c = bind_ok (with_operands 1 operands b.0.table) _ m b.2 in
    let d = bind_ok (from_named reader (record b.0 { table = c.0 }) a.0) _ m c.2 in
    record { chosen = a.0; start = b.0; table = c.0; state = d.0; named_as = a.1; starts = b.1; fixed = c.1; reads = d.1; is = cc }

-- the rule lines of a makefile
alone_in : (reader : Reader) (file : Option (List ℕ)) (defaults : Bool) (operands : List (List ℕ)) (m : Makefile) → makefile reader file defaults operands ≡ Ok m → Alone m.rules
alone_in reader file defaults operands m e =
    let parts = parts_of reader file defaults operands m e in
    let first : IsAlone parts.start = subst (Holds IsAlone) parts.starts (by_default IsAlone (λ default. Unit {0}) stays_alone reader defaults tt tt) in
    let last : IsAlone parts.state = subst (Holds IsAlone) parts.reads (by_named IsAlone (λ default. Unit {0}) stays_alone reader (record parts.start { table = parts.table }) parts.chosen first) in
    subst (λ (m : Makefile). Alone m.rules) parts.is (alone_counted (counts parts.state.suffixes) (rules_of parts.state.read) last)

-- behind a rule line that gives a name commands
leave_behind : (before after : List RuleRead) (rule : RuleRead) → Alone (before ++ rule ∷ after) → Leave after rule
leave_behind [] after rule alone = alone.0
leave_behind (first ∷ before) after rule alone = leave_behind before after rule alone.1

pub one_line_has_the_commands : OneLineHasTheCommands
one_line_has_the_commands reader file defaults operands m e before between after one other name is gives =
    let alone : Alone (before ++ (one ∷ (between ++ other ∷ after))) = subst Alone (is ∙ append_assoc before (one ∷ between) (other ∷ after)) (alone_in reader file defaults operands m e) in
    let none : is_commanded (between ++ other ∷ after) name ≡ false = leave_behind before (between ++ other ∷ after) one alone name gives in
    (or_parts (gives_commands name other) (is_commanded after name) (or_parts (is_commanded between name) (is_commanded (other ∷ after) name) (sym (list_any-append (gives_commands name) between (other ∷ after)) ∙ none)).1).0

-- the rule line that gives commands is found
found_alone : (before after : List RuleRead) (rule : RuleRead) (name : List ℕ) → Alone (before ++ rule ∷ after) → gives_commands name rule ≡ true → find (gives_commands name) (before ++ rule ∷ after) ≡ Some rule
found_alone [] after rule name alone gives = cond-true (gives_commands name rule) (Some rule) (find (gives_commands name) after) gives
found_alone (first ∷ before) after rule name alone gives = cond-false (gives_commands name first) (Some first) (find (gives_commands name) (before ++ rule ∷ after)) not_first ∙ found_alone before after rule name alone.1 gives
  where
    given : is_commanded (before ++ rule ∷ after) name ≡ true
    given = list_any-append (gives_commands name) before (rule ∷ after) ∙ or_right (is_commanded before name) (is_commanded (rule ∷ after) name) (or_left (gives_commands name rule) (is_commanded after name) gives)

    not_first : gives_commands name first ≡ false
    not_first = ⊎_elim (λ t. absurd (both_ways (is_commanded (before ++ rule ∷ after) name) (alone.0 name t) given)) (λ f. f) (cases_Bool (gives_commands name first))

pub commands_are_of_the_one_line : CommandsAreOfTheOneLine
commands_are_of_the_one_line reader file defaults operands m e before after rule name is gives =
    let alone : Alone (before ++ rule ∷ after) = subst Alone is (alone_in reader file defaults operands m e) in
    ap (λ (rules : List RuleRead). commands_of rules name) is ∙ ap (λ (o : Option RuleRead). commands_in o (find (has_commands name) (before ++ rule ∷ after))) (found_alone before after rule name alone gives)

-- what isn't found by its test
none_found : (rules : List RuleRead) (name : List ℕ) → is_commanded rules name ≡ false → find (gives_commands name) rules ≡ None
none_found [] name none = refl
none_found (rule ∷ rules) name none =
    let parts = or_parts (gives_commands name rule) (is_commanded rules name) none in
    cond-false (gives_commands name rule) (Some rule) (find (gives_commands name) rules) parts.0 ∙ none_found rules name parts.1

none_of_default : (rules : List RuleRead) (name : List ℕ) → find (gives_commands name) (of_default_text rules) ≡ None
none_of_default [] name = refl
none_of_default (rule ∷ rules) name = at rule.default refl (none_of_default rules name)
  where
    at : (b : Bool) → rule.default ≡ b → find (gives_commands name) (of_default_text rules) ≡ None → find (gives_commands name) (cond b (rule ∷ of_default_text rules) (of_default_text rules)) ≡ None
    at true t more = ap (λ d. cond (not d && (has_some rule.commands && has_name rule.targets name)) (Some rule) (find (gives_commands name) (of_default_text rules))) t ∙ more
    at false f more = more

-- only the default text's are left
default_found : (rules : List RuleRead) (name : List ℕ) → is_commanded rules name ≡ false → find (has_commands name) rules ≡ find (has_commands name) (of_default_text rules)
default_found [] name none = refl
default_found (rule ∷ rules) name none = at rule.default refl (default_found rules name (or_parts (gives_commands name rule) (is_commanded rules name) none).1)
  where
    at : (b : Bool) → rule.default ≡ b → find (has_commands name) rules ≡ find (has_commands name) (of_default_text rules) → find (has_commands name) (rule ∷ rules) ≡ find (has_commands name) (cond b (rule ∷ of_default_text rules) (of_default_text rules))
    at true t more = ap (λ (o : Option RuleRead). cond (has_commands name rule) (Some rule) o) more
    at false f more =
        let not_given : has_commands name rule ≡ false = sym (ap (λ d. not d && has_commands name rule) f) ∙ (or_parts (gives_commands name rule) (is_commanded rules name) none).0 in
        cond-false (has_commands name rule) (Some rule) (find (has_commands name) rules) not_given ∙ more

pub else_commands_are_of_the_default_text : ElseCommandsAreOfTheDefaultText
else_commands_are_of_the_default_text rules name none =
    ap (λ (o : Option RuleRead). commands_in o (find (has_commands name) rules)) (none_found rules name none)
    ∙ (ap (λ (o : Option RuleRead). commands_in None o) (default_found rules name none)
    ∙ sym (ap (λ (o : Option RuleRead). commands_in o (find (has_commands name) (of_default_text rules))) (none_of_default rules name)))
