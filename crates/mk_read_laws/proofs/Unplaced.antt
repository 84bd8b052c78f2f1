-- Lines that include nothing do the same without places.
use Rattle.std.proofs.Common.{◌≡◌, ℕ, Bool, true, false, not, cond, List, [], ◌∷◌, ◌++◌, codes, length, map, Option, None, Some, Result, Ok, Err, refl, sym, ap, ◌∙◌}
use Rattle.std.specs.Prelude.{◌&&◌, ◌||◌, find, ◌==◌}
use Rattle.std.specs.List.{list_any, list_all}
use Rattle.std.specs.Option.{option_map}
use Rattle.std.proofs.lemmas.Bool.{true≢false}
use Rattle.std.proofs.lemmas.List.{map-append}
use Rattle.mk_lines.specs.Bytes.{trimmed}
use Rattle.mk_lines.specs.Comments.{uncomment}
use Rattle.mk_lines.specs.Lines.{Line}
use Rattle.mk_lines.specs.Words.{words}
use Rattle.mk_macros.specs.declared.fault.MacroFault.{MacroFault}
use Rattle.mk_macros.specs.Table.{Macro}
use Rattle.mk_macros.specs.Definitions.{defined, without_blanks}
use Rattle.mk_macros.specs.Expansion.{Expanded, expansion}
use Rattle.mk_read.specs.declared.fault.KindFault.{KindFault}
use Rattle.mk_read.specs.declared.fault.Place.{Place}
use Rattle.mk_read.specs.declared.fault.ReadFault.{ReadFault}
use Rattle.mk_read.specs.declared.special.Special.{Special}
use Rattle.mk_read.specs.declared.special.Special.TheVariants.{Suffixes, Phony, NotParallel, Wordless, Unread}
use Rattle.mk_read.specs.Kinds.{Kind, AssignmentLine, RuleLine, Comment, Include, Assignment, Rule, kind_of}
use Rattle.mk_read.specs.Names.{names_in, name_of, names_of, has_name, is_empty, is_bracket, is_make_name}
use Rattle.mk_read.specs.PlaceLaws.{nowhere, unplaced_command, unplaced_rule, but_places, unnumbered, is_include_kind, is_include_line}
use Rattle.mk_read.specs.Reading.{Reader, Deeper, Text, plain_line, with_line}
use Rattle.mk_read.specs.Rules.{has_some, gives_commands, is_commanded, taken, unless_taken, with_command, commanded, is_comment, command_line, assignment, special_words, special_rule, new_rule, commands_behind, by_special, by_names, by_targets, rule}
use Rattle.mk_read.specs.Special.{is_suffix, is_unknown_special, special_among}
use Rattle.mk_read.specs.State.{Command, RuleRead, Owner, Nobody, Last, SpecialTarget, PassedOver, Read, State, last_rule, rules_of, owned, parted}
use Rattle.mk_read.specs.Steps.{◌>>=◌, at_place, of_kind}

-- ---- results

-- Without places, a step and what follows it are the step without places and what follows it
-- without places.
pub step_but_places : {A B C D : Type 0} (view : A → B) (next : C → D) (r : Result A ReadFault) (s : Result B ReadFault) (f : A → Result C ReadFault) (g : B → Result D ReadFault)
    → but_places view r ≡ s → ((x : A) → but_places next (f x) ≡ g (view x)) → but_places next (r >>= f) ≡ (s >>= g)
step_but_places view next (Ok x) s f g e h = h x ∙ ap (λ t. t >>= g) e
step_but_places view next (Err fault) s f g e h = ap (λ t. t >>= g) e

pub if_but_places : {A B : Type 0} (view : A → B) (b : Bool) (r r' : Result A ReadFault) (s s' : Result B ReadFault) → but_places view r ≡ s → but_places view r' ≡ s' → but_places view (cond b r r') ≡ cond b s s'
if_but_places view true r r' s s' e e' = e
if_but_places view false r r' s s' e e' = e'

abbrev pub same : {A : Type 0} → A → A
same x = x

pub placed : {A : Type 0} (place : Place) (r : Result A MacroFault) → but_places same (at_place place r) ≡ at_place nowhere r
placed place (Ok x) = refl
placed place (Err fault) = refl

pub placed_name : (place : Place) (word : List ℕ) → but_places same (name_of place word) ≡ name_of nowhere word
unfolding name_of
placed_name place word = if_but_places same (list_any is_bracket word) _ _ _ _ refl (if_but_places same (is_make_name word) _ _ _ _ refl refl)

pub placed_names : (place : Place) (list : List (List ℕ)) → but_places same (names_of place list) ≡ names_of nowhere list
unfolding names_of
placed_names place [] = refl
placed_names place (word ∷ rest) = step_but_places same same (name_of place word) (name_of nowhere word) _ _ (placed_name place word) (λ name. step_but_places same same (names_of place rest) (names_of nowhere rest) _ _ (placed_names place rest) (λ names. refl))

pub placed_names_in : (place : Place) (table : List Macro) (text : List ℕ) → but_places same (names_in place table text) ≡ names_in nowhere table text
placed_names_in place table text =
    step_but_places same same (at_place place (expansion table None text)) (at_place nowhere (expansion table None text)) _ _ (placed place (expansion table None text)) (λ expanded. placed_names place (words expanded.text))

-- ---- states

abbrev pub stripped_owner : Owner → Owner
stripped_owner (Last rule) = Last (unplaced_rule rule)
stripped_owner Nobody = Nobody
stripped_owner SpecialTarget = SpecialTarget
stripped_owner PassedOver = PassedOver

abbrev pub stripped_read : Read → Read
stripped_read read = record { earlier = map unplaced_rule read.earlier; owner = stripped_owner read.owner }

-- the state without places, and with what is left of the names of its texts
abbrev pub stripped : (List (List ℕ) → List (List ℕ)) → State → State
stripped kept state = record state { read = stripped_read state.read; texts = kept state.texts }

pub stripped_rules : (read : Read) → map unplaced_rule (rules_of read) ≡ rules_of (stripped_read read)
stripped_rules read = map-append unplaced_rule read.earlier (last_rule read.owner) ∙ ap (λ (l : List RuleRead). map unplaced_rule read.earlier ++ l) (last_stripped read.owner)
  where
    last_stripped : (owner : Owner) → map unplaced_rule (last_rule owner) ≡ last_rule (stripped_owner owner)
    last_stripped (Last rule) = refl
    last_stripped Nobody = refl
    last_stripped SpecialTarget = refl
    last_stripped PassedOver = refl

pub stripped_owned : (owner : Owner) (read : Read) → stripped_read (owned owner read) ≡ owned (stripped_owner owner) (stripped_read read)
stripped_owned owner read = ap (λ (l : List RuleRead). record { earlier = l; owner = stripped_owner owner }) (stripped_rules read)

pub stripped_parted : (kept : List (List ℕ) → List (List ℕ)) (state : State) → stripped kept (parted state) ≡ parted (stripped kept state)
stripped_parted kept state = ap (λ (read : Read). record state { read = read; texts = kept state.texts }) (stripped_owned Nobody state.read)

some_stripped : (commands : Option (List Command)) → has_some (option_map (map unplaced_command) commands) ≡ has_some commands
some_stripped None = refl
some_stripped (Some commands) = refl

gives_stripped : (name : List ℕ) (rule : RuleRead) → gives_commands name (unplaced_rule rule) ≡ gives_commands name rule
gives_stripped name rule = ap (λ b. not rule.default && (b && has_name rule.targets name)) (some_stripped rule.commands)

commanded_stripped : (rules : List RuleRead) (name : List ℕ) → is_commanded (map unplaced_rule rules) name ≡ is_commanded rules name
commanded_stripped [] name = refl
commanded_stripped (rule ∷ rules) name = ap (λ b. b || is_commanded (map unplaced_rule rules) name) (gives_stripped name rule) ∙ ap (λ b. gives_commands name rule || b) (commanded_stripped rules name)

find_stripped : (rules : List RuleRead) (names : List (List ℕ)) → find (is_commanded (map unplaced_rule rules)) names ≡ find (is_commanded rules) names
find_stripped rules [] = refl
find_stripped rules (name ∷ names) = ap (λ b. cond b (Some name) (find (is_commanded (map unplaced_rule rules)) names)) (commanded_stripped rules name) ∙ ap (λ (o : Option (List ℕ)). cond (is_commanded rules name) (Some name) o) (find_stripped rules names)

taken_stripped : (rules : List RuleRead) (rule : RuleRead) → taken rules rule ≡ taken (map unplaced_rule rules) (unplaced_rule rule)
taken_stripped rules rule = ap (λ (o : Option (List ℕ)). cond rule.default None o) (sym (find_stripped rules rule.targets))

unless_stripped : (o : Option (List ℕ)) (rule : RuleRead) (earlier : List RuleRead) → but_places stripped_read (unless_taken o rule earlier) ≡ unless_taken o (unplaced_rule rule) (map unplaced_rule earlier)
unless_stripped None rule earlier = refl
unless_stripped (Some target) rule earlier = refl

taken_or_read : (earlier : List RuleRead) (rule : RuleRead) → but_places stripped_read (unless_taken (taken earlier rule) rule earlier) ≡ unless_taken (taken (map unplaced_rule earlier) (unplaced_rule rule)) (unplaced_rule rule) (map unplaced_rule earlier)
taken_or_read earlier rule = unless_stripped (taken earlier rule) rule earlier ∙ ap (λ (o : Option (List ℕ)). unless_taken o (unplaced_rule rule) (map unplaced_rule earlier)) (taken_stripped earlier rule)

more_stripped : (rule : RuleRead) (text : List ℕ) (place : Place) → unplaced_rule (commanded rule (record { text = text; place = place })) ≡ commanded (unplaced_rule rule) (record { text = text; place = nowhere })
more_stripped rule text place = ap (λ (commands : List Command). record rule { commands = Some commands; place = nowhere }) (at rule.commands)
  where
    at : (commands : Option (List Command)) → map unplaced_command (with_command commands (record { text = text; place = place })) ≡ with_command (option_map (map unplaced_command) commands) (record { text = text; place = nowhere })
    at None = refl
    at (Some commands) = map-append unplaced_command commands (record { text = text; place = place } ∷ [])

-- a command line
pub command_stripped : (place : Place) (text : List ℕ) (earlier : List RuleRead) (owner : Owner) → but_places stripped_read (command_line place text earlier owner) ≡ command_line nowhere text (map unplaced_rule earlier) (stripped_owner owner)
unfolding command_line
command_stripped place text earlier Nobody = if_but_places stripped_read (is_comment text) _ _ _ _ refl refl
command_stripped place text earlier SpecialTarget = refl
command_stripped place text earlier PassedOver = refl
command_stripped place text earlier (Last rule) =
    let more : RuleRead = commanded rule (record { text = trimmed text; place = place }) in
    let bare : RuleRead = commanded (unplaced_rule rule) (record { text = trimmed text; place = nowhere }) in
    let is : unplaced_rule more ≡ bare = more_stripped rule (trimmed text) place in
    if_but_places stripped_read (has_some rule.commands) _ _ (Ok (record { earlier = map unplaced_rule earlier; owner = Last bare })) (unless_taken (taken (map unplaced_rule earlier) bare) bare (map unplaced_rule earlier))
    (ap (λ (r : RuleRead). Ok (record { earlier = map unplaced_rule earlier; owner = Last r })) is)
    (taken_or_read earlier more ∙ ap (λ (r : RuleRead). unless_taken (taken (map unplaced_rule earlier) r) r (map unplaced_rule earlier)) is)
    ∙ ap (λ b. cond b (Ok (record { earlier = map unplaced_rule earlier; owner = Last bare })) (unless_taken (taken (map unplaced_rule earlier) bare) bare (map unplaced_rule earlier))) (sym (some_stripped rule.commands))

new_stripped : (rule : RuleRead) (read : Read) → but_places stripped_read (new_rule rule read) ≡ new_rule (unplaced_rule rule) (stripped_read read)
unfolding new_rule
new_stripped rule read =
    let bare = unplaced_rule rule in
    if_but_places stripped_read (has_some rule.commands) _ _ (unless_taken (taken (rules_of (stripped_read read)) bare) bare (rules_of (stripped_read read))) (Ok (owned (Last bare) (stripped_read read)))
    (taken_or_read (rules_of read) rule ∙ ap (λ (rules : List RuleRead). unless_taken (taken rules bare) bare rules) (stripped_rules read))
    (ap (λ (r : Read). Ok r) (stripped_owned (Last rule) read))
    ∙ ap (λ b. cond b (unless_taken (taken (rules_of (stripped_read read)) bare) bare (rules_of (stripped_read read))) (Ok (owned (Last bare) (stripped_read read)))) (sym (some_stripped rule.commands))

behind_stripped : (place : Place) (command : Option (List ℕ)) → option_map (map unplaced_command) (option_map (commands_behind place) command) ≡ option_map (commands_behind nowhere) command
behind_stripped place None = refl
behind_stripped place (Some text) = ap (λ (commands : List Command). Some commands) (at (is_empty text))
  where
    at : (b : Bool) → map unplaced_command (cond b [] (record { text = text; place = place } ∷ [])) ≡ cond b [] (record { text = text; place = nowhere } ∷ [])
    at true = refl
    at false = refl

-- ---- lines

module _ (kept : List (List ℕ) → List (List ℕ)) (place : Place) (state : State) where
  abbrev Bare : State
  Bare = stripped kept state

  assignment_stripped : (line : AssignmentLine) → but_places (stripped kept) (assignment place state line) ≡ assignment nowhere Bare line
  unfolding assignment
  assignment_stripped line =
      step_but_places same (stripped kept) (at_place place (expansion state.table None line.name)) _ _ _ (placed place (expansion state.table None line.name)) (λ (name : Expanded).
      step_but_places same (stripped kept) (at_place place (defined state.table (without_blanks name.text) line.op line.value)) _ _ _ (placed place (defined state.table (without_blanks name.text) line.op line.value)) (λ (table : List Macro).
      ap (λ (s : State). Ok (record s { table = table })) (stripped_parted kept state)))

  words_stripped : (before : State) (words : List (List ℕ)) (special : Special) → but_places (stripped kept) (special_words place before words special) ≡ special_words nowhere (stripped kept before) words special
  words_stripped before words Suffixes = if_but_places (stripped kept) (list_all is_suffix words) _ _ _ _ refl refl
  words_stripped before words Phony = refl
  words_stripped before words NotParallel = if_but_places (stripped kept) (is_empty words) _ _ _ _ refl refl
  words_stripped before words Wordless = if_but_places (stripped kept) (is_empty words) _ _ _ _ refl refl
  words_stripped before words Unread = refl

  special_stripped : (targets words : List (List ℕ)) (commands : Bool) (special : Special) → but_places (stripped kept) (special_rule place state targets words commands special) ≡ special_rule nowhere Bare targets words commands special
  unfolding special_rule
  special_stripped targets words commands special =
      if_but_places (stripped kept) (not (length targets == 1) || (commands || has_name words (codes ".WAIT"))) _ _ _ _ refl
      (words_stripped (record state { read = owned SpecialTarget state.read }) words special
      ∙ ap (λ (read : Read). special_words nowhere (record Bare { read = read }) words special) (stripped_owned SpecialTarget state.read))

  read_stripped : (r : Result Read ReadFault) (s : Result Read ReadFault) → but_places stripped_read r ≡ s → but_places (stripped kept) (r >>= λ read. Ok (record state { read = read })) ≡ (s >>= λ read. Ok (record Bare { read = read }))
  read_stripped r s e = step_but_places stripped_read (stripped kept) r s _ _ e (λ read. refl)

  by_special_stripped : (default : Bool) (targets words : List (List ℕ)) (command : Option (List ℕ)) (special : Option Special) → but_places (stripped kept) (by_special default place state targets words command special) ≡ by_special default nowhere Bare targets words command special
  by_special_stripped default targets words command (Some special) = special_stripped targets words (has_some command) special
  by_special_stripped default targets words command None =
      let made : RuleRead = record { targets = targets; words = words; commands = option_map (commands_behind place) command; place = place; default = default } in
      read_stripped (new_rule made state.read) _ (new_stripped made state.read ∙ ap (λ (commands : Option (List Command)). new_rule (record { targets = targets; words = words; commands = commands; place = nowhere; default = default }) (stripped_read state.read)) (behind_stripped place command))

  by_names_stripped : (default : Bool) (targets : List (List ℕ)) (command : Option (List ℕ)) (words : List (List ℕ)) → but_places (stripped kept) (by_names default place state targets command words) ≡ by_names default nowhere Bare targets command words
  unfolding by_names
  by_names_stripped default targets command words = if_but_places (stripped kept) (list_any is_unknown_special targets) _ _ _ _ refl (by_special_stripped default targets words command (special_among targets))

  by_targets_stripped : (default : Bool) (line : RuleLine) (targets : List (List ℕ)) → but_places (stripped kept) (by_targets default place state line targets) ≡ by_targets default nowhere Bare line targets
  by_targets_stripped default line targets =
      if_but_places (stripped kept) (is_empty targets) _ _ _ _ (ap (λ (read : Read). Ok (record Bare { read = read })) (stripped_owned PassedOver state.read))
      (step_but_places same (stripped kept) (names_in place state.table line.words) _ _ _ (placed_names_in place state.table line.words) (λ words. by_names_stripped default targets line.command words))

  rule_stripped : (default : Bool) (line : RuleLine) → but_places (stripped kept) (rule default place state line) ≡ rule default nowhere Bare line
  unfolding rule
  rule_stripped default line = step_but_places same (stripped kept) (names_in place state.table line.targets) _ _ _ (placed_names_in place state.table line.targets) (λ targets. by_targets_stripped default line targets)

-- the text without its file's name
abbrev pub unnamed : Text → Text
unnamed text = record text { file = [] }

module _ (kept : List (List ℕ) → List (List ℕ)) (reader other : Reader) (deeper others : Deeper) (text : Text) where
  plain_stripped : (place : Place) (state : State) (kind : Result Kind KindFault) → is_include_kind kind ≡ false
      → but_places (stripped kept) (of_kind place kind >>= plain_line reader deeper text.default place state) ≡ (of_kind nowhere kind >>= plain_line other others text.default nowhere (stripped kept state))
  plain_stripped place state (Ok Comment) none = refl
  plain_stripped place state (Ok (Include line)) none = absurd (true≢false none)
  plain_stripped place state (Ok (Assignment line)) none = assignment_stripped kept place state line
  plain_stripped place state (Ok (Rule line)) none = rule_stripped kept place state text.default line
  plain_stripped place state (Err fault) none = refl

  -- a line that isn't an include line
  pub line_stripped : (state : State) (line : Line) → is_include_line line ≡ false → but_places (stripped kept) (with_line reader deeper text state line) ≡ with_line other others (unnamed text) (stripped kept state) (unnumbered line)
  unfolding with_line
  line_stripped state line none = at line.command none
    where
      place : Place
      place = record { file = text.file; line = line.first }

      at : (b : Bool) → (not b && is_include_kind (kind_of (uncomment line.text))) ≡ false
          → but_places (stripped kept) (cond b (command_line place line.text state.read.earlier state.read.owner >>= λ (read : Read). Ok (record state { read = read })) (of_kind place (kind_of (uncomment line.text)) >>= plain_line reader deeper text.default place state))
          ≡ cond b (command_line nowhere line.text (map unplaced_rule state.read.earlier)
          (stripped_owner state.read.owner) >>= λ (read : Read). Ok
          (record (stripped kept state) { read = read })) (of_kind nowhere (kind_of (uncomment line.text))
          >>= plain_line other others text.default nowhere (stripped kept state))
      at true none = read_stripped kept place state (command_line place line.text state.read.earlier state.read.owner) _ (command_stripped place line.text state.read.earlier state.read.owner)
      at false none = plain_stripped place state (kind_of (uncomment line.text)) none
