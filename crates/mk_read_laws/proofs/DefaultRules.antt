-- The rule lines of the default text.
use Rattle.std.proofs.Common.{◌≡◌, ℕ, Bool, true, false, cond, not, List, [], ◌∷◌, ◌++◌, filter, Option, None, Some, Result, Ok, Err, refl, sym, ap, subst, ◌∙◌, append-nil}
use Rattle.std.specs.Prelude.{◌||◌, codes, length, ◌==◌}
use Rattle.std.specs.List.{list_any, list_all}
use Rattle.std.specs.Option.{option_map}
use Rattle.std.proofs.lemmas.List.Elements.{filter-append}
use Rattle.mk_lines.specs.Bytes.{trimmed}
use Rattle.mk_macros.specs.Definitions.{defined, without_blanks}
use Rattle.mk_macros.specs.Expansion.{expansion}
use Rattle.mk_read.specs.declared.fault.Place.{Place}
use Rattle.mk_read.specs.declared.fault.ReadFault.{ReadFault}
use Rattle.mk_read.specs.declared.fault.ReadFault.TheVariants.{StrayCommand, ReadFailed, NoMakefile}
use Rattle.mk_read.specs.declared.special.Special.{Special}
use Rattle.mk_read.specs.declared.special.Special.TheVariants.{Suffixes, Phony, NotParallel, Wordless, Unread}
use Rattle.mk_read.specs.DefaultLaws.{default_state, DefaultRulesStay, NoDefaultRules}
use Rattle.mk_read.specs.Kinds.{AssignmentLine, RuleLine}
use Rattle.mk_read.specs.Names.{names_in, has_name, is_empty}
use Rattle.mk_read.specs.Reading.{Reader, Makefile, counts, makefile, fails, after_default, text_or, own_text, from_named, reading}
use Rattle.mk_read.specs.RuleLaws.{of_default_text}
use Rattle.mk_read.specs.Rules.{has_some, taken, unless_taken, is_comment, command_line, commanded, assignment, special_words, special_rule, new_rule, commands_behind, by_special, by_names, rule}
use Rattle.mk_read.specs.Special.{is_suffix, is_unknown_special, special_among}
use Rattle.mk_read.specs.State.{RuleRead, Owner, Nobody, Last, SpecialTarget, PassedOver, Read, State, nothing_read, last_rule, rules_of, owned, parted}
use Rattle.mk_read.specs.Steps.{◌>>=◌, at_place}
use Rattle.mk_read_laws.proofs.Kept.{Holds, holds_step, holds_if, IsKept, by_named}
use Rattle.mk_read_laws.proofs.OneLine.{parts_of}
use Rattle.mk_read_laws.proofs.Parting.{owned_twice}
use Rattle.mk_read.proofs.DefaultText.{default_text_says_this}

-- command lines belong to no rule line of the default text
abbrev OwnsOwn : Owner → Type 0
OwnsOwn (Last rule) = rule.default ≡ false
OwnsOwn Nobody = Unit {0}
OwnsOwn SpecialTarget = Unit {0}
OwnsOwn PassedOver = Unit {0}

-- one more rule line that isn't of the default text
one_more : (rules : List RuleRead) (rule : RuleRead) → rule.default ≡ false → of_default_text (rules ++ rule ∷ []) ≡ of_default_text rules
one_more rules rule own =
    filter-append (λ (rule : RuleRead). rule.default) rules (rule ∷ [])
    ∙ (ap (λ b. of_default_text rules ++ cond b (rule ∷ []) []) own ∙ append-nil (of_default_text rules))

module _ (defaults : List RuleRead) where
  -- the rule lines of the default text are these, and have all their commands
  pub record Settled (read : Read) : Type 0 where
    pub are : of_default_text (rules_of read) ≡ defaults
    pub owns : OwnsOwn read.owner

  abbrev IsSettled : State → Type 0
  IsSettled state = Settled state.read

  abbrev ReadsSettled : Result Read ReadFault → Type 0
  ReadsSettled (Ok read) = Settled read
  ReadsSettled (Err fault) = Unit {0}

  with_read : (state : State) (r : Result Read ReadFault) → ReadsSettled r → Holds IsSettled (r >>= λ read. Ok (record state { read = read }))
  with_read state (Ok read) settled = settled
  with_read state (Err fault) settled = tt

  settled_owned : (owner : Owner) (read : Read) → last_rule owner ≡ [] → OwnsOwn owner → Settled read → Settled (owned owner read)
  settled_owned owner read none owns settled =
      record { are = ap (λ (l : List RuleRead). of_default_text (rules_of read ++ l)) none ∙ (ap of_default_text (append-nil (rules_of read)) ∙ settled.are); owns = owns }

  settled_more : (earlier : List RuleRead) (rule : RuleRead) → rule.default ≡ false → of_default_text earlier ≡ defaults → Settled (record { earlier = earlier; owner = Last rule })
  settled_more earlier rule own are = record { are = one_more earlier rule own ∙ are; owns = own }

  settled_unless : (o : Option (List ℕ)) (rule : RuleRead) (earlier : List RuleRead) → rule.default ≡ false → of_default_text earlier ≡ defaults → ReadsSettled (unless_taken o rule earlier)
  settled_unless None rule earlier own are = settled_more earlier rule own are
  settled_unless (Some target) rule earlier own are = tt

  settled_command : (place : Place) (text : List ℕ) (earlier : List RuleRead) (owner : Owner) → Settled (record { earlier = earlier; owner = owner }) → ReadsSettled (command_line place text earlier owner)
  unfolding command_line
  settled_command place text earlier Nobody settled = at (is_comment text)
    where
      at : (b : Bool) → ReadsSettled (cond b (Ok (record { earlier = earlier; owner = Nobody })) (Err (StrayCommand place)))
      at true = settled
      at false = tt
  settled_command place text earlier SpecialTarget settled = tt
  settled_command place text earlier PassedOver settled = settled
  settled_command place text earlier (Last rule) settled = at (has_some rule.commands)
    where
      more : RuleRead
      more = commanded rule (record { text = trimmed text; place = place })

      are : of_default_text earlier ≡ defaults
      are = sym (one_more earlier rule settled.owns) ∙ settled.are

      at : (b : Bool) → ReadsSettled (cond b (Ok (record { earlier = earlier; owner = Last more })) (unless_taken (taken earlier rule) more earlier))
      at true = settled_more earlier more settled.owns are
      at false = settled_unless (taken earlier rule) more earlier settled.owns are

  by_assignment : (place : Place) (state : State) (line : AssignmentLine) → IsSettled state → Holds IsSettled (assignment place state line)
  unfolding assignment
  by_assignment place state line settled =
      holds_step IsSettled (at_place place (expansion state.table None line.name)) _ (λ name. holds_step IsSettled (at_place place (defined state.table (without_blanks name.text) line.op line.value)) _ (λ table. settled_owned Nobody state.read refl tt settled))

  by_words : (place : Place) (state : State) (words : List (List ℕ)) (special : Special) → IsSettled state → Holds IsSettled (special_words place state words special)
  by_words place state words Suffixes settled = holds_if IsSettled (list_all is_suffix words) _ _ settled tt
  by_words place state words Phony settled = settled
  by_words place state words NotParallel settled = holds_if IsSettled (is_empty words) _ _ settled tt
  by_words place state words Wordless settled = holds_if IsSettled (is_empty words) _ _ settled tt
  by_words place state words Unread settled = settled

  by_special_rule : (place : Place) (state : State) (targets words : List (List ℕ)) (commands : Bool) (special : Special) → IsSettled state → Holds IsSettled (special_rule place state targets words commands special)
  unfolding special_rule
  by_special_rule place state targets words commands special settled =
      holds_if IsSettled (not (length targets == 1) || (commands || has_name words (codes ".WAIT"))) _ _ tt (by_words place (record state { read = owned SpecialTarget state.read }) words special (settled_owned SpecialTarget state.read refl tt settled))

  by_new_rule : (rule : RuleRead) (read : Read) → rule.default ≡ false → Settled read → ReadsSettled (new_rule rule read)
  unfolding new_rule
  by_new_rule rule read own settled = at (has_some rule.commands)
    where
      at : (b : Bool) → ReadsSettled (cond b (unless_taken (taken (rules_of read) rule) rule (rules_of read)) (Ok (owned (Last rule) read)))
      at true = settled_unless (taken (rules_of read) rule) rule (rules_of read) own settled.are
      at false = settled_more (rules_of read) rule own settled.are

  module _ (default : Bool) (own : default ≡ false) (place : Place) (state : State) where
    by_specials : (targets words : List (List ℕ)) (command : Option (List ℕ)) (special : Option Special) → IsSettled state → Holds IsSettled (by_special default place state targets words command special)
    by_specials targets words command (Some special) settled = by_special_rule place state targets words (has_some command) special settled
    by_specials targets words command None settled =
        let made : RuleRead = record { targets = targets; words = words; commands = option_map (commands_behind place) command; place = place; default = default } in
        with_read state (new_rule made state.read) (by_new_rule made state.read own settled)

    by_all_names : (targets : List (List ℕ)) (command : Option (List ℕ)) (words : List (List ℕ)) → IsSettled state → Holds IsSettled (by_names default place state targets command words)
    unfolding by_names
    by_all_names targets command words settled = holds_if IsSettled (list_any is_unknown_special targets) _ _ tt (by_specials targets words command (special_among targets) settled)

    by_rule : (line : RuleLine) → IsSettled state → Holds IsSettled (rule default place state line)
    unfolding rule
    by_rule line settled =
        holds_step IsSettled (names_in place state.table line.targets) _
        (λ targets. holds_if IsSettled (is_empty targets) _ _
        (settled_owned PassedOver state.read refl tt settled)
        (holds_step IsSettled (names_in place state.table line.words) _
        (λ words. by_all_names targets line.command words settled)))

  stays : IsKept IsSettled (λ default. default ≡ false)
  stays = record {
    own = refl;
    by_assignment = by_assignment;
    by_rule = λ default place state line own settled. by_rule default own place state line settled;
    by_command = λ place text state settled. with_read state (command_line place text state.read.earlier state.read.owner) (settled_command place text state.read.earlier state.read.owner settled);
    by_parting = λ state settled. settled_owned Nobody state.read refl tt settled;
    by_texts = λ state texts settled. settled;
    by_missing = λ state missing settled. settled;
  }

-- a makefile's own text begins with nothing that command lines could belong to
parted_text : (reader : Reader) (state : State) (name : List ℕ) (other : Result State ReadFault) (text : Option (List ℕ)) → text_or reader (parted state) name other text ≡ text_or reader state name other text
parted_text reader state name other None = refl
parted_text reader state name other (Some bytes) = ap (λ (read : Read). reading 16 reader name bytes (record state { read = read; texts = name ∷ [] })) (owned_twice Nobody state.read)

parted_own : (reader : Reader) (state : State) (name : List ℕ) (other : Result State ReadFault) → own_text reader (parted state) name other ≡ own_text reader state name other
unfolding own_text
parted_own reader state name other = ap (λ (r : Result State ReadFault). cond (fails reader state) (Err (ReadFailed None name)) r) (parted_text reader state name other (reader.text name))

parted_named : (reader : Reader) (state : State) (file : Option (List ℕ)) → from_named reader (parted state) file ≡ from_named reader state file
unfolding from_named
parted_named reader state (Some name) = parted_own reader state name (Err (NoMakefile (Some name)))
parted_named reader state None =
    parted_own reader state (codes "makefile") (own_text reader (record (parted state) { missing = codes "makefile" ∷ [] }) (codes "Makefile") (Err (NoMakefile None)))
    ∙ ap (own_text reader state (codes "makefile")) (parted_own reader (record state { missing = codes "makefile" ∷ [] }) (codes "Makefile") (Err (NoMakefile None)))

-- filtering in either order gives the same
both_filtered : (p q : RuleRead → Bool) (rules : List RuleRead) → filter p (filter q rules) ≡ filter q (filter p rules)
both_filtered p q [] = refl
both_filtered p q (rule ∷ rules) = at (p rule) refl (q rule) refl (both_filtered p q rules)
  where
    at : (b : Bool) → p rule ≡ b → (c : Bool) → q rule ≡ c → filter p (filter q rules) ≡ filter q (filter p rules) → filter p (cond c (rule ∷ filter q rules) (filter q rules)) ≡ filter q (cond b (rule ∷ filter p rules) (filter p rules))
    at true t true u e = ap (λ b. cond b (rule ∷ filter p (filter q rules)) (filter p (filter q rules))) t ∙ (ap (λ (l : List RuleRead). rule ∷ l) e ∙ sym (ap (λ b. cond b (rule ∷ filter q (filter p rules)) (filter q (filter p rules))) u))
    at true t false u e = e ∙ sym (ap (λ b. cond b (rule ∷ filter q (filter p rules)) (filter q (filter p rules))) u)
    at false t true u e = ap (λ b. cond b (rule ∷ filter p (filter q rules)) (filter p (filter q rules))) t ∙ e
    at false t false u e = e

-- what a makefile has of the default text, by what has been read of it
defaults_of : (reader : Reader) (file : Option (List ℕ)) (defaults : Bool) (operands : List (List ℕ)) (m : Makefile) (start : State) → makefile reader file defaults operands ≡ Ok m → after_default reader defaults ≡ Ok start
    → of_default_text m.rules ≡ filter (counts m.suffixes) (of_default_text (rules_of start.read))
defaults_of reader file defaults operands m start e starts =
    let rules : List RuleRead = of_default_text (rules_of start.read) in
    let parts = parts_of reader file defaults operands m e in
    let both : Ok parts.start ≡ Ok start = sym parts.starts ∙ starts in
    let same : parts.start ≡ start = cc in
    let first : Settled rules (parted parts.start).read = record { are = ap of_default_text (append-nil (rules_of parts.start.read)) ∙ ap (λ (s : State). of_default_text (rules_of s.read)) same; owns = tt } in
    let reads : from_named reader (parted (record parts.start { table = parts.table })) parts.chosen ≡ Ok parts.state = parted_named reader (record parts.start { table = parts.table }) parts.chosen ∙ parts.reads in
    let last : Settled rules parts.state.read = subst (Holds (IsSettled rules)) reads (by_named (IsSettled rules) (λ default. default ≡ false) (stays rules) reader (parted (record parts.start { table = parts.table })) parts.chosen first) in
    ap (λ (m : Makefile). of_default_text m.rules) (sym parts.is)
    ∙ (both_filtered (λ (rule : RuleRead). rule.default) (counts parts.state.suffixes) (rules_of parts.state.read)
    ∙ (ap (filter (counts parts.state.suffixes)) last.are ∙ ap (λ (m : Makefile). filter (counts m.suffixes) rules) parts.is))

pub default_rules_stay : DefaultRulesStay
default_rules_stay reader file operands m e = defaults_of reader file true operands m default_state e (default_text_says_this reader)

pub no_default_rules : NoDefaultRules
unfolding after_default
no_default_rules reader file operands m e = defaults_of reader file false operands m nothing_read e refl
