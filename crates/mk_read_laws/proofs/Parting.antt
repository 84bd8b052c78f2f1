-- What command lines belong to, and lines that don't depend on it.
use Rattle.std.proofs.Common.{◌≡◌, ℕ, Bool, true, false, not, cond, List, [], ◌∷◌, ◌++◌, length, Option, None, Some, Result, Ok, Err, refl, sym, ap, ◌∙◌, inl, inr, append-nil}
use Rattle.std.specs.Prelude.{◌&&◌, ◌||◌, ◌==◌, codes}
use Rattle.std.specs.List.{list_any}
use Rattle.std.specs.Option.{option_map}
use Rattle.std.proofs.lemmas.Bool.{cases_Bool, true≢false, and_parts, cond-true, cond-false, not-true}
use Rattle.mk_lines.specs.Comments.{uncomment}
use Rattle.mk_lines.specs.Lines.{Line}
use Rattle.mk_macros.specs.Table.{Macro}
use Rattle.mk_macros.specs.Definitions.{defined, without_blanks}
use Rattle.mk_macros.specs.Expansion.{Expanded, expansion}
use Rattle.mk_read.specs.declared.fault.KindFault.{KindFault}
use Rattle.mk_read.specs.declared.fault.Place.{Place}
use Rattle.mk_read.specs.declared.fault.ReadFault.{ReadFault}
use Rattle.mk_read.specs.declared.fault.ReadFault.TheVariants.{SpecialShape, IncludeEmpty}
use Rattle.mk_read.specs.declared.special.Special.{Special}
use Rattle.mk_read.specs.Kinds.{Kind, IncludeLine, AssignmentLine, RuleLine, Comment, Include, Assignment, Rule, kind_of}
use Rattle.mk_read.specs.Names.{names_in, has_name, is_empty}
use Rattle.mk_read.specs.PlaceLaws.{is_comment_kind, is_comment_line, begins_without_command}
use Rattle.mk_read.specs.Reading.{Reader, include, Deeper, Text, files, plain_line, with_line, with_lines}
use Rattle.mk_read.specs.Rules.{has_some, taken, unless_taken, command_line, assignment, special_words, special_rule, new_rule, commands_behind, by_special, by_names, rule}
use Rattle.mk_read.specs.Special.{is_unknown_special, special_among}
use Rattle.mk_read.specs.State.{RuleRead, Owner, Nobody, Last, SpecialTarget, PassedOver, Read, State, rules_of, owned, parted}
use Rattle.mk_read.specs.Steps.{◌>>=◌, at_place, of_kind}

-- ---- results

-- what follows a step is the same where it is the same after each value
pub same_after : {A B : Type 0} (r : Result A ReadFault) (f g : A → Result B ReadFault) → ((x : A) → f x ≡ g x) → (r >>= f) ≡ (r >>= g)
same_after (Ok x) f g h = h x
same_after (Err fault) f g h = refl

-- steps in a row
pub in_a_row : {A B C : Type 0} (r : Result A ReadFault) (f : A → Result B ReadFault) (g : B → Result C ReadFault) → ((r >>= f) >>= g) ≡ (r >>= λ x. f x >>= g)
in_a_row (Ok x) f g = refl
in_a_row (Err fault) f g = refl

pub same_if : {A : Type 0} (b : Bool) (x x' y y' : A) → x ≡ x' → y ≡ y' → cond b x y ≡ cond b x' y'
same_if true x x' y y' e h = e
same_if false x x' y y' e h = h

-- ---- what command lines belong to

-- parted once more
pub owned_twice : (owner : Owner) (read : Read) → owned owner (owned Nobody read) ≡ owned owner read
owned_twice owner read = ap (λ (rules : List RuleRead). record { earlier = rules; owner = owner }) (append-nil (rules_of read))

module _ (place : Place) (state : State) where
  parted_assignment : (line : AssignmentLine) → assignment place (parted state) line ≡ assignment place state line
  unfolding assignment
  parted_assignment line =
      same_after (at_place place (expansion state.table None line.name)) _ _ (λ (name : Expanded). same_after (at_place place (defined state.table (without_blanks name.text) line.op line.value)) _ _ (λ (table : List Macro).
      ap (λ (read : Read). Ok (record state { table = table; read = read })) (owned_twice Nobody state.read)))

  parted_special : (targets words : List (List ℕ)) (commands : Bool) (special : Special) → special_rule place (parted state) targets words commands special ≡ special_rule place state targets words commands special
  unfolding special_rule
  parted_special targets words commands special =
      ap (λ (read : Read). cond (not (length targets == 1) || (commands || has_name words (codes ".WAIT"))) (Err (SpecialShape place)) (special_words place (record state { read = read }) words special)) (owned_twice SpecialTarget state.read)

  parted_new : (rule : RuleRead) → new_rule rule (parted state).read ≡ new_rule rule state.read
  unfolding new_rule
  parted_new rule = ap (λ (rules : List RuleRead). cond (has_some rule.commands) (unless_taken (taken rules rule) rule rules) (Ok (record { earlier = rules; owner = Last rule }))) (append-nil (rules_of state.read))

  parted_by_special : (default : Bool) (targets words : List (List ℕ)) (command : Option (List ℕ)) (special : Option Special) → by_special default place (parted state) targets words command special ≡ by_special default place state targets words command special
  parted_by_special default targets words command (Some special) = parted_special targets words (has_some command) special
  parted_by_special default targets words command None =
      ap (λ (r : Result Read ReadFault). r >>= λ read. Ok (record state { read = read })) (parted_new (record { targets = targets; words = words; commands = option_map (commands_behind place) command; place = place; default = default }))

  parted_by_names : (default : Bool) (targets : List (List ℕ)) (command : Option (List ℕ)) (words : List (List ℕ)) → by_names default place (parted state) targets command words ≡ by_names default place state targets command words
  unfolding by_names
  parted_by_names default targets command words = same_if (list_any is_unknown_special targets) _ _ _ _ refl (parted_by_special default targets words command (special_among targets))

  parted_rule : (default : Bool) (line : RuleLine) → rule default place (parted state) line ≡ rule default place state line
  unfolding rule
  parted_rule default line =
      same_after (names_in place state.table line.targets) _ _ (λ targets. same_if (is_empty targets) _ _ _ _ (ap (λ (read : Read). Ok (record state { read = read })) (owned_twice PassedOver state.read))
      (same_after (names_in place state.table line.words) _ _ (λ words. parted_by_names default targets line.command words)))

pub comment_is : (kind : Result Kind KindFault) → is_comment_kind kind ≡ true → kind ≡ Ok Comment
comment_is (Ok Comment) is = refl
comment_is (Ok (Include line)) is = absurd (true≢false (sym is))
comment_is (Ok (Assignment line)) is = absurd (true≢false (sym is))
comment_is (Ok (Rule line)) is = absurd (true≢false (sym is))
comment_is (Err fault) is = absurd (true≢false (sym is))

module _ (reader : Reader) (deeper : Deeper) (text : Text) where
  parted_include : (place : Place) (state : State) (deeper : Deeper) (line : IncludeLine) → include reader deeper place (parted state) line ≡ include reader deeper place state line
  parted_include place state None line = refl
  parted_include place state (Some read) line =
      same_after (names_in place state.table line.names) _ _ (λ names. ap (λ (r : Read). cond (is_empty names) (Err (IncludeEmpty place)) (files reader read place line.optional names (record state { read = r }))) (owned_twice Nobody state.read))

  parted_plain : (place : Place) (state : State) (kind : Result Kind KindFault) → is_comment_kind kind ≡ false
      → (of_kind place kind >>= plain_line reader deeper text.default place (parted state)) ≡ (of_kind place kind >>= plain_line reader deeper text.default place state)
  parted_plain place state (Ok Comment) other = absurd (true≢false other)
  parted_plain place state (Ok (Include line)) other = parted_include place state deeper line
  parted_plain place state (Ok (Assignment line)) other = parted_assignment place state line
  parted_plain place state (Ok (Rule line)) other = parted_rule place state text.default line
  parted_plain place state (Err fault) other = refl

  -- lines other than command lines and comment lines don't depend on what command lines belong to
  pub parted_line : (state : State) (line : Line) → line.command ≡ false → is_comment_line line ≡ false → with_line reader deeper text (parted state) line ≡ with_line reader deeper text state line
  unfolding with_line
  parted_line state line plain other = at line.command plain other
    where
      place : Place
      place = record { file = text.file; line = line.first }

      kind : Result Kind KindFault
      kind = kind_of (uncomment line.text)

      at : (b : Bool) → b ≡ false → (not b && is_comment_kind kind) ≡ false
          → cond b (command_line place line.text (parted state).read.earlier (parted state).read.owner >>= λ (read : Read). Ok (record (parted state) { read = read })) (of_kind place kind >>= plain_line reader deeper text.default place (parted state))
          ≡ cond b (command_line place line.text state.read.earlier state.read.owner >>= λ (read : Read). Ok (record state { read = read })) (of_kind place kind >>= plain_line reader deeper text.default place state)
      at true plain other = absurd (true≢false plain)
      at false plain other = parted_plain place state kind other

  pub comment_kept : (state : State) (line : Line) → is_comment_line line ≡ true → with_line reader deeper text state line ≡ Ok state
  unfolding with_line
  comment_kept state line is =
      let parts = and_parts (not line.command) (is_comment_kind (kind_of (uncomment line.text))) is in
      rw (not-true line.command parts.0, comment_is (kind_of (uncomment line.text)) parts.1) refl

  -- lines that don't begin with a command line don't depend on it, where what follows doesn't
  pub blind_lines : {B : Type 0} (next : State → Result B ReadFault) → ((state : State) → next (parted state) ≡ next state) → (lines : List Line) (state : State)
      → begins_without_command lines ≡ true → (with_lines reader deeper text lines (parted state) >>= next) ≡ (with_lines reader deeper text lines state >>= next)
  unfolding with_lines begins_without_command
  blind_lines next blind [] state begins = blind state
  blind_lines next blind (line ∷ lines) state begins =
      let on : Result State ReadFault → Result _ ReadFault = λ r. (r >>= with_lines reader deeper text lines) >>= next in
      elim (cases_Bool (is_comment_line line)) [
        | inl t ↦ ap on (comment_kept (parted state) line t) ∙ (blind_lines next blind lines state (sym (cond-true (is_comment_line line) (begins_without_command lines) (not line.command) t) ∙ begins) ∙ sym (ap on (comment_kept state line t)))
        | inr f ↦ ap on (parted_line state line (not-true line.command (sym (cond-false (is_comment_line line) (begins_without_command lines) (not line.command) f) ∙ begins)) f)
      ]

  pub with_both : (lines after : List Line) (state : State) → with_lines reader deeper text (lines ++ after) state ≡ (with_lines reader deeper text lines state >>= with_lines reader deeper text after)
  unfolding with_lines
  with_both [] after state = refl
  with_both (line ∷ lines) after state =
      same_after (with_line reader deeper text state line) _ _ (λ next. with_both lines after next) ∙ sym (in_a_row (with_line reader deeper text state line) (with_lines reader deeper text lines) (with_lines reader deeper text after))
