-- Lines that read no file.
use Rattle.std.proofs.Common.{◌≡◌, ℕ, Bool, true, false, cond, not, ◌||◌, List, codes, Option, None, Some, Result, Ok, Err, length, refl, sym, ap, ◌∙◌}
use Rattle.std.specs.Prelude.{◌==◌}
use Rattle.std.specs.List.{list_all, list_any}
use Rattle.mk_macros.specs.Definitions.{defined, without_blanks}
use Rattle.mk_macros.specs.Expansion.{expansion}
use Rattle.mk_read.specs.declared.fault.Place.{Place}
use Rattle.mk_read.specs.declared.fault.ReadFault.{ReadFault}
use Rattle.mk_read.specs.declared.special.Special.{Special}
use Rattle.mk_read.specs.declared.special.Special.TheVariants.{Suffixes, Phony, NotParallel, Wordless, Unread}
use Rattle.mk_read.specs.Kinds.{AssignmentLine, RuleLine}
use Rattle.mk_read.specs.Names.{names_in, has_name, is_empty}
use Rattle.mk_read.specs.Reading.{reads}
use Rattle.mk_read.specs.Rules.{command_line, assignment, special_words, special_rule, new_rule, by_special, by_names, by_targets, rule}
use Rattle.mk_read.specs.Special.{special_among, is_unknown_special, is_suffix}
use Rattle.mk_read.specs.State.{State, SpecialTarget, owned}
use Rattle.mk_read.specs.Steps.{◌>>=◌, at_place}
use Rattle.mk_read_parse.specs.Views.{behind_commands}

-- the reads of the resulting state, else the given number
abbrev pub reads_or : ℕ → Result State ReadFault → ℕ
reads_or n (Ok state) = reads state
reads_or n (Err fault) = n

pub same_reads : (old new : State) (r : Result State ReadFault) → reads_or (reads old) r ≡ reads old → r ≡ Ok new → reads new ≡ reads old
same_reads old new r keeps e = sym (ap (reads_or (reads old)) e) ∙ keeps

bind : {A : Type 0} (n : ℕ) (r : Result A ReadFault) (f : A → Result State ReadFault) → ((x : A) → reads_or n (f x) ≡ n) → reads_or n (r >>= f) ≡ n
bind n (Ok x) f h = h x
bind n (Err fault) f h = refl

either : (n : ℕ) (b : Bool) (r s : Result State ReadFault) → reads_or n r ≡ n → reads_or n s ≡ n → reads_or n (cond b r s) ≡ n
either n true r s h k = h
either n false r s h k = k

pub command_keeps : (place : Place) (text : List ℕ) (state : State) → reads_or (reads state) (behind_commands place text state) ≡ reads state
command_keeps place text state = bind (reads state) (command_line place text state.read.earlier state.read.owner) (λ read. Ok (record state { read = read })) (λ read. refl)

pub assignment_keeps : (place : Place) (state : State) (line : AssignmentLine) → reads_or (reads state) (assignment place state line) ≡ reads state
unfolding assignment
assignment_keeps place state line = bind (reads state) (at_place place (expansion state.table None line.name)) _ (λ name. bind (reads state) (at_place place (defined state.table (without_blanks name.text) line.op line.value)) _ (λ table. refl))

special_words_keep : (n : ℕ) (place : Place) (state : State) (words : List (List ℕ)) (special : Special) → reads state ≡ n → reads_or n (special_words place state words special) ≡ n
special_words_keep n place state words Suffixes e = either n (list_all is_suffix words) _ _ e refl
special_words_keep n place state words Phony e = e
special_words_keep n place state words NotParallel e = either n (is_empty words) _ _ e refl
special_words_keep n place state words Wordless e = either n (is_empty words) _ _ e refl
special_words_keep n place state words Unread e = e

special_rule_keeps : (place : Place) (state : State) (targets words : List (List ℕ)) (commands : Bool) (special : Special) → reads_or (reads state) (special_rule place state targets words commands special) ≡ reads state
unfolding special_rule
special_rule_keeps place state targets words commands special =
    either (reads state) (not (length targets == 1) || (commands || has_name words (codes ".WAIT"))) _ _ refl (special_words_keep (reads state) place (record state { read = owned SpecialTarget state.read }) words special refl)

by_special_keeps : (default : Bool) (place : Place) (state : State) (targets words : List (List ℕ)) (command : Option (List ℕ)) (special : Option Special) → reads_or (reads state) (by_special default place state targets words command special) ≡ reads state
by_special_keeps default place state targets words command (Some special) = special_rule_keeps place state targets words _ special
by_special_keeps default place state targets words command None = bind (reads state) (new_rule _ state.read) _ (λ read. refl)

by_names_keeps : (default : Bool) (place : Place) (state : State) (targets : List (List ℕ)) (command : Option (List ℕ)) (words : List (List ℕ)) → reads_or (reads state) (by_names default place state targets command words) ≡ reads state
unfolding by_names
by_names_keeps default place state targets command words = either (reads state) (list_any is_unknown_special targets) _ _ refl (by_special_keeps default place state targets words command (special_among targets))

pub rule_keeps : (default : Bool) (place : Place) (state : State) (line : RuleLine) → reads_or (reads state) (rule default place state line) ≡ reads state
unfolding rule
rule_keeps default place state line = bind (reads state) (names_in place state.table line.targets) (by_targets default place state line)
    (λ targets. either (reads state) (is_empty targets) _ _ refl (bind (reads state) (names_in place state.table line.words) (by_names default place state targets line.command) (λ words. by_names_keeps default place state targets line.command words)))
