-- The suffixes that a makefile lists are suffixes.
use Rattle.std.proofs.Common.{◌≡◌, ℕ, Bool, true, false, cond, not, List, [], ◌++◌, Option, None, Some, Ok, Err, refl, subst}
use Rattle.std.specs.Prelude.{◌||◌, codes, length, ◌==◌}
use Rattle.std.specs.List.{list_any, list_all}
use Rattle.std.specs.Option.{option_map}
use Rattle.mk_read.proofs.SuffixLists.{AllSuffixes, all_in_both}
use Rattle.mk_macros.specs.Definitions.{defined, without_blanks}
use Rattle.mk_macros.specs.Expansion.{expansion}
use Rattle.mk_read.specs.declared.fault.Place.{Place}
use Rattle.mk_read.specs.declared.fault.ReadFault.TheVariants.{SpecialShape}
use Rattle.mk_read.specs.declared.special.Special.{Special}
use Rattle.mk_read.specs.declared.special.Special.TheVariants.{Suffixes, Phony, NotParallel, Wordless, Unread}
use Rattle.mk_read.specs.Kinds.{AssignmentLine, RuleLine}
use Rattle.mk_read.specs.Names.{names_in, has_name, is_empty, once}
use Rattle.mk_read.specs.Reading.{Makefile}
use Rattle.mk_read.specs.RuleLaws.{SuffixesAreSuffixes}
use Rattle.mk_read.specs.Rules.{has_some, command_line, assignment, special_words, special_rule, new_rule, commands_behind, by_special, by_names, rule}
use Rattle.mk_read.specs.Special.{is_suffix, is_unknown_special, listed, special_among}
use Rattle.mk_read.specs.State.{RuleRead, SpecialTarget, State, owned}
use Rattle.mk_read.specs.Steps.{at_place}
use Rattle.mk_read_laws.proofs.Kept.{Holds, holds_step, holds_if, IsKept, by_default, by_named}
use Rattle.mk_read_laws.proofs.OneLine.{parts_of}

-- what was read so far lists suffixes
abbrev Lists : State → Type 0
Lists state = AllSuffixes state.suffixes

listed_words : (suffixes words : List (List ℕ)) → AllSuffixes suffixes → AllSuffixes words → AllSuffixes (listed suffixes words)
listed_words suffixes words all more = at (is_empty words)
  where
    at : (b : Bool) → AllSuffixes (cond b [] (once (suffixes ++ words)))
    at true = refl
    at false = all_in_both suffixes words all more

module _ (place : Place) (state : State) (all : Lists state) where
  by_words : (words : List (List ℕ)) (special : Special) → Holds Lists (special_words place state words special)
  by_words words Suffixes = at (list_all is_suffix words) refl
    where
      at : (b : Bool) → list_all is_suffix words ≡ b → Holds Lists (cond b (Ok (record state { suffixes = listed state.suffixes words })) (Err (SpecialShape place)))
      at true is = listed_words state.suffixes words all is
      at false is = tt
  by_words words Phony = all
  by_words words NotParallel = holds_if Lists (is_empty words) _ _ all tt
  by_words words Wordless = holds_if Lists (is_empty words) _ _ all tt
  by_words words Unread = all

module _ (default : Bool) (place : Place) (state : State) (all : Lists state) where
  by_special_rule : (targets words : List (List ℕ)) (commands : Bool) (special : Special) → Holds Lists (special_rule place state targets words commands special)
  unfolding special_rule
  by_special_rule targets words commands special =
      holds_if Lists (not (length targets == 1) || (commands || has_name words (codes ".WAIT"))) _ _ tt (by_words place (record state { read = owned SpecialTarget state.read }) all words special)

  by_specials : (targets words : List (List ℕ)) (command : Option (List ℕ)) (special : Option Special) → Holds Lists (by_special default place state targets words command special)
  by_specials targets words command (Some special) = by_special_rule targets words (has_some command) special
  by_specials targets words command None =
      let made : RuleRead = record { targets = targets; words = words; commands = option_map (commands_behind place) command; place = place; default = default } in
      holds_step Lists (new_rule made state.read) _ (λ read. all)

  by_all_names : (targets : List (List ℕ)) (command : Option (List ℕ)) (words : List (List ℕ)) → Holds Lists (by_names default place state targets command words)
  unfolding by_names
  by_all_names targets command words = holds_if Lists (list_any is_unknown_special targets) _ _ tt (by_specials targets words command (special_among targets))

  by_rule : (line : RuleLine) → Holds Lists (rule default place state line)
  unfolding rule
  by_rule line = holds_step Lists (names_in place state.table line.targets) _ (λ targets. holds_if Lists (is_empty targets) _ _ all (holds_step Lists (names_in place state.table line.words) _ (by_all_names targets line.command)))

by_assignment : (place : Place) (state : State) (line : AssignmentLine) → Lists state → Holds Lists (assignment place state line)
unfolding assignment
by_assignment place state line all =
    holds_step Lists (at_place place (expansion state.table None line.name)) _ (λ name. holds_step Lists (at_place place (defined state.table (without_blanks name.text) line.op line.value)) _ (λ table. all))

lists_suffixes : IsKept Lists (λ default. Unit {0})
lists_suffixes = record {
  own = tt;
  by_assignment = by_assignment;
  by_rule = λ default place state line any all. by_rule default place state all line;
  by_command = λ place text state all. holds_step Lists (command_line place text state.read.earlier state.read.owner) _ (λ read. all);
  by_parting = λ state all. all;
  by_texts = λ state texts all. all;
  by_missing = λ state missing all. all;
}

pub suffixes_are_suffixes : SuffixesAreSuffixes
suffixes_are_suffixes reader file defaults operands m e =
    let parts = parts_of reader file defaults operands m e in
    let first : Lists parts.start = subst (Holds Lists) parts.starts (by_default Lists (λ default. Unit {0}) lists_suffixes reader defaults tt refl) in
    let last : Lists parts.state = subst (Holds Lists) parts.reads (by_named Lists (λ default. Unit {0}) lists_suffixes reader (record parts.start { table = parts.table }) parts.chosen first) in
    subst (λ (m : Makefile). AllSuffixes m.suffixes) parts.is last
