-- Macros that operands have fixed.
use Rattle.std.proofs.Common.{◌≡◌, ℕ, Bool, true, not, List, [], ◌∷◌, Option, None, Some, Result, Ok, Err, refl, sym, ap, subst, ◌∙◌}
use Rattle.std.specs.Prelude.{◌||◌, codes, length, ◌==◌}
use Rattle.std.specs.List.{list_any, list_all}
use Rattle.std.specs.Option.{option_map}
use Rattle.mk_macros.specs.declared.fault.MacroFault.{MacroFault}
use Rattle.mk_macros.specs.declared.op.Op.{Op}
use Rattle.mk_macros.specs.Table.{Macro, macro_named}
use Rattle.mk_macros.specs.Definitions.{defined, without_blanks}
use Rattle.mk_macros.specs.Expansion.{expansion}
use Rattle.mk_macros.specs.Laws.{Definition, after_definitions, OperandsWin}
use Rattle.mk_read.specs.declared.fault.Place.{Place}
use Rattle.mk_read.specs.declared.fault.ReadFault.{ReadFault}
use Rattle.mk_read.specs.declared.special.Special.{Special}
use Rattle.mk_read.specs.declared.special.Special.TheVariants.{Suffixes, Phony, NotParallel, Wordless, Unread}
use Rattle.mk_read.specs.Kinds.{AssignmentLine, RuleLine}
use Rattle.mk_read.specs.Names.{names_in, has_name, is_empty}
use Rattle.mk_read.specs.Reading.{Makefile, with_operands}
use Rattle.mk_read.specs.RuleLaws.{OperandsWinOverMakefiles}
use Rattle.mk_read.specs.Rules.{command_line, assignment, special_words, special_rule, new_rule, commands_behind, by_special, by_names, has_some, rule}
use Rattle.mk_read.specs.Special.{is_suffix, is_unknown_special, special_among}
use Rattle.mk_read.specs.State.{RuleRead, SpecialTarget, Read, State, owned, parted}
use Rattle.mk_read.specs.Steps.{◌>>=◌, at_place}
use Rattle.mk_read_laws.proofs.Kept.{Holds, holds_step, holds_if, IsKept, by_named}
use Rattle.mk_read_laws.proofs.OneLine.{parts_of}

-- one definition, as a list of definitions
one_definition : (table after : List Macro) (definition : Definition) → defined table definition.name definition.op definition.text ≡ Ok after → after_definitions table (definition ∷ []) ≡ Ok after
unfolding after_definitions
one_definition table after definition e = rw e refl

module _ (name : List ℕ) (macro : Macro) where
  -- the macro stands in the table
  abbrev HasMacro : State → Type 0
  HasMacro state = macro_named state.table name ≡ Some macro

  with_read : (state : State) (r : Result Read ReadFault) → HasMacro state → Holds HasMacro (r >>= λ read. Ok (record state { read = read }))
  with_read state (Ok read) has = has
  with_read state (Err fault) has = tt

  by_words : (place : Place) (state : State) (words : List (List ℕ)) (special : Special) → HasMacro state → Holds HasMacro (special_words place state words special)
  by_words place state words Suffixes has = holds_if HasMacro (list_all is_suffix words) _ _ has tt
  by_words place state words Phony has = has
  by_words place state words NotParallel has = holds_if HasMacro (is_empty words) _ _ has tt
  by_words place state words Wordless has = holds_if HasMacro (is_empty words) _ _ has tt
  by_words place state words Unread has = has

  by_special_rule : (place : Place) (state : State) (targets words : List (List ℕ)) (commands : Bool) (special : Special) → HasMacro state → Holds HasMacro (special_rule place state targets words commands special)
  unfolding special_rule
  by_special_rule place state targets words commands special has =
      holds_if HasMacro (not (length targets == 1) || (commands || has_name words (codes ".WAIT"))) _ _ tt (by_words place (record state { read = owned SpecialTarget state.read }) words special has)

  module _ (default : Bool) (place : Place) (state : State) where
    by_specials : (targets words : List (List ℕ)) (command : Option (List ℕ)) (special : Option Special) → HasMacro state → Holds HasMacro (by_special default place state targets words command special)
    by_specials targets words command (Some special) has = by_special_rule place state targets words (has_some command) special has
    by_specials targets words command None has =
        let made : RuleRead = record { targets = targets; words = words; commands = option_map (commands_behind place) command; place = place; default = default } in
        with_read state (new_rule made state.read) has

    by_all_names : (targets : List (List ℕ)) (command : Option (List ℕ)) (words : List (List ℕ)) → HasMacro state → Holds HasMacro (by_names default place state targets command words)
    unfolding by_names
    by_all_names targets command words has = holds_if HasMacro (list_any is_unknown_special targets) _ _ tt (by_specials targets words command (special_among targets) has)

    by_rule : (line : RuleLine) → HasMacro state → Holds HasMacro (rule default place state line)
    unfolding rule
    by_rule line has =
        holds_step HasMacro (names_in place state.table line.targets) _ (λ targets. holds_if HasMacro (is_empty targets) _ _ has (holds_step HasMacro (names_in place state.table line.words) _ (λ words. by_all_names targets line.command words has)))

  module _ (win : OperandsWin) (fixed : macro.fixed ≡ true) where
    -- a definition leaves it
    by_definition : (place : Place) (state : State) (changed : List ℕ) (op : Op) (text : List ℕ) (r : Result (List Macro) MacroFault) → defined state.table changed op text ≡ r → HasMacro state
        → Holds HasMacro (at_place place r >>= λ table. Ok (record (parted state) { table = table }))
    by_definition place state changed op text (Ok after) e has =
        let definition : Definition = record { name = changed; op = op; text = text } in
        win state.table after (definition ∷ []) name macro has fixed (one_definition state.table after definition e)
    by_definition place state changed op text (Err fault) e has = tt

    by_assignment : (place : Place) (state : State) (line : AssignmentLine) → HasMacro state → Holds HasMacro (assignment place state line)
    unfolding assignment
    by_assignment place state line has =
        holds_step HasMacro (at_place place (expansion state.table None line.name)) _ (λ expanded. by_definition place state (without_blanks expanded.text) line.op line.value _ refl has)

    stays : IsKept HasMacro (λ default. Unit {0})
    stays = record {
      by_assignment = by_assignment;
      own = tt;
      by_rule = λ default place state line any holds. by_rule default place state line holds;
      by_command = λ place text state has. with_read state (command_line place text state.read.earlier state.read.owner) has;
      by_parting = λ state has. has;
      by_texts = λ state texts has. has;
      by_missing = λ state missing has. has;
    }

pub operands_win_over_makefiles : OperandsWin → OperandsWinOverMakefiles
operands_win_over_makefiles win reader file defaults operands m e start table starts fixes name macro is fixed =
    let parts = parts_of reader file defaults operands m e in
    let same_start : parts.start ≡ start = let both : Ok parts.start ≡ Ok start = sym parts.starts ∙ starts in cc in
    let same_table : parts.table ≡ table = let both : Ok parts.table ≡ Ok table = sym parts.fixed ∙ (ap (λ (s : State). with_operands 1 operands s.table) same_start ∙ fixes) in cc in
    let first : macro_named parts.table name ≡ Some macro = ap (λ (t : List Macro). macro_named t name) same_table ∙ is in
    let last : macro_named parts.state.table name ≡ Some macro = subst (Holds (HasMacro name macro)) parts.reads (by_named (HasMacro name macro) (λ default. Unit {0}) (stays name macro win fixed) reader (record parts.start { table = parts.table }) parts.chosen first) in
    ap (λ (m : Makefile). macro_named m.macros name) (sym parts.is) ∙ last
