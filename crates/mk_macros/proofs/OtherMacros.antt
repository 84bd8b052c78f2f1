-- Macros that an operand doesn't set.
use Rattle.std.proofs.Common.{◌≡◌, ℕ, Bool, true, false, not, cond, ltb, List, [], ◌∷◌, length, Option, None, Some, Result, Ok, Err, refl, sym, ap, ◌∙◌}
use Rattle.std.specs.List.{list_any, before_first, after_first}
use Rattle.std.specs.Str.{bytes_eq}
use Rattle.std.proofs.lemmas.Slice.Eq.{bytes_eq-Decides}
use Rattle.mk_lines.specs.Bytes.{is_byte, trimmed}
use Rattle.mk_macros.specs.declared.fault.MacroFault.{MacroFault}
use Rattle.mk_macros.specs.declared.fault.MacroFault.TheVariants.{BadMacroName, ValueTooLong}
use Rattle.mk_macros.specs.declared.op.Op.{Op}
use Rattle.mk_macros.specs.declared.op.Op.TheVariants.{Delay, Now, Double}
use Rattle.mk_macros.specs.Definitions.{stored, operator_of, operand_set, with_operand, without_blanks}
use Rattle.mk_macros.specs.Expansion.{expansion}
use Rattle.mk_macros.specs.Laws.{OperandsLeaveOthers, operand_name}
use Rattle.mk_macros.specs.Names.{is_macro_name}
use Rattle.mk_macros.specs.Steps.{◌>>=◌}
use Rattle.mk_macros.specs.Substitution.{ends_with, without_end}
use Rattle.mk_macros.specs.Table.{Macro, is_called, macro_named, with_macro}

-- where a table results, the name has the same meaning
abbrev pub Keeps : List Macro → List ℕ → Result (List Macro) MacroFault → Type 0
Keeps table name result = (after : List Macro) → result ≡ Ok after → macro_named after name ≡ macro_named table name

-- a macro of another name leaves it
pub other_macro : (table : List Macro) (macro : Macro) (name : List ℕ) → bytes_eq name macro.name ≡ false → macro_named (with_macro table macro) name ≡ macro_named table name
unfolding with_macro
other_macro [] macro name other = ap (λ b. cond b (Some macro) None) other
other_macro (first ∷ table) macro name other = at (is_called macro.name first) refl (other_macro table macro name other)
  where
    at : (b : Bool) → is_called macro.name first ≡ b → macro_named (with_macro table macro) name ≡ macro_named table name
        → macro_named (cond b (macro ∷ table) (first ∷ with_macro table macro)) name ≡ macro_named (first ∷ table) name
    at true t ih =
        let same : macro.name ≡ first.name = (bytes_eq-Decides macro.name first.name).0 t in
        ap (λ b. cond b (Some macro) (macro_named table name)) other ∙ ap (λ b. cond b (Some first) (macro_named table name)) (sym (ap (bytes_eq name) (sym same) ∙ other))
    at false f ih = ap (λ (o : Option Macro). cond (is_called name first) (Some first) o) ih

pub keeps_stored : (table : List Macro) (macro : Macro) (name : List ℕ) → bytes_eq name macro.name ≡ false → Keeps table name (stored table macro)
keeps_stored table macro name other = at (ltb 1048576 (length macro.text))
  where
    at : (b : Bool) → Keeps table name (cond b (Err ValueTooLong) (Ok (with_macro table macro)))
    at true after e = absurd cc
    at false after e = let same : with_macro table macro ≡ after = cc in ap (λ (ms : List Macro). macro_named ms name) (sym same) ∙ other_macro table macro name other

pub keeps_step : {A : Type 0} (table : List Macro) (name : List ℕ) (r : Result A MacroFault) (f : A → Result (List Macro) MacroFault) → ((x : A) → Keeps table name (f x)) → Keeps table name (r >>= f)
keeps_step table name (Ok x) f keeps = keeps x
keeps_step table name (Err fault) f keeps = λ after e. absurd cc

keeps_good : (table : List Macro) (name : List ℕ) (good : Bool) (r : Result (List Macro) MacroFault) → Keeps table name r → Keeps table name (cond (not good) (Err BadMacroName) r)
keeps_good table name true r keeps = keeps
keeps_good table name false r keeps = λ after e. absurd cc

keeps_operator : (table : List Macro) (before text name : List ℕ) → bytes_eq name (without_blanks (operator_of before).1) ≡ false → Keeps table name (operand_set table (operator_of before) text)
keeps_operator table before text name = at (ends_with (58 ∷ 58 ∷ 58 ∷ []) before) (ends_with (58 ∷ 58 ∷ []) before)
  where
    operator : Bool → Bool → Op × List ℕ
    operator three two = cond three (Double, without_end 3 before) (cond two (Now, without_end 2 before) (Delay, before))

    at : (three two : Bool) → bytes_eq name (without_blanks (operator three two).1) ≡ false → Keeps table name (operand_set table (operator three two) text)
    at true two other = keeps_good table name (is_macro_name (without_blanks (without_end 3 before))) _ (keeps_step table name (expansion table None text) _ (λ value. keeps_stored table _ name other))
    at false true other = keeps_good table name (is_macro_name (without_blanks (without_end 2 before))) _ (keeps_step table name (expansion table None text) _ (λ value. keeps_stored table _ name other))
    at false false other = keeps_good table name (is_macro_name (without_blanks before)) _ (keeps_stored table _ name other)

-- an operand of another name leaves what a name means
keeps_operand : (table : List Macro) (operand name : List ℕ) → bytes_eq name (operand_name operand) ≡ false → Keeps table name (with_operand table operand)
unfolding with_operand
keeps_operand table operand name other = at (list_any (is_byte 61) operand)
  where
    at : (b : Bool) → Keeps table name (cond (not b) (Err BadMacroName) (operand_set table (operator_of (before_first (is_byte 61) operand)) (trimmed (after_first (is_byte 61) operand))))
    at true = keeps_operator table (before_first (is_byte 61) operand) (trimmed (after_first (is_byte 61) operand)) name other
    at false = λ after e. absurd cc

pub operands_leave_others : OperandsLeaveOthers
operands_leave_others table operand after name other is = keeps_operand table operand name other after is
