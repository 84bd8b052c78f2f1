-- Macro operands, as the code takes them apart.
use Rattle.std.proofs.Common.{◌≡◌, ℕ, ◌+◌, ◌-◌, ◌<◌, true, not, cond, List, length, take, drop, Err, sym, ap, ◌∙◌}
use Rattle.std.specs.List.{position_or_len, before_first, after_first}
use Rattle.mk_lines.specs.Bytes.{is_byte, trimmed}
use Rattle.mk_macros.specs.declared.fault.MacroFault.TheVariants.{BadMacroName}
use Rattle.mk_macros.specs.declared.op.Op.{Op}
use Rattle.mk_macros.specs.Names.{is_macro_name}
use Rattle.mk_macros.specs.Table.{Macro}
use Rattle.mk_macros.specs.Definitions.{set, without_blanks, operator_of, operand_set, with_operand}
use Rattle.mk_macros.proofs.Places.{none_placed, parted_cut}

-- without a `=`
pub no_operator : (table : List Macro) (operand : List ℕ) (at : ℕ) → at ≡ position_or_len (is_byte 61) operand → at ≡ length operand → with_operand table operand ≡ Err BadMacroName
unfolding with_operand
no_operator table operand at e end =
    ap (λ b. cond (not b) (Err BadMacroName) (operand_set table (operator_of (before_first (is_byte 61) operand)) (trimmed (after_first (is_byte 61) operand)))) (none_placed (is_byte 61) operand (sym e ∙ end))

-- with one
pub operand_is : (table : List Macro) (operand : List ℕ) (at : ℕ) (op : Op) (before name : List ℕ) → at ≡ position_or_len (is_byte 61) operand → at < length operand
    → op ≡ (operator_of (take at operand)).0 → before ≡ (operator_of (take at operand)).1 → name ≡ without_blanks before → is_macro_name name ≡ true
    → with_operand table operand ≡ set table name true op (trimmed (take (length operand - (at + 1)) (drop (at + 1) operand)))
unfolding with_operand
operand_is table operand at op before name e lt o b n good =
    let cut = parted_cut (is_byte 61) operand at e lt in
    let named : without_blanks (operator_of (take at operand)).1 ≡ name = ap without_blanks (sym b) ∙ sym n in
    let text = trimmed (take (length operand - (at + 1)) (drop (at + 1) operand)) in
    ap (λ c. cond (not c) (Err BadMacroName) (operand_set table (operator_of (before_first (is_byte 61) operand)) (trimmed (after_first (is_byte 61) operand)))) (sym cut.0)
    ∙ (ap (λ (t : List ℕ). operand_set table (operator_of t) (trimmed (after_first (is_byte 61) operand))) (sym cut.1)
    ∙ (ap (λ (t : List ℕ). operand_set table (operator_of (take at operand)) (trimmed t)) (sym cut.2)
    ∙ (ap (λ (m : List ℕ). cond (not (is_macro_name m)) (Err BadMacroName) (set table m true (operator_of (take at operand)).0 text)) named
    ∙ (ap (λ c. cond (not c) (Err BadMacroName) (set table name true (operator_of (take at operand)).0 text)) good ∙ ap (λ (p : Op). set table name true p text) (sym o)))))
