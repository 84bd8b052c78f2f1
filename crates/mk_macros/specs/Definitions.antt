-- Definitions of macros, in a makefile and by operands.
use Rattle.std.specs.Prelude.{ℕ, ◌==◌, Bool, true, false, not, List, [], ◌∷◌, ◌++◌, codes, length, reverse, nat_lt, Option, None, Some, Result, Ok, Err, if◌then◌else◌}
use Rattle.std.specs.List.{flat_map, list_any, before_first, after_first}
use Rattle.mk_lines.specs.Bytes.{is_byte, trimmed}
use Rattle.mk_macros.specs.Limits.{max_value}
use Rattle.mk_macros.specs.declared.fault.MacroFault.{MacroFault}
use Rattle.mk_macros.specs.declared.fault.MacroFault.TheVariants.{BadMacroName, ValueTooLong}
use Rattle.mk_macros.specs.declared.op.Op.{Op}
use Rattle.mk_macros.specs.declared.op.Op.TheVariants.{Delay, Now, Double, IfUnset, Append}
use Rattle.mk_macros.specs.Names.{is_macro_name}
use Rattle.mk_macros.specs.Substitution.{ends_with, without_end}
use Rattle.mk_macros.specs.Table.{Macro, macro_named, with_macro}
use Rattle.mk_macros.specs.Expansion.{Expanded, expansion}
use Rattle.mk_macros.specs.Steps.{◌>>=◌}

-- The byte, doubled if it is `$`.
abbrev pub doubled_byte : ℕ → List ℕ
doubled_byte b = if b == 36 then codes "$$" else b ∷ []

-- The text with each `$` doubled.
abbrev pub doubled : List ℕ → List ℕ
doubled text = flat_map doubled_byte text

-- The table with a macro of at most 1,048,576 bytes in place of one with the same name, or
-- `ValueTooLong`.
abbrev pub stored : List Macro → Macro → Result (List Macro) MacroFault
stored table macro =
    if nat_lt max_value (length macro.text) then Err ValueTooLong else Ok (with_macro table macro)

-- The text of an expansion.
abbrev pub value_text : Result Expanded MacroFault → Result (List ℕ) MacroFault
value_text result = result >>= λ expanded. Ok expanded.text

-- The macro with a space and more text appended.
abbrev pub appended : Macro → List ℕ → Macro
appended macro text = record macro { text = macro.text ++ 32 ∷ text }

-- The table with a space and more text appended to this macro; unchanged where there is no macro.
abbrev pub more_stored : List Macro → List ℕ → Option Macro → Result (List Macro) MacroFault
more_stored table more None = Ok table
more_stored table more (Some macro) = stored table (appended macro more)

-- The table after `+=`: as `=` where the name is undefined; on an immediate macro the text is
-- expanded first.
abbrev pub with_more : List Macro → List ℕ → List ℕ → Option Macro → Result (List Macro) MacroFault
with_more table name text None =
    stored table (record { name = name; text = text; immediate = false; fixed = false })
with_more table name text (Some macro) =
    if macro.immediate then (expansion table None text >>= λ more.
    stored table (appended macro more.text))
    else stored table (appended macro text)

-- The table after `?=`: as `=` where the name is undefined, else unchanged.
abbrev pub if_unset : List Macro → List ℕ → List ℕ → Option Macro → Result (List Macro) MacroFault
if_unset table name text None =
    stored table (record { name = name; text = text; immediate = false; fixed = false })
if_unset table name text (Some macro) = Ok table

-- The table after a definition of this name by one of the five operators; a definition by an
-- operand fixes the macro.
abbrev pub set : List Macro → List ℕ → Bool → Op → List ℕ → Result (List Macro) MacroFault
set table name by_operand Delay text =
    stored table (record { name = name; text = text; immediate = false; fixed = by_operand })
set table name by_operand Now text =
    expansion table None text >>= λ value.
    stored table (record { name = name; text = value.text; immediate = true; fixed = by_operand })
set table name by_operand Double text =
    expansion table None text >>= λ value.
    stored table (record {
      name = name;
      text = doubled value.text;
      immediate = false;
      fixed = by_operand;
    })
set table name by_operand IfUnset text = if_unset table name text (macro_named table name)
set table name by_operand Append text = with_more table name text (macro_named table name)

-- The macro is defined, and an operand has fixed it.
abbrev pub is_fixed : Option Macro → Bool
is_fixed None = false
is_fixed (Some macro) = macro.fixed

-- The table after a definition in a makefile: `BadMacroName` (11) for an invalid name, else
-- unchanged where an operand has fixed the name, else set.
unfoldable pub defined : List Macro → List ℕ → Op → List ℕ → Result (List Macro) MacroFault
defined table name op text =
    if not (is_macro_name name) then Err BadMacroName
    else (if is_fixed (macro_named table name) then Ok table
    else set table name false op text)

-- The text without the blanks at its ends.
abbrev pub without_blanks : List ℕ → List ℕ
without_blanks text = reverse (trimmed (reverse (trimmed text)))

-- The operator of an operand and the text before it, from what precedes the first `=`: `:::=` where
-- that ends with `:::`, `::=` where it ends with `::`, else `=`.
abbrev pub operator_of : List ℕ → Op × List ℕ
operator_of before =
    if ends_with (codes ":::") before then (Double, without_end 3 before)
    else (if ends_with (codes "::") before then (Now, without_end 2 before)
    else (Delay, before))

-- The table after an operand with this operator and what precedes it: `BadMacroName` (11) for an
-- invalid name, else set, and the name is fixed.
abbrev pub operand_set : List Macro → Op × List ℕ → List ℕ → Result (List Macro) MacroFault
operand_set table operator text =
    if not (is_macro_name (without_blanks operator.1)) then Err BadMacroName
    else set table (without_blanks operator.1) true operator.0 text

-- The table after a macro operand, split at its first `=`: `BadMacroName` (11) without `=`. A later
-- operand replaces an earlier one of the same name.
unfoldable pub with_operand : List Macro → List ℕ → Result (List Macro) MacroFault
with_operand table operand =
    if not (list_any (is_byte 61) operand) then Err BadMacroName
    else operand_set table (operator_of (before_first (is_byte 61) operand))
    (trimmed (after_first (is_byte 61) operand))
