-- Laws of definitions.
use Rattle.std.proofs.Common.{◌≡◌, ℕ, ◌+◌, ◌≤◌, Bool, true, false, not, ltb, cond, List, [], ◌∷◌, ◌++◌, length, Option, Some, None, Result, Ok, Err, refl, sym, ap, ◌∙◌, arith, length-append}
use Rattle.std.specs.Str.{bytes_eq}
use Rattle.std.specs.List.{list_any, before_first, after_first}
use Rattle.mk_lines.specs.Bytes.{is_byte, trimmed}
use Rattle.mk_macros.specs.Substitution.{ends_with, without_end}
use Rattle.std.proofs.lemmas.Bool.{le-ltb}
use Rattle.std.proofs.lemmas.Slice.Eq.{bytes_eq-Decides}
use Rattle.mk_macros.proofs.OtherMacros.{Keeps, keeps_step, keeps_stored}
use Rattle.mk_macros.specs.declared.fault.MacroFault.{MacroFault}
use Rattle.mk_macros.specs.declared.fault.MacroFault.TheVariants.{BadMacroName, ValueTooLong}
use Rattle.mk_macros.specs.declared.op.Op.{Op}
use Rattle.mk_macros.specs.declared.op.Op.TheVariants.{Delay, Now, Double, IfUnset, Append}
use Rattle.mk_macros.specs.Names.{is_macro_name}
use Rattle.mk_macros.specs.Table.{Macro, is_called, macro_named, with_macro}
use Rattle.mk_macros.specs.Expansion.{Expanded, expansion}
use Rattle.mk_macros.specs.Steps.{◌>>=◌}
use Rattle.mk_macros.specs.Definitions.{stored, appended, with_more, if_unset, set, is_fixed, defined, operator_of, operand_set, with_operand, without_blanks}
use Rattle.mk_macros.specs.Laws.{after_definitions, OperandsWin, AppendingToNothing, AppendingToDelayed, AppendingToImmediate, OperandsFix, IsFixed, operand_name}

keeps_same : (table : List Macro) (name : List ℕ) → Keeps table name (Ok table)
keeps_same table name after e = let same : table ≡ after = cc in ap (λ (ms : List Macro). macro_named ms name) (sym same)

keeps_unset : (table : List Macro) (changed text name : List ℕ) (found : Option Macro) → bytes_eq name changed ≡ false → Keeps table name (if_unset table changed text found)
keeps_unset table changed text name None other = keeps_stored table _ name other
keeps_unset table changed text name (Some macro) other = keeps_same table name

-- a macro that is found has the name
named_so : (table : List Macro) (name : List ℕ) (macro : Macro) → macro_named table name ≡ Some macro → macro.name ≡ name
named_so [] name macro e = absurd cc
named_so (first ∷ table) name macro e = at (is_called name first) refl e (named_so table name macro)
  where
    at : (b : Bool) → is_called name first ≡ b → cond b (Some first) (macro_named table name) ≡ Some macro → (macro_named table name ≡ Some macro → macro.name ≡ name) → macro.name ≡ name
    at true t k ih = let same : first ≡ macro = cc in ap (λ (m : Macro). m.name) (sym same) ∙ sym ((bytes_eq-Decides name first.name).0 t)
    at false f k ih = ih k

keeps_more : (table : List Macro) (changed text name : List ℕ) (found : Option Macro) → macro_named table changed ≡ found → bytes_eq name changed ≡ false → Keeps table name (with_more table changed text found)
keeps_more table changed text name None is other = keeps_stored table _ name other
keeps_more table changed text name (Some macro) is other = at macro.immediate
  where
    apart : bytes_eq name macro.name ≡ false
    apart = ap (bytes_eq name) (named_so table changed macro is) ∙ other

    at : (b : Bool) → Keeps table name (cond b (expansion table None text >>= λ (more : Expanded). stored table (appended macro more.text)) (stored table (appended macro text)))
    at true = keeps_step table name (expansion table None text) (λ (more : Expanded). stored table (appended macro more.text)) (λ more. keeps_stored table (appended macro more.text) name apart)
    at false = keeps_stored table (appended macro text) name apart

keeps_set : (table : List Macro) (changed text name : List ℕ) (by_operand : Bool) (op : Op) → bytes_eq name changed ≡ false → Keeps table name (set table changed by_operand op text)
keeps_set table changed text name by_operand Delay other = keeps_stored table _ name other
keeps_set table changed text name by_operand Now other = keeps_step table name (expansion table None text) _ (λ value. keeps_stored table _ name other)
keeps_set table changed text name by_operand Double other = keeps_step table name (expansion table None text) _ (λ value. keeps_stored table _ name other)
keeps_set table changed text name by_operand IfUnset other = keeps_unset table changed text name (macro_named table changed) other
keeps_set table changed text name by_operand Append other = keeps_more table changed text name (macro_named table changed) refl other

-- the macro that is put into a table is that of its name
stands : (table : List Macro) (macro : Macro) → macro_named (with_macro table macro) macro.name ≡ Some macro
unfolding with_macro
stands [] macro = ap (λ b. cond b (Some macro) None) ((bytes_eq-Decides macro.name macro.name).1 refl)
stands (first ∷ table) macro = at (is_called macro.name first) refl (stands table macro)
  where
    at : (b : Bool) → is_called macro.name first ≡ b → macro_named (with_macro table macro) macro.name ≡ Some macro → macro_named (cond b (macro ∷ table) (first ∷ with_macro table macro)) macro.name ≡ Some macro
    at true t rest = ap (λ b. cond b (Some macro) (macro_named table macro.name)) ((bytes_eq-Decides macro.name macro.name).1 refl)
    at false f rest = ap (λ b. cond b (Some first) (macro_named (with_macro table macro) macro.name)) f ∙ rest

-- where a table results, the name is fixed in it
abbrev Fixes : List ℕ → Result (List Macro) MacroFault → Type 0
Fixes name result = (after : List Macro) → result ≡ Ok after → IsFixed after name

fixes_stored : (table : List Macro) (macro : Macro) → macro.fixed ≡ true → Fixes macro.name (stored table macro)
fixes_stored table macro fixed = at (ltb 1048576 (length macro.text))
  where
    at : (b : Bool) → Fixes macro.name (cond b (Err ValueTooLong) (Ok (with_macro table macro)))
    at true after e = absurd cc
    at false after e = let same : with_macro table macro ≡ after = cc in (macro, ap (λ (ms : List Macro). macro_named ms macro.name) (sym same) ∙ stands table macro, fixed)

fixes_step : {A : Type 0} (name : List ℕ) (r : Result A MacroFault) (f : A → Result (List Macro) MacroFault) → ((x : A) → Fixes name (f x)) → Fixes name (r >>= f)
fixes_step name (Ok x) f fixes = fixes x
fixes_step name (Err fault) f fixes = λ after e. absurd cc

fixes_good : (name : List ℕ) (good : Bool) (r : Result (List Macro) MacroFault) → Fixes name r → Fixes name (cond (not good) (Err BadMacroName) r)
fixes_good name true r fixes = fixes
fixes_good name false r fixes = λ after e. absurd cc

fixes_operator : (table : List Macro) (before text : List ℕ) → Fixes (without_blanks (operator_of before).1) (operand_set table (operator_of before) text)
fixes_operator table before text = at (ends_with (58 ∷ 58 ∷ 58 ∷ []) before) (ends_with (58 ∷ 58 ∷ []) before)
  where
    operator : Bool → Bool → Op × List ℕ
    operator three two = cond three (Double, without_end 3 before) (cond two (Now, without_end 2 before) (Delay, before))

    at : (three two : Bool) → Fixes (without_blanks (operator three two).1) (operand_set table (operator three two) text)
    at true two = fixes_good _ (is_macro_name (without_blanks (without_end 3 before))) _ (fixes_step _ (expansion table None text) _ (λ value. fixes_stored table _ refl))
    at false true = fixes_good _ (is_macro_name (without_blanks (without_end 2 before))) _ (fixes_step _ (expansion table None text) _ (λ value. fixes_stored table _ refl))
    at false false = fixes_good _ (is_macro_name (without_blanks before)) _ (fixes_stored table _ refl)

pub operands_fix : OperandsFix
unfolding with_operand
operands_fix table operand = at (list_any (is_byte 61) operand)
  where
    at : (b : Bool) → Fixes (operand_name operand) (cond (not b) (Err BadMacroName) (operand_set table (operator_of (before_first (is_byte 61) operand)) (trimmed (after_first (is_byte 61) operand))))
    at true after e = fixes_operator table (before_first (is_byte 61) operand) (trimmed (after_first (is_byte 61) operand)) after e
    at false after e = absurd cc

-- a definition leaves what an operand has fixed
keeps_fixed : (table : List Macro) (changed text name : List ℕ) (op : Op) (macro : Macro) → macro_named table name ≡ Some macro → macro.fixed ≡ true → Keeps table name (defined table changed op text)
unfolding defined
keeps_fixed table changed text name op macro is fixed = at (not (is_macro_name changed)) (bytes_eq name changed) refl (is_fixed (macro_named table changed)) refl
  where
    at : (bad same : Bool) → bytes_eq name changed ≡ same → (held : Bool) → is_fixed (macro_named table changed) ≡ held → Keeps table name (cond bad (Err BadMacroName) (cond held (Ok table) (set table changed false op text)))
    at true same t held h = λ after e. absurd cc
    at false same t true h = keeps_same table name
    at false false f false h = keeps_set table changed text name false op f
    at false true t false h =
        let equal : name ≡ changed = (bytes_eq-Decides name changed).0 t in
        let fixed_too : is_fixed (macro_named table changed) ≡ true = ap (λ n. is_fixed (macro_named table n)) (sym equal) ∙ (ap is_fixed is ∙ fixed) in
        absurd (let clash : false ≡ true = sym h ∙ fixed_too in cc)

pub operands_win : OperandsWin
unfolding after_definitions
operands_win table after [] name macro is fixed e = let same : table ≡ after = cc in ap (λ (ms : List Macro). macro_named ms name) (sym same) ∙ is
operands_win table after (definition ∷ definitions) name macro is fixed e =
    next (defined table definition.name definition.op definition.text) (keeps_fixed table definition.name definition.text name definition.op macro is fixed) e (λ middle. operands_win middle after definitions name macro)
  where
    next : (r : Result (List Macro) MacroFault) → Keeps table name r → (r >>= λ middle. after_definitions middle definitions) ≡ Ok after
        → ((middle : List Macro) → macro_named middle name ≡ Some macro → macro.fixed ≡ true → after_definitions middle definitions ≡ Ok after → macro_named after name ≡ Some macro) → macro_named after name ≡ Some macro
    next (Ok middle) keeps k ih = ih middle (keeps middle refl ∙ is) fixed k
    next (Err fault) keeps k ih = absurd cc

-- `+=` of a name, by whether it is good and what it means
abbrev more_defined : List Macro → List ℕ → List ℕ → Bool → Option Macro → Result (List Macro) MacroFault
more_defined table name text good found = cond (not good) (Err BadMacroName) (cond (is_fixed found) (Ok table) (with_more table name text found))

pub appending_to_nothing : AppendingToNothing
unfolding defined
appending_to_nothing table name text none = ap (λ (o : Option Macro). cond (not (is_macro_name name)) (Err BadMacroName) (cond (is_fixed (macro_named table name)) (Ok table) (with_more table name text o))) none

-- what isn't too long is stored
fits : (table : List Macro) (macro : Macro) (more : List ℕ) → length macro.text + (1 + length more) ≤ 1048576 → stored table (appended macro more) ≡ Ok (with_macro table (appended macro more))
fits table macro more le = ap (λ b. cond b (Err ValueTooLong) (Ok (with_macro table (appended macro more)))) (le-ltb 1048576 (length (macro.text ++ 32 ∷ more)) (omega (arith, length-append macro.text (32 ∷ more))))

pub appending_to_delayed : AppendingToDelayed
unfolding defined
appending_to_delayed table name text macro good is unfixed delayed le =
    ap (λ g. more_defined table name text g (macro_named table name)) good
    ∙ (ap (more_defined table name text true) is
    ∙ (ap (λ b. cond b (Ok table) (with_more table name text (Some macro))) unfixed
    ∙ (ap (λ b. cond b (expansion table None text >>= λ (more : Expanded). stored table (appended macro more.text)) (stored table (appended macro text))) delayed ∙ fits table macro text le)))

pub appending_to_immediate : AppendingToImmediate
unfolding defined
appending_to_immediate table name text macro more good is unfixed immediate found le =
    ap (λ g. more_defined table name text g (macro_named table name)) good
    ∙ (ap (more_defined table name text true) is
    ∙ (ap (λ b. cond b (Ok table) (with_more table name text (Some macro))) unfixed
    ∙ (ap (λ b. cond b (expansion table None text >>= λ (more : Expanded). stored table (appended macro more.text)) (stored table (appended macro text))) immediate
    ∙ (ap (λ (r : Result Expanded MacroFault). r >>= λ (more : Expanded). stored table (appended macro more.text)) found ∙ fits table macro more.text le))))
