-- Laws of expansion and of definitions.
use Rattle.std.specs.Prelude.{◌≡◌, ◌≤◌, ℕ, ◌+◌, ◌==◌, Bool, true, false, not, List, [], ◌∷◌, ◌++◌, codes, length, Option, None, Some, Result, Ok}
use Rattle.std.specs.List.{list_all, before_first}
use Rattle.std.specs.Str.{bytes_eq}
use Rattle.mk_lines.specs.Bytes.{is_byte}
use Rattle.mk_macros.specs.Limits.{max_references, max_value}
use Rattle.mk_macros.specs.declared.fault.MacroFault.{MacroFault}
use Rattle.mk_macros.specs.declared.op.Op.{Op}
use Rattle.mk_macros.specs.declared.op.Op.TheVariants.{Delay, Append}
use Rattle.mk_macros.specs.Names.{is_macro_name}
use Rattle.mk_macros.specs.Forms.{IsPlain}
use Rattle.mk_macros.specs.Table.{Macro, macro_named, with_macro}
use Rattle.mk_macros.specs.Locals.{Recipe}
use Rattle.mk_macros.specs.Substitution.{substituted}
use Rattle.mk_macros.specs.Expansion.{Expanded, Scope, expanded, expansion}
use Rattle.mk_macros.specs.Definitions.{defined, with_operand, operator_of, without_blanks, doubled}
use Rattle.mk_macros.specs.Steps.{◌>>=◌}

-- A text without `$` of at most 1,048,576 bytes expands to itself, and evaluates no reference.
abbrev pub PlainTextsStay : Type 0
PlainTextsStay =
    (levels : ℕ) → (scope : Scope) → (going : List (List ℕ)) → (references : ℕ) → (text : List ℕ) →
    IsPlain text → length text ≤ max_value
    → expanded levels scope going references text ≡
    Ok (record { text = text; references = references; varying = false })

-- The expansion with a text in front.
abbrev pub in_front : List ℕ → Expanded → Expanded
in_front text found = record found { text = text ++ found.text }

-- The expansion of a text without `$` followed by another text is the first text followed by the
-- other's expansion, where that is at most 1,048,576 bytes long.
abbrev pub PlainTextsGoInFront : Type 0
PlainTextsGoInFront =
    (levels : ℕ) → (scope : Scope) → (going : List (List ℕ)) → (references : ℕ) →
    (text other : List ℕ) → (found : Expanded) → IsPlain text
    → expanded levels scope going references other ≡ Ok found →
    length text + length found.text ≤ max_value
    → expanded levels scope going references (text ++ other) ≡ Ok (in_front text found)

-- The reference `$(..)` with this text inside.
abbrev pub round : List ℕ → List ℕ
round inside = 36 ∷ 40 ∷ inside ++ 41 ∷ []

-- A macro that `::=` defined isn't expanded again: a reference to it gives its stored text,
-- whatever that holds.
abbrev pub ImmediateValuesStay : Type 0
ImmediateValuesStay =
    (table : List Macro) → (recipe : Option Recipe) → (name : List ℕ) → (macro : Macro) →
    is_macro_name name ≡ true
    → macro_named table name ≡ Some macro → macro.immediate ≡ true → length name ≤ max_value →
    length macro.text ≤ max_value
    → expansion table recipe (round name) ≡
    Ok (record { text = macro.text; references = 1; varying = false })

-- A text with its dollars doubled, as `:::=` stores it, expands to that text, and evaluates no
-- reference.
abbrev pub DoubledTextsComeBack : Type 0
DoubledTextsComeBack =
    (table : List Macro) → (recipe : Option Recipe) → (text : List ℕ) → length text ≤ max_value
    → expansion table recipe (doubled text) ≡
    Ok (record { text = text; references = 0; varying = false })

-- The byte is none of `$`, `)`, `:` and `=`.
abbrev pub is_inert : ℕ → Bool
is_inert b = list_all (λ other. not (other == b)) (codes "$):=")

-- `$(N:s1=s2)`, where s1 and s2 hold none of `$ ) : =`, is the words of the value of `$(N)`, each
-- replaced or unchanged, separated by one space.
abbrev pub SubstitutionsReplaceWords : Type 0
SubstitutionsReplaceWords =
    (table : List Macro) → (recipe : Option Recipe) → (name old new : List ℕ) → (value : Expanded)
    → is_macro_name name ≡ true → list_all is_inert old ≡ true → list_all is_inert new ≡ true
    → length name ≤ max_value → length old ≤ max_value → length new ≤ max_value
    → expansion table recipe (round name) ≡ Ok value →
    length (substituted old new value.text) ≤ max_value
    → expansion table recipe (round (name ++ 58 ∷ old ++ 61 ∷ new)) ≡
    Ok (record value { text = substituted old new value.text })

-- An expansion, at any level and after any number of references, has at most 1,048,576 bytes, and
-- at most 65,536 references were evaluated up to its end.
abbrev pub ExpansionsKeepTheirLimits : Type 0
ExpansionsKeepTheirLimits =
    (levels : ℕ) → (scope : Scope) → (going : List (List ℕ)) → (references : ℕ) → (text : List ℕ) →
    (found : Expanded) → references ≤ max_references
    → expanded levels scope going references text ≡ Ok found → (length found.text ≤ max_value) ×
    (found.references ≤ max_references)

-- A definition in a makefile: name, operator and text.
pub record Definition : Type 0 where
  pub name : List ℕ
  pub op : Op
  pub text : List ℕ

-- The table after these definitions in order, or the first fault.
unfoldable pub after_definitions : List Macro → List Definition → Result (List Macro) MacroFault
after_definitions table [] = Ok table
after_definitions table (definition ∷ definitions) = do
  next ← defined table definition.name definition.op definition.text
  after_definitions next definitions

-- The name that an operand sets: the text before its operator, without the blanks at its ends.
abbrev pub operand_name : List ℕ → List ℕ
operand_name operand = without_blanks (operator_of (before_first (is_byte 61) operand)).1

-- The name is that of a defined macro that an operand has fixed.
abbrev pub IsFixed : List Macro → List ℕ → Type 0
IsFixed table name = (macro : Macro) × (macro_named table name ≡ Some macro) × (macro.fixed ≡ true)

-- An operand fixes the macro that it sets.
abbrev pub OperandsFix : Type 0
OperandsFix =
    (table : List Macro) → (operand : List ℕ) → (after : List Macro) →
    with_operand table operand ≡ Ok after → IsFixed after (operand_name operand)

-- An operand changes no other macro than the one that it sets.
abbrev pub OperandsLeaveOthers : Type 0
OperandsLeaveOthers =
    (table : List Macro) → (operand : List ℕ) → (after : List Macro) → (name : List ℕ) →
    bytes_eq name (operand_name operand) ≡ false
    → with_operand table operand ≡ Ok after → macro_named after name ≡ macro_named table name

-- A fixed macro isn't changed by any later definitions in the makefile.
abbrev pub OperandsWin : Type 0
OperandsWin =
    (table after : List Macro) → (definitions : List Definition) → (name : List ℕ) →
    (macro : Macro) → macro_named table name ≡ Some macro → macro.fixed ≡ true
    → after_definitions table definitions ≡ Ok after → macro_named after name ≡ Some macro

-- `+=` on an undefined macro acts as `=`.
abbrev pub AppendingToNothing : Type 0
AppendingToNothing = (table : List Macro) → (name text : List ℕ) → macro_named table name ≡ None
    → defined table name Append text ≡ defined table name Delay text

-- `+=` on a delayed macro that isn't fixed appends a space and the text.
abbrev pub AppendingToDelayed : Type 0
AppendingToDelayed =
    (table : List Macro) → (name text : List ℕ) → (macro : Macro) → is_macro_name name ≡ true →
    macro_named table name ≡ Some macro
    → macro.fixed ≡ false → macro.immediate ≡ false →
    length macro.text + (1 + length text) ≤ max_value
    → defined table name Append text ≡
    Ok (with_macro table (record macro { text = macro.text ++ 32 ∷ text }))

-- `+=` on an immediate macro that isn't fixed appends a space and the expansion of the text.
abbrev pub AppendingToImmediate : Type 0
AppendingToImmediate =
    (table : List Macro) → (name text : List ℕ) → (macro : Macro) → (more : Expanded) →
    is_macro_name name ≡ true → macro_named table name ≡ Some macro
    → macro.fixed ≡ false → macro.immediate ≡ true → expansion table None text ≡ Ok more →
    length macro.text + (1 + length more.text) ≤ max_value
    → defined table name Append text ≡
    Ok (with_macro table (record macro { text = macro.text ++ 32 ∷ more.text }))
