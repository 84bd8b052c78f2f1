-- The expansion of a text.
use Rattle.std.specs.Prelude.{ℕ, zero, suc, ◌+◌, ◌==◌, Bool, false, not, ◌||◌, List, [], ◌∷◌, ◌++◌, length, nat_lt, Option, None, Some, Result, Ok, Err, if◌then◌else◌}
use Rattle.mk_lines.specs.Names.{has_name}
use Rattle.mk_macros.specs.Limits.{max_levels, max_references, max_value}
use Rattle.mk_macros.specs.declared.fault.MacroFault.{MacroFault}
use Rattle.mk_macros.specs.declared.fault.MacroFault.TheVariants.{BadMacroName, Recursive, Unclosed, TooManyReferences, ValueTooLong, LoneDollar, MemberMacro}
use Rattle.mk_macros.specs.declared.locals.Part.{Part}
use Rattle.mk_macros.specs.Names.{is_macro_name}
use Rattle.mk_macros.specs.Forms.{Form, Byte, Dollars, Reference, Endless, Lone, ReferenceParts, parse_reference, forms}
use Rattle.mk_macros.specs.Substitution.{substituted}
use Rattle.mk_macros.specs.Locals.{Recipe, internal_of, internal_value}
use Rattle.mk_macros.specs.Table.{Macro, macro_named}
use Rattle.mk_macros.specs.Steps.{◌>>=◌}

-- An expanded text, the number of references evaluated up to its end, and whether `$?` was among
-- them.
pub record Expanded : Type 0 where
  pub text : List ℕ
  pub references : ℕ
  pub varying : Bool

-- What names mean: the table of macros, and the values of the internal macros where the text is a
-- command.
pub record Scope : Type 0 where
  pub table : List Macro
  pub recipe : Option Recipe

-- How a text one level deeper is expanded, given the macros whose values are being expanded and the
-- number of references so far.
abbrev pub Deeper : Type 0
Deeper = List (List ℕ) → ℕ → List ℕ → Result Expanded MacroFault

-- The number of references with one more, or `TooManyReferences` where it is 65,536 already.
abbrev pub counted : ℕ → Result ℕ MacroFault
counted references =
    if nat_lt references max_references then Ok (references + 1) else Err TooManyReferences

-- The value of a macro that isn't being expanded already: empty where it is undefined, its text
-- where it is immediate, and else the expansion of its text.
abbrev pub macro_value : Deeper → List (List ℕ) → ℕ → List ℕ → Option Macro →
    Result Expanded MacroFault
macro_value deeper going references name None =
    Ok (record { text = []; references = references; varying = false })
macro_value deeper going references name (Some macro) =
    if macro.immediate then Ok (record {
      text = macro.text;
      references = references;
      varying = false;
    })
    else deeper (name ∷ going) references macro.text

-- The value of a name. The faults come in this order: `BadMacroName` (11), `MemberMacro` (17) for
-- `%` and its forms, `TooManyReferences` (14), `Recursive` (12) for a macro that is being expanded
-- already.
abbrev pub value_of : Scope → Deeper → List (List ℕ) → ℕ → List ℕ → Option (ℕ × Part) →
    Result Expanded MacroFault
value_of scope deeper going references name None =
    if not (is_macro_name name) then Err BadMacroName
    else (counted references >>= λ count.
    if has_name going name then Err (Recursive name)
    else macro_value deeper going count name (macro_named scope.table name))
value_of scope deeper going references name (Some internal) =
    if internal.0 == 37 then Err MemberMacro
    else (counted references >>= λ count.
    Ok (record {
      text = internal_value scope.recipe internal.0 internal.1;
      references = count;
      varying = internal.0 == 63;
    }))

-- The two expanded texts of a substitution, if there is one, the number of references up to their
-- end, and whether `$?` was among them.
pub record ExpandedSubstitution : Type 0 where
  pub texts : Option (List ℕ × List ℕ)
  pub references : ℕ
  pub varying : Bool

-- The two texts of a substitution expanded, the old one first.
abbrev pub expand_substitution : Deeper → List (List ℕ) → ℕ → Option (List ℕ × List ℕ) →
    Result ExpandedSubstitution MacroFault
expand_substitution deeper going references None =
    Ok (record { texts = None; references = references; varying = false })
expand_substitution deeper going references (Some texts) = do
  old ← deeper going references texts.0
  new ← deeper going old.references texts.1
  Ok (record {
    texts = Some (old.text, new.text);
    references = new.references;
    varying = old.varying || new.varying;
  })

-- The value with its words replaced, where there is a substitution.
abbrev pub apply_substitution : Option (List ℕ × List ℕ) → List ℕ → List ℕ
apply_substitution None value = value
apply_substitution (Some texts) value = substituted texts.0 texts.1 value

-- The value of a reference: its name is expanded first, then the two texts of its substitution,
-- then its value.
unfoldable pub reference : Scope → Deeper → List (List ℕ) → ℕ → ReferenceParts →
    Result Expanded MacroFault
reference scope deeper going references parts = do
  name ← deeper going references parts.name
  ends ← expand_substitution deeper going name.references parts.ends
  value ← value_of scope deeper going ends.references name.text (internal_of name.text)
  Ok (record {
    text = apply_substitution ends.texts value.text;
    references = value.references;
    varying = name.varying || (ends.varying || value.varying);
  })

-- The value of a form.
abbrev pub given : Scope → Deeper → List (List ℕ) → ℕ → Form → Result Expanded MacroFault
given scope deeper going references (Byte b) =
    Ok (record { text = b ∷ []; references = references; varying = false })
given scope deeper going references Dollars =
    Ok (record { text = 36 ∷ []; references = references; varying = false })
given scope deeper going references Lone = Err LoneDollar
given scope deeper going references Endless = Err Unclosed
given scope deeper going references (Reference inside) =
    parse_reference inside >>= reference scope deeper going references

-- An expanded text of at most 1,048,576 bytes, or `ValueTooLong`.
abbrev pub fitting : Expanded → Result Expanded MacroFault
fitting expanded = if nat_lt max_value (length expanded.text) then Err ValueTooLong else Ok expanded

-- One expanded text followed by another.
abbrev pub joined : Expanded → Expanded → Expanded
joined before after =
    record {
      text = before.text ++
          after.text;
      references = after.references;
      varying = before.varying || after.varying;
    }

-- The values of forms from left to right, appended to what precedes them, with the length checked
-- after each.
unfoldable pub in_order : (ℕ → Form → Result Expanded MacroFault) → Expanded → List Form →
    Result Expanded MacroFault
in_order gives before [] = Ok before
in_order gives before (form ∷ forms) = do
  after ← gives before.references form
  whole ← fitting (joined before after)
  in_order gives whole forms

-- At the last level every reference is refused.
abbrev pub refused : Deeper
refused going references text = Err TooManyReferences

-- The expansion of a text with this many levels below it, given the macros whose values are being
-- expanded and the number of references so far.
unfoldable pub expanded : ℕ → Scope → Deeper
expanded zero scope going references text =
    in_order (given scope refused going)
    (record { text = []; references = references; varying = false }) (forms text)
expanded (suc levels) scope going references text =
    in_order (given scope (expanded levels scope) going)
    (record { text = []; references = references; varying = false }) (forms text)

-- The expansion of a text: it is at level 0, no macro is being expanded, and no reference is
-- counted.
abbrev pub expansion : List Macro → Option Recipe → List ℕ → Result Expanded MacroFault
expansion table recipe text =
    expanded max_levels (record { table = table; recipe = recipe }) [] 0 text

-- The text of an expansion, and whether it varies.
abbrev pub text_and_variation : Result Expanded MacroFault → Result (List ℕ × Bool) MacroFault
text_and_variation result = result >>= λ expanded. Ok (expanded.text, expanded.varying)
