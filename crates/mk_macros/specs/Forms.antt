-- A text as a list of forms.
use Rattle.std.specs.Prelude.{◌≡◌, ℕ, zero, suc, ◌==◌, Bool, false, ◌||◌, List, [], ◌∷◌, ◌++◌, codes, length, take, drop, Option, None, Some, Result, Ok, Err, if◌then◌else◌}
use Rattle.std.specs.List.{list_any}
use Rattle.mk_lines.specs.Bytes.{is_byte}
use Rattle.mk_lines.specs.References.{first_outside, is_one_of}
use Rattle.mk_macros.specs.declared.fault.MacroFault.{MacroFault}
use Rattle.mk_macros.specs.declared.fault.MacroFault.TheVariants.{BadMacroName}
use Rattle.mk_macros.specs.Names.{is_name_byte}

-- A plain byte; `$$`; a reference `$(..)`, `${..}` or `$c` with the text inside it; a reference
-- that isn't closed; a `$` that begins none of these.
pub data Form : Type 0 where
  Byte : ℕ → Form
  Dollars : Form
  Reference : List ℕ → Form
  Endless : Form
  Lone : Form

-- The names of the internal macros: the bytes `@ * < ^ + ? %`.
abbrev pub internal_bytes : List ℕ
internal_bytes = codes "@*<^+?%"

-- The byte is the name of an internal macro.
abbrev pub is_internal : ℕ → Bool
is_internal b = is_one_of internal_bytes b

-- A reference whose text inside ends at this position, and the text after its closing byte; without
-- a position it isn't closed.
abbrev pub closed_at : List ℕ → Option ℕ → Form × List ℕ
closed_at text None = (Endless, [])
closed_at text (Some at) = (Reference (take at text), drop (suc at) text)

-- The form whose `$` directly precedes this text, and the text after the form.
abbrev pub dollar_form : List ℕ → Form × List ℕ
dollar_form [] = (Lone, [])
dollar_form (b ∷ text) =
    if b == 36 then (Dollars, text)
    else (if b == 40 then closed_at text (first_outside (is_byte 41) text)
    else (if b == 123 then closed_at text (first_outside (is_byte 125) text)
    else (if is_name_byte b || is_internal b then (Reference (b ∷ []), text)
    else (Lone, b ∷ text))))

-- The form that begins with this byte, and the text after the form.
abbrev pub first_form : ℕ → List ℕ → Form × List ℕ
first_form b text = if b == 36 then dollar_form text else (Byte b, text)

-- The first n forms of a text.
unfoldable pub some_forms : ℕ → List ℕ → List Form
some_forms zero text = []
some_forms (suc n) [] = []
some_forms (suc n) (b ∷ text) = (first_form b text).0 ∷ some_forms n (first_form b text).1

-- The forms of a text, which aren't more than its bytes.
abbrev pub forms : List ℕ → List Form
forms text = some_forms (length text) text

-- The parts of the text inside a reference: the text of its name and, after a colon, the two texts
-- before and after a `=`.
pub record ReferenceParts : Type 0 where
  pub name : List ℕ
  pub ends : Option (List ℕ × List ℕ)

-- The parts with this name, the rest split at the position of its `=`; `BadMacroName` (11) without
-- `=`.
abbrev pub parts_round : List ℕ → List ℕ → Option ℕ → Result ReferenceParts MacroFault
parts_round name rest None = Err BadMacroName
parts_round name rest (Some at) =
    Ok (record { name = name; ends = Some (take at rest, drop (suc at) rest) })

-- The parts of the text inside a reference, split at the position of its `:`; without `:` it is all
-- name.
abbrev pub split_at_colon : List ℕ → Option ℕ → Result ReferenceParts MacroFault
split_at_colon inside None = Ok (record { name = inside; ends = None })
split_at_colon inside (Some at) =
    parts_round (take at inside) (drop (suc at) inside)
    (first_outside (is_byte 61) (drop (suc at) inside))

-- The parts of the text inside a reference: the first `:` outside inner references ends the name,
-- and the first later `=` outside them separates the two texts.
unfoldable pub parse_reference : List ℕ → Result ReferenceParts MacroFault
parse_reference inside = split_at_colon inside (first_outside (is_byte 58) inside)

-- The text has no `$`.
abbrev pub IsPlain : List ℕ → Type 0
IsPlain text = list_any (is_byte 36) text ≡ false

-- The text is `run`, without `$`, and then, unless it ends there, a `$` and what follows it.
abbrev pub IsCut : List ℕ → List ℕ → Option (List ℕ) → Type 0
IsCut text run None = (text ≡ run) × IsPlain run
IsCut text run (Some behind) = (text ≡ run ++ 36 ∷ behind) × IsPlain run

-- The texts before and after the byte at a position.
abbrev pub round : List ℕ → Option ℕ → Option (List ℕ × List ℕ)
round text None = None
round text (Some at) = Some (take at text, drop (suc at) text)
