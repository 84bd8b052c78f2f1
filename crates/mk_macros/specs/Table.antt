-- The table of macros.
use Rattle.std.specs.Prelude.{ℕ, Bool, List, [], ◌∷◌, ◌++◌, Option, None, Some, find, if◌then◌else◌}
use Rattle.std.specs.Str.{bytes_eq}

-- A macro: its name; its text; whether the text is the value itself (immediate) or is expanded at
-- each use (delayed); whether an operand has fixed it.
pub record Macro : Type 0 where
  pub name : List ℕ
  pub text : List ℕ
  pub immediate : Bool
  pub fixed : Bool

-- The macro has this name.
abbrev pub is_called : List ℕ → Macro → Bool
is_called name macro = bytes_eq name macro.name

-- The macro with this name, if it is defined.
abbrev pub macro_named : List Macro → List ℕ → Option Macro
macro_named table name = find (is_called name) table

-- The table with a macro in place of one with the same name, or else at the end.
unfoldable pub with_macro : List Macro → Macro → List Macro
with_macro [] macro = macro ∷ []
with_macro (other ∷ table) macro =
    if is_called macro.name other then macro ∷ table else other ∷ with_macro table macro

-- The table with a space and more text appended to this macro; unchanged where there is no macro.
abbrev pub with_text_behind : List Macro → List ℕ → Option Macro → List Macro
with_text_behind table more None = table
with_text_behind table more (Some macro) =
    with_macro table (record macro { text = macro.text ++ 32 ∷ more })
