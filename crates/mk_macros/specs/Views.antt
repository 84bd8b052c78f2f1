-- The values that contracts see of the code's forms, macros and expansions.
use Rattle.std.specs.Prelude.{ℕ, Bool, List, Vec, Option}
use Rattle.std.specs.Borrow.{Bor}
use Rattle.std.specs.Cow.{cow_slice_items}
use Rattle.std.specs.Option.{option_map}
use Rattle.std.specs.declared.alloc.Global.{Global}
use Rattle.mk_macros.specs.declared.expansion.Expansion as expansions
use Rattle.mk_macros.specs.declared.forms.Substitution as ends
use Rattle.mk_macros.specs.declared.forms.Form as code
use Rattle.mk_macros.specs.declared.forms.Form.TheVariants as variant
use Rattle.mk_macros.specs.declared.forms.ReferenceParts as parts
use Rattle.mk_macros.specs.declared.table.Macro as macros
use Rattle.mk_macros.specs.Forms.{Form, Dollars, Reference, Endless, Lone, ReferenceParts}
use Rattle.mk_macros.specs.Table.{Macro}

-- The two texts that a pair of the code stands for.
abbrev pub pair_view : Bor (List ℕ) × Bor (List ℕ) → List ℕ × List ℕ
pair_view texts = (texts.0.now, texts.1.now)

-- The text that an optional text of the code stands for.
abbrev pub texts_of : Option (Bor (List ℕ)) → Option (List ℕ)
texts_of text = option_map (λ found. found.now) text

-- The form that a `Form` of the code stands for.
abbrev pub form_view : code.Form → Form
form_view variant.Dollars = Dollars
form_view (variant.Reference inside) = Reference inside.now
form_view variant.Endless = Endless
form_view variant.Lone = Lone

-- The two texts that an `Substitution` of the code stands for.
abbrev pub substitution_view : ends.Substitution → List ℕ × List ℕ
substitution_view texts = (texts.old.now, texts.new.now)

-- The parts that a `ReferenceParts` of the code stands for.
abbrev pub parts_view : parts.ReferenceParts → ReferenceParts
parts_view inside = record
    { name = inside.name.now; ends = option_map substitution_view inside.ends }

-- The macro that a `Macro` of the code with this name stands for.
abbrev pub macro_of : List ℕ → macros.Macro → Macro
macro_of name macro =
    record {
      name = name;
      text = macro.text.items;
      immediate = macro.immediate;
      fixed = macro.fixed;
    }

-- The macro that an entry of the code's table stands for.
abbrev pub entry_view : Vec ℕ Global × macros.Macro → Macro
entry_view entry = macro_of entry.0.items entry.1

-- The text of an `Expansion` of the code, and whether it varies.
abbrev pub expansion_view : expansions.Expansion → List ℕ × Bool
expansion_view found = (cow_slice_items found.text, found.varying)
