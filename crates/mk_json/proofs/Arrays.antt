-- Arrays that were read, and their elements.
use Rattle.std.proofs.Common.{◌≡◌, ℕ, ◌-◌, Bool, true, false, List, [], ◌∷◌, Some, Ok, true≢false, refl, sym, ap, ◌∙◌}
use Rattle.json.specs.Token.{Token}
use Rattle.json.specs.Json.{parse_map}
use Rattle.serde_json.specs.Data.{Data, array}
use Rattle.serde_json.specs.View.{items_of}
use Rattle.mk_json.specs.Kinds.{elements, array_of}
use Rattle.mk_json.specs.Tokens.{next_value, next_items, EntersArray}

-- The elements of a list of items.
pub elements-items_of : (ds : List Data) → elements (items_of ds) ≡ ds
elements-items_of [] = refl
elements-items_of (d ∷ ds) = ap (λ es. d ∷ es) (elements-items_of ds)

-- An array that was entered, and its values.
pub next_value-array : (depth : ℕ) (old mid new : List Token) (entered : Bool) (ds : List Data) → entered ≡ true → EntersArray depth old (Ok entered) mid → next_items (depth - 1) mid ≡ Some (items_of ds, new)
    → next_value depth old ≡ Some (array_of ds, new)
next_value-array depth old mid new true ds e enters found = enters.1 ∙ ap (parse_map array) found
next_value-array depth old mid new false ds e enters found = absurd (true≢false (sym e))
