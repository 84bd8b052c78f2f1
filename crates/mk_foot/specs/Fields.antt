-- Parts of a JSON value, or `Shape` (52) with their key.
use Rattle.std.specs.Prelude.{ℕ, ⊤, ℤ, pos, List, map, is_some, option_and_then, Result, Ok, Err, if◌then◌else◌, ok_or}
use Rattle.std.specs.Ordering.{int_eq}
use Rattle.serde_json.specs.Data.{Data}
use Rattle.serde_json.specs.Find.{get, as_object}
use Rattle.mk_json.specs.Kinds as json
use Rattle.mk_foot.specs.declared.fault.FootFault.{FootFault}
use Rattle.mk_foot.specs.declared.fault.FootFault.TheVariants.{Shape, OtherFormat}
use Rattle.mk_foot.specs.declared.key.Key.{Key}
use Rattle.mk_foot.specs.declared.key.Key.TheVariants as keys
use Rattle.mk_foot.specs.declared.format.Format.{Format}
use Rattle.mk_foot.specs.declared.format.Format.TheVariants.{One, Two}
use Rattle.mk_foot.specs.Keys.{spelling}
use Rattle.mk_foot.specs.Steps.{◌>>=◌, check_that}

-- the texts of a list of texts, else `Shape` (52) with the key
abbrev pub texts_of : Key → Data → Result (List (List ℕ)) FootFault
texts_of key value = ok_or (json.texts_of value) (Shape key)

-- the text under a key
unfoldable pub text_at : Key → Data → Result (List ℕ) FootFault
text_at key whole = ok_or (json.text_at (spelling key) whole) (Shape key)

-- the texts of the list under a key
unfoldable pub texts_at : Key → Data → Result (List (List ℕ)) FootFault
texts_at key whole = ok_or (json.texts_at (spelling key) whole) (Shape key)

-- the values of the array under a key
unfoldable pub elements_at : Key → Data → Result (List Data) FootFault
elements_at key whole = ok_or (json.elements_at (spelling key) whole) (Shape key)

-- the members of the object under a key
unfoldable pub members_at : Key → Data → Result (List (List ℕ × Data)) FootFault
members_at key whole =
    ok_or (option_and_then json.pairs_of (get (spelling key) whole)) (Shape key)

-- the value is an object, else `Shape` (52) with the key
abbrev pub is_object : Key → Data → Result ⊤ FootFault
is_object key value = check_that (Shape key) (is_some (as_object value))

-- an object has no keys but these, else `Shape` (52) with `unknown`
abbrev pub has_only : List Key → Data → Result ⊤ FootFault
has_only known whole = check_that (Shape keys.Unknown) (json.has_only (map spelling known) whole)

-- format 1 or 2 by its number, else `OtherFormat` (53)
abbrev pub format_of : ℤ → Result Format FootFault
format_of number =
    if int_eq number (pos 1) then Ok One else
    (if int_eq number (pos 2) then Ok Two else Err OtherFormat)

-- the format of a file by the whole number under `format`
unfoldable pub format_in : Data → Result Format FootFault
format_in whole = do
  number ← ok_or (json.integer_at (spelling keys.Format) whole) (Shape keys.Format)
  format_of number
