-- A certificate by its JSON value, or the fault of the first bad key.
use Rattle.std.specs.Prelude.{ℕ, ℤ, ⊤, Bool, false, List, [], ◌∷◌, map, pos, is_some, Option, None, Some, option_and_then, Result, Ok, ok_or}
use Rattle.std.specs.Ordering.{int_eq}
use Rattle.mk_lines.specs.Paths.{is_plain_path}
use Rattle.serde_json.specs.Data.{Data}
use Rattle.serde_json.specs.Find.{get, as_str, as_object}
use Rattle.mk_json.specs.Kinds.{text_at, elements_at, integer_at, has_only}
use Rattle.mk_json.specs.Reading.{json_of}
use Rattle.mk_cert_text.specs.declared.certificate.Finish.{Finish}
use Rattle.mk_cert_text.specs.declared.fault.CertTextFault.{CertTextFault}
use Rattle.mk_cert_text.specs.declared.fault.CertTextFault.TheVariants.{NotJson}
use Rattle.mk_cert_text.specs.declared.key.Key.{Key}
use Rattle.mk_cert_text.specs.declared.key.Key.TheVariants as keys
use Rattle.mk_cert_text.specs.Certificate.{Way, Certificate}
use Rattle.mk_cert_text.specs.Keys.{spelling}
use Rattle.mk_cert_text.specs.Steps.{◌>>=◌, each, at_least, where_holds}
use Rattle.mk_cert_text.specs.Words.{finish_of}

-- the values of the list under a key, else `Shape` (72) with the key
unfoldable pub values_at : Key → Data → Result (List Data) CertTextFault
values_at key whole = at_least key (elements_at (spelling key) whole)

-- the text, if the value is a plain path, else `Shape` (72) with the key
unfoldable pub name_in : Key → Data → Result (List ℕ) CertTextFault
name_in key value = do
  text ← at_least key (as_str value)
  _ ← where_holds key (is_plain_path text)
  Ok text

-- the plain path under a key, else `Shape` (72) with the key
unfoldable pub name_at : Key → Data → Result (List ℕ) CertTextFault
name_at key whole = do
  value ← at_least key (get (spelling key) whole)
  name_in key value

-- the plain paths of the list under a key, else `Shape` (72) with the key
unfoldable pub names_at : Key → Data → Result (List (List ℕ)) CertTextFault
names_at key whole = do
  values ← values_at key whole
  each (name_in key) values

-- the end of a way under `end`, one of the three words, else `Shape` (72) with `end`
unfoldable pub finish_at : Data → Result Finish CertTextFault
finish_at whole = at_least keys.End (option_and_then finish_of (text_at (spelling keys.End) whole))

-- an object has no keys but these, else `Shape` (72) with `unknown`
abbrev pub no_others : List Key → Data → Result ⊤ CertTextFault
no_others known whole = where_holds keys.Unknown (has_only (map spelling known) whole)

-- a way by its value: the known keys are checked in this order, then that there is no other key
unfoldable pub way_in : Data → Result Way CertTextFault
way_in value = do
  _ ← where_holds keys.Ways (is_some (as_object value))
  finish ← finish_at value
  file ← name_at keys.File value
  path ← names_at keys.Path value
  recipe ← name_at keys.Recipe value
  _ ← no_others (keys.End ∷ keys.File ∷ keys.Path ∷ keys.Recipe ∷ []) value
  Ok (record { recipe = recipe; file = file; path = path; finish = finish })

-- the number is 1
abbrev pub is_one : Option ℤ → Bool
is_one None = false
is_one (Some number) = int_eq number (pos 1)

-- the value under `format` is the whole number 1, else `Shape` (72) with `format`
unfoldable pub format_is_one : Data → Result ⊤ CertTextFault
format_is_one whole =
    where_holds keys.Format (is_one (integer_at (spelling keys.Format) whole))

-- a certificate by its value: the known keys are checked in this order, then that there is no other
-- key, then the ways in order
unfoldable pub certificate_in : Data → Result Certificate CertTextFault
certificate_in value = do
  _ ← where_holds keys.Top (is_some (as_object value))
  _ ← format_is_one value
  goals ← names_at keys.Goals value
  entries ← values_at keys.Ways value
  _ ← no_others (keys.Format ∷ keys.Goals ∷ keys.Ways ∷ []) value
  ways ← each way_in entries
  Ok (record { goals = goals; ways = ways })

-- the certificate of bytes, or the first fault
unfoldable pub certificate_from : List ℕ → Result Certificate CertTextFault
certificate_from bytes = do
  value ← ok_or (json_of bytes) NotJson
  certificate_in value
