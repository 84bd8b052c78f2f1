-- How the parts that the reader keeps relate to the JSON value.
use Rattle.std.specs.Prelude.{◌≡◌, ℕ, ⊤, List, [], ◌∷◌, map, option_and_then, Result, Ok, Err}
use Rattle.mk_lines.specs.Results.{Fails}
use Rattle.serde_json.specs.Data.{Data}
use Rattle.serde_json.specs.Find.{as_str, as_number, as_integer}
use Rattle.mk_json.specs.Kinds.{elements_of, has_only}
use Rattle.mk_cert_text.specs.declared.certificate.Finish.{Finish}
use Rattle.mk_cert_text.specs.declared.fault.CertTextFault.{CertTextFault}
use Rattle.mk_cert_text.specs.declared.fault.CertTextFault.TheVariants.{Memory}
use Rattle.mk_cert_text.specs.declared.key.Key.{Key}
use Rattle.mk_cert_text.specs.declared.key.Key.TheVariants as keys
use Rattle.mk_cert_text.specs.declared.reading.CertificateParts.{CertificateParts}
use Rattle.mk_cert_text.specs.declared.reading_ways.WayParts.{WayParts}
use Rattle.mk_cert_text.specs.declared.ways.Ways.{Ways}
use Rattle.mk_cert_text.specs.Keys.{spelling}
use Rattle.mk_cert_text.specs.Reading.{is_one, name_in, name_at, names_at, values_at, finish_at, format_is_one, way_in}
use Rattle.mk_cert_text.specs.Steps.{◌>>=◌, Gives, each, at_least, where_holds}
use Rattle.mk_cert_text.specs.Words.{finish_of}

-- the names of a list of plain paths, else `Shape` (72) with the key
abbrev pub names_from : Key → Data → Result (List (List ℕ)) CertTextFault
names_from key value = do
  values ← at_least key (elements_of value)
  each (name_in key) values

-- the end that a text stands for, else `Shape` (72) with `end`
abbrev pub finish_from : Data → Result Finish CertTextFault
finish_from value = at_least keys.End (option_and_then finish_of (as_str value))

-- success for the whole number 1, else `Shape` (72) with `format`
abbrev pub format_from : Data → Result ⊤ CertTextFault
format_from value =
    where_holds keys.Format (is_one (option_and_then as_integer (as_number value)))

-- the parts are those of a way with this value
pub record IsOfWay (parts : WayParts) (whole : Data) : Type 0 where
  pub finish : Gives (λ finish. finish) parts.finish (finish_at whole)
  pub file : Gives (λ name. name) parts.file (name_at keys.File whole)
  pub path : Gives (λ names. names) parts.path (names_at keys.Path whole)
  pub recipe : Gives (λ name. name) parts.recipe (name_at keys.Recipe whole)
  pub alone : parts.alone ≡
      has_only (map spelling (keys.End ∷ keys.File ∷ keys.Path ∷ keys.Recipe ∷ [])) whole

-- If `defined` is a list of values, the call returned the ways of all of them or the first fault in
-- them, or ran out of memory; otherwise it returned the fault of `defined`, or ran out of memory.
abbrev pub GivesWays :
    Result (Result Ways CertTextFault) CertTextFault →
    Result (List Data) CertTextFault → Type 0
GivesWays (Ok ways) defined =
    (values : List Data) × (defined ≡ Ok values) ×
    Gives (λ all. all) ways (each way_in values)
GivesWays (Err fault) defined = Fails Memory fault defined

-- the parts are those of a certificate with this value
pub record IsOf (parts : CertificateParts) (whole : Data) : Type 0 where
  pub format : Gives (λ done. done) parts.format (format_is_one whole)
  pub goals : Gives (λ names. names) parts.goals (names_at keys.Goals whole)
  pub ways : GivesWays parts.ways (values_at keys.Ways whole)
  pub alone : parts.alone ≡
      has_only (map spelling (keys.Format ∷ keys.Goals ∷ keys.Ways ∷ [])) whole
