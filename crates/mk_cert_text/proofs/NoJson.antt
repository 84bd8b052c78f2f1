-- Which fault says that there is no JSON value.
use Rattle.std.proofs.Common.{◌≡◌, Bool, true, false, List, [], ◌∷◌, map, Option, Some, None, Result, Ok, Err, refl, ap}
use Rattle.std.specs.Prelude.{◌≢◌, is_some, ok_or}
use Rattle.mk_lines.specs.Paths.{is_plain_path}
use Rattle.serde_json.specs.Data.{Data}
use Rattle.serde_json.specs.Find.{get, as_str, as_object}
use Rattle.mk_json.specs.Kinds.{has_only}
use Rattle.mk_json.specs.Reading.{json_of}
use Rattle.mk_cert_text.specs.declared.fault.CertTextFault.{CertTextFault}
use Rattle.mk_cert_text.specs.declared.fault.CertTextFault.TheVariants.{NotJson}
use Rattle.mk_cert_text.specs.declared.key.Key.{Key}
use Rattle.mk_cert_text.specs.declared.key.Key.TheVariants as keys
use Rattle.mk_cert_text.specs.Keys.{spelling}
use Rattle.mk_cert_text.specs.Laws.{OnlyTextWithoutValueIsNoJson}
use Rattle.mk_cert_text.specs.Reading.{values_at, name_in, name_at, names_at, finish_at, way_in, format_is_one, certificate_in, certificate_from}
use Rattle.mk_cert_text.specs.Steps.{◌>>=◌, each, at_least, where_holds}

-- a result is not that fault
abbrev Other : {A : Type 0} → Result A CertTextFault → Type 0
Other r = r ≢ Err NotJson

other_ok : {A : Type 0} (x : A) → Other (Ok x)
other_ok x e = cc

other_then : {A B : Type 0} (r : Result A CertTextFault) (f : A → Result B CertTextFault) → Other r → ((x : A) → Other (f x)) → Other (r >>= f)
other_then (Ok x) f h k e = k x e
other_then {A} (Err fault) f h k e = let same : fault ≡ NotJson = cc e in h (ap (λ z. Err z) same)

other_found : {A : Type 0} (key : Key) (o : Option A) → Other (at_least key o)
other_found key (Some x) e = cc
other_found key None e = cc

other_held : (key : Key) (b : Bool) → Other (where_holds key b)
other_held key true e = cc
other_held key false e = cc

other_each : {A B : Type 0} (f : A → Result B CertTextFault) (xs : List A) → ((x : A) → Other (f x)) → Other (each f xs)
unfolding each
other_each f [] h = other_ok []
other_each f (x ∷ xs) h = other_then (f x) _ (h x) (λ y. other_then (each f xs) _ (other_each f xs h) (λ ys. other_ok (y ∷ ys)))

values_other : (key : Key) (value : Data) → Other (values_at key value)
unfolding values_at
values_other key value = other_found key _

name_other : (key : Key) (value : Data) → Other (name_in key value)
unfolding name_in
name_other key value = other_then (at_least key (as_str value)) _ (other_found key (as_str value)) (λ text. other_then (where_holds key (is_plain_path text)) _ (other_held key (is_plain_path text)) (λ _. other_ok text))

name_at_other : (key : Key) (value : Data) → Other (name_at key value)
unfolding name_at
name_at_other key value = other_then (at_least key (get (spelling key) value)) _ (other_found key (get (spelling key) value)) (name_other key)

names_at_other : (key : Key) (value : Data) → Other (names_at key value)
unfolding names_at
names_at_other key value = other_then (values_at key value) _ (values_other key value) (λ values. other_each (name_in key) values (name_other key))

finish_other : (value : Data) → Other (finish_at value)
unfolding finish_at
finish_other value = other_found keys.End _

way_other : (value : Data) → Other (way_in value)
unfolding way_in
way_other value =
    other_then (where_holds keys.Ways (is_some (as_object value))) _ (other_held keys.Ways (is_some (as_object value))) (λ _.
    other_then (finish_at value) _ (finish_other value) (λ finish.
    other_then (name_at keys.File value) _ (name_at_other keys.File value) (λ file.
    other_then (names_at keys.Path value) _ (names_at_other keys.Path value) (λ path.
    other_then (name_at keys.Recipe value) _ (name_at_other keys.Recipe value) (λ recipe.
    other_then (where_holds keys.Unknown (has_only (map spelling (keys.End ∷ keys.File ∷ keys.Path ∷ keys.Recipe ∷ [])) value)) _ (other_held keys.Unknown (has_only (map spelling (keys.End ∷ keys.File ∷ keys.Path ∷ keys.Recipe ∷ [])) value)) (λ _. other_ok _))))))

format_other : (value : Data) → Other (format_is_one value)
unfolding format_is_one
format_other value = other_held keys.Format _

certificate_other : (value : Data) → Other (certificate_in value)
unfolding certificate_in
certificate_other value =
    other_then (where_holds keys.Top (is_some (as_object value))) _ (other_held keys.Top (is_some (as_object value))) (λ _.
    other_then (format_is_one value) _ (format_other value) (λ _.
    other_then (names_at keys.Goals value) _ (names_at_other keys.Goals value) (λ goals.
    other_then (values_at keys.Ways value) _ (values_other keys.Ways value) (λ entries.
    other_then (where_holds keys.Unknown (has_only (map spelling (keys.Format ∷ keys.Goals ∷ keys.Ways ∷ [])) value)) _ (other_held keys.Unknown (has_only (map spelling (keys.Format ∷ keys.Goals ∷ keys.Ways ∷ [])) value)) (λ _.
    other_then (each way_in entries) _ (other_each way_in entries way_other) (λ ways. other_ok _))))))

no_value : (o : Option Data) → (ok_or o NotJson >>= certificate_in) ≡ Err NotJson → o ≡ None
no_value None e = refl
no_value (Some value) e = absurd (certificate_other value e)

pub only_text_without_value_is_no_json : OnlyTextWithoutValueIsNoJson
unfolding certificate_from
only_text_without_value_is_no_json bytes = (no_value (json_of bytes), λ e. ap (λ (o : Option Data). ok_or o NotJson >>= certificate_in) e)
