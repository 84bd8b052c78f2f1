-- What is read has plain paths for names.
use Rattle.std.proofs.Common.{◌≡◌, ℕ, Bool, true, false, List, [], ◌∷◌, map, Result, Ok, Err, refl, ◌∙◌, subst}
use Rattle.std.specs.Prelude.{◌&&◌, is_some, ok_or}
use Rattle.std.specs.List.{list_all, flat_map}
use Rattle.std.proofs.lemmas.List.Folds.{list_all-append}
use Rattle.mk_lines.specs.Paths.{is_plain_path}
use Rattle.serde_json.specs.Data.{Data}
use Rattle.serde_json.specs.Find.{get, as_str, as_object}
use Rattle.mk_json.specs.Kinds.{has_only}
use Rattle.mk_json.specs.Reading.{json_of}
use Rattle.mk_cert_text.specs.declared.fault.CertTextFault.{CertTextFault}
use Rattle.mk_cert_text.specs.declared.fault.CertTextFault.TheVariants.{NotJson}
use Rattle.mk_cert_text.specs.declared.key.Key.{Key}
use Rattle.mk_cert_text.specs.declared.key.Key.TheVariants as keys
use Rattle.mk_cert_text.specs.Certificate.{Way, Certificate}
use Rattle.mk_cert_text.specs.Keys.{spelling}
use Rattle.mk_cert_text.specs.Laws.{names_of_way, names_of, NamesReadArePlain}
use Rattle.mk_cert_text.specs.Reading.{values_at, name_in, name_at, names_at, finish_at, way_in, format_is_one, certificate_in, certificate_from}
use Rattle.mk_cert_text.specs.Steps.{◌>>=◌, each, at_least, where_holds}

-- where a result is a value, the value has the property
abbrev pub Gave : {A : Type 0} → (A → Type 0) → Result A CertTextFault → Type 0
Gave P (Ok x) = P x
Gave P (Err fault) = Unit {0}

-- two steps
pub after : {A B : Type 0} (P : A → Type 0) (Q : B → Type 0) (r : Result A CertTextFault) (f : A → Result B CertTextFault) → Gave P r → ((x : A) → P x → Gave Q (f x)) → Gave Q (r >>= f)
after P Q (Ok x) f h k = k x h
after P Q (Err fault) f h k = tt

-- of whatever value
pub anything : {A : Type 0} (r : Result A CertTextFault) → Gave (λ _. Unit {0}) r
anything (Ok x) = tt
anything (Err fault) = tt

abbrev IsPlain : List ℕ → Type 0
IsPlain name = is_plain_path name ≡ true

abbrev ArePlain : List (List ℕ) → Type 0
ArePlain names = list_all is_plain_path names ≡ true

-- a test that holds
pub held : (key : Key) (b : Bool) → Gave (λ _. b ≡ true) (where_holds key b)
held key true = refl
held key false = tt

name_plain : (key : Key) (value : Data) → Gave IsPlain (name_in key value)
unfolding name_in
name_plain key value =
    after (λ _. Unit {0}) IsPlain (at_least key (as_str value)) _ (anything (at_least key (as_str value))) (λ text _.
    after (λ _. is_plain_path text ≡ true) IsPlain (where_holds key (is_plain_path text)) _ (held key (is_plain_path text)) (λ _ plain. plain))

name_at_plain : (key : Key) (value : Data) → Gave IsPlain (name_at key value)
unfolding name_at
name_at_plain key value = after (λ _. Unit {0}) IsPlain (at_least key (get (spelling key) value)) _ (anything (at_least key (get (spelling key) value))) (λ found _. name_plain key found)

-- of each of a list
each_gave : {A B : Type 0} (p : B → Bool) (f : A → Result B CertTextFault) → ((x : A) → Gave (λ y. p y ≡ true) (f x)) → (xs : List A) → Gave (λ ys. list_all p ys ≡ true) (each f xs)
unfolding each
each_gave p f h [] = refl
each_gave p f h (x ∷ xs) =
    after (λ y. p y ≡ true) (λ ys. list_all p ys ≡ true) (f x) _ (h x) (λ y first.
    after (λ ys. list_all p ys ≡ true) (λ ys. list_all p ys ≡ true) (each f xs) _ (each_gave p f h xs) (λ ys rest. both p y ys first rest))
  where
    both : {B : Type 0} (p : B → Bool) (y : B) (ys : List B) → p y ≡ true → list_all p ys ≡ true → (p y && list_all p ys) ≡ true
    both p y ys first rest = rw (first, rest) refl

names_plain : (key : Key) (value : Data) → Gave ArePlain (names_at key value)
unfolding names_at
names_plain key value = after (λ _. Unit {0}) ArePlain (values_at key value) _ (anything (values_at key value)) (λ values _. each_gave is_plain_path (name_in key) (name_plain key) values)

-- a way whose names are plain
abbrev is_plain_way : Way → Bool
is_plain_way way = list_all is_plain_path (names_of_way way)

way_plain : (value : Data) → Gave (λ way. is_plain_way way ≡ true) (way_in value)
unfolding way_in
way_plain value =
    let Q : Way → Type 0 = λ way. is_plain_way way ≡ true in
    let known = has_only (map spelling (keys.End ∷ keys.File ∷ keys.Path ∷ keys.Recipe ∷ [])) value in
    after (λ _. Unit {0}) Q (where_holds keys.Ways (is_some (as_object value))) _ (anything (where_holds keys.Ways (is_some (as_object value)))) (λ _ _.
    after (λ _. Unit {0}) Q (finish_at value) _ (anything (finish_at value)) (λ finish _.
    after IsPlain Q (name_at keys.File value) _ (name_at_plain keys.File value) (λ file a.
    after ArePlain Q (names_at keys.Path value) _ (names_plain keys.Path value) (λ path b.
    after IsPlain Q (name_at keys.Recipe value) _ (name_at_plain keys.Recipe value) (λ recipe d.
    after (λ _. Unit {0}) Q (where_holds keys.Unknown known) _ (anything (where_holds keys.Unknown known)) (λ _ _. joined recipe file path d a b))))))
  where
    joined : (recipe file : List ℕ) (path : List (List ℕ)) → IsPlain recipe → IsPlain file → ArePlain path → ArePlain (recipe ∷ file ∷ path)
    joined recipe file path d a b = rw (d, a, b) refl

-- the names of all ways
ways_names : (ways : List Way) → list_all is_plain_way ways ≡ true → ArePlain (flat_map names_of_way ways)
ways_names [] h = refl
ways_names (way ∷ ways) h =
    let p = parts (is_plain_way way) (list_all is_plain_way ways) h in
    list_all-append is_plain_path (names_of_way way) (flat_map names_of_way ways) ∙ whole _ _ p.0 (ways_names ways p.1)
  where
    parts : (a b : Bool) → (a && b) ≡ true → (a ≡ true) × (b ≡ true)
    parts true b e = (refl, e)
    parts false b e = absurd cc

    whole : (a b : Bool) → a ≡ true → b ≡ true → (a && b) ≡ true
    whole a b e k = rw (e, k) refl

pub certificate_plain : (value : Data) → Gave (λ c. ArePlain (names_of c)) (certificate_in value)
unfolding certificate_in
certificate_plain value =
    let Q : Certificate → Type 0 = λ c. ArePlain (names_of c) in
    let known = has_only (map spelling (keys.Format ∷ keys.Goals ∷ keys.Ways ∷ [])) value in
    after (λ _. Unit {0}) Q (where_holds keys.Top (is_some (as_object value))) _ (anything (where_holds keys.Top (is_some (as_object value)))) (λ _ _.
    after (λ _. Unit {0}) Q (format_is_one value) _ (anything (format_is_one value)) (λ _ _.
    after ArePlain Q (names_at keys.Goals value) _ (names_plain keys.Goals value) (λ goals a.
    after (λ _. Unit {0}) Q (values_at keys.Ways value) _ (anything (values_at keys.Ways value)) (λ entries _.
    after (λ _. Unit {0}) Q (where_holds keys.Unknown known) _ (anything (where_holds keys.Unknown known)) (λ _ _.
    after (λ ways. list_all is_plain_way ways ≡ true) Q (each way_in entries) _ (each_gave is_plain_way way_in way_plain entries) (λ ways b.
    list_all-append is_plain_path goals (flat_map names_of_way ways) ∙ whole _ _ a (ways_names ways b)))))))
  where
    whole : (a b : Bool) → a ≡ true → b ≡ true → (a && b) ≡ true
    whole a b e k = rw (e, k) refl

pub names_read_are_plain : NamesReadArePlain
unfolding certificate_from
names_read_are_plain bytes c e =
    let known : Gave (λ x. ArePlain (names_of x)) (ok_or (json_of bytes) NotJson >>= certificate_in) =
    after (λ _. Unit {0}) (λ x. ArePlain (names_of x)) (ok_or (json_of bytes) NotJson) certificate_in (anything (ok_or (json_of bytes) NotJson)) (λ value _. certificate_plain value) in
    let Q : Result Certificate CertTextFault → Type 0 = λ r. Gave (λ x. ArePlain (names_of x)) r in
    subst Q e known
