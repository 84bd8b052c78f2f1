-- The value of a certificate is read as that certificate.
use Rattle.std.proofs.Common.{◌≡◌, ℕ, Bool, true, List, [], ◌∷◌, ◌++◌, map, Some, Ok, refl, sym, ap, ◌∙◌}
use Rattle.std.specs.List.{list_all, flat_map}
use Rattle.std.proofs.lemmas.Bool.{and_parts}
use Rattle.std.proofs.lemmas.List.Folds.{list_all-append}
use Rattle.mk_json.proofs.Arrays.{elements-items_of}
use Rattle.mk_lines.specs.Paths.{is_plain_path}
use Rattle.serde_json.specs.Data.{Data, string}
use Rattle.serde_json.specs.Find.{get}
use Rattle.mk_json.specs.Kinds.{has_only, array_of}
use Rattle.mk_cert_text.specs.declared.certificate.Finish.{Finish}
use Rattle.mk_cert_text.specs.declared.certificate.Finish.TheVariants.{Written, Source, Always}
use Rattle.mk_cert_text.specs.declared.key.Key.{Key}
use Rattle.mk_cert_text.specs.declared.key.Key.TheVariants as keys
use Rattle.mk_cert_text.specs.Certificate.{Way}
use Rattle.mk_cert_text.specs.Keys.{spelling}
use Rattle.mk_cert_text.specs.Laws.{names_of_way, ValueIsReadBack}
use Rattle.mk_cert_text.specs.Reading.{values_at, name_in, name_at, names_at, finish_at, way_in, format_is_one, certificate_in}
use Rattle.mk_cert_text.specs.Steps.{each, at_least}
use Rattle.mk_cert_text.specs.Words.{finish_word, finish_of}
use Rattle.mk_cert_text.specs.Writing.{names_value, way_value, value_of}

-- a test of all of two lists
pub all_parts : {A : Type 0} (p : A → Bool) (xs ys : List A) → list_all p (xs ++ ys) ≡ true → (list_all p xs ≡ true) × (list_all p ys ≡ true)
all_parts p xs ys h = and_parts (list_all p xs) (list_all p ys) (sym (list_all-append p xs ys) ∙ h)

-- a name, and names
name_back : (key : Key) (name : List ℕ) → is_plain_path name ≡ true → name_in key (string name) ≡ Ok name
unfolding name_in
name_back key name plain = rw plain refl

names_back : (key : Key) (names : List (List ℕ)) → list_all is_plain_path names ≡ true → each (name_in key) (map string names) ≡ Ok names
unfolding each
names_back key [] plain = refl
names_back key (name ∷ names) plain = let p = and_parts (is_plain_path name) (list_all is_plain_path names) plain in rw (name_back key name p.0, names_back key names p.1) refl

-- the values, the name and the names under a key
values_found : (key : Key) (whole : Data) (ds : List Data) → get (spelling key) whole ≡ Some (array_of ds) → values_at key whole ≡ Ok ds
unfolding values_at
values_found key whole ds e = rw (e, elements-items_of ds) refl

name_found : (key : Key) (whole : Data) (name : List ℕ) → get (spelling key) whole ≡ Some (string name) → is_plain_path name ≡ true → name_at key whole ≡ Ok name
unfolding name_at
name_found key whole name e plain = rw e (name_back key name plain)

names_found : (key : Key) (whole : Data) (names : List (List ℕ)) → get (spelling key) whole ≡ Some (names_value names) → list_all is_plain_path names ≡ true → names_at key whole ≡ Ok names
unfolding names_at
names_found key whole names e plain = rw (values_found key whole (map string names) e) (names_back key names plain)

pub word_back : (finish : Finish) → finish_of (finish_word finish) ≡ Some finish
word_back Written = refl
word_back Source = refl
word_back Always = refl

finish_found : (way : Way) → finish_at (way_value way) ≡ Ok way.finish
unfolding finish_at
finish_found way = ap (at_least keys.End) (word_back way.finish)

-- a way, and ways
way_back : (way : Way) → list_all is_plain_path (names_of_way way) ≡ true → way_in (way_value way) ≡ Ok way
unfolding way_in has_only
way_back way plain =
    let recipe = and_parts (is_plain_path way.recipe) (list_all is_plain_path (way.file ∷ way.path)) plain in
    let file = and_parts (is_plain_path way.file) (list_all is_plain_path way.path) recipe.1 in
    rw (finish_found way, name_found keys.File (way_value way) way.file refl file.0, names_found keys.Path (way_value way) way.path refl file.1, name_found keys.Recipe (way_value way) way.recipe refl recipe.0) refl

ways_back : (ways : List Way) → list_all is_plain_path (flat_map names_of_way ways) ≡ true → each way_in (map way_value ways) ≡ Ok ways
unfolding each
ways_back [] plain = refl
ways_back (way ∷ ways) plain =
    let p = all_parts is_plain_path (names_of_way way) (flat_map names_of_way ways) plain in
    rw (way_back way p.0, ways_back ways p.1) refl

pub value_is_read_back : ValueIsReadBack
unfolding certificate_in format_is_one has_only
value_is_read_back c plain =
    let p = all_parts is_plain_path c.goals (flat_map names_of_way c.ways) plain in
    rw (names_found keys.Goals (value_of c) c.goals refl p.0, values_found keys.Ways (value_of c) (map way_value c.ways) refl, ways_back c.ways p.1) refl
