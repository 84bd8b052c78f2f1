-- What is read as a certificate is what a value says.
use Rattle.std.proofs.Common.{◌≡◌, ℕ, Bool, true, false, List, [], ◌∷◌, map, Option, Some, None, is_some, Result, Ok, Err, refl, ap, ◌∙◌, subst}
use Rattle.std.specs.Prelude.{ℤ, pos, codes, unwrap_or, option_and_then, if◌then◌else◌}
use Rattle.std.specs.List.{list_all, flat_map}
use Rattle.std.specs.Option.{option_map}
use Rattle.std.specs.Ordering.{int_eq}
use Rattle.std.specs.Str.{bytes_eq}
use Rattle.std.proofs.lemmas.Bool.{and_parts, false≢true}
use Rattle.std.proofs.lemmas.Bool.Decides.{Decides-int_eq}
use Rattle.std.proofs.lemmas.Slice.Eq.{bytes_eq-Decides}
use Rattle.mk_lines.specs.Paths.{is_plain_path}
use Rattle.mk_lines.specs.Names.{has_name}
use Rattle.serde_json.specs.Data.{Data, Members}
use Rattle.serde_json.specs.Find.{get, as_str, as_object}
use Rattle.mk_json.specs.Kinds.{each_some, elements_of, elements_at, has_only, integer_at, pairs, text_at, texts_at, texts_of}
use Rattle.mk_cert_text.specs.declared.certificate.Finish.{Finish}
use Rattle.mk_cert_text.specs.declared.certificate.Finish.TheVariants.{Written, Source, Always}
use Rattle.mk_cert_text.specs.declared.fault.CertTextFault.{CertTextFault}
use Rattle.mk_cert_text.specs.declared.key.Key.{Key}
use Rattle.mk_cert_text.specs.declared.key.Key.TheVariants as keys
use Rattle.mk_cert_text.specs.Certificate.{Way, Certificate}
use Rattle.mk_cert_text.specs.Keys.{spelling}
use Rattle.mk_cert_text.specs.Laws.{RepresentsWay, RepresentWays, Represents, ReadsWhatIsRepresented, names_of_way, names_of}
use Rattle.mk_cert_text.specs.Reading.{values_at, name_in, name_at, names_at, finish_at, way_in, is_one, format_is_one, certificate_in}
use Rattle.mk_cert_text.specs.Steps.{◌>>=◌, each, at_least, where_holds}
use Rattle.mk_cert_text.specs.Words.{finish_word, finish_of}
use Rattle.mk_cert_text.proofs.PlainNames.{Gave, after, anything, held, certificate_plain}
use Rattle.mk_cert_text.proofs.ValueBack.{all_parts, word_back}

-- what there was
there : {A : Type 0} (key : Key) (o : Option A) → Gave (λ x. o ≡ Some x) (at_least key o)
there key None = tt
there key (Some x) = refl

-- a name, and a list of names
text_said : (key : Key) (o : Option (List ℕ)) → Gave (λ n. o ≡ Some n) (at_least key o >>= (λ text. where_holds key (is_plain_path text) >>= (λ _. Ok text)))
text_said key None = tt
text_said key (Some n) = tested (is_plain_path n)
  where
    tested : (b : Bool) → Gave (λ m. Some n ≡ Some m) (where_holds key b >>= (λ _. Ok n))
    tested true = refl
    tested false = tt

value_said : (key : Key) (value : Data) → Gave (λ n. as_str value ≡ Some n) (name_in key value)
unfolding name_in
value_said key value = text_said key (as_str value)

name_said : (key : Key) (whole : Data) → Gave (λ n. text_at (spelling key) whole ≡ Some n) (name_at key whole)
unfolding name_at
name_said key whole = found (get (spelling key) whole)
  where
    found : (o : Option Data) → Gave (λ n. option_and_then as_str o ≡ Some n) (at_least key o >>= name_in key)
    found None = tt
    found (Some value) = value_said key value

each_said : (key : Key) (ds : List Data) → Gave (λ ns. each_some as_str ds ≡ Some ns) (each (name_in key) ds)
unfolding each each_some
each_said key [] = refl
each_said key (d ∷ ds) =
    let Q : List (List ℕ) → Type 0 = λ ns. each_some as_str (d ∷ ds) ≡ Some ns in
    after (λ n. as_str d ≡ Some n) Q (name_in key d) _ (value_said key d) (λ n first.
    after (λ ns. each_some as_str ds ≡ Some ns) Q (each (name_in key) ds) _ (each_said key ds) (λ ns rest. rw (first, rest) refl))

texts_from : (o : Option Data) (ds : List Data) (ns : List (List ℕ)) → option_and_then elements_of o ≡ Some ds → each_some as_str ds ≡ Some ns → option_and_then texts_of o ≡ Some ns
unfolding texts_of
texts_from None ds ns e s = absurd (false≢true (ap is_some e))
texts_from (Some value) ds ns e s = ap (option_and_then (each_some as_str)) e ∙ s

names_said : (key : Key) (whole : Data) → Gave (λ ns. texts_at (spelling key) whole ≡ Some ns) (names_at key whole)
unfolding names_at values_at
names_said key whole =
    let Q : List (List ℕ) → Type 0 = λ ns. texts_at (spelling key) whole ≡ Some ns in
    after (λ ds. elements_at (spelling key) whole ≡ Some ds) Q (values_at key whole) _ (there key (elements_at (spelling key) whole)) (λ ds e. mapped ds e (each (name_in key) ds) (each_said key ds))
  where
    mapped : (ds : List Data) → elements_at (spelling key) whole ≡ Some ds → (r : Result (List (List ℕ)) CertTextFault) → Gave (λ ns. each_some as_str ds ≡ Some ns) r → Gave (λ ns. texts_at (spelling key) whole ≡ Some ns) r
    mapped ds e (Ok ns) s = texts_from (get (spelling key) whole) ds ns e s
    mapped ds e (Err fault) s = tt

-- the end, and the format
finish_said : (whole : Data) → Gave (λ f. text_at (codes "end") whole ≡ Some (finish_word f)) (finish_at whole)
unfolding finish_at
finish_said whole = found (text_at (codes "end") whole)
  where
    one_of : (w : List ℕ) (a b c : Bool) → (a ≡ true → w ≡ codes "written") → (b ≡ true → w ≡ codes "source") → (c ≡ true → w ≡ codes "always")
        → Gave (λ f. Some w ≡ Some (finish_word f)) (at_least keys.End (if a then Some Written else (if b then Some Source else (if c then Some Always else None))))
    one_of w true b c x y z = ap Some (x refl)
    one_of w false true c x y z = ap Some (y refl)
    one_of w false false true x y z = ap Some (z refl)
    one_of w false false false x y z = tt

    found : (o : Option (List ℕ)) → Gave (λ f. o ≡ Some (finish_word f)) (at_least keys.End (option_and_then finish_of o))
    found None = tt
    found (Some w) = one_of w (bytes_eq w (codes "written")) (bytes_eq w (codes "source")) (bytes_eq w (codes "always")) (λ t. (bytes_eq-Decides w (codes "written")).0 t) (λ t. (bytes_eq-Decides w (codes "source")).0 t) (λ t. (bytes_eq-Decides w (codes "always")).0 t)

format_said : (whole : Data) → Gave (λ _. integer_at (codes "format") whole ≡ Some (pos 1)) (format_is_one whole)
unfolding format_is_one
format_said whole = found (integer_at (codes "format") whole)
  where
    tested : (n : ℤ) (b : Bool) → (b ≡ true → n ≡ pos 1) → Gave (λ _. Some n ≡ Some (pos 1)) (where_holds keys.Format b)
    tested n true is = ap Some (is refl)
    tested n false is = tt

    found : (o : Option ℤ) → Gave (λ _. o ≡ Some (pos 1)) (where_holds keys.Format (is_one o))
    found None = tt
    found (Some n) = tested n (int_eq n (pos 1)) (λ t. (Decides-int_eq n (pos 1)).0 t)

-- a way, and ways
way_said : (entry : Data) → Gave (RepresentsWay entry) (way_in entry)
unfolding way_in
way_said entry =
    let Q : Way → Type 0 = RepresentsWay entry in
    let known = has_only (map spelling (keys.End ∷ keys.File ∷ keys.Path ∷ keys.Recipe ∷ [])) entry in
    after (λ _. Unit {0}) Q (where_holds keys.Ways (is_some (as_object entry))) _ (anything (where_holds keys.Ways (is_some (as_object entry)))) (λ _ _.
    after (λ f. text_at (codes "end") entry ≡ Some (finish_word f)) Q (finish_at entry) _ (finish_said entry) (λ finish a.
    after (λ n. text_at (codes "file") entry ≡ Some n) Q (name_at keys.File entry) _ (name_said keys.File entry) (λ file b.
    after (λ ns. texts_at (codes "path") entry ≡ Some ns) Q (names_at keys.Path entry) _ (names_said keys.Path entry) (λ path d.
    after (λ n. text_at (codes "recipe") entry ≡ Some n) Q (name_at keys.Recipe entry) _ (name_said keys.Recipe entry) (λ recipe e.
    after (λ _. known ≡ true) Q (where_holds keys.Unknown known) _ (held keys.Unknown known) (λ _ only. record { finish = a; file = b; path = d; recipe = e; only = only }))))))

ways_said : (entries : List Data) → Gave (RepresentWays entries) (each way_in entries)
unfolding each
ways_said [] = tt
ways_said (entry ∷ entries) =
    let Q : List Way → Type 0 = RepresentWays (entry ∷ entries) in
    after (RepresentsWay entry) Q (way_in entry) _ (way_said entry) (λ way first.
    after (RepresentWays entries) Q (each way_in entries) _ (ways_said entries) (λ ways rest. (first, rest)))

certificate_said : (value : Data) → Gave (Represents value) (certificate_in value)
unfolding certificate_in values_at
certificate_said value =
    let Q : Certificate → Type 0 = Represents value in
    let known = has_only (map spelling (keys.Format ∷ keys.Goals ∷ keys.Ways ∷ [])) value in
    after (λ _. Unit {0}) Q (where_holds keys.Top (is_some (as_object value))) _ (anything (where_holds keys.Top (is_some (as_object value)))) (λ _ _.
    after (λ _. integer_at (codes "format") value ≡ Some (pos 1)) Q (format_is_one value) _ (format_said value) (λ _ a.
    after (λ ns. texts_at (codes "goals") value ≡ Some ns) Q (names_at keys.Goals value) _ (names_said keys.Goals value) (λ goals b.
    after (λ ds. elements_at (codes "ways") value ≡ Some ds) Q (values_at keys.Ways value) _ (there keys.Ways (elements_at (codes "ways") value)) (λ entries d.
    after (λ _. known ≡ true) Q (where_holds keys.Unknown known) _ (held keys.Unknown known) (λ _ only.
    after (RepresentWays entries) Q (each way_in entries) _ (ways_said entries) (λ ways e. record { format = a; goals = b; entries = entries; ways = d; said = e; only = only }))))))

-- an object is what has no keys but these
object_from : (known : List (List ℕ)) (value : Data) → has_only known value ≡ true → is_some (as_object value) ≡ true
unfolding has_only
object_from known value = found (as_object value)
  where
    found : (o : Option Members) → unwrap_or (option_map (list_all (λ (pair : List ℕ × Data). has_name known pair.0)) (option_map pairs o)) false ≡ true → is_some o ≡ true
    found None e = absurd (false≢true e)
    found (Some ms) e = refl

-- what is said is read: a name, and a list of names
name_from : (key : Key) (whole : Data) (name : List ℕ) → text_at (spelling key) whole ≡ Some name → is_plain_path name ≡ true → name_at key whole ≡ Ok name
unfolding name_at name_in
name_from key whole name e plain = found (get (spelling key) whole) e
  where
    found : (o : Option Data) → option_and_then as_str o ≡ Some name → (at_least key o >>= name_in key) ≡ Ok name
    found None e = absurd (false≢true (ap is_some e))
    found (Some value) e = rw (e, plain) refl

each_from : (key : Key) (ds : List Data) (ns : List (List ℕ)) → each_some as_str ds ≡ Some ns → list_all is_plain_path ns ≡ true → each (name_in key) ds ≡ Ok ns
unfolding each each_some name_in
each_from key [] ns e plain = ap (at_least key) e
each_from key (d ∷ ds) ns e plain = first (λ ms b p. each_from key ds ms b p) (as_str d) refl (each_some as_str ds) refl e
  where
    first : ((ms : List (List ℕ)) → each_some as_str ds ≡ Some ms → list_all is_plain_path ms ≡ true
        → each (name_in key) ds ≡ Ok ms) → (t : Option (List ℕ)) → as_str d ≡ t → (r : Option (List (List ℕ)))
        → each_some as_str ds ≡ r → option_and_then (λ (y : List ℕ). option_map (λ ys. y ∷ ys) r) t ≡ Some ns
        → each (name_in key) (d ∷ ds) ≡ Ok ns
    first go None a r b e = absurd (false≢true (ap is_some e))
    first go (Some n) a None b e = absurd (false≢true (ap is_some e))
    first go (Some n) a (Some ms) b e =
        let same : Ok (n ∷ ms) ≡ Ok ns = ap (at_least key) e in
        let all : list_all is_plain_path (n ∷ ms) ≡ true = ap (λ (o : Option (List (List ℕ))). list_all is_plain_path (unwrap_or o [])) e ∙ plain in
        let p = and_parts (is_plain_path n) (list_all is_plain_path ms) all in
        rw (a, p.0, go ms b p.1) same

names_from : (key : Key) (whole : Data) (ns : List (List ℕ)) → texts_at (spelling key) whole ≡ Some ns → list_all is_plain_path ns ≡ true → names_at key whole ≡ Ok ns
unfolding names_at values_at texts_of
names_from key whole ns e plain = found (get (spelling key) whole) e
  where
    listed : (l : Option (List Data)) → option_and_then (each_some as_str) l ≡ Some ns → (at_least key l >>= each (name_in key)) ≡ Ok ns
    listed None e = absurd (false≢true (ap is_some e))
    listed (Some ds) e = each_from key ds ns e plain

    found : (o : Option Data) → option_and_then texts_of o ≡ Some ns → (at_least key (option_and_then elements_of o) >>= each (name_in key)) ≡ Ok ns
    found None e = absurd (false≢true (ap is_some e))
    found (Some value) e = listed (elements_of value) e

finish_from : (whole : Data) (finish : Finish) → text_at (codes "end") whole ≡ Some (finish_word finish) → finish_at whole ≡ Ok finish
unfolding finish_at
finish_from whole finish e = ap (λ (o : Option (List ℕ)). at_least keys.End (option_and_then finish_of o)) e ∙ ap (at_least keys.End) (word_back finish)

-- a way, and ways
way_from : (entry : Data) (way : Way) → RepresentsWay entry way → list_all is_plain_path (names_of_way way) ≡ true → way_in entry ≡ Ok way
unfolding way_in
way_from entry way said plain =
    let recipe = and_parts (is_plain_path way.recipe) (list_all is_plain_path (way.file ∷ way.path)) plain in
    let file = and_parts (is_plain_path way.file) (list_all is_plain_path way.path) recipe.1 in
    rw (
      object_from (map spelling (keys.End ∷ keys.File ∷ keys.Path ∷ keys.Recipe ∷ [])) entry said.only,
      finish_from entry way.finish said.finish,
      name_from keys.File entry way.file said.file file.0,
      names_from keys.Path entry way.path said.path file.1,
      name_from keys.Recipe entry way.recipe said.recipe recipe.0,
      said.only,
    ) refl

ways_from : (entries : List Data) (ways : List Way) → RepresentWays entries ways → list_all is_plain_path (flat_map names_of_way ways) ≡ true → each way_in entries ≡ Ok ways
unfolding each
ways_from [] [] said plain = refl
ways_from [] (way ∷ ways) said plain = absurd said
ways_from (entry ∷ entries) [] said plain = absurd said
ways_from (entry ∷ entries) (way ∷ ways) said plain =
    let p = all_parts is_plain_path (names_of_way way) (flat_map names_of_way ways) plain in
    rw (way_from entry way said.0 p.0, ways_from entries ways said.1 p.1) refl

certificate_from_said : (value : Data) (c : Certificate) → Represents value c → list_all is_plain_path (names_of c) ≡ true → certificate_in value ≡ Ok c
unfolding certificate_in format_is_one values_at
certificate_from_said value c said plain =
    let p = all_parts is_plain_path c.goals (flat_map names_of_way c.ways) plain in
    rw (object_from (map spelling (keys.Format ∷ keys.Goals ∷ keys.Ways ∷ [])) value said.only, said.format, names_from keys.Goals value c.goals said.goals p.0, said.ways, said.only, ways_from said.entries c.ways said.said p.1) refl

pub reads_what_is_represented : ReadsWhatIsRepresented
reads_what_is_represented value c =
    (λ e. (subst (Gave (Represents value)) e (certificate_said value), subst (Gave (λ x. list_all is_plain_path (names_of x) ≡ true)) e (certificate_plain value)), λ h. certificate_from_said value c h.0 h.1)
