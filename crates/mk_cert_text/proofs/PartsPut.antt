-- Parts where a member is put.
use Rattle.std.proofs.Common.{◌≡◌, ℕ, true, false, List, [], ◌∷◌, map, codes, Option, Some, Result, bytes_eq, refl, sym, ap, ◌∙◌, subst}
use Rattle.std.specs.Prelude.{⊤, option_and_then}
use Rattle.std.proofs.lemmas.Slice.Eq.{bytes_eq-Decides}
use Rattle.mk_lemmas.proofs.Texts.{bytes_eq-differ, differ-sym}
use Rattle.mk_lines.specs.Names.{has_name}
use Rattle.mk_lines.specs.declared.name.Name.{Name}
use Rattle.mk_cert_text.specs.declared.packed_names.PackedNames.{PackedNames}
use Rattle.serde_json.specs.Data.{Data, object, Members, put}
use Rattle.serde_json.specs.Find.{get, as_str, as_number, as_integer}
use Rattle.mk_json.specs.Kinds.{elements_of, has_only}
use Rattle.mk_json.specs.Laws.{LastValueCounts}
use Rattle.mk_cert_text.specs.declared.certificate.Finish.{Finish}
use Rattle.mk_cert_text.specs.declared.fault.CertTextFault.{CertTextFault}
use Rattle.mk_cert_text.specs.declared.key.Key.{Key}
use Rattle.mk_cert_text.specs.declared.key.Key.TheVariants as keys
use Rattle.mk_cert_text.specs.declared.reading.CertificateParts.{CertificateParts}
use Rattle.mk_cert_text.specs.declared.reading_ways.WayParts.{WayParts}
use Rattle.mk_cert_text.specs.declared.ways.Ways.{Ways}
use Rattle.mk_cert_text.specs.Keys.{spelling}
use Rattle.mk_cert_text.specs.CertificateParts.{names_from, finish_from, format_from, IsOfWay, IsOf, GivesWays}
use Rattle.mk_cert_text.specs.Reading.{is_one, name_in, name_at, names_at, values_at, finish_at, format_is_one}
use Rattle.mk_cert_text.specs.Steps.{◌>>=◌, Gives, each, at_least, where_holds}
use Rattle.mk_cert_text.specs.Words.{finish_of}

-- what is given, in other words
pub moved : {X Y : Type 0} (view : X → Y) (r : Result X CertTextFault) (old new : Result Y CertTextFault) → Gives view r old → new ≡ old → Gives view r new
moved view r old new given e = subst (λ (z : Result _ CertTextFault). Gives view r z) (sym e) given

module _ (law : LastValueCounts) where
  here : (key : List ℕ) (value : Data) (ms : Members) → get key (object (put key value ms)) ≡ Some value
  here key value ms = law.value key key value ms ∙ rw ((bytes_eq-Decides key key).1 refl) refl

  there : (key other : List ℕ) (value : Data) (ms : Members) → bytes_eq key other ≡ false → get key (object (put other value ms)) ≡ get key (object ms)
  there key other value ms apart = law.value key other value ms ∙ rw apart refl

  pub name_here : (q : Key) (value : Data) (ms : Members) → name_at q (object (put (spelling q) value ms)) ≡ name_in q value
  unfolding name_at
  name_here q value ms = ap (λ (o : Option Data). at_least q o >>= name_in q) (here (spelling q) value ms)

  pub name_there : (q : Key) (other : List ℕ) (value : Data) (ms : Members) → bytes_eq (spelling q) other ≡ false → name_at q (object (put other value ms)) ≡ name_at q (object ms)
  unfolding name_at
  name_there q other value ms apart = ap (λ (o : Option Data). at_least q o >>= name_in q) (there (spelling q) other value ms apart)

  pub values_here : (q : Key) (value : Data) (ms : Members) → values_at q (object (put (spelling q) value ms)) ≡ at_least q (elements_of value)
  unfolding values_at
  values_here q value ms = ap (λ (o : Option Data). at_least q (option_and_then elements_of o)) (here (spelling q) value ms)

  pub values_there : (q : Key) (other : List ℕ) (value : Data) (ms : Members) → bytes_eq (spelling q) other ≡ false → values_at q (object (put other value ms)) ≡ values_at q (object ms)
  unfolding values_at
  values_there q other value ms apart = ap (λ (o : Option Data). at_least q (option_and_then elements_of o)) (there (spelling q) other value ms apart)

  pub names_here : (q : Key) (value : Data) (ms : Members) → names_at q (object (put (spelling q) value ms)) ≡ names_from q value
  unfolding names_at
  names_here q value ms = ap (λ (r : Result (List Data) CertTextFault). r >>= each (name_in q)) (values_here q value ms)

  pub names_there : (q : Key) (other : List ℕ) (value : Data) (ms : Members) → bytes_eq (spelling q) other ≡ false → names_at q (object (put other value ms)) ≡ names_at q (object ms)
  unfolding names_at
  names_there q other value ms apart = ap (λ (r : Result (List Data) CertTextFault). r >>= each (name_in q)) (values_there q other value ms apart)

  pub finish_here : (value : Data) (ms : Members) → finish_at (object (put (codes "end") value ms)) ≡ finish_from value
  unfolding finish_at
  finish_here value ms = ap (λ (o : Option Data). at_least keys.End (option_and_then finish_of (option_and_then as_str o))) (here (codes "end") value ms)

  pub finish_there : (other : List ℕ) (value : Data) (ms : Members) → bytes_eq (codes "end") other ≡ false → finish_at (object (put other value ms)) ≡ finish_at (object ms)
  unfolding finish_at
  finish_there other value ms apart = ap (λ (o : Option Data). at_least keys.End (option_and_then finish_of (option_and_then as_str o))) (there (codes "end") other value ms apart)

  pub format_here : (value : Data) (ms : Members) → format_is_one (object (put (codes "format") value ms)) ≡ format_from value
  unfolding format_is_one
  format_here value ms = ap (λ (o : Option Data). where_holds keys.Format (is_one (option_and_then as_integer (option_and_then as_number o)))) (here (codes "format") value ms)

  pub format_there : (other : List ℕ) (value : Data) (ms : Members) → bytes_eq (codes "format") other ≡ false → format_is_one (object (put other value ms)) ≡ format_is_one (object ms)
  unfolding format_is_one
  format_there other value ms apart = ap (λ (o : Option Data). where_holds keys.Format (is_one (option_and_then as_integer (option_and_then as_number o)))) (there (codes "format") other value ms apart)

  -- a key that is known, and one that is not
  pub known_there : (known : List (List ℕ)) (key : List ℕ) (value : Data) (ms : Members) → has_name known key ≡ true → has_only known (object (put key value ms)) ≡ has_only known (object ms)
  known_there known key value ms e = law.keys known key value ms ∙ rw e refl

  pub unknown_there : (known : List (List ℕ)) (key : List ℕ) (value : Data) (ms : Members) → has_name known key ≡ false → has_only known (object (put key value ms)) ≡ false
  unknown_there known key value ms e = law.keys known key value ms ∙ rw e refl

  moved_entries : (ways : Result (Result Ways CertTextFault) CertTextFault) (old new : Result (List Data) CertTextFault) → GivesWays ways old → new ≡ old → GivesWays ways new
  moved_entries ways old new given e = subst (λ (z : Result (List Data) CertTextFault). GivesWays ways z) (sym e) given

  -- ---- the parts of a way

  abbrev way_keys : List (List ℕ)
  way_keys = map spelling (keys.End ∷ keys.File ∷ keys.Path ∷ keys.Recipe ∷ [])

  pub end_put : (p : WayParts) (finish : Result Finish CertTextFault) (key : List ℕ) (value : Data) (ms : Members) → key ≡ codes "end" → Gives (λ f. f) finish (finish_from value) → IsOfWay p (object ms)
      → IsOfWay (record { finish = finish; file = p.file; path = p.path; recipe = p.recipe; alone = p.alone }) (object (put key value ms))
  end_put p finish key value ms is given was = rw is (record {
    finish = moved (λ f. f) finish _ _ given (finish_here value ms);
    file = moved (λ n. n) p.file _ _ was.file (name_there keys.File (codes "end") value ms refl);
    path = moved (λ n. n) p.path _ _ was.path (names_there keys.Path (codes "end") value ms refl);
    recipe = moved (λ n. n) p.recipe _ _ was.recipe (name_there keys.Recipe (codes "end") value ms refl);
    alone = was.alone ∙ sym (known_there way_keys (codes "end") value ms refl);
  })

  pub file_put : (p : WayParts) (file : Result Name CertTextFault) (key : List ℕ) (value : Data) (ms : Members) → key ≡ codes "file" → Gives (λ n. n) file (name_in keys.File value) → IsOfWay p (object ms)
      → IsOfWay (record { finish = p.finish; file = file; path = p.path; recipe = p.recipe; alone = p.alone }) (object (put key value ms))
  file_put p file key value ms is given was = rw is (record {
    finish = moved (λ f. f) p.finish _ _ was.finish (finish_there (codes "file") value ms refl);
    file = moved (λ n. n) file _ _ given (name_here keys.File value ms);
    path = moved (λ n. n) p.path _ _ was.path (names_there keys.Path (codes "file") value ms refl);
    recipe = moved (λ n. n) p.recipe _ _ was.recipe (name_there keys.Recipe (codes "file") value ms refl);
    alone = was.alone ∙ sym (known_there way_keys (codes "file") value ms refl);
  })

  pub path_put : (p : WayParts) (path : Result PackedNames CertTextFault) (key : List ℕ) (value : Data) (ms : Members) → key ≡ codes "path" → Gives (λ n. n) path (names_from keys.Path value) → IsOfWay p (object ms)
      → IsOfWay (record { finish = p.finish; file = p.file; path = path; recipe = p.recipe; alone = p.alone }) (object (put key value ms))
  path_put p path key value ms is given was = rw is (record {
    finish = moved (λ f. f) p.finish _ _ was.finish (finish_there (codes "path") value ms refl);
    file = moved (λ n. n) p.file _ _ was.file (name_there keys.File (codes "path") value ms refl);
    path = moved (λ n. n) path _ _ given (names_here keys.Path value ms);
    recipe = moved (λ n. n) p.recipe _ _ was.recipe (name_there keys.Recipe (codes "path") value ms refl);
    alone = was.alone ∙ sym (known_there way_keys (codes "path") value ms refl);
  })

  pub recipe_put : (p : WayParts) (recipe : Result Name CertTextFault) (key : List ℕ) (value : Data) (ms : Members) → key ≡ codes "recipe" → Gives (λ n. n) recipe (name_in keys.Recipe value) → IsOfWay p (object ms)
      → IsOfWay (record { finish = p.finish; file = p.file; path = p.path; recipe = recipe; alone = p.alone }) (object (put key value ms))
  recipe_put p recipe key value ms is given was = rw is (record {
    finish = moved (λ f. f) p.finish _ _ was.finish (finish_there (codes "recipe") value ms refl);
    file = moved (λ n. n) p.file _ _ was.file (name_there keys.File (codes "recipe") value ms refl);
    path = moved (λ n. n) p.path _ _ was.path (names_there keys.Path (codes "recipe") value ms refl);
    recipe = moved (λ n. n) recipe _ _ given (name_here keys.Recipe value ms);
    alone = was.alone ∙ sym (known_there way_keys (codes "recipe") value ms refl);
  })

  pub other_put : (p : WayParts) (key : List ℕ) (value : Data) (ms : Members) → (key ≡ codes "end" → ⊥) → (key ≡ codes "file" → ⊥) → (key ≡ codes "path" → ⊥) → (key ≡ codes "recipe" → ⊥) → IsOfWay p (object ms)
      → IsOfWay (record { finish = p.finish; file = p.file; path = p.path; recipe = p.recipe; alone = false }) (object (put key value ms))
  other_put p key value ms a b c d was = record {
    finish = moved (λ f. f) p.finish _ _ was.finish (finish_there key value ms (bytes_eq-differ _ _ (differ-sym a)));
    file = moved (λ n. n) p.file _ _ was.file (name_there keys.File key value ms (bytes_eq-differ _ _ (differ-sym b)));
    path = moved (λ n. n) p.path _ _ was.path (names_there keys.Path key value ms (bytes_eq-differ _ _ (differ-sym c)));
    recipe = moved (λ n. n) p.recipe _ _ was.recipe (name_there keys.Recipe key value ms (bytes_eq-differ _ _ (differ-sym d)));
    alone = sym (unknown_there way_keys key value ms (rw (bytes_eq-differ key (codes "end") a, bytes_eq-differ key (codes "file") b, bytes_eq-differ key (codes "path") c, bytes_eq-differ key (codes "recipe") d) refl));
  }

  -- ---- the parts of a certificate

  abbrev all_keys : List (List ℕ)
  all_keys = map spelling (keys.Format ∷ keys.Goals ∷ keys.Ways ∷ [])

  pub format_put : (p : CertificateParts) (format : Result ⊤ CertTextFault) (key : List ℕ) (value : Data) (ms : Members) → key ≡ codes "format" → Gives (λ d. d) format (format_from value) → IsOf p (object ms)
      → IsOf (record { format = format; goals = p.goals; ways = p.ways; alone = p.alone }) (object (put key value ms))
  format_put p format key value ms is given was = rw is (record {
    format = moved (λ d. d) format _ _ given (format_here value ms);
    goals = moved (λ n. n) p.goals _ _ was.goals (names_there keys.Goals (codes "format") value ms refl);
    ways = moved_entries p.ways _ _ was.ways (values_there keys.Ways (codes "format") value ms refl);
    alone = was.alone ∙ sym (known_there all_keys (codes "format") value ms refl);
  })

  pub goals_put : (p : CertificateParts) (goals : Result PackedNames CertTextFault) (key : List ℕ) (value : Data) (ms : Members) → key ≡ codes "goals" → Gives (λ n. n) goals (names_from keys.Goals value) → IsOf p (object ms)
      → IsOf (record { format = p.format; goals = goals; ways = p.ways; alone = p.alone }) (object (put key value ms))
  goals_put p goals key value ms is given was = rw is (record {
    format = moved (λ d. d) p.format _ _ was.format (format_there (codes "goals") value ms refl);
    goals = moved (λ n. n) goals _ _ given (names_here keys.Goals value ms);
    ways = moved_entries p.ways _ _ was.ways (values_there keys.Ways (codes "goals") value ms refl);
    alone = was.alone ∙ sym (known_there all_keys (codes "goals") value ms refl);
  })

  pub ways_put : (p : CertificateParts) (ways : Result (Result Ways CertTextFault) CertTextFault) (key : List ℕ) (value : Data) (ms : Members) → key ≡ codes "ways" → GivesWays ways (at_least keys.Ways (elements_of value)) → IsOf p (object ms)
      → IsOf (record { format = p.format; goals = p.goals; ways = ways; alone = p.alone }) (object (put key value ms))
  ways_put p ways key value ms is given was = rw is (record {
    format = moved (λ d. d) p.format _ _ was.format (format_there (codes "ways") value ms refl);
    goals = moved (λ n. n) p.goals _ _ was.goals (names_there keys.Goals (codes "ways") value ms refl);
    ways = moved_entries ways _ _ given (values_here keys.Ways value ms);
    alone = was.alone ∙ sym (known_there all_keys (codes "ways") value ms refl);
  })

  pub another_put : (p : CertificateParts) (key : List ℕ) (value : Data) (ms : Members) → (key ≡ codes "format" → ⊥) → (key ≡ codes "goals" → ⊥) → (key ≡ codes "ways" → ⊥) → IsOf p (object ms)
      → IsOf (record { format = p.format; goals = p.goals; ways = p.ways; alone = false }) (object (put key value ms))
  another_put p key value ms a b c was = record {
    format = moved (λ d. d) p.format _ _ was.format (format_there key value ms (bytes_eq-differ _ _ (differ-sym a)));
    goals = moved (λ n. n) p.goals _ _ was.goals (names_there keys.Goals key value ms (bytes_eq-differ _ _ (differ-sym b)));
    ways = moved_entries p.ways _ _ was.ways (values_there keys.Ways key value ms (bytes_eq-differ _ _ (differ-sym c)));
    alone = sym (unknown_there all_keys key value ms (rw (bytes_eq-differ key (codes "format") a, bytes_eq-differ key (codes "goals") b, bytes_eq-differ key (codes "ways") c) refl));
  }
