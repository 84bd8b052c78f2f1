-- The places of files.
use Rattle.std.proofs.Common.{◌≡◌, ℕ, zero, suc, Bool, ◌<◌, List, [], ◌∷◌, ◌++◌, Option, None, Some, length, get_or, map, true, false, refl, sym, ap, subst, ◌∙◌, inl, inr, arith, length-append}
use Rattle.std.specs.Prelude.{filter, slice_get, ◌||◌}
use Rattle.std.specs.Borrow.{Bor}
use Rattle.std.specs.List.{list_any}
use Rattle.std.specs.Option.{option_map}
use Rattle.std.specs.Str.{bytes_eq}
use Rattle.std.proofs.lemmas.Bool.{true≢false}
use Rattle.std.proofs.lemmas.List.{get_or-map, length-map, map_push, get_or_append_left}
use Rattle.std.proofs.lemmas.Option.{slice_get-map, slice_get_within, slice_get-get_or, get_or_from_slice_get}
use Rattle.std.proofs.lemmas.Slice.Eq.{bytes_eq-Decides}
use Rattle.mk_lemmas.proofs.Texts.{texts}
use Rattle.mk_lines.specs.Names.{has_name}
use Rattle.mk_graph.specs.Membership.{Has}
use Rattle.mk_graph.specs.Serial.{serial_order}
use Rattle.mk_subject.specs.NodeRow.{writers_of}
use Rattle.mk_subject.specs.FileInfo.{FileInfo, StandAt, all_names, known_by, known_of}
use Rattle.mk_subject.specs.Subject.{Subject, writes_of}
use Rattle.mk_subject.proofs.Decided.{has_decides}

-- what stands at a place stays there as more come
pub names_more : (names rest : List (List ℕ)) (p : ℕ) (f : List ℕ) → slice_get names p ≡ Some f → slice_get (names ++ rest) p ≡ Some f
names_more names rest p f h =
    let low : p < length names = slice_get_within names p f h in
    let within : p < length (names ++ rest) = omega (arith, length-append names rest) in
    slice_get-get_or (names ++ rest) p f within ∙ (ap (λ (v : List ℕ). Some v) (get_or_append_left names rest f p low) ∙ (sym (slice_get-get_or names p f low) ∙ h))

-- so do all
pub stand_more : (names rest : List (List ℕ)) (places : List ℕ) (files : List (List ℕ)) → StandAt names places files → StandAt (names ++ rest) places files
stand_more names rest [] [] h = refl
stand_more names rest [] (f ∷ fs) h = absurd (cc)
stand_more names rest (p ∷ ps) [] h = absurd (cc)
stand_more names rest (p ∷ ps) (f ∷ fs) h =
    let here : slice_get names p ≡ Some f = cc in
    let later : StandAt names ps fs = cc in
    let first : slice_get (names ++ rest) p ≡ Some f = names_more names rest p f here in
    let others : StandAt (names ++ rest) ps fs = stand_more names rest ps fs later in
    cc

-- a file more
pub stand_push : (names : List (List ℕ)) (places new : List ℕ) (p : ℕ) (files all : List (List ℕ)) (f : List ℕ) → new ≡ places ++ p ∷ [] → all ≡ files ++ f ∷ [] → slice_get names p ≡ Some f → StandAt names places files → StandAt names new all
stand_push names places new p files all f pushed more here h =
    let at : ℕ → Option (List ℕ) = λ (place : ℕ). slice_get names place in
    let so : List ℕ → Option (List ℕ) = λ (file : List ℕ). Some file in
    ap (map at) pushed ∙ (map_push at places p ∙ (ap (λ (l : List (Option (List ℕ))). l ++ at p ∷ []) h ∙ (ap (λ (v : Option (List ℕ)). map so files ++ v ∷ []) here ∙ (sym (map_push so files f) ∙ ap (map so) (sym more)))))

-- the same over keys that grow
pub keys_more : (keys rest new : List (Bor (List ℕ))) (places : List ℕ) (files : List (List ℕ)) → new ≡ keys ++ rest → StandAt (texts keys) places files → StandAt (texts new) places files
keys_more keys rest new places files grown h =
    subst (λ (names : List (List ℕ)). StandAt names places files) (sym (ap texts grown ∙ spelled_append keys)) (stand_more (texts keys) (texts rest) places files h)
  where
    spelled_append : (ks : List (Bor (List ℕ))) → texts (ks ++ rest) ≡ texts ks ++ texts rest
    spelled_append [] = refl
    spelled_append (k ∷ ks) = ap (λ (l : List (List ℕ)). k.now ∷ l) (spelled_append ks)

-- as many places as files
pub as_many : (names : List (List ℕ)) (places : List ℕ) (files : List (List ℕ)) → StandAt names places files → length places ≡ length files
as_many names places files h =
    sym (length-map places (λ (place : ℕ). slice_get names place)) ∙ (ap (λ (l : List (Option (List ℕ))). length l) h ∙ length-map files (λ (file : List ℕ). Some file))

-- what stands at the place of one of them
pub stands : (names : List (List ℕ)) (places : List ℕ) (files : List (List ℕ)) (i : ℕ) → i < length files → StandAt names places files → slice_get names (get_or places i 0) ≡ Some (get_or files i [])
stands names places files i lt h =
    let low : i < length places = omega (arith, as_many names places files h) in
    sym (get_or-map (λ (place : ℕ). slice_get names place) places i 0 None low) ∙ (ap (λ (l : List (Option (List ℕ))). get_or l i None) h ∙ get_or-map (λ (file : List ℕ). Some file) files i [] None lt)

-- a file that was met stands among what the keys spell
pub met : (keys : List (Bor (List ℕ))) (p : ℕ) (f : List ℕ) (k : Bor (List ℕ)) → slice_get keys p ≡ Some k → bytes_eq f k.now ≡ true → slice_get (texts keys) p ≡ Some f
met keys p f k at same =
    slice_get-map (λ (g : Bor (List ℕ)). g.now) keys p ∙ (ap (option_of) at ∙ ap (λ (g : List ℕ). Some g) (sym ((bytes_eq-Decides f k.now).0 same)))
  where
    option_of : Option (Bor (List ℕ)) → Option (List ℕ)
    option_of None = None
    option_of (Some g) = Some g.now

-- what stands at a place stands among the names
at_among : (names : List (List ℕ)) (p : ℕ) (f : List ℕ) → slice_get names p ≡ Some f → Has names f
at_among [] p f h = absurd (cc)
at_among (name ∷ names) zero f h = inl (cc)
at_among (name ∷ names) (suc p) f h = inr (at_among names p f (h))

-- so does each file that has a place
pub stand_among : (names : List (List ℕ)) (places : List ℕ) (files : List (List ℕ)) → StandAt names places files → (f : List ℕ) → Has files f → Has names f
stand_among names [] [] h f has = absurd has
stand_among names [] (g ∷ gs) h f has = absurd (let e : [] ≡ Some g ∷ map Some gs = h in cc)
stand_among names (p ∷ ps) [] h f has = absurd has
stand_among names (p ∷ ps) (g ∷ gs) h f (inl here) = at_among names p f (let e : slice_get names p ≡ Some g = cc in e ∙ ap (λ (v : List ℕ). Some v) here)
stand_among names (p ∷ ps) (g ∷ gs) h f (inr there) = stand_among names ps gs (cc) f there

-- a name that no key spells
pub not_spelled : (keys : List (Bor (List ℕ))) (f : List ℕ) → list_any (λ (key : Bor (List ℕ)). bytes_eq f key.now) keys ≡ false → ¬ (Has (texts keys) f)
not_spelled [] f none h = h
not_spelled (key ∷ keys) f none h = by (bytes_eq f key.now) refl none (not_spelled keys f) h
  where
    by : (b : Bool) → bytes_eq f key.now ≡ b → (b || list_any (λ (k : Bor (List ℕ)). bytes_eq f k.now) keys) ≡ false → (list_any (λ (k : Bor (List ℕ)). bytes_eq f k.now) keys ≡ false → ¬ (Has (texts keys) f)) → ¬ (Has (texts (key ∷ keys)) f)
    by true e k later h = true≢false k
    by false e k later (inl here) = true≢false (sym ((bytes_eq-Decides f key.now).1 (sym here)) ∙ e)
    by false e k later (inr there) = later k there

-- at a place of some files
pub record FileAt (names : List (List ℕ)) (known : List FileInfo) (row : List ℕ) (files : List (List ℕ)) (i : ℕ) : Type 0 where
  pub place : i < length row
  pub within : get_or row i 0 < length known
  pub here : slice_get names (get_or row i 0) ≡ Some (get_or files i [])

pub file_at : (by : List ℕ → FileInfo) (names : List (List ℕ)) (known : List FileInfo) (row : List ℕ) (files : List (List ℕ)) (i : ℕ) → known ≡ map by names → StandAt names row files → i < length files → FileAt names known row files i
file_at by names known row files i all h lt =
    let here = stands names row files i lt h in
    record {
      place = omega (arith, as_many names row files h);
      within = omega (arith, slice_get_within names (get_or row i 0) (get_or files i []) here, ap (λ (l : List FileInfo). length l) all, length-map names by);
      here = here;
    }

-- what is known of the file at a place
pub known_at : (by : List ℕ → FileInfo) (names : List (List ℕ)) (known : List FileInfo) (p : ℕ) (f : List ℕ) (d : FileInfo) → known ≡ map by names → slice_get names p ≡ Some f → get_or known p d ≡ by f
known_at by names known p f d all at =
    get_or_from_slice_get known p (by f) d (ap (λ (l : List FileInfo). slice_get l p) all ∙ (slice_get-map by names p ∙ ap (λ (o : Option (List ℕ)). option_map by o) at))

-- a file that no place has is written by no recipe
pub no_writers : (x : Subject) (f : List ℕ) → ((t : ℕ) → ¬ (Has (writes_of x t) f)) → writers_of x f ≡ []
no_writers x f none = none_pass (serial_order x.graph)
  where
    false_is : (b : Bool) → ¬ (b ≡ true) → b ≡ false
    false_is true h = absurd (h refl)
    false_is false h = refl

    none_pass : (order : List ℕ) → filter (λ o. has_name (writes_of x o) f) order ≡ []
    none_pass [] = refl
    none_pass (o ∷ order) = rw (false_is (has_name (writes_of x o) f) (λ e. none o ((has_decides (writes_of x o) f).0 e))) (none_pass order)

-- what is known by tables that are the subject's is what is known of it
pub known_is : (x : Subject) (writers : List ℕ → List ℕ) (names : List (List ℕ)) → ((f : List ℕ) → writers f ≡ writers_of x f) → names ≡ all_names x → known_by x.makefile x.setting writers names ≡ known_of x
known_is x writers names same named i f = (ap (λ (ws : List ℕ). known_by x.makefile x.setting (λ g. ws) names f) (same f) ∙ ap (λ (ns : List (List ℕ)). known_by x.makefile x.setting (writers_of x) ns f) named) i
