-- What is found of reads of settled files: nothing. And the places of those that aren't settled.
use Rattle.std.proofs.Common.{◌≡◌, ℕ, ◌+◌, ◌<◌, ◌≤◌, List, [], ◌∷◌, ◌++◌, Bool, true, false, Option, None, Some, length, get_or, map, take, refl, sym, ap, ◌∙◌, append-nil, arith}
use Rattle.std.specs.Prelude.{filter, not, slice_get, ◌&&◌, ◌==◌}
use Rattle.std.proofs.Math.Dec.{eqb-suc-zero}
use Rattle.std.proofs.lemmas.Bool.{true≢false, not-false}
use Rattle.std.proofs.lemmas.List.{map_push, take_all, take_more}
use Rattle.std.proofs.lemmas.List.Elements.{filter-append}
use Rattle.std.proofs.lemmas.Option.{slice_get-map}
use Rattle.mk_subject.proofs.KnownFiles.{as_many, stands}
use Rattle.mk_graph.specs.Membership.{Has}
use Rattle.mk_subject.specs.Subject.{Subject, reads_of}
use Rattle.mk_subject.specs.FileInfo.{FileInfo, StandAt}
use Rattle.mk_subject.specs.Settled.{is_settled, unsettled}
use Rattle.mk_subject.specs.Target.{Target, unsettled_of}

parts : (given editable : Bool) (writers : List ℕ) → (given && (not editable && length writers == 0)) ≡ true → (given ≡ true) × ((editable ≡ false) × (writers ≡ []))
parts false editable writers h = absurd (let e : false ≡ true = h in cc)
parts true true writers h = absurd (let e : false ≡ true = h in cc)
parts true false [] h = (refl, (refl, refl))
parts true false (w ∷ writers) h = absurd (true≢false (sym h ∙ eqb-suc-zero (length writers)))

-- what is known of a settled file
pub record IsSettled (k : FileInfo) : Type 0 where
  pub given : k.given ≡ true
  pub fixed : k.editable ≡ false
  pub unwritten : k.writers ≡ []

pub settled : (k : FileInfo) → not (is_settled k) ≡ false → IsSettled k
settled k h = let p = parts k.given k.editable k.writers (not-false (is_settled k) h) in record { given = p.0; fixed = p.1.0; unwritten = p.1.1 }

alone_kept : (p : List ℕ → Bool) (f : List ℕ) → p f ≡ true → filter p (f ∷ []) ≡ f ∷ []
alone_kept p f e = rw e refl

alone_dropped : (p : List ℕ → Bool) (f : List ℕ) → p f ≡ false → filter p (f ∷ []) ≡ []
alone_dropped p f e = rw e refl

-- the file at a place of what a recipe reads that isn't settled
pub record OpenAt (x : Subject) (t i : ℕ) (target : Target) : Type 0 where
  pub low : i < length (unsettled_of x t)
  pub file : target.file ≡ get_or (unsettled_of x t) i []
  pub read : Has (reads_of x t) target.file

-- the places so far of those that aren't settled, by what is known of the files with the names
abbrev pub SoFar : List FileInfo → List ℕ → ℕ → List ℕ → Type 0
SoFar known places i some = (by : List ℕ → FileInfo) (names files : List (List ℕ)) → known ≡ map by names → StandAt names places files → StandAt names some (unsettled by (take i files))

module _ (by : List ℕ → FileInfo) (names files : List (List ℕ)) where
  abbrev tells : List ℕ → Bool
  tells f = not (is_settled (by f))

  abbrev at : ℕ → List ℕ
  at i = get_or files i []

  abbrev shown : ℕ → Option (List ℕ)
  shown p = slice_get names p

  pub more_files : (i : ℕ) → i < length files → unsettled by (take (i + 1) files) ≡ unsettled by (take i files) ++ filter tells (at i ∷ [])
  more_files i lt = ap (unsettled by) (take_more files i [] lt) ∙ filter-append tells (take i files) (at i ∷ [])

  -- what is known of the file at a place
  pub known_at : (known : List FileInfo) (places : List ℕ) (i : ℕ) → i < length places → known ≡ map by names → StandAt names places files → slice_get known (get_or places i 0) ≡ Some (by (at i))
  known_at known places i lt all h =
      let low : i < length files = omega (arith, as_many names places files h) in
      ap (λ (l : List FileInfo). slice_get l (get_or places i 0)) all ∙ (slice_get-map by names (get_or places i 0) ∙ ap (option_of) (stands names places files i low h))
    where
      option_of : Option (List ℕ) → Option FileInfo
      option_of None = None
      option_of (Some g) = Some (by g)

  -- the place of a file that isn't settled is one more
  pub place_more : (places some new : List ℕ) (i : ℕ) → i < length places → new ≡ some ++ get_or places i 0 ∷ [] → is_settled (by (at i)) ≡ false → StandAt names places files → StandAt names some (unsettled by (take i files)) → StandAt names new (unsettled by (take (i + 1) files))
  place_more places some new i lt pushed free h so_far =
      let low : i < length files = omega (arith, as_many names places files h) in
      let one : unsettled by (take i files) ++ at i ∷ [] ≡ unsettled by (take (i + 1) files) = ap (λ (l : List (List ℕ)). unsettled by (take i files) ++ l) (sym (alone_kept tells (at i) (ap (λ b. not b) free))) ∙ sym (more_files i low) in
      ap (map shown) pushed ∙ (map_push shown some (get_or places i 0)
      ∙ (ap (λ (l : List (Option (List ℕ))). l ++ shown (get_or places i 0) ∷ []) so_far
      ∙ (ap (λ (v : Option (List ℕ)). map Some (unsettled by (take i files)) ++ v ∷ [])
      (stands names places files i low h) ∙ (sym (map_push (λ (f : List ℕ). Some f)
      (unsettled by (take i files)) (at i)) ∙ ap (map (λ (f : List ℕ). Some f)) one))))

  -- that of a settled one isn't
  pub place_past : (places some : List ℕ) (i : ℕ) → i < length places → is_settled (by (at i)) ≡ true → StandAt names places files → StandAt names some (unsettled by (take i files)) → StandAt names some (unsettled by (take (i + 1) files))
  place_past places some i lt closed h so_far =
      let low : i < length files = omega (arith, as_many names places files h) in
      let none : unsettled by (take i files) ≡ unsettled by (take (i + 1) files) = sym (append-nil (unsettled by (take i files))) ∙ (ap (λ (l : List (List ℕ)). unsettled by (take i files) ++ l) (sym (alone_dropped tells (at i) (ap (λ b. not b) closed))) ∙ sym (more_files i low)) in
      so_far ∙ ap (map (λ (f : List ℕ). Some f)) none

-- one place more, by what is told of what is known at it
pub so_far_more : (known : List FileInfo) (places some new : List ℕ) (i : ℕ) (told : Bool) → i < length places
    → ((k : FileInfo) → slice_get known (get_or places i 0) ≡ Some k → told ≡ is_settled k) → told ≡ false
    → new ≡ some ++ get_or places i 0 ∷ [] → SoFar known places i some → SoFar known places (i + 1) new
so_far_more known places some new i told lt tells free pushed before = λ by names files all h.
    place_more by names files places some new i lt pushed (sym (tells (by (get_or files i [])) (known_at by names files known places i lt all h)) ∙ free) h (before by names files all h)

pub so_far_past : (known : List FileInfo) (places some : List ℕ) (i : ℕ) (told : Bool) → i < length places → ((k : FileInfo) → slice_get known (get_or places i 0) ≡ Some k → told ≡ is_settled k) → told ≡ true → SoFar known places i some → SoFar known places (i + 1) some
so_far_past known places some i told lt tells closed before = λ by names files all h.
    place_past by names files places some i lt (sym (tells (by (get_or files i [])) (known_at by names files known places i lt all h)) ∙ closed) h (before by names files all h)

-- the places at which those stand that aren't settled
abbrev pub Unsettled : List FileInfo → List ℕ → List ℕ → Type 0
Unsettled known places some = (by : List ℕ → FileInfo) (names files : List (List ℕ)) → known ≡ map by names → StandAt names places files → StandAt names some (unsettled by files)

pub so_far_all : (known : List FileInfo) (places some : List ℕ) (i : ℕ) → length places ≤ i → SoFar known places i some → Unsettled known places some
so_far_all known places some i past before = λ by names files all h.
    let end : length files ≤ i = omega (arith, as_many names places files h) in
    before by names files all h ∙ ap (λ (fs : List (List ℕ)). map (λ (f : List ℕ). Some f) (unsettled by fs)) (take_all i files end)

-- of no places there are none
pub nothing_free : (known : List FileInfo) → Unsettled known [] []
nothing_free known = λ by names files all h. free by names files h
  where
    free : (by : List ℕ → FileInfo) (names files : List (List ℕ)) → StandAt names [] files → StandAt names [] (unsettled by files)
    free by names [] h = refl
    free by names (f ∷ files) h = absurd (cc)
