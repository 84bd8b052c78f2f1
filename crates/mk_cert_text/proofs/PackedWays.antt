-- Ways whose names stand one behind another.
use Rattle.std.proofs.Common.{◌≡◌, ℕ, zero, suc, ◌+◌, ◌-◌, ◌≤◌, List, [], ◌∷◌, ◌++◌, length, get_or, take, drop, map, arith, refl, ap, ◌∙◌, length-append}
use Rattle.std.specs.List.{All, slice_range}
use Rattle.std.proofs.lemmas.List.{get_or_append_left, get_or-append-add, take-append-le, drop-append-le, length-drop, map-append}
use Rattle.std.proofs.Math.Seq.{drop-append-add}
use Rattle.std.proofs.lemmas.List.Elements.{All-append}
use Rattle.mk_cert_text.specs.declared.certificate.Finish.{Finish}
use Rattle.mk_cert_text.specs.declared.ways.WayPlace.{WayPlace}
use Rattle.mk_cert_text.specs.Certificate.{Way}
use Rattle.mk_cert_text.specs.Packing.{way_at, IsWithin}

abbrev pub way : Finish → List ℕ → List ℕ → List (List ℕ) → Way
way finish recipe file path = record { recipe = recipe; file = file; path = path; finish = finish }

pub way_is : (finish : Finish) {recipe recipe' file file' : List ℕ} {path path' : List (List ℕ)} → recipe ≡ recipe' → file ≡ file' → path ≡ path' → way finish recipe file path ≡ way finish recipe' file' path'
way_is finish {recipe} {recipe'} {file} {file'} {path} {path'} one two three =
    ap (λ (n : List ℕ). way finish n file path) one ∙ (ap (λ (n : List ℕ). way finish recipe' n path) two ∙ ap (λ (l : List (List ℕ)). way finish recipe' file' l) three)

-- a range stays where more stand behind
range_stays : (names more : List (List ℕ)) (a b : ℕ) → a ≤ b → b ≤ length names → slice_range (names ++ more) a b ≡ slice_range names a b
range_stays names more a b order low =
    ap (take (b - a)) (drop-append-le a names more (omega (arith, order, low))) ∙ take-append-le (b - a) (drop a names) more (omega (arith, order, low, length-drop a names))

-- a way keeps its names where more stand behind them
pub stays : (names more : List (List ℕ)) (p : WayPlace) → IsWithin (length names) p → way_at (names ++ more) p ≡ way_at names p
stays names more p within =
    way_is p.finish
    (get_or_append_left names more [] p.start (omega (arith, within.0, within.1)))
    (get_or_append_left names more [] (p.start + 1) (omega (arith, within.0, within.1)))
    (range_stays names more (p.start + 2) p.end within.0 within.1)

-- so it is with each of these
pub all_stay : (names more : List (List ℕ)) (ps : List WayPlace) → All (IsWithin (length names)) ps → map (way_at (names ++ more)) ps ≡ map (way_at names) ps
all_stay names more [] within = refl
all_stay names more (p ∷ ps) within =
    ap (λ (w : Way). w ∷ map (way_at (names ++ more)) ps) (stays names more p (within zero p (omega arith))) ∙ ap (λ (l : List Way). way_at names p ∷ l) (all_stay names more ps (λ k d low. within (suc k) d (omega (arith, low))))

pub grown : (names new more : List (List ℕ)) (ps : List WayPlace) → new ≡ names ++ more → All (IsWithin (length names)) ps → map (way_at new) ps ≡ map (way_at names) ps
grown names new more ps is within = ap (λ (l : List (List ℕ)). map (way_at l) ps) is ∙ all_stay names more ps within

pub all_within : (few many : ℕ) (ps : List WayPlace) → few ≤ many → All (IsWithin few) ps → All (IsWithin many) ps
all_within few many ps more within k d low =
    let here = within k d low in (here.0, omega (arith, here.1, more))

all_of : (path : List (List ℕ)) → take (length path) path ≡ path
all_of [] = refl
all_of (name ∷ path) = ap (λ (l : List (List ℕ)). name ∷ l) (all_of path)

-- the names of a way stand behind others
pub added : (names : List (List ℕ)) (recipe file : List ℕ) (path : List (List ℕ)) (p : WayPlace) → p.start ≡ length names → p.end ≡ length (names ++ recipe ∷ file ∷ path) → way_at (names ++ recipe ∷ file ∷ path) p ≡ record { recipe = recipe; file = file; path = path; finish = p.finish }
added names recipe file path p start end =
    let all = names ++ recipe ∷ file ∷ path in
    let at : (k : ℕ) → get_or all (p.start + k) [] ≡ get_or (recipe ∷ file ∷ path) k [] = λ k. ap (λ n. get_or all (n + k) []) start ∙ get_or-append-add names (recipe ∷ file ∷ path) k [] in
    let first : get_or all p.start [] ≡ recipe = ap (λ n. get_or all n []) (omega arith) ∙ at zero in
    let second : get_or all (p.start + 1) [] ≡ file = at 1 in
    let rest : drop (p.start + 2) all ≡ path = ap (λ n. drop (n + 2) all) start ∙ drop-append-add names (recipe ∷ file ∷ path) 2 in
    let long : p.end - (p.start + 2) ≡ length path = omega (arith, start, end, length-append names (recipe ∷ file ∷ path)) in
    way_is p.finish first second (ap (λ (l : List (List ℕ)). take (p.end - (p.start + 2)) l) rest ∙ (ap (λ n. take n path) long ∙ all_of path))

-- a way is pushed
module _ (names : List (List ℕ)) (ps : List WayPlace) (within : All (IsWithin (length names)) ps) (recipe file : List ℕ) (path : List (List ℕ)) (p : WayPlace) (start : p.start ≡ length names) (end : p.end ≡ length (names ++ recipe ∷ file ∷ path)) where
  last : All (IsWithin (length (names ++ recipe ∷ file ∷ path))) (p ∷ [])
  last zero d low = (omega (arith, start, end, length-append names (recipe ∷ file ∷ path)), omega (arith, end))
  last (suc k) d low = absurd (omega (arith, low))

  pub pushed_within : All (IsWithin (length (names ++ recipe ∷ file ∷ path))) (ps ++ p ∷ [])
  pushed_within =
      All-append (IsWithin (length (names ++ recipe ∷ file ∷ path))) ps (p ∷ []) (all_within (length names) (length (names ++ recipe ∷ file ∷ path)) ps (omega (arith, length-append names (recipe ∷ file ∷ path))) within) last

  pub pushed_ways : map (way_at (names ++ recipe ∷ file ∷ path)) (ps ++ p ∷ []) ≡ map (way_at names) ps ++ record { recipe = recipe; file = file; path = path; finish = p.finish } ∷ []
  pushed_ways =
      let all = names ++ recipe ∷ file ∷ path in
      map-append (way_at all) ps (p ∷ []) ∙ (ap (λ (l : List Way). l ++ way_at all p ∷ []) (all_stay names (recipe ∷ file ∷ path) ps within) ∙ ap (λ (w : Way). map (way_at names) ps ++ w ∷ []) (added names recipe file path p start end))
