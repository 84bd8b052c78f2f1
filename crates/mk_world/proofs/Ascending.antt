-- Names in the order of their bytes.
use Rattle.std.proofs.Common.{◌≡◌, ℕ, zero, suc, Bool, true, false, cond, List, [], ◌∷◌, ◌++◌, refl, sym, ap, ◌∙◌, inl, inr, subst, ◌⊎◌, get_or, ◌+◌, ◌<◌, ◌≤◌, length, true≢false, arith}
use Rattle.std.specs.Prelude.{◌↔◌, fold}
use Rattle.std.specs.Borrow.{Bor}
use Rattle.std.specs.declared.cmp.Ordering.{Ordering}
use Rattle.std.specs.declared.cmp.Ordering.TheVariants.{Less, Equal, Greater}
use Rattle.std.specs.Ordering.{nat_cmp, is_eq, is_lt, ordering_reverse}
use Rattle.std.specs.Cmp.Lexicographic.{slice_cmp}
use Rattle.std.specs.List.Sorted.{IsPermutation, IsSorted, IsStrictlySortedBy}
use Rattle.std.specs.List.{AllByRecursion, Contains}
use Rattle.std.proofs.lemmas.Bool.{cases_lt}
use Rattle.std.proofs.lemmas.Cmp.{nat_list_cmp_total}
use Rattle.std.proofs.lemmas.Map.Text.{is_eq-slice_cmp}
use Rattle.std.proofs.lemmas.Slice.Eq.{bytes_eq-Decides}
use Rattle.std.proofs.lemmas.List.{get_or-map}
use Rattle.std.proofs.lemmas.List.Sorted.{Contains-permutation, IsPermutation-map, IsPermutation-sym, ranks_by, sorted_far}
use Rattle.mk_lemmas.proofs.Texts.{texts as spelled}
use Rattle.mk_lemmas.proofs.Members.{Has-cases, Has-left, Has-right}
use Rattle.mk_lines.proofs.NameTests.{Has-from_has_name, has_name-from_Has}
use Rattle.mk_lines.specs.Names.{has_name, with_name}
use Rattle.mk_graph.specs.Membership.{Has}
use Rattle.mk_build.specs.World.{AreAscending}
use Rattle.mk_world.specs.First.{AreSorted}

-- the order of texts by their bytes
abbrev pub by_bytes : Bor (List ℕ) → Bor (List ℕ) → Ordering
by_bytes a b = slice_cmp nat_cmp a.now b.now

-- sorted names ascend
pub ascending : (names : List (List ℕ)) → AreSorted names → AreAscending names
unfolding IsStrictlySortedBy
ascending [] h = tt
ascending (f ∷ []) h = tt
ascending (f ∷ k ∷ names) h = (h.0.0, ascending (k ∷ names) h.1)

-- what stands in a list with one more
push_has : (xs : List (List ℕ)) (x f : List ℕ) → Has xs f ⊎ (x ≡ f) → Has (xs ++ x ∷ []) f
push_has xs x f h = elim h [ inl before ↦ Has-left xs (x ∷ []) f before | inr last ↦ Has-right xs (x ∷ []) f (inl last) ]

has_push : (xs : List (List ℕ)) (x f : List ℕ) → Has (xs ++ x ∷ []) f → Has xs f ⊎ (x ≡ f)
has_push xs x f h = elim (Has-cases xs (x ∷ []) f h) [ inl before ↦ inl before | inr (inl last) ↦ inr last | inr (inr none) ↦ absurd none ]

-- what stands among names to which one was added,
pub one_has : (names : List (List ℕ)) (name f : List ℕ) → Has (with_name names name) f ↔ (Has names f ⊎ (name ≡ f))
one_has names name f = at (has_name names name) refl
  where
    at : (b : Bool) → has_name names name ≡ b → Has (cond b names (names ++ name ∷ [])) f ↔ (Has names f ⊎ (name ≡ f))
    at true t = (λ h. inl h, λ h. elim h [ inl there ↦ there | inr e ↦ subst (Has names) e (Has-from_has_name names name t) ])
    at false t = (has_push names name f, push_has names name f)

-- and to which others were
pub all_has : (more names : List (List ℕ)) (f : List ℕ) → Has (fold with_name names more) f ↔ (Has names f ⊎ Has more f)
all_has [] names f = (λ h. inl h, λ h. elim h [ inl there ↦ there | inr none ↦ absurd none ])
all_has (name ∷ more) names f =
    let rest = all_has more (with_name names name) f in
    let one = one_has names name f in (
      λ h. elim (rest.0 h) [ inl w ↦ elim (one.0 w) [ inl there ↦ inl there | inr e ↦ inr (inl e) ] | inr r ↦ inr (inr r) ],
      λ h. elim h [ inl there ↦ rest.1 (inl (one.1 (inl there))) | inr r ↦ elim r [ inl e ↦ rest.1 (inl (one.1 (inr e))) | inr k ↦ rest.1 (inr k) ] ],
    )

all_push : (P : List ℕ → Type 0) (ys : List (List ℕ)) (y : List ℕ) → AllByRecursion P ys → P y → AllByRecursion P (ys ++ y ∷ [])
all_push P [] y h p = (p, tt)
all_push P (z ∷ ys) y h p = (h.0, all_push P ys y h.1 p)

-- names with a later one behind them are sorted
push_sorted : (names : List (List ℕ)) (name : List ℕ) → AreSorted names → ((y : List ℕ) → Has names y → slice_cmp nat_cmp y name ≡ Less) → AreSorted (names ++ name ∷ [])
unfolding IsStrictlySortedBy
push_sorted [] name h below = (tt, tt)
push_sorted (x ∷ names) name h below = (all_push (λ y. slice_cmp nat_cmp x y ≡ Less) names name h.0 (below x (inl refl)), push_sorted names name h.1 (λ y k. below y (inr k)))

-- a name that isn't later than another one comes before it
comes_before : (y name : List ℕ) → is_lt (slice_cmp nat_cmp name y) ≡ false → ¬ (y ≡ name) → slice_cmp nat_cmp y name ≡ Less
comes_before y name far apart = at (slice_cmp nat_cmp y name) refl
  where
    at : (o : Ordering) → slice_cmp nat_cmp y name ≡ o → o ≡ Less
    at Less e = refl
    at Equal e = absurd (apart ((bytes_eq-Decides y name).0 (sym (is_eq-slice_cmp y name) ∙ ap is_eq e)))
    at Greater e = absurd (true≢false (sym (ap is_lt (nat_list_cmp_total.antisymm name y ∙ ap ordering_reverse e)) ∙ far))

-- the name stands among the first of the texts
abbrev pub AmongFirst : List (Bor (List ℕ)) → ℕ → List ℕ → Type 0
AmongFirst texts i f = (k : ℕ) × (k < i) × (get_or (spelled texts) k f ≡ f)

-- What the first ones of texts in their order leave: the same names, sorted, each once.
pub record IsSortedTo (texts : List (Bor (List ℕ))) (i : ℕ) (names : List (List ℕ)) : Type 0 where
  pub sorted : AreSorted names
  pub all : (f : List ℕ) → Has names f ↔ AmongFirst texts i f

-- none at first
pub none_sorted : (texts : List (Bor (List ℕ))) (names : List (List ℕ)) → names ≡ [] → IsSortedTo texts 0 names
unfolding IsStrictlySortedBy
none_sorted texts names e = subst (IsSortedTo texts 0) (sym e) (record { sorted = tt; all = λ f. (λ h. absurd h, λ p. absurd (omega (arith, p.1))) })

-- one more name
pub one_sorted : (texts : List (Bor (List ℕ))) (i : ℕ) (d : Bor (List ℕ)) (old new : List (List ℕ)) (name : List ℕ) → IsSorted by_bytes texts → i < length texts → name ≡ (get_or texts i d).now → new ≡ with_name old name → IsSortedTo texts i old → IsSortedTo texts (i + 1) new
one_sorted texts i d old new name up lt named added so =
    subst (IsSortedTo texts (i + 1)) (sym added) (record { sorted = at (has_name old name) refl; all = λ f. (there f, back f) })
  where
    is : (f : List ℕ) → get_or (spelled texts) i f ≡ name
    is f = get_or-map (λ (text : Bor (List ℕ)). text.now) texts i d f lt ∙ sym named

    there : (f : List ℕ) → Has (with_name old name) f → AmongFirst texts (i + 1) f
    there f h = elim ((one_has old name f).0 h) [ inl o ↦ let p = (so.all f).0 o in (p.0, omega (arith, p.1), p.2) | inr e ↦ (i, omega arith, is f ∙ e) ]

    last : (k : ℕ) → k < i + 1 → i ≤ k → k ≡ i
    last k low ge = omega arith

    back : (f : List ℕ) → AmongFirst texts (i + 1) f → Has (with_name old name) f
    back f p = (one_has old name f).1 (elim (cases_lt p.0 i) [
      | inl low ↦ inl ((so.all f).1 (p.0, low, p.2))
      | inr ge ↦ inr (sym (is f) ∙ (ap (λ k. get_or (spelled texts) k f) (sym (last p.0 p.1 ge)) ∙ p.2))
    ])

    below : has_name old name ≡ false → (y : List ℕ) → Has old y → slice_cmp nat_cmp y name ≡ Less
    below out y h =
        let p = (so.all y).0 h in
        let within : p.0 < length texts = omega (arith, p.1) in
        let far = sorted_far (λ a b. is_lt (by_bytes a b)) (ranks_by nat_list_cmp_total (λ (text : Bor (List ℕ)). text.now)) texts up p.0 i d (omega (arith, p.1)) lt in
        let here : (get_or texts p.0 d).now ≡ y = sym (get_or-map (λ (text : Bor (List ℕ)). text.now) texts p.0 d y within) ∙ p.2 in
        comes_before y name (ap (λ n. is_lt (slice_cmp nat_cmp n y)) named ∙ (ap (λ n. is_lt (slice_cmp nat_cmp (get_or texts i d).now n)) (sym here) ∙ far)) (λ e. true≢false (sym (has_name-from_Has old name (subst (Has old) e h)) ∙ out))

    at : (b : Bool) → has_name old name ≡ b → AreSorted (cond b old (old ++ name ∷ []))
    at true t = so.sorted
    at false t = push_sorted old name so.sorted (below t)

contains_has : (names : List (List ℕ)) (f : List ℕ) → Contains names f → Has names f
contains_has [] f (k, lt, e) = absurd (omega arith)
contains_has (x ∷ names) f (zero, lt, e) = inl e
contains_has (x ∷ names) f (suc k, lt, e) = inr (contains_has names f (k, omega arith, e))

has_contains : (names : List (List ℕ)) (f : List ℕ) → Has names f → Contains names f
has_contains [] f h = absurd h
has_contains (x ∷ names) f (inl e) = (0, omega arith, e)
has_contains (x ∷ names) f (inr h) = let c = has_contains names f h in (suc c.0, omega (arith, c.1), c.2)

-- all of them, where the texts are those of a list in another order
pub all_sorted : (texts before : List (Bor (List ℕ))) (i : ℕ) (names all : List (List ℕ)) → IsPermutation before texts → spelled before ≡ all → i ≡ length (spelled texts) → IsSortedTo texts i names → (f : List ℕ) → Has names f ↔ Has all f
all_sorted texts before i names all moved is many so f =
    let turned = IsPermutation-map (λ (text : Bor (List ℕ)). text.now) before texts moved in
    let here : Has names f ↔ Contains (spelled texts) f = subst (λ n. Has names f ↔ ((k : ℕ) × (k < n) × (get_or (spelled texts) k f ≡ f))) many (so.all f) in
    subst (λ (l : List (List ℕ)). Has names f ↔ Has l f) is (
      λ h. contains_has (spelled before) f (Contains-permutation (spelled texts) (spelled before) f (IsPermutation-sym (spelled before) (spelled texts) turned) (here.0 h)),
      λ h. here.1 (Contains-permutation (spelled before) (spelled texts) f turned (has_contains (spelled before) f h)),
    )
