-- The suffix that stands first in the list of suffixes, among those that were tried.
use Rattle.std.proofs.Common.{◌≡◌, ℕ, ◌+◌, ◌<◌, ◌≤◌, Bool, true, false, cond, List, [], ◌∷◌, ◌++◌, Option, Some, None, ◌⊎◌, inl, inr, refl, sym, ap, subst, ◌∙◌, arith}
use Rattle.std.specs.Prelude.{find}
use Rattle.std.specs.Option.{option_map}
use Rattle.std.specs.Str.{bytes_eq}
use Rattle.std.proofs.lemmas.Bool.{both_ways, false_from_ne_true}
use Rattle.std.proofs.lemmas.Slice.Eq.{bytes_eq-Decides}
use Rattle.mk_lemmas.proofs.Members.{Has-cases, find-none}
use Rattle.mk_graph.specs.Membership.{Has}
use Rattle.mk_lines.specs.Names.{place_from}
use Rattle.mk_infer.specs.Choosing.{Chosen, IsLeast, Placed}

abbrev Name : Type 0
Name = List ℕ

-- ---- places

-- no place is before the first one
at_least : (names : List Name) (name : Name) (n k : ℕ) → place_from n names name ≡ Some k → n ≤ k
unfolding place_from
at_least [] name n k e = absurd cc
at_least (other ∷ names) name n k e = by (bytes_eq name other) (at_least names name (n + 1) k) e
  where
    by : (same : Bool) → (place_from (n + 1) names name ≡ Some k → n + 1 ≤ k) → cond same (Some n) (place_from (n + 1) names name) ≡ Some k → n ≤ k
    by true more e = let here : n ≡ k = cc in omega arith
    by false more e = let le = more e in omega arith

-- what stands in a list has a place, and what has one stands there
pub has_place : (names : List Name) (name : Name) (n k : ℕ) → place_from n names name ≡ Some k → Has names name
unfolding place_from
has_place [] name n k e = absurd cc
has_place (other ∷ names) name n k e = by (bytes_eq name other) refl (has_place names name (n + 1) k) e
  where
    by : (same : Bool) → bytes_eq name other ≡ same → (place_from (n + 1) names name ≡ Some k → Has names name) → cond same (Some n) (place_from (n + 1) names name) ≡ Some k → Has (other ∷ names) name
    by true is more e = inl (sym ((bytes_eq-Decides name other).0 is))
    by false is more e = inr (more e)

pub no_place : (names : List Name) (name : Name) (n : ℕ) → place_from n names name ≡ None → Has names name → ⊥
unfolding place_from
no_place [] name n e h = h
no_place (other ∷ names) name n e h = by (bytes_eq name other) refl (no_place names name (n + 1)) e
  where
    by : (same : Bool) → bytes_eq name other ≡ same → (place_from (n + 1) names name ≡ None → Has names name → ⊥) → cond same (Some n) (place_from (n + 1) names name) ≡ None → ⊥
    by true is more e = absurd cc
    by false is more e = elim h [
      | inl it ↦ both_ways (bytes_eq name other) is ((bytes_eq-Decides name other).1 (sym it))
      | inr there ↦ more e there
    ]

-- ---- the first that passes

module _ (p : Name → Bool) where
  -- one that passes before all others is found
  first : (names : List Name) (name : Name) (n k : ℕ) → p name ≡ true → place_from n names name ≡ Some k
      → ((s : Name) → p s ≡ true → (j : ℕ) → place_from n names s ≡ Some j → k ≤ j) → find p names ≡ Some name
  unfolding place_from
  first [] name n k t e before = absurd cc
  first (other ∷ names) name n k t e before = by (bytes_eq name other) refl (first names name (n + 1) k t) e
    where
      passed : (c : Bool) → p other ≡ c → n < k → (place_from (n + 1) names name ≡ Some k → ((s : Name) → p s ≡ true → (j : ℕ) → place_from (n + 1) names s ≡ Some j → k ≤ j) → find p names ≡ Some name) → place_from (n + 1) names name ≡ Some k → cond c (Some other) (find p names) ≡ Some name
      passed true is lt later more =
          let itself : place_from n (other ∷ names) other ≡ Some n = ap (λ b. cond b (Some n) (place_from (n + 1) names other)) ((bytes_eq-Decides other other).1 refl) in
          let least : k ≤ n = before other is n itself in
          absurd (omega arith)
      passed false is lt later more = later more (λ s u j f. before s u j (ap (λ b. cond b (Some n) (place_from (n + 1) names s)) (false_from_ne_true _ (λ same. both_ways (p s) (ap p ((bytes_eq-Decides s other).0 same) ∙ is) u)) ∙ f))

      by : (same : Bool) → bytes_eq name other ≡ same → (place_from (n + 1) names name ≡ Some k
          → ((s : Name) → p s ≡ true → (j : ℕ) → place_from (n + 1) names s ≡ Some j → k ≤ j) → find p names
          ≡ Some name) → cond same (Some n) (place_from (n + 1) names name) ≡ Some k
          → cond (p other) (Some other) (find p names) ≡ Some name
      by true is later e =
          let it : name ≡ other = (bytes_eq-Decides name other).0 is in
          ap (λ b. cond b (Some other) (find p names)) (ap p (sym it) ∙ t) ∙ ap (λ (x : Name). Some x) (sym it)
      by false is later e = let more = at_least names name (n + 1) k e in passed (p other) refl (omega arith) later e

-- ---- one more is tried

before_or : (tried : List Name) (name s : Name) → Has (tried ++ name ∷ []) s → Has tried s ⊎ (s ≡ name)
before_or tried name s h = elim (Has-cases tried (name ∷ []) s h) [ inl before ↦ inl before | inr (inl last) ↦ inr (sym last) | inr (inr none) ↦ absurd none ]

same_place : (suffixes : List Name) (name s : Name) (k n : ℕ) → s ≡ name → place_from 0 suffixes name ≡ Some k → place_from 0 suffixes s ≡ Some n → n ≡ k
same_place suffixes name s k n e at is =
    let same : Some n ≡ Some k = sym is ∙ (ap (place_from 0 suffixes) e ∙ at) in
    cc

module _ (p : Name → Bool) (gives : Name → Chosen) (suffixes : List Name) where
  -- a suffix that isn't known
  pub unknown : (tried : List Name) (name : Name) (least : Option Placed) → place_from 0 suffixes name ≡ None → IsLeast p gives suffixes tried least → IsLeast p gives suffixes (tried ++ name ∷ []) least
  unknown tried name None e h = λ s there known. elim (before_or tried name s there) [
    | inl k ↦ h s k known
    | inr is ↦ absurd (no_place suffixes name 0 e (subst (Has suffixes) is known))
  ]
  unknown tried name (Some placed) e h = (
    h.0,
    λ s there t n at. elim (before_or tried name s there) [
      | inl k ↦ h.1 s k t n at
      | inr is ↦ absurd (no_place suffixes name 0 e (subst (Has suffixes) is (has_place suffixes s 0 n at)))
    ],
  )

  -- one that stands behind the least
  pub later : (tried : List Name) (name : Name) (placed : Placed) (k : ℕ) → place_from 0 suffixes name ≡ Some k → placed.place ≤ k → IsLeast p gives suffixes tried (Some placed) → IsLeast p gives suffixes (tried ++ name ∷ []) (Some placed)
  later tried name placed k at le h = (
    h.0,
    λ s there t n is. elim (before_or tried name s there) [
      | inl there ↦ h.1 s there t n is
      | inr e ↦ let same : n ≡ k = same_place suffixes name s k n e at is in omega arith
    ],
  )

  -- one that doesn't pass
  pub failing : (tried : List Name) (name : Name) (least : Option Placed) → p name ≡ false → IsLeast p gives suffixes tried least → IsLeast p gives suffixes (tried ++ name ∷ []) least
  failing tried name None f h = λ s there known. elim (before_or tried name s there) [
    | inl k ↦ h s k known
    | inr is ↦ ap p is ∙ f
  ]
  failing tried name (Some placed) f h = (
    h.0,
    λ s there t n at. elim (before_or tried name s there) [
      | inl k ↦ h.1 s k t n at
      | inr is ↦ absurd (both_ways (p s) (ap p is ∙ f) t)
    ],
  )

  -- one that passes and stands before the least
  pub better : (tried : List Name) (name : Name) (least : Option Placed) (placed : Placed) → p name ≡ true → place_from 0 suffixes name ≡ Some placed.place → placed.chosen ≡ gives name
      → ((other : Placed) → least ≡ Some other → placed.place < other.place) → IsLeast p gives suffixes tried least → IsLeast p gives suffixes (tried ++ name ∷ []) (Some placed)
  better tried name least placed t at given before h = (
    record { suffix = name; passes = t; stands = at; given = given },
    λ s there u n is. elim (before_or tried name s there) [
      | inl there ↦ by least refl h s there u n is
      | inr e ↦ let same : n ≡ placed.place = same_place suffixes name s placed.place n e at is in omega arith
    ],
  )
    where
      by : (old : Option Placed) → least ≡ old → IsLeast p gives suffixes tried old → (s : Name) → Has tried s → p s ≡ true → (n : ℕ) → place_from 0 suffixes s ≡ Some n → placed.place ≤ n
      by None e h s there u n is = absurd (both_ways (p s) (h s there (has_place suffixes s 0 n is)) u)
      by (Some other) e h s there u n is =
          let lt : placed.place < other.place = before other e in
          let le : other.place ≤ n = h.1 s there u n is in
          omega arith

  -- where all that pass were tried, the first that passes is found
  pub is_found : (tried : List Name) (found : Option Placed) → ((s : Name) → Has suffixes s → p s ≡ true → Has tried s) → IsLeast p gives suffixes tried found → option_map (λ (placed : Placed). placed.chosen) found ≡ option_map gives (find p suffixes)
  is_found tried None covers h =
      sym (ap (option_map gives) (find-none p suffixes (λ s there. false_from_ne_true _ (λ t. both_ways (p s) (h s (covers s there t) there) t))))
  is_found tried (Some placed) covers h =
      ap (λ (c : Chosen). Some c) h.0.given
      ∙ sym (ap (option_map gives) (first p suffixes h.0.suffix 0 placed.place h.0.passes h.0.stands (λ s t j is. h.1 s (covers s (has_place suffixes s 0 j is) t) t j is)))

-- ---- what the rule of a suffix gives, where it fits

pub given_is : (fits : Bool) (x y : Chosen) → Some y ≡ cond fits (Some x) None → (fits ≡ true) × (y ≡ x)
given_is true x y e = (refl, cc)
given_is false x y e = absurd cc

pub none_given : (fits : Bool) (x : Chosen) → None ≡ cond fits (Some x) None → fits ≡ false
none_given true x e = absurd cc
none_given false x e = refl
