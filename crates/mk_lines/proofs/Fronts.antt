-- Names that begin with one of some prefixes, by the lengths of these.
use Rattle.std.proofs.Common.{◌≡◌, ℕ, Bool, true, ◌&&◌, List, [], ◌∷◌, ◌++◌, length, take, drop, inl, inr, refl, sym, ap, ◌∙◌, true≢false, arith, length-append}
use Rattle.std.specs.Prelude.{nat_eq, nat_le}
use Rattle.std.specs.List.{list_any}
use Rattle.std.specs.Str.{bytes_eq}
use Rattle.std.specs.Cmp.{both_ways}
use Rattle.std.proofs.lemmas.Bool.{eqb-true, le-leb, or_cases, or_left, or_right, and_parts}
use Rattle.std.proofs.lemmas.List.{take-append-drop}
use Rattle.std.proofs.Math.Seq.{take-append_seam}
use Rattle.std.proofs.lemmas.Slice.Eq.{bytes_eq-Decides}
use Rattle.mk_lines.specs.Bytes.{begins_with}
use Rattle.mk_lines.specs.Names.{has_name, begins_with_any}

-- a front of this length is a prefix
abbrev pub front_there : List (List ℕ) → List ℕ → ℕ → Bool
front_there prefixes name n = nat_le n (length name) && has_name prefixes (take n name)

-- a front, and what is behind it
pub front_told : (name prefix : List ℕ) → begins_with prefix name ≡ true → (rest : List ℕ) × (name ≡ prefix ++ rest)
front_told name prefix e =
    let front : take (length prefix) name ≡ prefix = (bytes_eq-Decides (take (length prefix) name) prefix).0 e in
    (drop (length prefix) name, sym (ap (λ f. f ++ drop (length prefix) name) (sym front) ∙ take-append-drop (length prefix) name))

pub front_tells : (name prefix rest : List ℕ) → name ≡ prefix ++ rest → begins_with prefix name ≡ true
front_tells name prefix rest e = (bytes_eq-Decides (take (length prefix) name) prefix).1 (ap (take (length prefix)) e ∙ take-append_seam prefix rest)

-- the prefix with which a name begins
under_told : (prefixes : List (List ℕ)) (name : List ℕ) → begins_with_any prefixes name ≡ true → (prefix : List ℕ) × (has_name prefixes prefix ≡ true) × (rest : List ℕ) × (name ≡ prefix ++ rest)
under_told [] name e = absurd (true≢false (sym e))
under_told (prefix ∷ prefixes) name e =
    elim (or_cases (begins_with prefix name) (begins_with_any prefixes name) e) [
      | inl t ↦ (let f = front_told name prefix t in (prefix, or_left (bytes_eq prefix prefix) (has_name prefixes prefix) ((bytes_eq-Decides prefix prefix).1 refl), f.0, f.1))
      | inr h ↦ (let u = under_told prefixes name h in (u.0, or_right (bytes_eq u.0 prefix) (has_name prefixes u.0) u.1, u.2, u.3))
    ]

under_tells : (prefixes : List (List ℕ)) (name prefix rest : List ℕ) → has_name prefixes prefix ≡ true → name ≡ prefix ++ rest → begins_with_any prefixes name ≡ true
under_tells [] name prefix rest h e = absurd (true≢false (sym h))
under_tells (other ∷ prefixes) name prefix rest h e =
    elim (or_cases (bytes_eq prefix other) (has_name prefixes prefix) h) [
      | inl t ↦ or_left (begins_with other name) (begins_with_any prefixes name) (front_tells name other rest (e ∙ ap (λ p. p ++ rest) ((bytes_eq-Decides prefix other).0 t)))
      | inr t ↦ or_right (begins_with other name) (begins_with_any prefixes name) (under_tells prefixes name prefix rest t e)
    ]

-- one that is found
any_told : (prefixes : List (List ℕ)) (name : List ℕ) (lengths : List ℕ) → list_any (front_there prefixes name) lengths ≡ true → begins_with_any prefixes name ≡ true
any_told prefixes name [] e = absurd (true≢false (sym e))
any_told prefixes name (n ∷ lengths) e =
    elim (or_cases (front_there prefixes name n) (list_any (front_there prefixes name) lengths) e) [
      | inl t ↦ under_tells prefixes name (take n name) (drop n name) (and_parts (nat_le n (length name)) _ t).1 (sym (take-append-drop n name))
      | inr h ↦ any_told prefixes name lengths h
    ]

any_at : (test : ℕ → Bool) (lengths : List ℕ) (n : ℕ) → list_any (nat_eq n) lengths ≡ true → test n ≡ true → list_any test lengths ≡ true
any_at test [] n e t = absurd (true≢false (sym e))
any_at test (m ∷ lengths) n e t =
    elim (or_cases (nat_eq n m) (list_any (nat_eq n) lengths) e) [
      | inl s ↦ or_left (test m) (list_any test lengths) (sym (ap test (eqb-true n m s)) ∙ t)
      | inr h ↦ or_right (test m) (list_any test lengths) (any_at test lengths n h t)
    ]

-- the prefixes' lengths are enough
pub by_length : (prefixes : List (List ℕ)) (lengths name : List ℕ) → ((prefix : List ℕ) → has_name prefixes prefix ≡ true → list_any (nat_eq (length prefix)) lengths ≡ true) → list_any (front_there prefixes name) lengths ≡ begins_with_any prefixes name
by_length prefixes lengths name all = both_ways _ _ (any_told prefixes name lengths) tells
  where
    tells : begins_with_any prefixes name ≡ true → list_any (front_there prefixes name) lengths ≡ true
    tells e =
        let u = under_told prefixes name e in
        let front : take (length u.0) name ≡ u.0 = ap (take (length u.0)) u.3 ∙ take-append_seam u.0 u.2 in
        let le : nat_le (length u.0) (length name) ≡ true = le-leb (length u.0) (length name) (omega (arith, length-append u.0 u.2, ap length u.3)) in
        any_at (front_there prefixes name) lengths (length u.0) (all u.0 u.1) (rw (le, front) u.1)
