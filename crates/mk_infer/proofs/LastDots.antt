-- The known suffix of a name begins at its last dot.
use Rattle.std.proofs.Common.{◌≡◌, ◌≢◌, ℕ, zero, suc, ◌+◌, ◌-◌, ◌<◌, ◌==◌, Bool, true, false, not, ◌&&◌, ◌||◌, cond, List, [], ◌∷◌, Some, None, length, drop, get_or, inl, inr, ⊎_elim, refl, sym, ap, ◌∙◌, eq-eqb, arith}
use Rattle.std.specs.Prelude.{find, nat_lt}
use Rattle.std.specs.List.{list_all}
use Rattle.std.specs.Str.{bytes_eq}
use Rattle.std.proofs.lemmas.Bool.{cases_order, false_from_ne_true, lt-ltb, ltb-true, not-true, and_parts}
use Rattle.std.proofs.lemmas.List.{get_or-drop, length-drop}
use Rattle.std.proofs.lemmas.Slice.Eq.{bytes_eq-Decides}
use Rattle.mk_lemmas.proofs.Members.{find-none, list_all-Has}
use Rattle.mk_lines.proofs.NameTests.{has_name-from_Has}
use Rattle.mk_graph.specs.Membership.{Has}
use Rattle.mk_read.specs.Names.{has_name}
use Rattle.mk_read.specs.Special.{is_suffix, is_suffix_byte}
use Rattle.mk_infer.specs.Inference.{ends_in}
use Rattle.mk_infer.proofs.InferenceNames.{dotted}

-- ---- the first of a list

-- the one name that passes is found
find_one : (p : List ℕ → Bool) (e : List ℕ) → p e ≡ true → (xs : List (List ℕ)) → ((x : List ℕ) → Has xs x → p x ≡ true → x ≡ e) → has_name xs e ≡ true → find p xs ≡ Some e
find_one p e t [] only h = absurd cc
find_one p e t (x ∷ xs) only h = at (p x) refl h (find_one p e t xs (λ y k. only y (inr k)))
  where
    others : (c : Bool) → bytes_eq e x ≡ c → (c || has_name xs e) ≡ true → p x ≡ false → has_name xs e ≡ true
    others true v k u =
        let passes : p x ≡ true = ap p (sym ((bytes_eq-Decides e x).0 v)) ∙ t in
        absurd cc
    others false v k u = k

    at : (b : Bool) → p x ≡ b → (bytes_eq e x || has_name xs e) ≡ true → (has_name xs e ≡ true → find p xs ≡ Some e) → cond b (Some x) (find p xs) ≡ Some e
    at true u k ih = ap (λ (y : List ℕ). Some y) (only x (inl refl) u)
    at false u k ih = ih (others (bytes_eq e x) refl k u)

-- ---- dots

-- a byte of the name is a dot, and none behind it is
pub record IsLastDot (name : List ℕ) (place : ℕ) : Type 0 where
  pub within : place < length name
  pub dot : get_or name place 0 ≡ 46
  pub after : (i : ℕ) → place < i → i < length name → get_or name i 0 ≢ 46

-- there is one at most
pub one_last : (name : List ℕ) (k place : ℕ) → IsLastDot name k → IsLastDot name place → k ≡ place
one_last name k place p q = ⊎_elim (λ e. e) (λ o. ⊎_elim (λ lt. absurd (p.after place lt q.within q.dot)) (λ lt. absurd (q.after k lt p.within p.dot)) o) (cases_order k place)

-- the bytes behind a suffix's dot are none
pub no_dots : (rest : List ℕ) → list_all is_suffix_byte rest ≡ true → (i : ℕ) → i < length rest → get_or rest i 0 ≢ 46
no_dots [] h i lt e = absurd (omega arith)
no_dots (b ∷ rest) h zero lt e =
    let free : not (b == 46) ≡ true = (and_parts (not (b == 46)) (not (b == 47)) (and_parts (is_suffix_byte b) (list_all is_suffix_byte rest) h).0).0 in
    let other : (b == 46) ≡ false = not-true (b == 46) free in
    let same : (b == 46) ≡ true = eq-eqb b 46 e in
    absurd cc
no_dots (b ∷ rest) h (suc i) lt e = no_dots rest (and_parts (is_suffix_byte b) (list_all is_suffix_byte rest) h).1 i (omega arith) e

-- a suffix at the end of a name begins at the last dot
pub begins : (name suffix : List ℕ) → is_suffix suffix ≡ true → length suffix < length name → drop (length name - length suffix) name ≡ suffix → IsLastDot name (length name - length suffix)
begins name suffix h lt same =
    let k = length name - length suffix in
    let d = dotted suffix h in
    let long : length suffix ≡ suc (length d.rest) = ap length d.is in
    let bytes : (i : ℕ) → get_or (46 ∷ d.rest) i 0 ≡ get_or name (k + i) 0 = λ (i : ℕ). ap (λ (xs : List ℕ). get_or xs i 0) (sym (same ∙ d.is)) ∙ get_or-drop k name i 0 in
    let first : k + 0 ≡ k = omega arith in
    record {
      within = omega arith;
      dot = sym (bytes 0 ∙ ap (λ n. get_or name n 0) first);
      after = λ i a l e.
          let more : k + suc (i - (k + 1)) ≡ i = omega arith in
          no_dots d.rest d.free (i - (k + 1)) (omega arith) (bytes (suc (i - (k + 1))) ∙ (ap (λ n. get_or name n 0) more ∙ e));
    }

-- ---- names

-- what it says that a name ends in a suffix
record Ends (name suffix : List ℕ) : Type 0 where
  pub less : length suffix < length name
  pub same : drop (length name - length suffix) name ≡ suffix

ends : (name suffix : List ℕ) → ends_in name suffix ≡ true → Ends name suffix
ends name suffix t =
    let parts = and_parts (nat_lt (length suffix) (length name)) (bytes_eq (drop (length name - length suffix) name) suffix) t in
    record { less = ltb-true (length suffix) (length name) parts.0; same = (bytes_eq-Decides (drop (length name - length suffix) name) suffix).0 parts.1 }

module _ (suffixes : List (List ℕ)) (all : list_all is_suffix suffixes ≡ true) (name : List ℕ) where
  -- a name without a dot has no known suffix
  pub without_dot : ((i : ℕ) → i < length name → get_or name i 0 ≢ 46) → find (ends_in name) suffixes ≡ None
  without_dot none = find-none (ends_in name) suffixes (λ suffix there. false_from_ne_true _ (λ t.
      let parts = ends name suffix t in
      let last = begins name suffix (list_all-Has is_suffix suffixes suffix all there) parts.less parts.same in
      none (length name - length suffix) last.within last.dot))

  module _ (place : ℕ) (last : IsLastDot name place) where
    -- a known suffix of the name is what its last dot begins
    ending_is : (suffix : List ℕ) → Has suffixes suffix → ends_in name suffix ≡ true → (suffix ≡ drop place name) × (0 < place)
    ending_is suffix there t =
        let parts = ends name suffix t in
        let less = parts.less in
        let here : length name - length suffix ≡ place = one_last name (length name - length suffix) place (begins name suffix (list_all-Has is_suffix suffixes suffix all there) parts.less parts.same) last in
        (sym parts.same ∙ ap (λ n. drop n name) here, omega arith)

    -- the name ends in what its last dot begins, with a rest before it
    ends_there : 0 < place → ends_in name (drop place name) ≡ true
    ends_there some =
        let within = last.within in
        let long : length (drop place name) ≡ length name - place = length-drop place name in
        let back : length name - length (drop place name) ≡ place = omega arith in
        let less : length (drop place name) < length name = omega arith in
        ap (λ c. c && bytes_eq (drop (length name - length (drop place name)) name) (drop place name)) (lt-ltb (length (drop place name)) (length name) less)
        ∙ (bytes_eq-Decides (drop (length name - length (drop place name)) name) (drop place name)).1 (ap (λ n. drop n name) back)

    -- the known suffix, where it is one
    pub known_there : 0 < place → has_name suffixes (drop place name) ≡ true → find (ends_in name) suffixes ≡ Some (drop place name)
    known_there some there = find_one (ends_in name) (drop place name) (ends_there some) suffixes (λ suffix k t. (ending_is suffix k t).0) there

    -- where it is none
    pub unknown_there : (0 < place → has_name suffixes (drop place name) ≡ false) → find (ends_in name) suffixes ≡ None
    unknown_there none = find-none (ends_in name) suffixes (λ suffix there. false_from_ne_true _ (λ t.
        let is = ending_is suffix there t in
        let known : has_name suffixes (drop place name) ≡ true = ap (has_name suffixes) (sym is.0) ∙ has_name-from_Has suffixes suffix there in
        let unknown = none is.1 in
        absurd cc))
