-- Which numbers are members of a set of bits.
use Rattle.std.proofs.Common.{◌≡◌, ℕ, zero, suc, ◌*◌, ◌/◌, ◌%◌, ◌^◌, ◌<◌, ◌≤◌, List, ◌∷◌, length, get_or, set, replicate, Bool, true, false, eqb, max, inl, inr, ⊎_elim, ◌⊎◌, refl, sym, ap, subst, ◌∙◌, arith, eqb-true, eq-eqb}
use Rattle.std.specs.Prelude.{bit_and, bit_or, ◌↔◌, ◌≢◌}
use Rattle.std.specs.Int.{bit_at}
use Rattle.std.proofs.lemmas.Bool.{cases_Bool, cases_lt, cases_eq, cond-true, cond-false, false≢true}
use Rattle.std.proofs.lemmas.List.{get_or-set_same, get_or-set_other, get_or_past, get_or-replicate, length-replicate}
use Rattle.std.proofs.lemmas.Nat.{one_shl}
use Rattle.std.proofs.lemmas.Nat.Bits.{shr_and_one, bit_at-zero, bit_at-lt, bit_at_or, bit_at-pow_same, bit_at-pow_other}
use Rattle.mk_graph.specs.Membership.{Has}
use Rattle.mk_graph.specs.Bits.{is_set, passing, members}

-- a number passes
passing_in : (test : ℕ → Bool) (n : ℕ) → test n ≡ true → passing test (suc n) ≡ n ∷ passing test n
unfolding passing
passing_in test n e = cond-true (test n) (n ∷ passing test n) (passing test n) e

-- or not
passing_out : (test : ℕ → Bool) (n : ℕ) → test n ≡ false → passing test (suc n) ≡ passing test n
unfolding passing
passing_out test n e = cond-false (test n) (n ∷ passing test n) (passing test n) e

-- what passes is below the bound and passes
Has-from_passing : (test : ℕ → Bool) (bound n : ℕ) → Has (passing test bound) n → test n ≡ true
unfolding passing
Has-from_passing test zero n h = absurd h
Has-from_passing test (suc k) n h =
    ⊎_elim (λ e. ⊎_elim (λ here. subst (λ m. test m ≡ true) here e) (λ there. Has-from_passing test k n there) (subst (λ (l : List ℕ). Has l n) (passing_in test k e) h)) (λ e. Has-from_passing test k n (subst (λ (l : List ℕ). Has l n) (passing_out test k e) h)) (cases_Bool (test k))

-- each number below the bound that passes is there
Has-passing : (test : ℕ → Bool) (bound n : ℕ) → n < bound → test n ≡ true → Has (passing test bound) n
Has-passing test zero n low e = absurd (omega arith)
Has-passing test (suc k) n low e =
    elim (cases_eq k n) [
      | inl same ↦ subst (λ (l : List ℕ). Has l n)
          (sym (passing_in test k (subst (λ m. test m ≡ true) (sym same) e))) (inl same)
      | inr other ↦ let rest = Has-passing test k n (omega (arith, other)) e in ⊎_elim
          (λ p. subst (λ (l : List ℕ). Has l n) (sym (passing_in test k p)) (inr rest))
          (λ p. subst (λ (l : List ℕ). Has l n) (sym (passing_out test k p)) rest) (cases_Bool (test k))
    ]

-- the bit of a number
abbrev pub bit_of : List ℕ → ℕ → ℕ
bit_of words n = bit_at (get_or words (n / 64) 0) (n % 64)

-- beyond the words no bit is set
pub bit_beyond : (words : List ℕ) (n : ℕ) → length words ≤ n / 64 → bit_of words n ≡ 0
bit_beyond words n past = ap (λ w. bit_at w (n % 64)) (get_or_past words (n / 64) 0 past) ∙ bit_at-zero (n % 64)

-- members are the numbers whose bits are set
pub member_is : (words : List ℕ) (n : ℕ) → Has (members words) n ↔ (bit_of words n ≡ 1)
unfolding members is_set
member_is words n =
    let test : ℕ → Bool = is_set words in (
      λ h. eqb-true (bit_of words n) 1 (Has-from_passing test (64 * length words) n h),
      λ e. ⊎_elim (λ low. Has-passing test (64 * length words) n (omega arith) (eq-eqb (bit_of words n) 1 e)) (λ past. let none = bit_beyond words n past in absurd (omega arith)) (cases_lt (n / 64) (length words)),
    )

-- words of zeros have none
pub no_members : (count n : ℕ) → ¬ (Has (members (replicate count 0)) n)
no_members count n h =
    let e : bit_of (replicate count 0) n ≡ 1 = (member_is (replicate count 0) n).0 h in
    let same : length (replicate {A = ℕ} count 0) ≡ count = length-replicate count 0 in
    ⊎_elim (λ low. let none : bit_of (replicate count 0) n
    ≡ 0 = ap (λ w. bit_at w (n % 64)) (get_or-replicate count (n / 64) 0 0 low)
    ∙ bit_at-zero (n % 64) in omega arith) (λ past. let none = bit_beyond (replicate count 0) n
    (subst (λ k. k ≤ n / 64) (sym same) past) in omega arith) (cases_lt (n / 64) count)

-- the words after a number's bit was set
abbrev pub with_bit : List ℕ → ℕ → List ℕ
with_bit words k = set words (k / 64) (bit_or (get_or words (k / 64) 0) (1 * 2 ^ (k % 64) % 18446744073709551616))

module _ (words : List ℕ) (k : ℕ) (low : k / 64 < length words) where
  -- the word of the number
  same_word : (n : ℕ) → n / 64 ≡ k / 64 → bit_of (with_bit words k) n ≡ max (bit_of words n) (bit_at (2 ^ (k % 64)) (n % 64))
  same_word n e =
      let mask : 1 * 2 ^ (k % 64) % 2 ^ 64 ≡ 2 ^ (k % 64) = one_shl (k % 64) 64 (omega arith) in
      let word = get_or words (k / 64) 0 in
      ap (λ i. bit_at (get_or (with_bit words k) i 0) (n % 64)) e
      ∙ ap (λ w. bit_at w (n % 64)) (get_or-set_same words (k / 64)
      (bit_or word (1 * 2 ^ (k % 64) % 18446744073709551616)) 0 low)
      ∙ ap (λ m. bit_at (bit_or word m) (n % 64)) mask ∙ bit_at_or word (2 ^ (k % 64)) (n % 64)
      ∙ ap (λ i. max (bit_at (get_or words i 0) (n % 64)) (bit_at (2 ^ (k % 64)) (n % 64))) (sym e)

  -- the other words
  other_word : (n : ℕ) → n / 64 ≢ k / 64 → bit_of (with_bit words k) n ≡ bit_of words n
  other_word n apart = ap (λ w. bit_at w (n % 64)) (get_or-set_other words (k / 64) (n / 64) (bit_or (get_or words (k / 64) 0) (1 * 2 ^ (k % 64) % 18446744073709551616)) 0 apart)

  -- its bit is set
  pub set_there : bit_of (with_bit words k) k ≡ 1
  set_there =
      let one = bit_at-pow_same (k % 64) in
      let small = bit_at-lt (get_or words (k / 64) 0) (k % 64) in
      same_word k refl ∙ omega arith

  -- the bits of others stay
  pub kept_elsewhere : (n : ℕ) → n ≢ k → bit_of (with_bit words k) n ≡ bit_of words n
  kept_elsewhere n ne =
      elim (cases_eq (n / 64) (k / 64)) [ inl same ↦ (let apart : n % 64 ≢ k % 64 = λ e. ne (omega arith) in let none = bit_at-pow_other (k % 64) (n % 64) apart in same_word n same ∙ omega arith) | inr other ↦ other_word n other ]

  -- the number is a member beside those that were
  pub member_more : (n : ℕ) → Has (members (with_bit words k)) n ↔ ((n ≡ k) ⊎ Has (members words) n)
  member_more n =
      let is = member_is (with_bit words k) n in
      let was = member_is words n in
      elim (cases_eq n k) [ inl same ↦ (λ h. inl same, λ h. is.1 (subst (λ m. bit_of (with_bit words k) m ≡ 1) (sym same) set_there)) | inr other ↦ (λ h. inr (was.1 (sym (kept_elsewhere n other) ∙ is.0 h)), λ h. ⊎_elim (λ e. absurd (other e)) (λ h'. is.1 (kept_elsewhere n other ∙ was.0 h')) h) ]

-- what the code reads of a word
pub tests_member : (words : List ℕ) (n word : ℕ) → word ≡ get_or words (n / 64) 0 → (eqb (bit_and (word / 2 ^ (n % 64)) 1) 1 ≡ true) ↔ Has (members words) n
tests_member words n word is =
    let bit : bit_and (word / 2 ^ (n % 64)) 1 ≡ bit_of words n = shr_and_one word (n % 64) ∙ ap (λ w. bit_at w (n % 64)) is in
    let member = member_is words n in
    (λ e. member.1 (sym bit ∙ eqb-true (bit_and (word / 2 ^ (n % 64)) 1) 1 e), λ h. eq-eqb (bit_and (word / 2 ^ (n % 64)) 1) 1 (bit ∙ member.0 h))

-- beyond the words there is no member
pub no_member_beyond : (words : List ℕ) (n : ℕ) → length words ≤ n / 64 → (false ≡ true) ↔ Has (members words) n
no_member_beyond words n past = (λ e. absurd (false≢true e), λ h. let none = bit_beyond words n past in let one = (member_is words n).0 h in absurd (omega arith))
