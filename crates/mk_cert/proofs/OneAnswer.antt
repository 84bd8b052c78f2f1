-- A certificate has one answer.
use Rattle.std.proofs.Common.{◌≡◌, List, [], ◌∷◌, ◌++◌, inl, inr, refl, sym, ap, subst, ◌∙◌}
use Rattle.std.specs.Prelude.{⊤, Result, Ok, Err}
use Rattle.mk_graph.specs.Membership.{Has}
use Rattle.mk_cert_text.specs.Certificate.{Way, Certificate}
use Rattle.mk_find.specs.declared.finding.Finding.{Finding}
use Rattle.mk_cert.specs.declared.fault.CertFault.{CertFault}
use Rattle.mk_cert.specs.declared.fault.CertFault.TheVariants.{OtherGoals, NoWay, BadWay, Static, Memory}
use Rattle.mk_subject.specs.Subject.{Subject, name_of}
use Rattle.mk_find.specs.Candidates.{Candidate, IsFinding, static_candidates, race_candidates}
use Rattle.mk_find.specs.Listed.{named}
use Rattle.mk_find.specs.Listing.{IsFirstIn}
use Rattle.mk_find.specs.Findings.{NothingFound}
use Rattle.mk_cert.specs.Verdict.{NoneBad, IsFirstBad, LacksWay, NoneLacks, Verifies}
use Rattle.mk_subject.specs.Reads.{Read}
use Rattle.mk_find.proofs.FirstOf.{none_of_both}
use Rattle.mk_find.proofs.Lists.{nothing_holds}

module _ {A : Type 0} where
  -- there is one first
  one_first : (P : A → Type 0) (xs : List A) (a b : A) → IsFirstIn P xs a → IsFirstIn P xs b → a ≡ b
  one_first P [] a b h k = absurd h
  one_first P (x ∷ xs) a b (inl h) (inl k) = sym h.1 ∙ k.1
  one_first P (x ∷ xs) a b (inl h) (inr k) = absurd (k.0 h.0)
  one_first P (x ∷ xs) a b (inr h) (inl k) = absurd (h.0 k.0)
  one_first P (x ∷ xs) a b (inr h) (inr k) = one_first P xs a b h.1 k.1

  -- of which it holds
  first_holds : (P : A → Type 0) (xs : List A) (a : A) → IsFirstIn P xs a → Has xs a × P a
  first_holds P [] a h = absurd h
  first_holds P (x ∷ xs) a (inl h) = (inl h.1, subst P h.1 h.0)
  first_holds P (x ∷ xs) a (inr h) = let found = first_holds P xs a h.1 in (inr found.0, found.1)

-- one first bad entry, and none where none is bad
one_bad : (x : Subject) (before ways : List Way) (v w : Way) → IsFirstBad x before ways v → IsFirstBad x before ways w → v ≡ w
one_bad x before [] v w h k = absurd h
one_bad x before (u ∷ ways) v w (inl h) (inl k) = sym h.1 ∙ k.1
one_bad x before (u ∷ ways) v w (inl h) (inr k) = absurd (h.0 k.0)
one_bad x before (u ∷ ways) v w (inr h) (inl k) = absurd (k.0 h.0)
one_bad x before (u ∷ ways) v w (inr h) (inr k) = one_bad x (u ∷ before) ways v w h.1 k.1

bad_or_none : (x : Subject) (before ways : List Way) (w : Way) → IsFirstBad x before ways w → ¬ (NoneBad x before ways)
bad_or_none x before [] w h none = h
bad_or_none x before (u ∷ ways) w (inl h) none = h.0 none.0
bad_or_none x before (u ∷ ways) w (inr h) none = bad_or_none x (u ∷ before) ways w h.1 none.1

found_or_nothing : (x : Subject) (k : Candidate) → IsFirstIn (IsFinding x) (static_candidates x ++ race_candidates x) k → ¬ (NothingFound x)
found_or_nothing x k first nothing =
    let it = first_holds (IsFinding x) (static_candidates x ++ race_candidates x) k first in
    none_of_both (IsFinding x) (static_candidates x) (race_candidates x) (nothing_holds x (static_candidates x) nothing.0) (nothing_holds x (race_candidates x) nothing.1) k it.0 it.1

lacking_or_none : (x : Subject) (ways : List Way) (reads : List Read) (r : Read) → IsFirstIn (LacksWay x ways) reads r → ¬ (NoneLacks x ways)
lacking_or_none x ways reads r first none = let it = first_holds (LacksWay x ways) reads r first in it.1.1 (none r it.1.0)

pub one_answer : (x : Subject) (c : Certificate) (a b : Result ⊤ CertFault) → Verifies x c a → Verifies x c b → a ≡ b
one_answer x c (Ok done) (Ok too) h k = ap (λ (u : ⊤). Ok u) (let same : done ≡ too = refl in same)
one_answer x c (Ok done) (Err OtherGoals) h k = absurd (k h.0)
one_answer x c (Ok done) (Err (Static f)) h k = absurd (found_or_nothing x k.1 k.2 h.1)
one_answer x c (Ok done) (Err (BadWay r f)) h k = absurd (bad_or_none x [] c.ways k.2 k.3 h.2)
one_answer x c (Ok done) (Err (NoWay r f)) h k = absurd (lacking_or_none x c.ways _ k.3 k.4 h.3)
one_answer x c (Ok done) (Err Memory) h k = absurd k
one_answer x c (Err Memory) b h k = absurd h
one_answer x c (Err OtherGoals) (Ok done) h k = absurd (h k.0)
one_answer x c (Err OtherGoals) (Err OtherGoals) h k = refl
one_answer x c (Err OtherGoals) (Err (Static f)) h k = absurd (h k.0)
one_answer x c (Err OtherGoals) (Err (BadWay r f)) h k = absurd (h k.0)
one_answer x c (Err OtherGoals) (Err (NoWay r f)) h k = absurd (h k.0)
one_answer x c (Err OtherGoals) (Err Memory) h k = absurd k
one_answer x c (Err (Static f)) (Ok done) h k = absurd (found_or_nothing x h.1 h.2 k.1)
one_answer x c (Err (Static f)) (Err OtherGoals) h k = absurd (k h.0)
one_answer x c (Err (Static f)) (Err (Static g)) h k =
    let same : h.1 ≡ k.1 = one_first (IsFinding x) (static_candidates x ++ race_candidates x) h.1 k.1 h.2 k.2 in
    ap (λ (found : Finding). Err (Static found)) (h.3 ∙ (ap (named x) same ∙ sym k.3))
one_answer x c (Err (Static f)) (Err (BadWay r g)) h k = absurd (found_or_nothing x h.1 h.2 k.1)
one_answer x c (Err (Static f)) (Err (NoWay r g)) h k = absurd (found_or_nothing x h.1 h.2 k.1)
one_answer x c (Err (Static f)) (Err Memory) h k = absurd k
one_answer x c (Err (BadWay r f)) (Ok done) h k = absurd (bad_or_none x [] c.ways h.2 h.3 k.2)
one_answer x c (Err (BadWay r f)) (Err OtherGoals) h k = absurd (k h.0)
one_answer x c (Err (BadWay r f)) (Err (Static g)) h k = absurd (found_or_nothing x k.1 k.2 h.1)
one_answer x c (Err (BadWay r f)) (Err (BadWay q g)) h k =
    let same : h.2 ≡ k.2 = one_bad x [] c.ways h.2 k.2 h.3 k.3 in
    let recipes : r ≡ q = h.4 ∙ (ap (λ (w : Way). w.recipe) same ∙ sym k.4) in
    let files : f ≡ g = h.5 ∙ (ap (λ (w : Way). w.file) same ∙ sym k.5) in
    cc
one_answer x c (Err (BadWay r f)) (Err (NoWay q g)) h k = absurd (bad_or_none x [] c.ways h.2 h.3 k.2)
one_answer x c (Err (BadWay r f)) (Err Memory) h k = absurd k
one_answer x c (Err (NoWay r f)) (Ok done) h k = absurd (lacking_or_none x c.ways _ h.3 h.4 k.3)
one_answer x c (Err (NoWay r f)) (Err OtherGoals) h k = absurd (k h.0)
one_answer x c (Err (NoWay r f)) (Err (Static g)) h k = absurd (found_or_nothing x k.1 k.2 h.1)
one_answer x c (Err (NoWay r f)) (Err (BadWay q g)) h k = absurd (bad_or_none x [] c.ways k.2 k.3 h.2)
one_answer x c (Err (NoWay r f)) (Err (NoWay q g)) h k =
    let same : h.3 ≡ k.3 = one_first (LacksWay x c.ways) _ h.3 k.3 h.4 k.4 in
    let recipes : r ≡ q = h.5 ∙ (ap (λ (read : Read). name_of x read.recipe) same ∙ sym k.5) in
    let files : f ≡ g = h.6 ∙ (ap (λ (read : Read). read.file) same ∙ sym k.6) in
    cc
one_answer x c (Err (NoWay r f)) (Err Memory) h k = absurd k
