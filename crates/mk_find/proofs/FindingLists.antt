-- Lists of findings: there is one, and what it means that it is empty.
use Rattle.std.proofs.lemmas.List.{nil_from_length}
use Rattle.std.proofs.Common.{◌≡◌, length, List, [], ◌∷◌, ◌++◌, map, inl, inr, refl, sym, ◌∙◌, ap, subst}
use Rattle.mk_find.specs.declared.finding.Finding.{Finding}
use Rattle.mk_subject.specs.Subject.{Subject}
use Rattle.mk_find.specs.Candidates.{Candidate, static_candidates, race_candidates, stale_candidates}
use Rattle.mk_find.specs.FindingLaws.{ListIsOne, FindingsAreOne, NoFindings}
use Rattle.mk_find.specs.Listing.{Lists, nothing, keeps, drops}
use Rattle.mk_find.specs.Listed.{named, Adds}

-- two that are added are one
same_added : ListIsOne → (x : Subject) (all : List Candidate) (one other : List Finding) → Adds x all [] one → Adds x all [] other → one ≡ other
same_added list_is_one x all one other a b =
    a.added ∙ (ap (λ (l : List Candidate). map (named x) l) (list_is_one x all a.kept b.kept a.right b.right) ∙ sym b.added)

-- what is added of nothing is nothing
pub none_added : ListIsOne → (x : Subject) (all : List Candidate) (found : List Finding) → Lists x all [] → Adds x all [] found → found ≡ []
none_added list_is_one x all found none a = a.added ∙ ap (λ (l : List Candidate). map (named x) l) (list_is_one x all a.kept [] a.right none)

-- there is one list
pub findings_are_one : ListIsOne → FindingsAreOne
findings_are_one list_is_one x one other (inl a) (inl b) = same_added list_is_one x (static_candidates x) one other a.1 b.1
findings_are_one list_is_one x one other (inl a) (inr b) = absurd (a.0 (none_added list_is_one x (static_candidates x) one b.0 a.1))
findings_are_one list_is_one x one other (inr a) (inl b) = absurd (b.0 (none_added list_is_one x (static_candidates x) other a.0 b.1))
findings_are_one list_is_one x one other (inr a) (inr b) = same_added list_is_one x (race_candidates x ++ stale_candidates x) one other a.1 b.1

-- where nothing of two lists is kept, nothing of either is
both_empty : (x : Subject) (first second kept : List Candidate) → kept ≡ [] → Lists x (first ++ second) kept → Lists x first [] × Lists x second []
both_empty x [] second kept e lists = (nothing, subst (λ (l : List Candidate). Lists x second l) e lists)
both_empty x (c ∷ first) second kept e (keeps holds rest) = absurd (cc)
both_empty x (c ∷ first) second kept e (drops out rest) = let both = both_empty x first second kept e rest in (drops out both.0, both.1)

-- nothing is named by nothing alone
none_named : (x : Subject) (kept : List Candidate) → [] ≡ map (named x) kept → kept ≡ []
none_named x [] e = refl
none_named x (c ∷ kept) e = absurd (cc)

-- an empty list
pub no_findings : NoFindings
no_findings x (inl a) = absurd (a.0 refl)
no_findings x (inr a) =
    let both = both_empty x (race_candidates x) (stale_candidates x) a.1.kept (none_named x a.1.kept a.1.added) a.1.right in
    ((a.0, both.0), both.1)

-- where nothing is added, nothing is listed
pub nothing_added : (x : Subject) (all : List Candidate) (found : List Finding) → Adds x all [] found → length found ≡ 0 → Lists x all []
nothing_added x all found a e =
    subst (λ (l : List Candidate). Lists x all l) (none_named x a.kept (sym (nil_from_length found e) ∙ a.added)) a.right
