-- The first of what is found.
use Rattle.std.proofs.Common.{◌≡◌, List, [], ◌∷◌, ◌++◌, map, inl, inr, refl, sym, ◌∙◌}
use Rattle.std.specs.Prelude.{Option, None, Some, MatchOption}
use Rattle.mk_find.specs.declared.finding.Finding.{Finding}
use Rattle.mk_subject.specs.Subject.{Subject}
use Rattle.mk_find.specs.Candidates.{Candidate, IsFinding}
use Rattle.mk_find.specs.Listing.{Lists, keeps, drops, IsFirstIn}
use Rattle.mk_find.specs.Listed.{Adds, named, IsFirstFinding}
use Rattle.mk_find.proofs.Adding.{lists_append}
use Rattle.mk_find.proofs.FirstOf.{first_in, first_behind}
use Rattle.mk_find.proofs.Lists.{nothing_holds}

-- the first that is listed is the first of which the condition holds
listed_first : (x : Subject) (all : List Candidate) (k : Candidate) (ks : List Candidate) → Lists x all (k ∷ ks) → IsFirstIn (IsFinding x) all k
listed_first x all k ks (keeps h more) = inl (h, refl)
listed_first x all k ks (drops {all = rest} not more) = inr (not, listed_first x rest k ks more)

first_kept : (x : Subject) (all kept : List Candidate) (first : Finding) (rest : List Finding) → Lists x all kept → first ∷ rest ≡ map (named x) kept → (k : Candidate) × IsFirstIn (IsFinding x) all k × (first ≡ named x k)
first_kept x all [] first rest lists same = absurd (cc)
first_kept x all (k ∷ ks) first rest lists same = (k, listed_first x all k ks lists, let e : first ∷ rest ≡ named x k ∷ map (named x) ks = same in cc)

pub first_found : (x : Subject) (all : List Candidate) (found : List Finding) (first : Finding) (rest : List Finding) → Adds x all [] found → found ≡ first ∷ rest → (k : Candidate) × IsFirstIn (IsFinding x) all k × (first ≡ named x k)
first_found x all found first rest adds same = first_kept x all adds.kept first rest adds.right (sym same ∙ adds.added)

-- where the first is none, none is listed
none_kept : (x : Subject) (all kept : List Candidate) → Lists x all kept → [] ≡ map (named x) kept → Lists x all []
none_kept x all [] lists same = lists
none_kept x all (k ∷ ks) lists same = absurd (let e : [] ≡ named x k ∷ map (named x) ks = same in cc)

pub none_found : (x : Subject) (all : List Candidate) (found : List Finding) → Adds x all [] found → found ≡ [] → Lists x all []
none_found x all found adds none = none_kept x all adds.kept adds.right (sym none ∙ adds.added)

-- the first of a list of findings
pub tells_of : (x : Subject) (all : List Candidate) (found : List Finding) (r : Option Finding) → Adds x all [] found → MatchOption r (found ≡ []) (λ first. (rest : List Finding) × (found ≡ first ∷ rest)) → IsFirstFinding x all r
tells_of x all found None adds none = none_found x all found adds none
tells_of x all found (Some first) adds told = first_found x all found first told.0 adds told.1

-- that of candidates, with others behind them, and that of those, where there is none before
pub tells_before : (x : Subject) (one other : List Candidate) (first : Finding) → IsFirstFinding x one (Some first) → IsFirstFinding x (one ++ other) (Some first)
tells_before x one other first (k, told, same) = (k, first_in (IsFinding x) one other k told, same)

pub tells_behind : (x : Subject) (one other : List Candidate) (r : Option Finding) → Lists x one [] → IsFirstFinding x other r → IsFirstFinding x (one ++ other) r
tells_behind x one other None none told = lists_append x none told
tells_behind x one other (Some first) none (k, told, same) = (k, first_behind (IsFinding x) one other k (nothing_holds x one none) told, same)
