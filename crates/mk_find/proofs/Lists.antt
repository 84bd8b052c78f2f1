-- Lists of those candidates that meet their condition.
use Rattle.std.proofs.Common.{◌≡◌, List, [], ◌∷◌, inl, inr, refl, sym, ap, subst}
use Rattle.mk_graph.specs.Membership.{Has}
use Rattle.mk_subject.specs.Subject.{Subject}
use Rattle.mk_find.specs.Candidates.{Candidate, IsFinding}
use Rattle.mk_find.specs.Listing.{Lists, nothing, keeps, drops}

-- there is one
pub one_list : (x : Subject) {all one other : List Candidate} → Lists x all one → Lists x all other → one ≡ other
one_list x nothing nothing = refl
one_list x (keeps {c = c} h a) (keeps i b) = ap (λ (l : List Candidate). c ∷ l) (one_list x a b)
one_list x (keeps h a) (drops i b) = absurd (i h)
one_list x (drops h a) (keeps i b) = absurd (h i)
one_list x (drops h a) (drops i b) = one_list x a b

-- what is listed is a candidate, and its condition holds
pub listed_holds : (x : Subject) (all kept : List Candidate) → Lists x all kept → (c : Candidate) → Has kept c → Has all c × IsFinding x c
listed_holds x all kept nothing c h = absurd h
listed_holds x all kept (keeps {c = d} {all = rest} {kept = others} holds more) c (inl here) = (inl here, subst (λ (k : Candidate). IsFinding x k) here holds)
listed_holds x all kept (keeps {c = d} {all = rest} {kept = others} holds more) c (inr there) = let found = listed_holds x rest others more c there in (inr found.0, found.1)
listed_holds x all kept (drops {c = d} {all = rest} {kept = others} not more) c h = let found = listed_holds x rest others more c h in (inr found.0, found.1)

-- and all such are listed
pub holding_listed : (x : Subject) (all kept : List Candidate) → Lists x all kept → (c : Candidate) → Has all c → IsFinding x c → Has kept c
holding_listed x all kept nothing c h holds = h
holding_listed x all kept (keeps {c = d} {all = rest} {kept = others} held more) c (inl here) holds = inl here
holding_listed x all kept (keeps {c = d} {all = rest} {kept = others} held more) c (inr there) holds = inr (holding_listed x rest others more c there holds)
holding_listed x all kept (drops {c = d} {all = rest} {kept = others} not more) c (inl here) holds = absurd (not (subst (λ (k : Candidate). IsFinding x k) (sym here) holds))
holding_listed x all kept (drops {c = d} {all = rest} {kept = others} not more) c (inr there) holds = holding_listed x rest others more c there holds

-- where no condition holds, nothing is listed
pub lists_nothing : (x : Subject) (all : List Candidate) → ((c : Candidate) → Has all c → ¬ (IsFinding x c)) → Lists x all []
lists_nothing x [] none = nothing
lists_nothing x (c ∷ all) none = drops (none c (inl refl)) (lists_nothing x all (λ d h. none d (inr h)))

-- where nothing is listed, no condition holds
pub nothing_holds : (x : Subject) (all : List Candidate) → Lists x all [] → (c : Candidate) → Has all c → ¬ (IsFinding x c)
nothing_holds x all none c h holds = holding_listed x all [] none c h holds
