-- Where a first candidate is found, some are.
use Rattle.std.proofs.Common.{List, [], ◌∷◌, inl, inr}
use Rattle.mk_subject.specs.Subject.{Subject}
use Rattle.mk_find.specs.Candidates.{Candidate, IsFinding}
use Rattle.mk_find.specs.Listing.{Lists, drops, IsFirstIn}

pub first_is_listed : (x : Subject) (all : List Candidate) (k : Candidate) → IsFirstIn (IsFinding x) all k → ¬ (Lists x all [])
first_is_listed x [] k first none = absurd first
first_is_listed x (c ∷ all) k (inl here) (drops not more) = not here.0
first_is_listed x (c ∷ all) k (inr there) (drops not more) = first_is_listed x all k there.1 more
