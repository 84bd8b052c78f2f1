-- The findings that are left of two lists.
use Rattle.std.proofs.Common.{◌≡◌, ◌≤◌, ℕ, zero, suc, List, [], ◌∷◌, drop, length, refl, arith}
use Rattle.std.specs.Prelude.{min}
use Rattle.mk_find.specs.declared.finding.Finding.{Finding}
use Rattle.mk_core_json.specs.FindingValue.{finding_values}

-- without numbers of groups there is none
none_numbered : (place : ℕ) (found : List Finding) → finding_values place found [] ≡ []
none_numbered place [] = refl
none_numbered place (one ∷ others) = refl

-- at the end of one of the lists none is left
pub none_left : (place i : ℕ) (found : List Finding) (groups : List ℕ) → min (length found) (length groups) ≤ i → finding_values place (drop i found) (drop i groups) ≡ []
none_left place zero [] groups past = refl
none_left place zero (one ∷ others) [] past = refl
none_left place zero (one ∷ others) (group ∷ groups) past = absurd (omega (arith, past))
none_left place (suc i) [] [] past = refl
none_left place (suc i) [] (group ∷ groups) past = refl
none_left place (suc i) (one ∷ others) [] past = none_numbered place (drop i others)
none_left place (suc i) (one ∷ others) (group ∷ groups) past = none_left place i others groups (omega (arith, past))
