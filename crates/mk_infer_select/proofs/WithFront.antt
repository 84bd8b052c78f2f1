-- Results with what was found before them.
use Rattle.std.proofs.Common.{◌≡◌, List, [], ◌∷◌, ◌++◌, Result, Ok, Err, refl, ap, append_assoc}
use Rattle.mk_infer.specs.declared.fault.InferFault.{InferFault}

-- what was found before, and what is found then
abbrev pub with_front : {A : Type 0} → List A → Result (List A) InferFault → Result (List A) InferFault
with_front front (Ok rest) = Ok (front ++ rest)
with_front front (Err fault) = Err fault

-- one more before
pub with_front_more : {A : Type 0} (front : List A) (x : A) (r : Result (List A) InferFault) → with_front front (with_front (x ∷ []) r) ≡ with_front (front ++ x ∷ []) r
with_front_more front x (Ok rest) = ap (λ (xs : List _). Ok xs) (simp append_assoc)
with_front_more front x (Err fault) = refl
