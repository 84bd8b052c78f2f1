-- Lists that grow at their end, up to the first fault.
use Rattle.std.proofs.Common.{◌≡◌, List, [], ◌∷◌, ◌++◌, Result, Ok, Err, inl, inr, refl, ap, ◌∙◌}
use Rattle.std.specs.Prelude.{◌⊎◌}
use Rattle.mk_cert_text.specs.declared.fault.CertTextFault.{CertTextFault}
use Rattle.mk_cert_text.specs.declared.fault.CertTextFault.TheVariants.{Memory}
use Rattle.mk_cert_text.specs.Steps.{◌>>=◌, each}

-- the fault is the defined one, or out of memory
abbrev pub Fails : {Y : Type 0} → CertTextFault → Result Y CertTextFault → Type 0
Fails fault defined = (fault ≡ Memory) ⊎ (defined ≡ Err fault)

first_of_all : {B : Type 0} (r : Result B CertTextFault) → (r >>= λ y. Ok [] >>= λ ys. Ok (y ∷ ys)) ≡ (Ok [] >>= λ (ys : List B). r >>= λ y. Ok (ys ++ y ∷ []))
first_of_all (Ok y) = refl
first_of_all (Err fault) = refl

behind_first : {B : Type 0} (r : Result B CertTextFault) (rs : Result (List B) CertTextFault) (q : Result B CertTextFault)
    → (r >>= λ y. (rs >>= λ ys. q >>= λ z. Ok (ys ++ z ∷ [])) >>= λ ys. Ok (y ∷ ys)) ≡ ((r >>= λ y. rs >>= λ ys. Ok (y ∷ ys)) >>= λ ys. q >>= λ z. Ok (ys ++ z ∷ []))
behind_first (Ok y) (Ok ys) (Ok z) = refl
behind_first (Ok y) (Ok ys) (Err fault) = refl
behind_first (Ok y) (Err fault) q = refl
behind_first (Err fault) rs q = refl

-- what each gives, with one more at the end
pub each_more : {A B : Type 0} (f : A → Result B CertTextFault) (xs : List A) (x : A) → each f (xs ++ x ∷ []) ≡ (each f xs >>= λ ys. f x >>= λ y. Ok (ys ++ y ∷ []))
unfolding each
each_more f [] x = first_of_all (f x)
each_more {B = B} f (z ∷ xs) x = ap (λ (r : Result (List B) CertTextFault). f z >>= λ y. r >>= λ ys. Ok (y ∷ ys)) (each_more f xs x) ∙ behind_first (f z) (each f xs) (f x)

-- a fault before, a fault of the last, or none
pub fails_before : {A B : Type 0} (f : A → Result B CertTextFault) (xs : List A) (x : A) (fault : CertTextFault) → Fails fault (each f xs) → Fails fault (each f (xs ++ x ∷ []))
fails_before f xs x fault (inl memory) = inl memory
fails_before f xs x fault (inr e) = inr (each_more f xs x ∙ rw e refl)

pub fails_last : {A B : Type 0} (f : A → Result B CertTextFault) (xs : List A) (x : A) (ys : List B) (fault : CertTextFault) → each f xs ≡ Ok ys → Fails fault (f x) → Fails fault (each f (xs ++ x ∷ []))
fails_last f xs x ys fault e (inl memory) = inl memory
fails_last f xs x ys fault e (inr h) = inr (each_more f xs x ∙ rw (e, h) refl)

pub has_more : {A B : Type 0} (f : A → Result B CertTextFault) (xs : List A) (x : A) (ys : List B) (y : B) → each f xs ≡ Ok ys → f x ≡ Ok y → each f (xs ++ x ∷ []) ≡ Ok (ys ++ y ∷ [])
has_more f xs x ys y e h = each_more f xs x ∙ rw (e, h) refl
