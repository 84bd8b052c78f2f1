-- Options and results.
use Rattle.std.proofs.Common.{◌≡◌, Option, Some, None, Result, Ok, Err, refl, subst}
use Rattle.std.specs.Prelude.{IfOk, IfSome, MatchOption, is_some}
use Rattle.std.specs.Option.{option_map}

-- An option has a value exactly if what f gives for it has one.
pub is_some-map : {A B : Type 0} (f : A → B) (o : Option A) → is_some (option_map f o) ≡ is_some o
is_some-map f None = refl
is_some-map f (Some x) = refl

-- What is said of an option that has a value.
pub MatchOption-at_some : {A : Type 0} (P : Type 0) (Q : A → Type 0) {o : Option A} {x : A} → o ≡ Some x → MatchOption o P Q → Q x
MatchOption-at_some P Q e h = subst (λ o. MatchOption o P Q) e h

-- What holds of whatever is there holds if something is.
pub IfSome-from : {A : Type 0} (o : Option A) (P : A → Type 0) → ((a : A) → o ≡ Some a → P a) → IfSome o P
IfSome-from None P h = tt
IfSome-from (Some a) P h = h a refl

-- What holds of a value that was made.
pub IfOk-map : {A E : Type 0} {P Q : A → Type 0} (r : Result A E) → ((x : A) → P x → Q x) → IfOk r P → IfOk r Q
IfOk-map (Ok x) f h = f x h
IfOk-map (Err e) f h = tt
