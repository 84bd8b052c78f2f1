-- Results in steps.
use Rattle.std.proofs.Common.{◌≡◌, Result, Ok, Err, inl, inr, ap}
use Rattle.mk_read.specs.declared.fault.ReadFault.{ReadFault}
use Rattle.std.specs.Prelude.{IfErr}
use Rattle.mk_read.specs.Following.{IsOfText}
use Rattle.mk_read.specs.Steps.{◌>>=◌, Gives, Fails, seen}

-- what follows a step that went well
pub then_ok : {A B : Type 0} (r : Result A ReadFault) (f : A → Result B ReadFault) (x : A) → r ≡ Ok x → (r >>= f) ≡ f x
then_ok r f x e = ap (λ s. s >>= f) e

pub then_err : {A B : Type 0} (r : Result A ReadFault) (f : A → Result B ReadFault) (fault : ReadFault) → r ≡ Err fault → (r >>= f) ≡ Err fault
then_err r f fault e = ap (λ s. s >>= f) e

-- the fault of a step is that of all
pub then_fails : {A B : Type 0} (r : Result A ReadFault) (f : A → Result B ReadFault) (fault : ReadFault) → Fails fault r → Fails fault (r >>= f)
then_fails r f fault (inl memory) = inl memory
then_fails r f fault (inr e) = inr (then_err r f fault e)

-- what a call gives, as the value that it leaves
pub gives_left : {X Y : Type 0} (view : X → Y) (r : Result X ReadFault) (defined : Result Y ReadFault) → Gives view r defined → Gives (λ (y : Y). y) (seen view r) defined
gives_left view (Ok x) defined gives = gives
gives_left view (Err fault) defined fails = fails

pub gives_right : {X Y : Type 0} (view : X → Y) (r : Result X ReadFault) (defined : Result Y ReadFault) → Gives (λ (y : Y). y) (seen view r) defined → Gives view r defined
gives_right view (Ok x) defined gives = gives
gives_right view (Err fault) defined fails = fails

pub own_left : {X Y : Type 0} (view : X → Y) (r : Result X ReadFault) → IfErr r IsOfText → IfErr (seen view r) IsOfText
own_left view (Ok x) own = tt
own_left view (Err fault) own = own
