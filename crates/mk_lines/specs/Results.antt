-- Results in sequence, and what a function returns of what is defined. Faults may have any type;
-- one value of that type means out of memory.
use Rattle.std.specs.Prelude.{◌≡◌, ◌⊎◌, Result, Ok, Err}

-- The next step with the value of the one before; the first fault is the result.
infixl 10 ◌>>=◌
abbrev pub ◌>>=◌ : {A B E : Type 0} → Result A E → (A → Result B E) → Result B E
(Ok x) >>= f = f x
(Err e) >>= f = Err e

-- A result whose value is replaced by its view.
abbrev pub seen : {X Y E : Type 0} → (X → Y) → Result X E → Result Y E
seen view (Ok x) = Ok (view x)
seen view (Err fault) = Err fault

-- The fault is the defined one, or out of memory, which may come at any time.
abbrev pub Fails : {Y E : Type 0} → (memory fault : E) → Result Y E → Type 0
Fails memory fault defined = (fault ≡ memory) ⊎ (defined ≡ Err fault)

-- The function returned what is defined, its value seen by the view; or it ran out of memory.
abbrev pub Gives : {X Y E : Type 0} → (memory : E) → (X → Y) → Result X E → Result Y E → Type 0
Gives memory view (Ok x) defined = defined ≡ Ok (view x)
Gives memory view (Err fault) defined = Fails memory fault defined
