-- Texts that are joined from parts.
use Rattle.std.proofs.Common.{◌≡◌, ◌∙◌, ℕ, List, ◌++◌, ap, ap₂, Result, OnOk}
use Rattle.std.proofs.lemmas.Result.{on_ok_weaker}

-- equal parts give equal texts
pub joined : {a b x y : List ℕ} → a ≡ b → x ≡ y → a ++ x ≡ b ++ y
joined p q = ap₂ (λ (l m : List ℕ). l ++ m) p q

-- what was appended, by an equal text
pub appended : {T E : Type 0} {text all : List ℕ} (r : Result T E) (new out : List ℕ) → text ≡ all → OnOk r (new ≡ out ++ text) → OnOk r (new ≡ out ++ all)
appended r new out e = on_ok_weaker r (λ is. is ∙ ap (λ l. out ++ l) e)
