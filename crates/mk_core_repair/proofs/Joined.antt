-- Texts that are appended one after another.
use Rattle.std.proofs.Common.{◌≡◌, ◌∙◌, ℕ, List, ◌++◌, Result, Ok, Err, ap, append_assoc}
use Rattle.std.specs.Prelude.{if◌then◌else◌}
use Rattle.std.specs.Result.{OnOk, is_ok}

-- two
pub two_joined : (out a b one all : List ℕ) → one ≡ out ++ a → all ≡ one ++ b → all ≡ out ++ (a ++ b)
two_joined out a b one all p q = q ∙ (ap (λ (l : List ℕ). l ++ b) p ∙ append_assoc out a b)

-- three
pub three_joined : (out a b c one two all : List ℕ) → one ≡ out ++ a → two ≡ one ++ b → all ≡ two ++ c → all ≡ out ++ (a ++ (b ++ c))
three_joined out a b c one two all p q r = two_joined out a (b ++ c) one all p (two_joined one b c two all q r)

-- what is there where a call succeeds
pub on_ok_if : {T E : Type 0} (r : Result T E) (new a b : List ℕ) → new ≡ (if is_ok r then a else b) → OnOk r (new ≡ a)
on_ok_if (Ok v) new a b e = e
on_ok_if (Err v) new a b e = tt
