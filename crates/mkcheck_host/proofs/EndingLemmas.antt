-- What a writer gets, part by part.
use Rattle.std.proofs.Math.Seq.{take-add, take-length}
use Rattle.std.proofs.Common.{◌≤◌, ◌+◌, ℕ, List, ◌++◌, append-nil, Option, Some, None, Result, Ok, Err, OnOk, OnErr, length, take, drop, take-take, subst, sym, ap, ◌∙◌}
use Rattle.std.specs.Io.KnownBytes.{Appends}
use Rattle.std.proofs.KnownBytes.{Appends-trans}
use Rattle.mkcheck_host.specs.Ending.{AppendsPart, AppendsSome}

-- what was given to a writer is written in part at least
pub sent_some : {X E : Type 0} (r : Result X E) (old new : Option (List ℕ)) (text : List ℕ) → OnOk r (Appends old new text) → OnErr r (AppendsPart old new text) → AppendsSome old new text
sent_some (Ok x) old new text whole part = (length text, subst (Appends old new) (sym (take-length text)) whole)
sent_some (Err e) old new text whole part = (part.0, part.2)

-- nothing of a text is written
pub sent_none : (contents : Option (List ℕ)) (text : List ℕ) → AppendsSome contents contents text
sent_none None text = (0, tt)
sent_none (Some known) text = (0, sym (append-nil known))

-- a write of the next n bytes of a text
pub sent_more : (a b c : Option (List ℕ)) (text : List ℕ) (done n m : ℕ) → Appends a b (take done text) → Appends b c (take n (take m (drop done text))) → n ≤ m → Appends a c (take (done + n) text)
sent_more a b c text done n m before more fits =
    subst (Appends a c) (ap (λ l. take done text ++ l) (take-take n m (drop done text) fits) ∙ sym (take-add done n text)) (Appends-trans a b c _ _ before more)
