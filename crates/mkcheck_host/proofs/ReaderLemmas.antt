-- What two reads consume, one after the other.
use Rattle.std.proofs.Common.{◌≡◌, ℕ, ◌+◌, ◌≤◌, List, ◌++◌, Option, length, take, arith, length-append, length-take, subst, sym, ap, ◌∙◌}
use Rattle.std.proofs.lemmas.List.{take-append-le}
use Rattle.std.specs.Io.KnownBytes.{Consumes}
use Rattle.std.proofs.KnownBytes.{Consumes-trans}

-- a reader that gave a text and then n bytes of a buffer gave both together
pub taken_more : (a b c : Option (List ℕ)) (text buf : List ℕ) (n most : ℕ) → Consumes a b text → Consumes b c (take n buf) → length text + n ≤ most
    → (bs : List ℕ) × (length bs ≤ most) × Consumes a c bs
taken_more a b c text buf n most before read fits = (
  text ++ take n buf,
  omega (arith, length-append text (take n buf), length-take n buf),
  Consumes-trans a b c text (take n buf) before read,
)

-- the text grows by the bytes that were read into the front of the window
pub grown_text : (a b c : Option (List ℕ)) (text buf rest grown : List ℕ) (n : ℕ) → Consumes a b text → Consumes b c (take n buf) → n ≤ length buf
    → grown ≡ text ++ take n (buf ++ rest) → Consumes a c grown
grown_text a b c text buf rest grown n before read fits is =
    subst (Consumes a c) (sym (is ∙ ap (λ bs. text ++ bs) (take-append-le n buf rest fits))) (Consumes-trans a b c text (take n buf) before read)
