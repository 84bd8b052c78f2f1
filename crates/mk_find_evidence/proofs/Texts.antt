-- Loops over texts.
use Rattle.std.proofs.Common.{◌≡◌, ℕ, ◌+◌, ◌<◌, ◌≤◌, List, [], ◌∷◌, length, map, drop, String, Global, string_bytes, get_or, sym, ap, ◌∙◌}
use Rattle.std.proofs.lemmas.List.{drop_more}
use Rattle.std.proofs.Math.ListN.{drop_of_length-le}

-- the next text of those that are left
pub next_text : (texts : List (String Global)) (i : ℕ) (d : String Global) (text : List ℕ) → i < length texts → text ≡ string_bytes (get_or texts i d) → map string_bytes (drop i texts) ≡ text ∷ map string_bytes (drop (i + 1) texts)
next_text texts i d text lt is = ap (map string_bytes) (drop_more texts i d lt) ∙ ap (λ n. n ∷ map string_bytes (drop (i + 1) texts)) (sym is)

-- no text is left
pub no_text : (texts : List (String Global)) (i : ℕ) → length texts ≤ i → map string_bytes (drop i texts) ≡ []
no_text texts i le = ap (map string_bytes) (drop_of_length-le texts le)

-- the next number of those that are left
pub next_number : (ns : List ℕ) (i d n : ℕ) → i < length ns → n ≡ get_or ns i d → drop i ns ≡ n ∷ drop (i + 1) ns
next_number ns i d n lt is = drop_more ns i d lt ∙ ap (λ m. m ∷ drop (i + 1) ns) (sym is)

pub no_number : (ns : List ℕ) (i : ℕ) → length ns ≤ i → drop i ns ≡ []
no_number ns i le = drop_of_length-le ns le
