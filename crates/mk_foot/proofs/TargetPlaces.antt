-- Places of the names of a list that were noted one after another.
use Rattle.std.proofs.Common.{◌≡◌, ℕ, ◌+◌, ◌<◌, List, [], ◌∷◌, ◌++◌, length, Option, sym, ap, ◌∙◌, arith, map, get_or, take, length-take-le}
use Rattle.std.proofs.lemmas.List.{take_more, map_push, length-map}
use Rattle.std.specs.Str.{bytes_eq}
use Rattle.mk_lines.proofs.Places.{place_push}
use Rattle.mk_foot.specs.Names.{place_from, else_last}

-- one more of a list is noted
pub next_place : {A : Type 0} (key : A → List ℕ) (before after : Option ℕ) (xs : List A) (i : ℕ) (d : A) (noted name : List ℕ) → noted ≡ key (get_or xs i d) → after ≡ else_last before (bytes_eq name noted) i
    → before ≡ place_from 0 (map key (take i xs)) name → i < length xs → after ≡ place_from 0 (map key (take (i + 1) xs)) name
next_place key before after xs i d noted name is e so_far lt =
    let front = map key (take i xs) in
    let more : map key (take (i + 1) xs) ≡ front ++ key (get_or xs i d) ∷ [] = ap (map key) (take_more xs i d lt) ∙ map_push key (take i xs) (get_or xs i d) in
    let count : 0 + length front ≡ i = omega (arith, length-map (take i xs) key, length-take-le i xs) in
    e ∙ (ap (λ o. else_last o (bytes_eq name noted) i) so_far ∙ (ap (λ n. else_last (place_from 0 front name) (bytes_eq name n) i) is
    ∙ sym (ap (λ ns. place_from 0 ns name) more ∙ (place_push 0 front (key (get_or xs i d)) name ∙ ap (else_last (place_from 0 front name) (bytes_eq name (key (get_or xs i d)))) count))))
