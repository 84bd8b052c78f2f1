-- Loops over names.
use Rattle.std.proofs.Common.{◌≡◌, ℕ, zero, suc, ◌+◌, ◌<◌, List, [], ◌∷◌, ◌++◌, length, Option, Some, map, refl, sym, ap, ◌∙◌, arith, inl, inr, get_or, take}
use Rattle.std.proofs.lemmas.List.{take_more, map_push}
use Rattle.mk_graph.specs.Membership.{Has}

-- what an element at a place is taken to stands in the mapped list
pub mapped_at : {A B : Type 0} (f : A → B) (xs : List A) (i : ℕ) (d : A) → i < length xs → Has (map f xs) (f (get_or xs i d))
mapped_at f [] i d lt = absurd (omega arith)
mapped_at f (x ∷ xs) zero d lt = inl refl
mapped_at f (x ∷ xs) (suc i) d lt = inr (mapped_at f xs i d (omega arith))

-- one more element is taken to one more value
pub one_known : {A B X : Type 0} (f : A → B) (F : B → Option X) (xs : List A) (i : ℕ) (d : A) (known : List X) (x : X) → i < length xs → F (f (get_or xs i d)) ≡ Some x → map F (map f (take i xs)) ≡ map (λ y. Some y) known → map F (map f (take (i + 1) xs)) ≡ map (λ y. Some y) (known ++ x ∷ [])
one_known f F xs i d known x lt is so_far =
    ap (λ l. map F (map f l)) (take_more xs i d lt)
    ∙ (ap (map F) (map_push f (take i xs) (get_or xs i d)) ∙ (map_push F (map f (take i xs)) (f (get_or xs i d))
    ∙ (ap (λ l. l ++ F (f (get_or xs i d)) ∷ []) so_far ∙ (ap (λ o. map (λ y. Some y) known ++ o ∷ []) is ∙ sym (map_push (λ y. Some y) known x)))))
