-- Groups of prerequisites.
use Rattle.std.proofs.Common.{◌≡◌, ℕ, true, false, not, List, [], ◌∷◌, ◌++◌, map, filter, refl, ap, ◌∙◌, inl, inr}
use Rattle.std.proofs.lemmas.Bool.{cases_Bool}
use Rattle.mk_read.specs.Laws.{joined, GroupsKeepTheirWords}
use Rattle.mk_read.specs.Needs.{is_wait, in_first, has_words, cut}

alone : (words : List (List ℕ)) → joined (map (λ word. word ∷ []) words) ≡ words
alone [] = refl
alone (word ∷ words) = ap (λ (rest : List (List ℕ)). word ∷ rest) (alone words)

in_front : (word : List ℕ) (gs : List (List (List ℕ))) → joined (in_first word gs) ≡ word ∷ joined gs
in_front word [] = refl
in_front word (group ∷ gs) = refl

cut_words : (words : List (List ℕ)) → joined (cut words) ≡ filter (λ word. not (is_wait word)) words
unfolding cut
cut_words [] = refl
cut_words (word ∷ words) =
    elim (cases_Bool (is_wait word)) [
      | inl t ↦ rw t (cut_words words)
      | inr f ↦ rw f (in_front word (cut words) ∙ ap (λ (rest : List (List ℕ)). word ∷ rest) (cut_words words))
    ]

not_empty : (gs : List (List (List ℕ))) → joined (filter has_words gs) ≡ joined gs
not_empty [] = refl
not_empty ([] ∷ gs) = not_empty gs
not_empty ((word ∷ group) ∷ gs) = ap (λ (rest : List (List ℕ)). (word ∷ group) ++ rest) (not_empty gs)

pub groups_keep_their_words : GroupsKeepTheirWords
groups_keep_their_words true words = alone (filter (λ word. not (is_wait word)) words)
groups_keep_their_words false words = not_empty (cut words) ∙ cut_words words
