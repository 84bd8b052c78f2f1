-- Words that are read as names, one after another.
use Rattle.std.proofs.Common.{◌≡◌, ℕ, ◌+◌, ◌<◌, ◌≤◌, List, [], ◌∷◌, ◌++◌, map, length, get_or, drop, Result, Ok, Err, inl, inr, refl, sym, ap, ◌∙◌, append-nil}
use Rattle.std.proofs.lemmas.List.{drop_more, drop_all}
use Rattle.mk_read.specs.declared.fault.ReadFault.{ReadFault}
use Rattle.mk_read.specs.declared.fault.Place.{Place}
use Rattle.mk_read.specs.Steps.{◌>>=◌, Fails}
use Rattle.mk_read.specs.Names.{name_of, names_of}
use Rattle.mk_read_parse.proofs.WithFront.{with_front, with_front_more}

-- a first word that is a name
names_first : (place : Place) (word name : List ℕ) (rest : List (List ℕ)) → name_of place word ≡ Ok name → names_of place (word ∷ rest) ≡ with_front (name ∷ []) (names_of place rest)
unfolding names_of
names_first place word name rest e = rw e (tail (names_of place rest))
  where
    tail : (r : Result (List (List ℕ)) ReadFault) → (r >>= λ names. Ok (name ∷ names)) ≡ with_front (name ∷ []) r
    tail (Ok names) = refl
    tail (Err fault) = refl

module _ {A : Type 0} (view : A → List ℕ) (place : Place) (front : List (List ℕ)) (words : List A) (i : ℕ) where
  -- one word more
  pub names_more : (d : A) (name : List ℕ) (whole : Result (List (List ℕ)) ReadFault) → name_of place (view (get_or words i d)) ≡ Ok name → with_front front (names_of place (map view (drop i words))) ≡ whole → i < length words
      → with_front (front ++ name ∷ []) (names_of place (map view (drop (i + 1) words))) ≡ whole
  names_more d name whole e so_far lt =
      sym (with_front_more front name (names_of place (map view (drop (i + 1) words))))
      ∙ (ap (with_front front) (sym (ap (λ ws. names_of place (map view ws)) (drop_more words i d lt) ∙ names_first place (view (get_or words i d)) name (map view (drop (i + 1) words)) e)) ∙ so_far)

  -- a word that is none
  pub names_fail : (d : A) (fault : ReadFault) (whole : Result (List (List ℕ)) ReadFault) → Fails fault (name_of place (view (get_or words i d))) → with_front front (names_of place (map view (drop i words))) ≡ whole → i < length words → Fails fault whole
  unfolding names_of
  names_fail d fault whole (inl memory) so_far lt = inl memory
  names_fail d fault whole (inr e) so_far lt =
      let first : names_of place (map view (drop i words)) ≡ Err fault = ap (λ ws. names_of place (map view ws)) (drop_more words i d lt) ∙ rw e refl in
      inr (sym so_far ∙ ap (with_front front) first)

  -- no word more
  pub names_end : (whole : Result (List (List ℕ)) ReadFault) → with_front front (names_of place (map view (drop i words))) ≡ whole → length words ≤ i → whole ≡ Ok front
  unfolding names_of
  names_end whole so_far le =
      let last : names_of place (map view (drop i words)) ≡ Ok [] = ap (λ ws. names_of place (map view ws)) (drop_all i words le) in
      sym so_far ∙ (ap (with_front front) last ∙ ap (λ (xs : List (List ℕ)). Ok xs) (append-nil front))
