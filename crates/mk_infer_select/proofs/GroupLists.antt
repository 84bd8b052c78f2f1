-- Groups of numbers, cut out of words.
use Rattle.std.proofs.Common.{◌≡◌, ℕ, ◌+◌, ◌<◌, ◌≤◌, true, false, List, [], ◌∷◌, ◌++◌, map, length, get_or, drop, refl, sym, ap, ◌∙◌, append_assoc, append-nil}
use Rattle.std.specs.Prelude.{filter}
use Rattle.std.specs.Borrow.{Bor}
use Rattle.std.proofs.lemmas.List.{drop_more, drop_all}
use Rattle.mk_lemmas.proofs.Texts.{texts}
use Rattle.mk_read.specs.Needs.{is_wait, in_first, has_words, cut, groups}
use Rattle.mk_lines.specs.Names.{number_of}
use Rattle.mk_infer.specs.Selection.{in_node_numbers}
use Rattle.mk_infer_select.specs.Walked.{has_numbers}

-- numbers at the front of the first group
abbrev pub onto : List ℕ → List (List ℕ) → List (List ℕ)
onto front [] = front ∷ []
onto front (group ∷ groups) = (front ++ group) ∷ groups

-- the groups that are closed, and those of the words that are left, of which the first has begun
abbrev pub with_left : List (List ℕ) → List (List ℕ) → List ℕ → List (List ℕ) → List (List ℕ)
with_left all closed group words = closed ++ filter has_numbers (onto group (in_node_numbers all (cut words)))

onto_onto : (front more : List ℕ) (gs : List (List ℕ)) → onto front (onto more gs) ≡ onto (front ++ more) gs
onto_onto front more [] = refl
onto_onto front more (group ∷ gs) = ap (λ (g : List ℕ). g ∷ gs) (sym (append_assoc front more group))

onto_none : (gs : List (List ℕ)) → filter has_numbers (onto [] gs) ≡ filter has_numbers gs
onto_none [] = refl
onto_none (group ∷ gs) = refl

number_first : (all : List (List ℕ)) (word : List ℕ) (gs : List (List (List ℕ))) → in_node_numbers all (in_first word gs) ≡ onto (number_of all word ∷ []) (in_node_numbers all gs)
number_first all word [] = refl
number_first all word (group ∷ gs) = refl

-- those that have words have numbers
full_groups : (all : List (List ℕ)) (gs : List (List (List ℕ))) → filter has_numbers (in_node_numbers all gs) ≡ in_node_numbers all (filter has_words gs)
full_groups all [] = refl
full_groups all ([] ∷ gs) = full_groups all gs
full_groups all ((word ∷ group) ∷ gs) = ap (λ (ns : List (List ℕ)). map (number_of all) (word ∷ group) ∷ ns) (full_groups all gs)

pub at_first : (all words : List (List ℕ)) → with_left all [] [] words ≡ in_node_numbers all (groups false words)
at_first all words = onto_none (in_node_numbers all (cut words)) ∙ full_groups all (cut words)

one_filtered : (group : List ℕ) (gs : List (List ℕ)) → filter has_numbers (group ∷ gs) ≡ filter has_numbers (group ∷ []) ++ filter has_numbers gs
one_filtered [] gs = refl
one_filtered (n ∷ ns) gs = refl

-- a group is closed
closes : (all closed : List (List ℕ)) (group : List ℕ) (word : List ℕ) (rest : List (List ℕ)) → is_wait word ≡ true → with_left all closed group (word ∷ rest) ≡ with_left all (closed ++ filter has_numbers (group ∷ [])) [] rest
unfolding cut
closes all closed group word rest t =
    let ended : onto group (in_node_numbers all (cut (word ∷ rest))) ≡ group ∷ in_node_numbers all (cut rest) = rw t (ap (λ (g : List ℕ). g ∷ in_node_numbers all (cut rest)) (append-nil group)) in
    ap (λ (gs : List (List ℕ)). closed ++ filter has_numbers gs) ended
    ∙ (ap (λ (gs : List (List ℕ)). closed ++ gs) (one_filtered group (in_node_numbers all (cut rest)) ∙ ap (λ (gs : List (List ℕ)). filter has_numbers (group ∷ []) ++ gs) (sym (onto_none (in_node_numbers all (cut rest)))))
    ∙ sym (append_assoc closed (filter has_numbers (group ∷ [])) (filter has_numbers (onto [] (in_node_numbers all (cut rest))))))

-- a group has a name more
grows : (all closed : List (List ℕ)) (group : List ℕ) (word : List ℕ) (rest : List (List ℕ)) → is_wait word ≡ false → with_left all closed group (word ∷ rest) ≡ with_left all closed (group ++ number_of all word ∷ []) rest
unfolding cut
grows all closed group word rest f =
    let more : onto group (in_node_numbers all (cut (word ∷ rest))) ≡ onto (group ++ number_of all word ∷ []) (in_node_numbers all (cut rest)) =
    rw f (ap (onto group) (number_first all word (cut rest)) ∙ onto_onto group (number_of all word ∷ []) (in_node_numbers all (cut rest))) in
    ap (λ (gs : List (List ℕ)). closed ++ filter has_numbers gs) more

pub left_closes : (all closed after : List (List ℕ)) (group : List ℕ) (words : List (Bor (List ℕ))) (i : ℕ) (d : Bor (List ℕ)) (whole : List (List ℕ)) → is_wait (get_or words i d).now ≡ true → after ≡ closed ++ filter has_numbers (group ∷ [])
    → with_left all closed group (texts (drop i words)) ≡ whole → i < length words → with_left all after [] (texts (drop (i + 1) words)) ≡ whole
left_closes all closed after group words i d whole t is h lt =
    ap (λ (gs : List (List ℕ)). with_left all gs [] (texts (drop (i + 1) words))) is
    ∙ (sym (ap (λ (ws : List (Bor (List ℕ))). with_left all closed group (texts ws)) (drop_more words i d lt) ∙ closes all closed group (get_or words i d).now (texts (drop (i + 1) words)) t) ∙ h)

pub left_grows : (all closed : List (List ℕ)) (group after : List ℕ) (words : List (Bor (List ℕ))) (i n : ℕ) (d : Bor (List ℕ)) (whole : List (List ℕ)) → is_wait (get_or words i d).now ≡ false → after ≡ group ++ n ∷ [] → n ≡ number_of all (get_or words i d).now
    → with_left all closed group (texts (drop i words)) ≡ whole → i < length words → with_left all closed after (texts (drop (i + 1) words)) ≡ whole
left_grows all closed group after words i n d whole f is number h lt =
    ap (λ (g : List ℕ). with_left all closed g (texts (drop (i + 1) words))) (is ∙ ap (λ (m : ℕ). group ++ m ∷ []) number)
    ∙ (sym (ap (λ (ws : List (Bor (List ℕ))). with_left all closed group (texts ws)) (drop_more words i d lt) ∙ grows all closed group (get_or words i d).now (texts (drop (i + 1) words)) f) ∙ h)

pub left_ends : (all closed after : List (List ℕ)) (group : List ℕ) (words : List (Bor (List ℕ))) (i : ℕ) (whole : List (List ℕ)) → after ≡ closed ++ filter has_numbers (group ∷ [])
    → with_left all closed group (texts (drop i words)) ≡ whole → length words ≤ i → after ≡ whole
unfolding cut
left_ends all closed after group words i whole is h le =
    is ∙ (sym (ap (λ (ws : List (Bor (List ℕ))). with_left all closed group (texts ws)) (drop_all i words le)) ∙ h)

-- names in groups of their own
pub single_numbered : (all names : List (List ℕ)) → in_node_numbers all (map (λ name. name ∷ []) names) ≡ map (λ name. number_of all name ∷ []) names
single_numbered all [] = refl
single_numbered all (name ∷ names) = ap (λ (ns : List (List ℕ)). (number_of all name ∷ []) ∷ ns) (single_numbered all names)
