-- The text of lines, over the texts of their pieces.
use Rattle.std.proofs.Common.{◌≡◌, ℕ, List, [], ◌∷◌, ◌++◌, map, refl, sym, ap, ◌∙◌}
use Rattle.std.specs.List.{flat_map}
use Rattle.std.proofs.lemmas.List.Concat.{flat_map-append}
use Rattle.mk_lemmas.proofs.Lists.{flat_map-map}
use Rattle.mk_repair.specs.Lines.{Line, spaced, pieces, lines_with, lines_between, line_text, line_with, phony_lines, needs_lines, lines_text, grouped, lacking}
use Rattle.mk_repair.specs.Word.{Word}

-- the lines with one piece of targets
lines_of_part : (piece : List (List ℕ)) (parts : List (List (List ℕ))) → flat_map line_text (lines_with piece parts) ≡ flat_map (λ part. line_with (spaced piece) part) (map spaced parts)
lines_of_part piece [] = refl
lines_of_part piece (part ∷ parts) = ap (λ rest. line_with (spaced piece) (spaced part) ++ rest) (lines_of_part piece parts)

-- the lines with all pieces of targets
lines_of_parts : (parts targets : List (List (List ℕ))) → flat_map line_text (flat_map (λ piece. lines_with piece parts) targets) ≡ flat_map (λ piece. flat_map (λ part. line_with piece part) (map spaced parts)) (map spaced targets)
lines_of_parts parts [] = refl
lines_of_parts parts (piece ∷ targets) =
    flat_map-append line_text (lines_with piece parts) (flat_map (λ piece. lines_with piece parts) targets)
    ∙ (ap (λ rest. flat_map line_text (lines_with piece parts) ++ rest) (lines_of_parts parts targets) ∙ ap (λ here. here ++ flat_map (λ piece. flat_map (λ part. line_with piece part) (map spaced parts)) (map spaced targets)) (lines_of_part piece parts))

-- the same for each of several texts
flat_maps_seen : {A : Type 0} (see : A → List ℕ) (xs ys : List A) → flat_map (λ y. flat_map (λ x. line_with (see y) (see x)) xs) ys ≡ flat_map (λ piece. flat_map (λ part. line_with piece part) (map see xs)) (map see ys)
flat_maps_seen see xs [] = refl
flat_maps_seen see xs (y ∷ ys) =
    ap (λ here. here ++ flat_map (λ y. flat_map (λ x. line_with (see y) (see x)) xs) ys) (flat_map-map (λ part. line_with (see y) part) see xs) ∙ ap (λ rest. flat_map (λ part. line_with (see y) part) (map see xs) ++ rest) (flat_maps_seen see xs ys)

-- the text between texts of pieces
pub between : {A : Type 0} (see : A → List ℕ) (xs ys : List A) (targets prerequisites : List (List ℕ)) → map see xs ≡ map spaced (pieces prerequisites) → map see ys ≡ map spaced (pieces targets)
    → flat_map (λ y. flat_map (λ x. line_with (see y) (see x)) xs) ys ≡ flat_map line_text (lines_between targets prerequisites)
between see xs ys targets prerequisites e d =
    flat_maps_seen see xs ys
    ∙ (ap (λ parts. flat_map (λ piece. flat_map (λ part. line_with piece part) parts) (map see ys)) e
    ∙ (ap (λ heads. flat_map (λ piece. flat_map (λ part. line_with piece part) (map spaced (pieces prerequisites))) heads) d ∙ sym (lines_of_parts (pieces prerequisites) (pieces targets))))

-- the text of the lines of several groups
groups_text : {A : Type 0} (f : A → List Line) (gs : List A) → flat_map line_text (flat_map f gs) ≡ flat_map (λ g. flat_map line_text (f g)) gs
groups_text f [] = refl
groups_text f (g ∷ gs) = flat_map-append line_text (f g) (flat_map f gs) ∙ ap (λ rest. flat_map line_text (f g) ++ rest) (groups_text f gs)

-- the text of all lines
pub all_text : (words : List Word) (start phony all : List ℕ) → start ≡ [] → phony ≡ start ++ flat_map line_text (phony_lines words)
    → all ≡ phony ++ flat_map (λ (group : List (List ℕ) × List (List ℕ)). flat_map line_text (lines_between group.1 group.0)) (grouped (lacking words)) → all ≡ lines_text words
all_text words start phony all e d h =
    let groups = flat_map (λ (group : List (List ℕ) × List (List ℕ)). flat_map line_text (lines_between group.1 group.0)) (grouped (lacking words)) in
    let front = flat_map line_text (phony_lines words) in
    h ∙ (ap (λ l. l ++ groups) (d ∙ ap (λ l. l ++ front) e)
    ∙ (ap (λ l. front ++ l) (sym (groups_text (λ (group : List (List ℕ) × List (List ℕ)). lines_between group.1 group.0) (grouped (lacking words)))) ∙ sym (flat_map-append line_text (phony_lines words) (needs_lines words))))
