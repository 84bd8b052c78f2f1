-- The text of lines to add, over the texts of their pieces.
use Rattle.std.proofs.Common.{◌≡◌, ℕ, List, [], ◌∷◌, ◌++◌, map, refl, sym, ap, ◌∙◌}
use Rattle.std.specs.List.{flat_map}
use Rattle.std.proofs.lemmas.List.Concat.{flat_map-append}
use Rattle.mk_lemmas.proofs.Lists.{flat_map-map}
use Rattle.mk_repair.specs.Lines.{spaced, pieces, lines_with, lines_between}
use Rattle.mk_sentences.specs.Adding.{added_line, added_with}

-- the lines with one piece of targets
lines_of_part : (piece : List (List ℕ)) (parts : List (List (List ℕ))) → flat_map added_line (lines_with piece parts) ≡ flat_map (λ part. added_with (spaced piece) part) (map spaced parts)
lines_of_part piece [] = refl
lines_of_part piece (part ∷ parts) = ap (λ rest. added_with (spaced piece) (spaced part) ++ rest) (lines_of_part piece parts)

-- the lines with all pieces of targets
lines_of_parts : (parts targets : List (List (List ℕ))) → flat_map added_line (flat_map (λ piece. lines_with piece parts) targets) ≡ flat_map (λ piece. flat_map (λ part. added_with piece part) (map spaced parts)) (map spaced targets)
lines_of_parts parts [] = refl
lines_of_parts parts (piece ∷ targets) =
    flat_map-append added_line (lines_with piece parts) (flat_map (λ piece. lines_with piece parts) targets)
    ∙ (ap (λ rest. flat_map added_line (lines_with piece parts) ++ rest) (lines_of_parts parts targets) ∙ ap (λ here. here ++ flat_map (λ piece. flat_map (λ part. added_with piece part) (map spaced parts)) (map spaced targets)) (lines_of_part piece parts))

-- the same for each of several texts
flat_maps_seen : {A : Type 0} (see : A → List ℕ) (xs ys : List A) → flat_map (λ y. flat_map (λ x. added_with (see y) (see x)) xs) ys ≡ flat_map (λ piece. flat_map (λ part. added_with piece part) (map see xs)) (map see ys)
flat_maps_seen see xs [] = refl
flat_maps_seen see xs (y ∷ ys) =
    ap (λ here. here ++ flat_map (λ y. flat_map (λ x. added_with (see y) (see x)) xs) ys) (flat_map-map (λ part. added_with (see y) part) see xs) ∙ ap (λ rest. flat_map (λ part. added_with (see y) part) (map see xs) ++ rest) (flat_maps_seen see xs ys)

-- the text between texts of pieces
pub between : {A : Type 0} (see : A → List ℕ) (xs ys : List A) (targets prerequisites : List (List ℕ)) → map see xs ≡ map spaced (pieces prerequisites) → map see ys ≡ map spaced (pieces targets)
    → flat_map (λ y. flat_map (λ x. added_with (see y) (see x)) xs) ys ≡ flat_map added_line (lines_between targets prerequisites)
between see xs ys targets prerequisites e d =
    flat_maps_seen see xs ys
    ∙ (ap (λ parts. flat_map (λ piece. flat_map (λ part. added_with piece part) parts) (map see ys)) e
    ∙ (ap (λ heads. flat_map (λ piece. flat_map (λ part. added_with piece part) (map spaced (pieces prerequisites))) heads) d ∙ sym (lines_of_parts (pieces prerequisites) (pieces targets))))
