-- Names cut into pieces, over the texts of the pieces.
use Rattle.std.proofs.Common.{◌≡◌, ℕ, ◌+◌, Bool, true, false, cond, List, [], ◌∷◌, ◌++◌, length, map, nat_le, refl, sym, ap, ◌∙◌, arith}
use Rattle.std.specs.List.{flat_map}
use Rattle.std.proofs.lemmas.List.{append_assoc, append-nil, length-append}
use Rattle.std.proofs.lemmas.List.Concat.{flat_map-append}
use Rattle.mk_repair.specs.Lines.{spaced, pieces, pieces_from}

-- the texts of the pieces, where the piece that was begun has this text
abbrev pub texts_from : List ℕ → List (List ℕ) → List (List ℕ)
texts_from text [] = text ∷ []
texts_from text (name ∷ names) = cond (nat_le (length text + (length name + 1)) 2000) (texts_from (text ++ 32 ∷ name) names) (text ∷ texts_from name names)

-- the text of a piece with one more name
spaced_push : (first : List ℕ) (others : List (List ℕ)) (name : List ℕ) → spaced (first ∷ (others ++ name ∷ [])) ≡ spaced (first ∷ others) ++ 32 ∷ name
spaced_push first others name =
    let f : List ℕ → List ℕ = λ other. 32 ∷ other in
    ap (λ l. first ++ l) (flat_map-append f others (name ∷ []) ∙ ap (λ l. flat_map f others ++ (32 ∷ l)) (append-nil name)) ∙ sym (append_assoc first (flat_map f others) (32 ∷ name))

-- the texts of the pieces of names
pub piece_texts : (first : List ℕ) (others names : List (List ℕ)) → map spaced (pieces_from (first ∷ others) names) ≡ texts_from (spaced (first ∷ others)) names
piece_texts first others [] = refl
piece_texts first others (name ∷ names) =
    at (nat_le (length (spaced (first ∷ (others ++ name ∷ [])))) 2000) (nat_le (length (spaced (first ∷ others)) + (length name + 1)) 2000)
    (ap (λ n. nat_le n 2000) (ap length (spaced_push first others name) ∙ longer (spaced (first ∷ others)) name))
    (piece_texts first (others ++ name ∷ []) names ∙ ap (λ text. texts_from text names) (spaced_push first others name))
    (piece_texts name [] names ∙ ap (λ text. texts_from text names) (append-nil name))
  where
    longer : (text name : List ℕ) → length (text ++ 32 ∷ name) ≡ length text + (length name + 1)
    longer text name = omega (arith, length-append text (32 ∷ name))

    at : (b c : Bool) → b ≡ c → map spaced (pieces_from (first ∷ (others ++ name ∷ [])) names) ≡ texts_from (spaced (first ∷ others) ++ 32 ∷ name) names → map spaced (pieces_from (name ∷ []) names) ≡ texts_from name names
        → map spaced (cond b (pieces_from (first ∷ (others ++ name ∷ [])) names) ((first ∷ others) ∷ pieces_from (name ∷ []) names)) ≡ cond c (texts_from (spaced (first ∷ others) ++ 32 ∷ name) names) (spaced (first ∷ others) ∷ texts_from name names)
    at true true e more new = more
    at true false e more new = absurd cc
    at false true e more new = absurd cc
    at false false e more new = ap (λ rest. spaced (first ∷ others) ∷ rest) new

-- the texts of the pieces of a list that isn't empty
pub all_texts : (first : List ℕ) (names : List (List ℕ)) → map spaced (pieces (first ∷ names)) ≡ texts_from first names
all_texts first names = piece_texts first [] names ∙ ap (λ text. texts_from text names) (append-nil first)
