-- Which lines stand for words.
use Rattle.std.proofs.Common.{◌≡◌, ℕ, ◌⊎◌, inl, inr, List, [], ◌∷◌, codes, refl, sym, ap, subst}
use Rattle.std.specs.Str.{bytes_eq}
use Rattle.std.proofs.lemmas.Slice.Eq.{bytes_eq-Decides, slice_eq-Decides}
use Rattle.mk_lemmas.proofs.Members.{Has-cases, Has-flat_map, Has-from_flat_map, Has-from_map, Has-left, Has-map, Has-right}
use Rattle.mk_graph.specs.Membership.{Has}
use Rattle.mk_repair.specs.Word.{Word, needs, phony}
use Rattle.mk_repair.specs.Gathering.{turned}
use Rattle.mk_repair.specs.Lines.{Line, lines, lines_between, lines_with, phony_lines, needs_lines, phony_targets, needed_pairs, lacking, grouped, names_eq, pieces}
use Rattle.mk_repair.specs.Laws.{Says, Fit}
use Rattle.mk_repair.proofs.HeldRows.{Holds, each_held, values_from}
use Rattle.mk_repair.proofs.CutPieces.{each_cut, each_fits, only_cut}

-- the names of a word, as a pair
names_of : Word → List ℕ × List ℕ
names_of (needs target prerequisite) = (target, prerequisite)
names_of (phony target) = (target, [])

-- a word of a need gives a pair
pair_there : (words : List Word) (t p : List ℕ) → Has words (needs t p) → Has (needed_pairs words) (t, p)
unfolding names_of
pair_there [] t p h = absurd h
pair_there (needs u q ∷ words) t p (inl e) = inl (ap names_of e)
pair_there (needs u q ∷ words) t p (inr there) = inr (pair_there words t p there)
pair_there (phony u ∷ words) t p (inl e) = absurd cc
pair_there (phony u ∷ words) t p (inr there) = pair_there words t p there

-- a word of a phony target gives the target
target_there : (words : List Word) (t : List ℕ) → Has words (phony t) → Has (phony_targets words) t
unfolding names_of
target_there [] t h = absurd h
target_there (needs u q ∷ words) t (inl e) = absurd cc
target_there (needs u q ∷ words) t (inr there) = target_there words t there
target_there (phony u ∷ words) t (inl e) = inl (ap (λ (w : Word). (names_of w).0) e)
target_there (phony u ∷ words) t (inr there) = inr (target_there words t there)

-- one of the lines gives the target the prerequisite
abbrev IsGiven : List Line → (target prerequisite : List ℕ) → Type 0
IsGiven found t p = (line : Line) × Has found line × Has line.targets t × Has line.prerequisites p

-- the lines between lists
between_given : (targets prerequisites : List (List ℕ)) (t p : List ℕ) → Has targets t → Has prerequisites p → IsGiven (lines_between targets prerequisites) t p
between_given targets prerequisites t p in_targets in_prerequisites =
    let piece = each_cut targets t in_targets in
    let part = each_cut prerequisites p in_prerequisites in
    let line : Line = record { targets = piece.0; prerequisites = part.0 } in
    (line, Has-flat_map (λ names. lines_with names (pieces prerequisites)) (pieces targets) piece.0 line piece.1 (Has-map (λ (names : List (List ℕ)). record { targets = piece.0; prerequisites = names }) (pieces prerequisites) part.0 part.1), piece.2, part.2)

-- each phony target stands on a line
pub phony_stands : (words : List Word) (target : List ℕ) → Has words (phony target) → Says words (codes ".PHONY") target
phony_stands words target h =
    let found = between_given (codes ".PHONY" ∷ []) (phony_targets words) (codes ".PHONY") target (inl refl) (target_there words target h) in
    record { line = found.0; among = Has-left (phony_lines words) (needs_lines words) found.0 found.1; has_target = found.2; has_prerequisite = found.3 }

-- each need stands on a line
pub needed_stands : (words : List Word) (target prerequisite : List ℕ) → Has words (needs target prerequisite) → Says words target prerequisite
needed_stands words target prerequisite h =
    let row = each_held bytes_eq (λ x y. (bytes_eq-Decides x y).0) [] (needed_pairs words) target prerequisite (pair_there words target prerequisite h) in
    let turn = Has-map (λ (r : List ℕ × List (List ℕ)). (r.1, r.0)) (lacking words) row.row row.among in
    let group = each_held names_eq (λ x y e. (slice_eq-Decides bytes_eq-Decides x y (names_eq x y) refl).0 e) [] (turned (lacking words)) row.row.1 row.row.0 turn in
    let in_targets = subst (Has group.row.1) row.keyed group.held in
    let in_prerequisites = subst (λ (names : List (List ℕ)). Has names prerequisite) (sym group.keyed) row.held in
    let found = between_given group.row.1 group.row.0 target prerequisite in_targets in_prerequisites in
    let there = Has-flat_map (λ (g : List (List ℕ) × List (List ℕ)). lines_between g.1 g.0) (grouped (lacking words)) group.row found.0 group.among found.1 in
    record { line = found.0; among = Has-right (phony_lines words) (needs_lines words) found.0 there; has_target = found.2; has_prerequisite = found.3 }

-- the lines between lists fit
between_fits : (targets prerequisites : List (List ℕ)) (line : Line) → Has (lines_between targets prerequisites) line → Fit line.targets × Fit line.prerequisites
between_fits targets prerequisites line h =
    let piece = Has-from_flat_map (λ names. lines_with names (pieces prerequisites)) (pieces targets) line h in
    let part = Has-from_map (λ (names : List (List ℕ)). record { targets = piece.0; prerequisites = names }) (pieces prerequisites) line piece.2 in
    (subst (λ (l : Line). Fit l.targets) part.2 (each_fits targets piece.0 piece.1), subst (λ (l : Line). Fit l.prerequisites) part.2 (each_fits prerequisites part.0 part.1))

-- all lines fit
pub lines_fit : (words : List Word) (line : Line) → Has (lines words) line → Fit line.targets × Fit line.prerequisites
lines_fit words line h =
    elim (Has-cases (phony_lines words) (needs_lines words) line h) [
      | inl here ↦ between_fits (codes ".PHONY" ∷ []) (phony_targets words) line here
      | inr there ↦ (let group = Has-from_flat_map (λ (g : List (List ℕ) × List (List ℕ)). lines_between g.1 g.0) (grouped (lacking words)) line there in between_fits group.0.1 group.0.0 line group.2)
    ]

-- a pair comes from a word
pair_from : (words : List Word) (t p : List ℕ) → Has (needed_pairs words) (t, p) → Has words (needs t p)
pair_from [] t p h = absurd h
pair_from (needs u q ∷ words) t p (inl e) = inl (ap (λ (pair : List ℕ × List ℕ). needs pair.0 pair.1) e)
pair_from (needs u q ∷ words) t p (inr there) = inr (pair_from words t p there)
pair_from (phony u ∷ words) t p h = inr (pair_from words t p h)

-- a phony target comes from a word
target_from : (words : List Word) (t : List ℕ) → Has (phony_targets words) t → Has words (phony t)
target_from [] t h = absurd h
target_from (needs u q ∷ words) t h = inr (target_from words t h)
target_from (phony u ∷ words) t (inl e) = inl (ap phony e)
target_from (phony u ∷ words) t (inr there) = inr (target_from words t there)

-- nothing stands in no rows
no_rows : {A K V : Type 0} (key : K) (value : V) → A ⊎ Holds [] key value → A
no_rows key value (inl found) = found
no_rows key value (inr held) = absurd held.among

-- a line between lists has their names only
between_from : (targets prerequisites : List (List ℕ)) (line : Line) (t p : List ℕ) → Has (lines_between targets prerequisites) line → Has line.targets t → Has line.prerequisites p → Has targets t × Has prerequisites p
between_from targets prerequisites line t p h in_targets in_prerequisites =
    let piece = Has-from_flat_map (λ names. lines_with names (pieces prerequisites)) (pieces targets) line h in
    let part = Has-from_map (λ (names : List (List ℕ)). record { targets = piece.0; prerequisites = names }) (pieces prerequisites) line piece.2 in
    (only_cut targets piece.0 t piece.1 (subst (λ (l : Line). Has l.targets t) (sym part.2) in_targets), only_cut prerequisites part.0 p part.1 (subst (λ (l : Line). Has l.prerequisites p) (sym part.2) in_prerequisites))

-- a group comes from words
group_from : (words : List Word) (group : List (List ℕ) × List (List ℕ)) (t p : List ℕ) → Has (grouped (lacking words)) group → Has group.1 t → Has group.0 p → Has words (needs t p)
group_from words group t p there in_targets in_prerequisites =
    let turn = no_rows group.0 t (values_from names_eq (λ x y e. (slice_eq-Decides bytes_eq-Decides x y (names_eq x y) refl).0 e) [] (turned (lacking words)) group t there in_targets) in
    let row = Has-from_map (λ (r : List ℕ × List (List ℕ)). (r.1, r.0)) (lacking words) (group.0, t) turn in
    let in_row : Has row.0.1 p = subst (λ (pair : List (List ℕ) × List ℕ). Has pair.0 p) (sym row.2) in_prerequisites in
    let pair = no_rows row.0.0 p (values_from bytes_eq (λ x y. (bytes_eq-Decides x y).0) [] (needed_pairs words) row.0 p row.1 in_row) in
    pair_from words t p (subst (λ (target : List ℕ). Has (needed_pairs words) (target, p)) (ap (λ (pair : List (List ℕ) × List ℕ). pair.1) row.2) pair)

-- only words stand on lines
pub only_words_stand : (words : List Word) (line : Line) → Has (lines words) line → (t p : List ℕ) → Has line.targets t → Has line.prerequisites p → Has words (needs t p) ⊎ ((codes ".PHONY" ≡ t) × Has words (phony p))
only_words_stand words line h t p in_targets in_prerequisites =
    elim (Has-cases (phony_lines words) (needs_lines words) line h) [
      | inl here ↦ (let both = between_from (codes ".PHONY" ∷ []) (phony_targets words) line t p here in_targets in_prerequisites in
          inr (alone both.0, target_from words p both.1))
      | inr there ↦ (let group = Has-from_flat_map (λ (g : List (List ℕ) × List (List ℕ)). lines_between g.1 g.0) (grouped (lacking words)) line there in
          let both = between_from group.0.1 group.0.0 line t p group.2 in_targets in_prerequisites in
          inl (group_from words group.0 t p group.1 both.0 both.1))
    ]
  where
    alone : Has (codes ".PHONY" ∷ []) t → codes ".PHONY" ≡ t
    alone (inl e) = e
    alone (inr none) = absurd none
