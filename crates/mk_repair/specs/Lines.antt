-- The lines of a makefile that say words.
use Rattle.std.specs.Prelude.{ℕ, Bool, List, [], ◌∷◌, ◌++◌, codes, length, map, nat_le, if◌then◌else◌}
use Rattle.std.specs.Cmp.Lexicographic.{pointwise}
use Rattle.std.specs.List.{flat_map}
use Rattle.std.specs.Str.{bytes_eq}
use Rattle.mk_repair.specs.Word.{Word, needs, phony}
use Rattle.mk_repair.specs.Gathering.{gathered, turned}

-- The targets that the words say are phony.
abbrev pub phony_targets : List Word → List (List ℕ)
phony_targets [] = []
phony_targets (needs target prerequisite ∷ words) = phony_targets words
phony_targets (phony target ∷ words) = target ∷ phony_targets words

-- The pairs of a target and a prerequisite that the words say it needs.
abbrev pub needed_pairs : List Word → List (List ℕ × List ℕ)
needed_pairs [] = []
needed_pairs (needs target prerequisite ∷ words) = (target, prerequisite) ∷ needed_pairs words
needed_pairs (phony target ∷ words) = needed_pairs words

-- Whether two lists of names are equal.
abbrev pub names_eq : List (List ℕ) → List (List ℕ) → Bool
names_eq = pointwise bytes_eq

-- Each target that lacks prerequisites, with these.
abbrev pub lacking : List Word → List (List ℕ × List (List ℕ))
lacking words = gathered bytes_eq (needed_pairs words)

-- Each list of prerequisites, with the targets that lack just this list.
abbrev pub grouped : List (List ℕ × List (List ℕ)) → List (List (List ℕ) × List (List ℕ))
grouped rows = gathered names_eq (turned rows)

-- The names with a space between.
abbrev pub spaced : List (List ℕ) → List ℕ
spaced [] = []
spaced (name ∷ names) = name ++ flat_map (λ other. codes " " ++ other) names

-- The most bytes of targets, or of prerequisites, on a line.
abbrev pub max_bytes : ℕ
max_bytes = 2000

-- A piece that is followed by names, cut where one more name would make it too long.
abbrev pub pieces_from : List (List ℕ) → List (List ℕ) → List (List (List ℕ))
pieces_from piece [] = piece ∷ []
pieces_from piece (name ∷ names) =
    if nat_le (length (spaced (piece ++ name ∷ []))) max_bytes
    then pieces_from (piece ++ name ∷ []) names else piece ∷ pieces_from (name ∷ []) names

-- The names cut into as few pieces as fit; a name that is too long is a piece of its own.
abbrev pub pieces : List (List ℕ) → List (List (List ℕ))
pieces [] = []
pieces (name ∷ names) = pieces_from (name ∷ []) names

-- A line: its targets and its prerequisites.
pub record Line : Type 0 where
  pub targets : List (List ℕ)
  pub prerequisites : List (List ℕ)

-- A line of these targets for each piece of the prerequisites.
abbrev pub lines_with : List (List ℕ) → List (List (List ℕ)) → List Line
lines_with targets parts =
    map (λ part. record { targets = targets; prerequisites = part }) parts

-- The lines that give all of the targets all of the prerequisites: one for each piece of the
-- targets and each piece of the prerequisites.
abbrev pub lines_between : List (List ℕ) → List (List ℕ) → List Line
lines_between targets prerequisites =
    flat_map (λ part. lines_with part (pieces prerequisites)) (pieces targets)

-- The lines that say which targets are phony.
abbrev pub phony_lines : List Word → List Line
phony_lines words = lines_between (codes ".PHONY" ∷ []) (phony_targets words)

-- The lines that say which targets need which prerequisites, group by group.
abbrev pub needs_lines : List Word → List Line
needs_lines words = flat_map (λ group. lines_between group.1 group.0) (grouped (lacking words))

-- The lines that say the words.
abbrev pub lines : List Word → List Line
lines words = phony_lines words ++ needs_lines words

-- The text of a line, from those of its targets and of its prerequisites.
abbrev pub line_with : (targets prerequisites : List ℕ) → List ℕ
line_with targets prerequisites = targets ++ (codes ": " ++ (prerequisites ++ codes "\n"))

-- The text of a line.
abbrev pub line_text : Line → List ℕ
line_text line = line_with (spaced line.targets) (spaced line.prerequisites)

-- The text of the lines that say the words.
abbrev pub lines_text : List Word → List ℕ
lines_text words = flat_map line_text (lines words)
