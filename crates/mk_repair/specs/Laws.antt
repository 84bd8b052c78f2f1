-- Laws about the lines that say words.
use Rattle.std.specs.Prelude.{◌≡◌, ◌≤◌, ◌⊎◌, ℕ, List, codes, length}
use Rattle.mk_graph.specs.Membership.{Has}
use Rattle.mk_repair.specs.Word.{Word, needs, phony}
use Rattle.mk_repair.specs.Lines.{Line, lines, max_bytes, spaced}

-- One of the lines for the words gives the target the prerequisite.
pub record Says (words : List Word) (target prerequisite : List ℕ) : Type 0 where
  pub line : Line
  pub among : Has (lines words) line
  pub has_target : Has line.targets target
  pub has_prerequisite : Has line.prerequisites prerequisite

-- Each word stands on a line: a target with its prerequisite, a phony target with `.PHONY`.
abbrev pub EachWordStands : Type 0
EachWordStands =
    ((words : List Word) (target prerequisite : List ℕ) → Has words (needs target prerequisite) →
    Says words target prerequisite) ×
    ((words : List Word) (target : List ℕ) → Has words (phony target) →
    Says words (codes ".PHONY") target)

-- A line gives a target a prerequisite only by a word: that the target needs it, or, for `.PHONY`,
-- that it is phony.
abbrev pub OnlyWordsStand : Type 0
OnlyWordsStand =
    (words : List Word) (line : Line) → Has (lines words) line → (target prerequisite : List ℕ) →
    Has line.targets target → Has line.prerequisites prerequisite →
    Has words (needs target prerequisite) ⊎
    ((codes ".PHONY" ≡ target) × Has words (phony prerequisite))

-- The names have at most 2,000 bytes with a space between, or there is one alone.
abbrev pub Fit : List (List ℕ) → Type 0
Fit names = (length (spaced names) ≤ max_bytes) ⊎ (length names ≡ 1)

-- The targets of each line fit, and so do its prerequisites.
abbrev pub LinesFit : Type 0
LinesFit =
    (words : List Word) (line : Line) → Has (lines words) line →
    Fit line.targets × Fit line.prerequisites
