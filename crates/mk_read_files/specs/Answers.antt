-- What a reader has answered, and which maps fit that.
use Rattle.std.specs.Prelude.{◌≡◌, ◌⊎◌, ℕ, List, [], ◌∷◌, Option}
use Rattle.mk_read.specs.Files.{Told, text_at}

-- The answers of a reader, the last one first: each name that was asked for, with its text, or
-- without one where the file doesn't exist; and the names whose reads failed.
pub record Answers : Type 0 where
  pub found : List (List ℕ × Option (List ℕ))
  pub failed : List (List ℕ)

-- No answers.
abbrev pub no_answers : Answers
no_answers = record { found = []; failed = [] }

-- Each text that was answered is the map's text of that name, and a name that was answered as
-- missing has no text in the map.
abbrev pub Fits : List (List ℕ × Option (List ℕ)) → Told → Type 0
Fits [] told = Unit {0}
Fits ((name, found) ∷ given) told = (found ≡ text_at told name) × Fits given told

-- This is an answer for this name.
abbrev pub WasAnswered : List (List ℕ × Option (List ℕ)) → List ℕ → Option (List ℕ) → Type 0
WasAnswered [] asked answer = ⊥
WasAnswered ((name, found) ∷ given) asked answer =
    ((name ≡ asked) × (found ≡ answer)) ⊎ WasAnswered given asked answer

-- No name was answered in two ways.
abbrev pub IsSteady : List (List ℕ × Option (List ℕ)) → Type 0
IsSteady given =
    (name : List ℕ) (one other : Option (List ℕ)) →
    WasAnswered given name one → WasAnswered given name other → one ≡ other

-- If no name was answered in two ways, some map fits the answers.
abbrev pub SomeMapFits : Type 0
SomeMapFits =
    (given : List (List ℕ × Option (List ℕ))) → IsSteady given → (told : Told) × Fits given told
