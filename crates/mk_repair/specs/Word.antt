-- What a makefile lacks, word by word.
use Rattle.std.specs.Prelude.{ℕ, Bool, false, ◌&&◌, List, [], ◌∷◌, ◌++◌, if◌then◌else◌}
use Rattle.std.specs.List.{list_any}
use Rattle.std.specs.Str.{bytes_eq}

-- A word: the target needs the prerequisite, or the target is phony.
pub data Word : Type 0 where
  needs : (target prerequisite : List ℕ) → Word
  phony : (target : List ℕ) → Word

-- Whether two words are equal.
abbrev pub word_eq : Word → Word → Bool
word_eq (needs t p) (needs u q) = bytes_eq t u && bytes_eq p q
word_eq (needs t p) (phony u) = false
word_eq (phony t) (needs u q) = false
word_eq (phony t) (phony u) = bytes_eq t u

-- The word is in the list.
abbrev pub has_word : List Word → Word → Bool
has_word words word = list_any (word_eq word) words

-- The words with one more at the end, unless they have it already.
abbrev pub with_word : List Word → Word → List Word
with_word words word = if has_word words word then words else words ++ word ∷ []
