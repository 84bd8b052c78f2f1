-- Words that begin like one that isn't explained.
use Rattle.std.specs.Prelude.{ℕ, ◌==◌, Bool, false, ◌&&◌, List, [], ◌∷◌, ◌++◌, codes, fold, map, if◌then◌else◌}
use Rattle.std.specs.Char.{to_ascii_lowercase}
use Rattle.mk_explain.specs.declared.faults.TheConstants.{FAULTS}
use Rattle.mk_explain.specs.declared.findings.TheConstants.{FINDINGS}

-- The bytes are the same, whatever the case of letters.
abbrev pub same_letter : ℕ → ℕ → Bool
same_letter one other = to_ascii_lowercase one == to_ascii_lowercase other

-- The words have the same first three bytes, whatever the case of letters.
abbrev pub begin_alike : List ℕ → List ℕ → Bool
begin_alike (a ∷ b ∷ c ∷ rest) (d ∷ e ∷ f ∷ other) =
    same_letter a d && (same_letter b e && same_letter c f)
begin_alike one other = false

-- What stands between a text and a word that is appended.
abbrev pub comma : List ℕ → List ℕ
comma [] = []
comma (b ∷ text) = codes ", "

-- The text, and the word if it begins like the other one.
abbrev pub with_near : (what text word : List ℕ) → List ℕ
with_near what text word =
    if begin_alike what word then text ++ (comma text ++ word) else text

-- The text, and those of the words that begin like the other one.
abbrev pub with_nears : (what text : List ℕ) → List (List ℕ) → List ℕ
with_nears what text words = fold (with_near what) text words

-- The first words of findings and the names of faults that begin like this word, with commas
-- between them.
unfoldable pub near_text : List ℕ → List ℕ
near_text what =
    with_nears what (with_nears what [] (map (λ row. row.0.now) FINDINGS))
    (map (λ row. row.1.now) FAULTS)
