-- Names in sentences.
use Rattle.std.specs.Prelude.{ℕ, List, [], ◌∷◌, ◌++◌, codes, length, nat_lt, if◌then◌else◌}
use Rattle.std.specs.Fmt.{decimal}

-- The names as a sentence has them: one, two, or two and how many more there are.
abbrev pub shown : List (List ℕ) → List ℕ
shown [] = []
shown (name ∷ []) = name
shown (first ∷ second ∷ []) = first ++ (codes " and " ++ second)
shown (first ∷ second ∷ third ∷ others) =
    first ++ (codes ", " ++ (second ++ (codes " and " ++
    (decimal (length (third ∷ others)) ++ codes " more"))))

-- The singular form if there is one name, else the plural.
unfoldable pub by : List (List ℕ) → (one many : List ℕ) → List ℕ
by names one many = if nat_lt (length names) 2 then one else many
