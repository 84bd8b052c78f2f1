-- Values gathered by keys.
use Rattle.std.specs.Prelude.{Bool, List, [], ◌∷◌, ◌++◌, fold, map, if◌then◌else◌}

-- The rows with a value at the end of the row of its key; a new key has a new row at the end.
abbrev pub with_value : {K V : Type 0} → (K → K → Bool) → List (K × List V) → K → V →
    List (K × List V)
with_value same [] key value = (key, value ∷ []) ∷ []
with_value same (row ∷ rows) key value =
    if same key row.0 then (row.0, row.1 ++ value ∷ []) ∷ rows
    else row ∷ with_value same rows key value

-- The rows with the values of these pairs added in turn.
abbrev pub with_values : {K V : Type 0} → (K → K → Bool) → List (K × List V) → List (K × V) →
    List (K × List V)
with_values same rows pairs = fold (λ rows pair. with_value same rows pair.0 pair.1) rows pairs

-- The values of each key, in their order; the keys in the order in which each first stands.
abbrev pub gathered : {K V : Type 0} → (K → K → Bool) → List (K × V) → List (K × List V)
gathered same pairs = with_values same [] pairs

-- The pairs, each turned round.
abbrev pub turned : {A B : Type 0} → List (A × B) → List (B × A)
turned pairs = map (λ pair. (pair.1, pair.0)) pairs
