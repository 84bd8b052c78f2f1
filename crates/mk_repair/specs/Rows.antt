-- What contracts see of the code's tables of rows.
use Rattle.std.specs.Prelude.{ℕ, List, map}
use Rattle.std.specs.Borrow.{Bor}
use Rattle.std.specs.declared.vec.Vec.{Vec}
use Rattle.std.specs.declared.alloc.Global.{Global}

-- The rows of a table, as its entries have them.
abbrev pub table_rows : {K V : Type 0} → List (K × Vec V Global) → List (K × List V)
table_rows entries = map (λ entry. (entry.0, entry.1.items)) entries

-- The names that borrowed names stand for.
abbrev pub names_view : List (Bor (List ℕ)) → List (List ℕ)
names_view names = map (λ name. name.now) names

-- The rows of a table with a target as key.
abbrev pub rows_view : List (Bor (List ℕ) × Vec (Bor (List ℕ)) Global) →
    List (List ℕ × List (List ℕ))
rows_view entries = map (λ row. (row.0.now, names_view row.1)) (table_rows entries)

-- The rows of a table with a list of prerequisites as key.
abbrev pub groups_view : List (Bor (List (Bor (List ℕ))) × Vec (Bor (List ℕ)) Global) →
    List (List (List ℕ) × List (List ℕ))
groups_view entries =
    map (λ row. (names_view row.0.now, names_view row.1)) (table_rows entries)
