-- Tables of the writers of files.
use Rattle.std.specs.Prelude.{ℕ, List, [], unwrap_or}
use Rattle.std.specs.Borrow.{Bor}
use Rattle.std.specs.Str.{bytes_eq}
use Rattle.indexmap.specs.IndexMap.{IndexMap, get_by}

-- The numbers that a table has for a file; none if the file isn't in it.
abbrev pub numbers_at : {S : Type 0} → IndexMap (Bor (List ℕ)) (List ℕ) S → List ℕ → List ℕ
numbers_at table name = unwrap_or (get_by (λ k. bytes_eq name k.now) table) []
