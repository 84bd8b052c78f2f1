-- What contracts see of the code's tables.
use Rattle.std.specs.Prelude.{ℕ, List, map}
use Rattle.std.specs.Borrow.{Bor}
use Rattle.std.specs.declared.vec.Vec.{Vec}
use Rattle.std.specs.declared.alloc.Global.{Global}
use Rattle.mk_repair.specs.Rows.{names_view, table_rows}
use Rattle.mk_claims.specs.Topics.{topic_view}
use Rattle.mk_claims.specs.Grouping.{RowKey, GroupKey}
use Rattle.mk_claims.specs.declared.grouping.RowKey as row
use Rattle.mk_claims.specs.declared.grouping.GroupKey as group

-- The key of a row that the code's key stands for.
abbrev pub row_key_view : row.RowKey → RowKey
row_key_view k = record { topic = topic_view k.topic; who = k.who.now }

-- The key of a group that the code's key stands for.
abbrev pub group_key_view : group.GroupKey → GroupKey
group_key_view k = record { topic = topic_view k.topic; what = names_view k.what.now }

-- The rows of a table.
abbrev pub rows_view : List (row.RowKey × Vec (Bor (List ℕ)) Global) →
    List (RowKey × List (List ℕ))
rows_view entries = map (λ row. (row_key_view row.0, names_view row.1)) (table_rows entries)

-- The groups of a table.
abbrev pub groups_view : List (group.GroupKey × Vec (Bor (List ℕ)) Global) →
    List (GroupKey × List (List ℕ))
groups_view entries = map (λ row. (group_key_view row.0, names_view row.1)) (table_rows entries)
