use Rattle.std.proofs.Common.{◌≡◌, drop, map}
use Rattle.mk_repair.specs.Gathering.{gathered, with_values}
use Rattle.mk_claims.specs.Grouping.{group_key_eq, group_pair}
use Rattle.mk_claims.specs.Tables.{groups_view, rows_view}
use Rattle.mk_claims.proofs.grouping.groups_of.Given as goal

-- the groups so far, with the rows that are left
abbrev pub invariant-loop-place : goal.invariant-loop-place
invariant-loop-place l = with_values group_key_eq (groups_view l.table.entries) (map group_pair (rows_view (drop l.place l.rows.entries))) ≡ gathered group_key_eq (map group_pair (rows_view l.rows.entries))
