use Rattle.std.proofs.Common.{◌≡◌, ◌++◌, drop, map}
use Rattle.mk_claims.specs.Grouping.{group_of}
use Rattle.mk_claims.specs.Numbering.{row_number}
use Rattle.mk_claims.specs.Tables.{groups_view, rows_view}
use Rattle.mk_claims.proofs.numbering.row_numbers.Given as goal

-- the numbers so far, with those of the rows that are left
abbrev pub invariant-loop-place : goal.invariant-loop-place
invariant-loop-place l =
    l.numbers.items ++ map (row_number (map group_of (groups_view l.groups.entries))) (rows_view (drop l.place l.rows.entries))
    ≡ map (row_number (map group_of (groups_view l.groups.entries))) (rows_view l.rows.entries)
