use Rattle.std.proofs.Common.{◌≡◌, drop}
use Rattle.mk_repair.specs.Gathering.{turned, with_values}
use Rattle.mk_repair.specs.Lines.{grouped, names_eq}
use Rattle.mk_repair.specs.Rows.{groups_view, rows_view}
use Rattle.mk_repair.proofs.rows.groups_of.Given as goal

-- the groups so far, with the rows that are left
abbrev pub invariant-loop-place : goal.invariant-loop-place
invariant-loop-place l = with_values names_eq (groups_view l.groups.entries) (turned (rows_view (drop l.place l.rows.entries))) ≡ grouped (rows_view l.rows.entries)
