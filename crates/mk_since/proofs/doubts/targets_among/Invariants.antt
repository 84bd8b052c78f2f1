use Rattle.std.proofs.Common.{◌≡◌, drop}
use Rattle.std.specs.Prelude.{fold}
use Rattle.mk_since.specs.Parts.{with_row}
use Rattle.mk_since.proofs.doubts.targets_among.Given as goal

-- the rows that are left lead to all
abbrev pub invariant-loop-row : goal.invariant-loop-row
invariant-loop-row l = fold (with_row l.found) (record { targets = l.targets; files = l.files }) (drop l.row-index l.rows) ≡ fold (with_row l.found) (record { targets = l.initial.targets; files = l.initial.files }) l.rows
