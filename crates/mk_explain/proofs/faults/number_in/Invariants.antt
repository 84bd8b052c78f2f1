use Rattle.std.proofs.Common.{◌≡◌, map, drop}
use Rattle.mk_explain.specs.Explain.{number_in}
use Rattle.mk_explain.proofs.faults.number_in.Given as goal

-- what is found in the rows that are left is found in all
abbrev pub invariant-loop-number : goal.invariant-loop-number
invariant-loop-number l = number_in (map (λ row. (row.0, row.1.now)) (drop l.number-index l.rows)) l.what ≡ number_in (map (λ row. (row.0, row.1.now)) l.rows) l.what
