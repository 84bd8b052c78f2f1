use Rattle.std.proofs.Common.{◌≡◌, ◌++◌, drop}
use Rattle.mk_repair.specs.Rows.{names_view}
use Rattle.mk_claims.specs.Wider.{goals_with}
use Rattle.mk_claims.proofs.wider.goals_with.Given as goal

-- the goals so far, with the names that are left
abbrev pub invariant-loop-name : goal.invariant-loop-name
invariant-loop-name l = l.goals.items ++ names_view (drop l.name-index l.names) ≡ goals_with l.subject (names_view l.names)
