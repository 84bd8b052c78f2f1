use Rattle.std.proofs.Common.{◌≡◌, ◌++◌, drop, filter}
use Rattle.mk_infer.specs.Targets.{is_target}
use Rattle.mk_repair.specs.Rows.{names_view}
use Rattle.mk_claims.proofs.wider.targets_among.Given as goal

-- the names so far, with those of the ones that are left
abbrev pub invariant-loop-name : goal.invariant-loop-name
invariant-loop-name l =
    names_view l.targets.items ++ filter (is_target l.table) (names_view (drop l.name-index l.names))
    ≡ filter (is_target l.table) (names_view l.names)
