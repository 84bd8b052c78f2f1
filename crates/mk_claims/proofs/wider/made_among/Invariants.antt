use Rattle.std.proofs.Common.{◌≡◌, ◌++◌, drop, filter}
use Rattle.mk_repair.specs.Rows.{names_view}
use Rattle.mk_claims.specs.Wider.{is_made}
use Rattle.mk_claims.proofs.wider.made_among.Given as goal

-- the names so far, with those of the ones that are left
abbrev pub invariant-loop-name : goal.invariant-loop-name
invariant-loop-name l =
    names_view l.made.items ++ filter (is_made l.choices.makefile l.choices.exists) (names_view (drop l.name-index l.names))
    ≡ filter (is_made l.choices.makefile l.choices.exists) (names_view l.names)
