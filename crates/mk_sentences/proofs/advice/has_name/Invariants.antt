use Rattle.std.proofs.Common.{◌≡◌, drop}
use Rattle.mk_lines.specs.Names.{has_name}
use Rattle.mk_repair.specs.Rows.{names_view}
use Rattle.mk_sentences.proofs.advice.has_name.Given as goal

-- the result depends on the names that are left
abbrev pub invariant-loop-other : goal.invariant-loop-other
invariant-loop-other l = has_name (names_view (drop l.other-index l.names)) l.name ≡ has_name (names_view l.names) l.name
