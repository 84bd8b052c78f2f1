use Rattle.std.proofs.Common.{◌≡◌, drop}
use Rattle.std.specs.Prelude.{fold}
use Rattle.std.specs.List.{flat_map}
use Rattle.mk_lines.specs.Names.{with_name}
use Rattle.mk_since.specs.Parts.{about}
use Rattle.mk_since.proofs.doubts.all_about.Given as goal

-- the findings that are left lead to all
abbrev pub invariant-loop-finding : goal.invariant-loop-finding
invariant-loop-finding l = fold with_name l.names (flat_map about (drop l.finding-index l.found)) ≡ fold with_name l.initial.names (flat_map about l.found)
