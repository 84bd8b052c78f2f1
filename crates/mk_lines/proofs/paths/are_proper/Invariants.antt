use Rattle.std.proofs.Common.{◌≡◌}
use Rattle.std.specs.Option.{option_map}
use Rattle.std.specs.List.{slice_split, list_all}
use Rattle.mk_lines.specs.Bytes.{is_byte, parts_left}
use Rattle.mk_lines.specs.Paths.{is_proper}
use Rattle.mk_lines.proofs.TextLeft.{size_left}
use Rattle.mk_lines.proofs.paths.are_proper.Given as goal

-- The result depends on the remaining components.
abbrev pub invariant-loop-rest : goal.invariant-loop-rest
invariant-loop-rest l = list_all is_proper (parts_left 47 (option_map (λ r. r.now) l.rest)) ≡ list_all is_proper (slice_split (is_byte 47) l.name)

abbrev pub decreases-loop-rest : goal.decreases-loop-rest
decreases-loop-rest l = size_left (option_map (λ r. r.now) l.rest)
