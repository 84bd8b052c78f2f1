use Rattle.std.proofs.Common.{◌≡◌, drop, filter, map}
use Rattle.std.specs.Option.{option_map}
use Rattle.mk_repair.specs.Makers.{is_recorded_writer}
use Rattle.mk_repair.proofs.MakerLists.{with_first}
use Rattle.mk_repair.proofs.makers.makers_of.Given as goal

-- the makers so far, with those of the targets that are left
abbrev pub invariant-loop-target : goal.invariant-loop-target
invariant-loop-target l =
    with_first (option_map (λ name. name.now) l.first)
    (filter (is_recorded_writer l.subject l.file) (map (λ name. name.now) (drop l.target-index l.target-items)))
    ≡ filter (is_recorded_writer l.subject l.file) (map (λ name. name.now) l.target-items)
