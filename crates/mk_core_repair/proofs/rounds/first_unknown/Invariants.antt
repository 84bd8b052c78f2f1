use Rattle.std.proofs.Common.{◌≡◌, drop}
use Rattle.mk_core_repair.specs.Rounds.{first_unknown}
use Rattle.mk_core_repair.proofs.rounds.first_unknown.Given as goal

-- the result depends on the files that are left
abbrev pub invariant-loop-file : goal.invariant-loop-file
invariant-loop-file l = first_unknown l.names (drop l.file-index l.files) ≡ first_unknown l.names l.files
