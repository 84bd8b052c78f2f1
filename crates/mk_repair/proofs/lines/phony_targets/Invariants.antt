use Rattle.std.proofs.Common.{◌≡◌, ◌++◌, drop, map}
use Rattle.mk_repair.specs.Lines.{phony_targets}
use Rattle.mk_repair.specs.Rows.{names_view}
use Rattle.mk_repair.specs.Words.{stored_view}
use Rattle.mk_repair.proofs.lines.phony_targets.Given as goal

-- the targets so far, with those that are left
abbrev pub invariant-loop-word : goal.invariant-loop-word
invariant-loop-word l = names_view l.targets.items ++ phony_targets (map stored_view (drop l.word-index l.words)) ≡ phony_targets (map stored_view l.words)
