use Rattle.std.proofs.Common.{◌≡◌, drop}
use Rattle.std.specs.Prelude.{find}
use Rattle.mk_infer_select.specs.Walked.{lacks}
use Rattle.mk_infer_select.proofs.selection.first_lacking.Given as goal

-- the names that are left decide
abbrev pub invariant-loop-one : goal.invariant-loop-one
invariant-loop-one l = find (lacks l.choices.makefile l.choices.exists) (drop l.one-index l.met) ≡ find (lacks l.choices.makefile l.choices.exists) l.met
