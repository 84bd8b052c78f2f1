use Rattle.std.proofs.Common.{◌≡◌, ◌+◌, drop}
use Rattle.mk_lemmas.proofs.Texts.{texts}
use Rattle.mk_core_since.specs.Options.{no_options, options_from}
use Rattle.mk_core_since.proofs.options.options_from.Given as goal

-- the options of all lines are those so far with what the lines that are left say
abbrev pub invariant-loop-at : goal.invariant-loop-at
invariant-loop-at l = options_from 1 no_options (texts l.lines) ≡ options_from (l.at + 1) l.options (texts (drop l.at l.lines))
