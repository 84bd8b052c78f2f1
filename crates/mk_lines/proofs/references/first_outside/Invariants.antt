use Rattle.std.proofs.Common.{◌≡◌, drop}
use Rattle.mk_lines.specs.References.{first_from, first_outside, is_one_of}
use Rattle.mk_lines.specs.Views.{reference_state_view}
use Rattle.mk_lines.proofs.Found.{moved}
use Rattle.mk_lines.proofs.references.first_outside.Given as goal

-- The result depends on the rest of the text.
abbrev pub invariant-loop-at : goal.invariant-loop-at
invariant-loop-at l = moved l.at (first_from (is_one_of l.wanted) (reference_state_view l.place) (drop l.at l.text)) ≡ first_outside (is_one_of l.wanted) l.text
