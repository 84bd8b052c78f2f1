use Rattle.std.proofs.Common.{◌≡◌, ◌++◌, take}
use Rattle.mk_core_text.specs.VerdictText.{ways_text}
use Rattle.mk_core_text.proofs.rendering.push_ways.Given as goal

-- the ways so far
abbrev pub invariant-loop-place : goal.invariant-loop-place
invariant-loop-place l = l.out.items ≡ l.initial.out.items ++ ways_text (take l.place l.ways)
