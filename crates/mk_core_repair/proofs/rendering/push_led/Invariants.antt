use Rattle.std.proofs.Common.{◌≡◌, ◌++◌, drop, true}
use Rattle.mk_core_repair.specs.RepairText.{led}
use Rattle.mk_core_repair.proofs.rendering.push_led.Given as goal

-- the text so far, with what is left
abbrev pub invariant-loop-byte : goal.invariant-loop-byte
invariant-loop-byte l = l.out.items ++ led l.word l.begins (drop l.byte-index l.byte-items) ≡ l.fn.out.items ++ led l.fn.word true l.fn.text
