use Rattle.std.proofs.Common.{◌≡◌, take}
use Rattle.std.specs.String.{string_bytes}
use Rattle.mk_core_text.specs.VerdictText.{findings_text}
use Rattle.mk_core_text.proofs.rendering.findings_text.Given as goal

-- the lines of the findings so far
abbrev pub invariant-loop-finding : goal.invariant-loop-finding
invariant-loop-finding l = string_bytes l.out ≡ findings_text (take l.finding-index l.found)
