use Rattle.std.proofs.Common.{◌≡◌, ◌++◌, map, take}
use Rattle.mk_core_text.specs.GraphText.{commands_text}
use Rattle.mk_core_text.proofs.printing.push_commands.Given as goal

-- the commands so far
abbrev pub invariant-loop-line : goal.invariant-loop-line
invariant-loop-line l = l.out.items ≡ l.initial.out.items ++ commands_text (map (λ line. line.items) (take l.line-index l.lines))
