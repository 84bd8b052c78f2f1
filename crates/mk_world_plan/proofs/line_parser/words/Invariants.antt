use Rattle.std.proofs.Common.{◌≡◌, map, take}
use Rattle.mk_lines.specs.Words.{bytes_at}
use Rattle.mk_world_plan.proofs.line_parser.words.Given as goal

-- what was found so far stands at the spans so far
abbrev pub invariant-loop-span : goal.invariant-loop-span
invariant-loop-span l = map (λ word. word.now) l.found.items ≡ map (bytes_at l.line) (take l.span-index l.span-items)
