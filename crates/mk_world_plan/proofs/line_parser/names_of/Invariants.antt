use Rattle.std.proofs.Common.{◌≡◌, map, take}
use Rattle.mk_world_plan.proofs.line_parser.names_of.Given as goal

-- the names so far
abbrev pub invariant-loop-word : goal.invariant-loop-word
invariant-loop-word l = l.names.items ≡ map (λ word. word.now) (take l.word-index l.words)
