use Rattle.std.proofs.Common.{◌≡◌, map, take, string_bytes}
use Rattle.mk_since.proofs.past_recipe.bytes_of.Given as goal

-- the texts so far
abbrev pub invariant-loop-text : goal.invariant-loop-text
invariant-loop-text l = map (λ line. line.items) l.lines.items ≡ map string_bytes (take l.text-index l.texts)
