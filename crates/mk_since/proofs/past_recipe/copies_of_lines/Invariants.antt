use Rattle.std.proofs.Common.{◌≡◌, ◌++◌, drop, map}
use Rattle.mk_since.proofs.past_recipe.copies_of_lines.Given as goal

-- the lines so far, with those that are left
abbrev pub invariant-loop-line : goal.invariant-loop-line
invariant-loop-line l = map (λ line. line.items) l.copies.items ++ map (λ line. line.items) (drop l.line-index l.lines) ≡ map (λ line. line.items) l.lines
