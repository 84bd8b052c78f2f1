use Rattle.std.proofs.Common.{◌≡◌, map, drop}
use Rattle.mk_macros.specs.Locals.{recipe_of}
use Rattle.mk_infer.specs.Commands.{expanded}
use Rattle.mk_infer.proofs.CommandLists.{behind}
use Rattle.mk_infer.proofs.expanding.expanded.Given as goal

-- the commands so far, and those that are left
abbrev pub invariant-loop-command : goal.invariant-loop-command
invariant-loop-command l = behind (map (λ line. line.items) l.lines.items) l.varying (expanded l.macros (recipe_of l.locals) (drop l.command-index l.commands)) ≡ expanded l.macros (recipe_of l.locals) l.commands
