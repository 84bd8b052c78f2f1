use Rattle.std.proofs.Common.{◌∙◌, ◌∷◌, ◌++◌, [], ℕ, List, ap, sym}
use Rattle.mk_find.specs.declared.finding.Finding.TheVariants.{OtherCommands}
use Rattle.mk_find.specs.Candidates.{other_commands}
use Rattle.mk_find.proofs.Adding.{adds_one, adds_none}
use Rattle.mk_find.proofs.Decided.{other_commands_there, no_other_commands, name_is}
use Rattle.mk_find.proofs.node_findings.note_other_commands.Goals as goal

pub returns-then-not-has_other_commands : goal.returns-then-not-has_other_commands
returns-then-not-has_other_commands c = λ x is. adds_none x (other_commands c.args.row.now.number) c.args.found.now (no_other_commands x c.args.row.now is (sym c.if-not-has_other_commands.ensures))

pub returns : goal.returns
returns c = λ x is. adds_one x (other_commands c.args.row.now.number) c.args.found.now c.push.new.self (other_commands_there x c.args.row.now is (sym c.if-not-has_other_commands.ensures))
    (c.in_ok-push.ensures ∙ ap (λ (name : List ℕ). c.args.found.now ++ OtherCommands name ∷ []) (name_is x c.args.row.now c.in_ok-recipe.recipe is c.in_ok-recipe.ensures))
