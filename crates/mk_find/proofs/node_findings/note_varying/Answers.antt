use Rattle.std.proofs.Common.{◌∙◌, ◌∷◌, ◌++◌, [], ℕ, List, ap, sym}
use Rattle.mk_find.specs.declared.finding.Finding.TheVariants.{VaryingCommands}
use Rattle.mk_find.specs.Candidates.{varying_commands}
use Rattle.mk_find.proofs.Adding.{adds_one, adds_none}
use Rattle.mk_find.proofs.Decided.{varying_commands_there, no_varying_commands, name_is}
use Rattle.mk_find.proofs.node_findings.note_varying.Goals as goal

pub returns-then-not-has_varying : goal.returns-then-not-has_varying
returns-then-not-has_varying c = λ x is. adds_none x (varying_commands c.args.row.now.number) c.args.found.now (no_varying_commands x c.args.row.now is (sym c.if-not-has_varying.ensures))

pub returns : goal.returns
returns c = λ x is. adds_one x (varying_commands c.args.row.now.number) c.args.found.now c.push.new.self (varying_commands_there x c.args.row.now is (sym c.if-not-has_varying.ensures))
    (c.in_ok-push.ensures ∙ ap (λ (name : List ℕ). c.args.found.now ++ VaryingCommands name ∷ []) (name_is x c.args.row.now c.in_ok-recipe.recipe is c.in_ok-recipe.ensures))
