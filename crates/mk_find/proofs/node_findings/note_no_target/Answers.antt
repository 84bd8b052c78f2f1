use Rattle.std.proofs.Common.{◌∙◌, ◌∷◌, ◌++◌, [], ℕ, List, ap, sym}
use Rattle.mk_find.specs.declared.finding.Finding.TheVariants.{NoTarget}
use Rattle.mk_subject.specs.NodeRow.{NodeRow}
use Rattle.mk_find.specs.Candidates.{no_target}
use Rattle.mk_find.proofs.Adding.{adds_one, adds_none}
use Rattle.mk_find.proofs.Decided.{target_lacking, target_there, name_is}
use Rattle.mk_find.proofs.node_findings.note_no_target.Goals as goal

pub returns-then-not-row : goal.returns-then-not-row
returns-then-not-row c = λ x is. adds_none x (no_target c.args.row.now.number) c.args.found.now (target_there x c.args.row.now is (sym (ap (λ (e : NodeRow). e.unwritten) c.row.view_is) ∙ c.if-not-row.true))

pub returns : goal.returns
returns c = λ x is. adds_one x (no_target c.args.row.now.number) c.args.found.now c.push.new.self (target_lacking x c.args.row.now is (sym (ap (λ (e : NodeRow). e.unwritten) c.row.view_is) ∙ c.if-not-row.false))
    (c.in_ok-push.ensures ∙ ap (λ (name : List ℕ). c.args.found.now ++ NoTarget name ∷ []) (name_is x c.args.row.now c.in_ok-recipe.recipe is c.in_ok-recipe.ensures))
