use Rattle.std.proofs.Common.{◌∙◌, ◌∷◌, ◌++◌, [], ℕ, List, ap, sym}
use Rattle.mk_find.specs.declared.finding.Finding.TheVariants.{NoRecord}
use Rattle.mk_find.specs.Candidates.{no_record}
use Rattle.mk_find.proofs.Adding.{adds_one, adds_none}
use Rattle.mk_find.proofs.Decided.{record_lacking, record_there, name_is}
use Rattle.mk_find.proofs.node_findings.note_no_record.Goals as goal

pub returns-then-not-lacks_record : goal.returns-then-not-lacks_record
returns-then-not-lacks_record c = λ x is. adds_none x (no_record c.args.row.now.number) c.args.found.now (record_there x c.args.row.now is (sym c.if-not-lacks_record.ensures))

pub returns : goal.returns
returns c = λ x is. adds_one x (no_record c.args.row.now.number) c.args.found.now c.push.new.self (record_lacking x c.args.row.now is (sym c.if-not-lacks_record.ensures))
    (c.in_ok-push.ensures ∙ ap (λ (name : List ℕ). c.args.found.now ++ NoRecord name ∷ []) (name_is x c.args.row.now c.in_ok-recipe.recipe is c.in_ok-recipe.ensures))
