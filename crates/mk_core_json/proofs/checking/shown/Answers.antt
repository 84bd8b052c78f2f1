use Rattle.std.proofs.Common.{List, subst, sym}
use Rattle.mk_find.specs.declared.finding.Finding.{Finding}
use Rattle.mk_core_text.specs.declared.verdict.Verdict.{Verdict}
use Rattle.mk_core_json.specs.InJsonAnswer.{Shows, ShowsNo}
use Rattle.mk_core_json.specs.declared.checking.InJson.TheVariants.{No}
use Rattle.mk_core_json.proofs.checking.shown.Goals as goal

pub returns-in_ok-no_shown-in-No : goal.returns-in_ok-no_shown-in-No
returns-in_ok-no_shown-in-No c =
    let x = c.args.subject.now in
    let text = c.in_ok-no_shown-in-No.field-0 in
    subst (λ (v : Verdict). Shows x v (No text)) (sym c.in-No.is)
    (subst (λ (found : List Finding). ShowsNo x found text.items) c.as_slice.ensures c.in_ok-no_shown-in-No.ensures)
