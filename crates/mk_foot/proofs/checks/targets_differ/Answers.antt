use Rattle.std.proofs.Common.{◌≡◌, sym, ap, ◌∙◌, inr, List, Some, []}
use Rattle.mk_foot.specs.declared.fault.FootFault.TheVariants.{TwoRecords}
use Rattle.mk_foot.specs.Names.{first_repeat}
use Rattle.mk_foot.specs.Parts.{RawRecord, Group}
use Rattle.mk_foot.proofs.Targets.{targets, told}
use Rattle.mk_foot.proofs.checks.targets_differ.Goals as goal

pub returns-in_ok-new-in-Some : goal.returns-in_ok-new-in-Some
returns-in_ok-new-in-Some c =
    let e = rw c.in-Some.is at c.in_ok-target.ensures in
    let found : first_repeat [] (targets c.deref.result.now) ≡ Some c.in-Some.target.now = cc e in
    let records : c.deref.result.now ≡ c.args.group.now.records = c.deref.ensures.value ∙ ap (λ (g : Group). g.records) c.group.view_is in
    inr (told TwoRecords _ c.in-Some.target.now _ (sym (ap (λ (es : List RawRecord). first_repeat [] (targets es)) records) ∙ found) c.in_ok-new-in-Some.ensures)
