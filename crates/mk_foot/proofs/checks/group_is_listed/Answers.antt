use Rattle.std.proofs.Common.{◌≡◌, false, sym, ap, ◌∙◌, inr}
use Rattle.std.specs.List.{list_all}
use Rattle.mk_foot.specs.declared.fault.FootFault.TheVariants.{NoList}
use Rattle.mk_foot.specs.Names.{has_name}
use Rattle.mk_foot.specs.Parts.{RawRecord, Group}
use Rattle.mk_foot.specs.Steps.{check_that}
use Rattle.mk_foot.proofs.checks.group_is_listed.Goals as goal

pub returns-else-entries_are_listed : goal.returns-else-entries_are_listed
returns-else-entries_are_listed c =
    let held : false ≡ list_all (λ (e : RawRecord). list_all (has_name c.args.names.now) e.shared) c.group.inside.records.items = rw (← c.deref.ensures.value) c.if-entries_are_listed.ensures in
    let lacks : list_all (λ (e : RawRecord). list_all (has_name c.args.names.now) e.shared) c.args.group.now.records ≡ false = sym (held ∙ ap (λ (g : Group). list_all (λ (e : RawRecord). list_all (has_name c.args.names.now) e.shared) g.records) c.group.view_is) in
    inr (ap (check_that NoList) lacks)
