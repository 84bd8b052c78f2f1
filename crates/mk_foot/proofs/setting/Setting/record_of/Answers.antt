use Rattle.std.proofs.Common.{◌<◌, Some, length, arith, ap, sym, ◌∙◌, ◌≡◌, subst}
use Rattle.mk_foot.specs.Book.{Record}
use Rattle.mk_foot.specs.Names.{once}
use Rattle.mk_foot.specs.Setting.{Setting, record_for}
use Rattle.mk_foot.proofs.Found.{found, missing, within}
use Rattle.mk_foot.proofs.setting.Setting.record_of.Goals as goal

pub index-first-requires : goal.index-first-requires
index-first-requires c =
    let low : c.in-Some.place < length c.self.inside.records.items = within (λ (r : Record). r.target) c.self.inside.records.items c.args.name.now c.in-Some.place (sym (c.in-Some.ensures ∙ c.self.invariant c.args.name.now)) in
    omega arith

pub returns-in-Some-clause-found : goal.returns-in-Some-clause-found
returns-in-Some-clause-found c =
    let at = found (λ (r : Record). r.target) c.self.inside.records.items c.args.name.now c.in-Some.place c.index-first.result.now (sym (c.in-Some.ensures ∙ c.self.invariant c.args.name.now)) in
    ap (λ (r : Record). Some r) c.index-first.ensures ∙ (sym at ∙ ap (λ (s : Setting). record_for s.records c.args.name.now) c.self.view_is)

pub returns-in-Some-clause-distinct : goal.returns-in-Some-clause-distinct
returns-in-Some-clause-distinct c = subst (λ (r : Record). once r.reads ≡ r.reads) c.first.view_is c.first.invariant

pub returns-in-None-clause-found : goal.returns-in-None-clause-found
returns-in-None-clause-found c =
    let nowhere = missing (λ (r : Record). r.target) c.self.inside.records.items c.args.name.now (sym (c.in-None.ensures ∙ c.self.invariant c.args.name.now)) in
    sym nowhere ∙ ap (λ (s : Setting). record_for s.records c.args.name.now) c.self.view_is
