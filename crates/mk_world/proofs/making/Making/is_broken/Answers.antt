use Rattle.std.proofs.Common.{ℕ, List, ap, sym, ◌∙◌, nat_eq}
use Rattle.std.specs.List.{list_any}
use Rattle.mk_world.proofs.Makes.{listed}
use Rattle.mk_world.proofs.making.Making.is_broken.Goals as goal

pub returns : goal.returns
returns c =
    let is = ap (λ (ns : List ℕ). list_any (λ m. nat_eq m c.args.number) ns) c.deref.ensures.value in
    let there = listed c.self.inside.broken.items c.args.number in
    rw (← c.self.view_is) (λ e. there.0 (sym is ∙ (sym c.contains.ensures.value ∙ e)), λ h. c.contains.ensures.value ∙ (is ∙ there.1 h))
