use Rattle.std.proofs.Common.{[], ◌∷◌, map, refl, sym, subst, ap, ◌∙◌}
use Rattle.std.proofs.lemmas.List.{map_push}
use Rattle.mk_world.specs.NamedStep.{step_view}
use Rattle.mk_find_evidence.specs.Numbers.{HaveSmallNumbers}
use Rattle.mk_find_evidence.proofs.Numbers.{one_more}
use Rattle.mk_find_evidence.proofs.history.History.note.Goals as goal

pub invariant_of-self-2 : goal.invariant_of-self-2
invariant_of-self-2 c = (c.self.invariant.0, subst HaveSmallNumbers (sym (ap (map step_view) c.in_ok-push.ensures.items ∙ map_push _ _ _)) (one_more _ _ c.self.invariant.1 c.requires))

pub returns : goal.returns
returns c = rw (← c.self.view_is) (record {
  world = refl;
  more = step_view c.args.step ∷ [];
  added = ap (map step_view) c.in_ok-push.ensures.items ∙ map_push _ _ _;
  are = refl;
})
