use Rattle.std.proofs.Common.{sym, ap, subst, map}
use Rattle.mk_lemmas.proofs.Results.{IfOk-map}
use Rattle.mk_world.specs.declared.file.Listed.{Listed}
use Rattle.mk_world.specs.First.{AreSorted}
use Rattle.mk_world.proofs.Listings.{listing_sorted}
use Rattle.mk_world.proofs.world.World.files.Goals as goal

pub returns-clause-ascending : goal.returns-clause-ascending
returns-clause-ascending c = IfOk-map c.files.result (λ files e. subst AreSorted (sym (ap (map (λ (x : Listed). x.name)) e)) (listing_sorted c.self.inside.disk c.self.invariant.1.sorted)) c.files.ensures
