use Rattle.std.proofs.Common.{◌≡◌, refl}
use Rattle.std.proofs.lemmas.Bool.{OnTrue_at}
use Rattle.mk_world.specs.State.{run_at}
use Rattle.mk_world.proofs.Makes.{run_is}
use Rattle.mk_world.proofs.Disks.{from_true}
use Rattle.mk_world.proofs.making.Making.look.Goals as goal

pub returns-clause-looked : goal.returns-clause-looked
returns-clause-looked c = from_true c.look.result (λ e.
    let low = rw (← c.self.view_is) at c.requires.node in
    let is : c.index_mut.result.now ≡ run_at c.self.inside.runs.items c.args.number = run_is c.self.inside.runs.items c.args.number c.index_mut.result.now low c.index_mut.ensures.value in
    rw (← c.self.view_is) (record { run = c.look.new.self; becomes = refl; many = rw (← is) c.look.ensures.len; puts = rw (← is) c.look.ensures.puts; looks = rw (← is) (OnTrue_at e c.look.ensures.noted) }))
