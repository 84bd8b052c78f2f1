use Rattle.std.proofs.Common.{ap, ◌∙◌}
use Rattle.mk_world.specs.Places.{place_among}
use Rattle.mk_world.specs.State.{DiskState}
use Rattle.mk_world.proofs.Numbers.{placed_number}
use Rattle.mk_world.proofs.disk.Disk.place.Goals as goal

pub returns : goal.returns
returns c = c.number_of.ensures ∙ (placed_number c.self.inside.names c.args.file.now ∙ ap (λ (d : DiskState). place_among d.names c.args.file.now) c.self.view_is)
