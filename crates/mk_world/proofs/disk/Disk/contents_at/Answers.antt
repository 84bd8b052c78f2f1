use Rattle.std.proofs.Common.{map, ap, ◌∙◌}
use Rattle.std.proofs.lemmas.List.{take_all}
use Rattle.mk_world.specs.Places.{content_at}
use Rattle.mk_world.proofs.Held.{all_held}
use Rattle.mk_world.proofs.disk.Disk.contents_at.Goals as goal

pub returns : goal.returns
returns c =
    let inside = c.self.inside in
    let all = ap (map (content_at inside.files.items)) (take_all c.loop-place.place-index c.args.places.now c.loop-place-test.false) in
    rw (← c.self.view_is) (λ files is. c.loop-place.invariant ∙ (all ∙ all_held (record { names = inside.names; files = inside.files.items; clock = inside.clock; known = inside.known }) c.args.places.now files c.self.invariant is))
