use Rattle.mk_lines.proofs.Places.{noted_in}
use Rattle.mk_lines.proofs.name_places.NamePlaces.note.Goals as goal

pub returns : goal.returns
returns c = λ other. noted_in c.self.inside.places c.note_place.new.places c.args.self.now c.args.name.now other c.args.place c.self.view_is (c.in_ok-note_place.ensures other)
