use Rattle.std.proofs.Common.{ap, sym, ◌∙◌}
use Rattle.mk_lines.specs.Places.{place_in}
use Rattle.mk_lines.proofs.Places.{seen_in}
use Rattle.mk_lines.proofs.name_places.NamePlaces.place.Goals as goal

pub returns : goal.returns
returns c = c.copied.ensures ∙ (c.get.ensures.value ∙ (sym (seen_in c.self.inside.places c.args.name.now) ∙ ap (λ places. place_in places c.args.name.now) c.self.view_is))
