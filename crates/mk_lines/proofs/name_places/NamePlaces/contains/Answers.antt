use Rattle.std.proofs.Common.{ap, sym, ◌∙◌}
use Rattle.std.specs.Prelude.{is_some}
use Rattle.mk_lines.specs.Places.{place_in}
use Rattle.mk_lines.proofs.Places.{seen_in}
use Rattle.mk_lines.proofs.name_places.NamePlaces.contains.Goals as goal

pub returns : goal.returns
returns c = c.contains_key.ensures ∙ ap is_some (sym (seen_in c.self.inside.places c.args.name.now) ∙ ap (λ places. place_in places c.args.name.now) c.self.view_is)
