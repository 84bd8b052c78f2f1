use Rattle.std.proofs.Common.{List, ℕ, ap, ◌∙◌}
use Rattle.mk_lines.specs.Names as names
use Rattle.mk_world.specs.State as state
use Rattle.mk_world.proofs.Numbers.{number_is}
use Rattle.mk_world.proofs.scene.Scene.number.Goals as goal

pub returns : goal.returns
returns c = c.number_of.ensures ∙ (ap (λ (ns : List (List ℕ)). names.number_of ns c.args.name.now) c.self.invariant.1 ∙ (number_is c.self.inside.graph.now.nodes c.args.name.now ∙ ap (λ (sc : state.Scene). state.number_of sc.graph c.args.name.now) c.self.view_is))
