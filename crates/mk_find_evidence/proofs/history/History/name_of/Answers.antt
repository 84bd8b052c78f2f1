use Rattle.std.proofs.Common.{◌≡◌, ap, ◌∙◌}
use Rattle.mk_graph.specs.declared.node.Node.{Node}
use Rattle.mk_build.specs.Setting.{name}
use Rattle.mk_world.specs.State.{number_of}
use Rattle.mk_find_evidence.proofs.Names.{number_is}
use Rattle.mk_find_evidence.proofs.history.History.name_of.Goals as goal

pub returns : goal.returns
returns c =
    let g = c.args.self.now.world.scene.graph in
    let at : c.as_str.result.now ≡ name g c.args.number = c.as_str.ensures ∙ ap (λ (n : Node). n.name) c.node-node.ensures.value in
    ap (number_of g) at ∙ number_is g c.args.number c.node-node.ensures.graph.sound c.requires
