-- The graph that is built is sound, since all prerequisites of the given one are kept.
use Rattle.std.proofs.Common.{◌≡◌, ℕ, ◌++◌, length, Result, Err, sym, ap, subst, ◌∙◌, arith}
use Rattle.mk_graph.specs.declared.fault.GraphFault.{GraphFault}
use Rattle.mk_graph.specs.declared.fault.GraphFault.TheVariants.{TooManyNodes}
use Rattle.mk_graph.specs.Graph.{Graph, IsSound, prerequisites}
use Rattle.mk_graph.specs.Build.{Builds}
use Rattle.mk_graph.specs.Progress.{row}
use Rattle.mk_build_needs.proofs.Graphs.{count_is}
use Rattle.mk_build_needs.proofs.Sound.{graph_of, handed_is, sound_with}
use Rattle.mk_build_needs.proofs.cycle.first_cycle.Goals as goal

pub build-requires : goal.build-requires
build-requires c =
    let g = c.args.graph.now in
    let more : ℕ → _ = λ n. row c.args.more.now n in
    let is = handed_is g (λ n. prerequisites g n ++ more n) c.in_ok-nodes.nodes.items c.in_ok-goals.goals.items c.in_ok-nodes.ensures (c.in_ok-goals.ensures.items ∙ c.goals.ensures.value) in
    subst IsSound (sym is) (sound_with g c.goals.ensures.graph more c.requires)

pub unreachable-requires : goal.unreachable-requires
unreachable-requires c =
    let g = c.args.graph.now in
    let many : length c.in_ok-nodes.nodes.items ≡ length g.nodes = ap length c.in_ok-nodes.ensures ∙ count_is g (λ n. prerequisites g n ++ row c.args.more.now n) in
    let few = c.goals.ensures.graph.few in
    let failed : c.build.result ≡ Err TooManyNodes = c.in-Err-TooManyNodes.is ∙ ap (λ (f : GraphFault). Err f) c.in-Err-TooManyNodes.field-0-is in
    let over = subst (λ (r : Result Graph GraphFault). Builds (graph_of c.in_ok-nodes.nodes.items c.in_ok-goals.goals.items) r) failed c.build.ensures in
    omega arith
