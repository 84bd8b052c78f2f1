use Rattle.std.proofs.Common.{◌≤◌, ◌∙◌, [], List, length, sym, ap, arith}
use Rattle.std.specs.List.{flat_map}
use Rattle.std.specs.Prelude.{fold}
use Rattle.std.proofs.lemmas.List.{drop_all}
use Rattle.mk_graph.specs.declared.node.Node.{Node}
use Rattle.mk_graph.specs.Graph.{Graph}
use Rattle.mk_lines.specs.Names.{has_name, with_name}
use Rattle.mk_lines.proofs.NameSets.{all_held}
use Rattle.mk_repair.specs.FindingWords.{needed, needed_by}
use Rattle.mk_repair.proofs.needed.needed_names.Goals as goal

pub returns : goal.returns
returns c = λ name.
    let x = c.args.subject.now in
    let nodes = x.graph.nodes in
    let same = c.nodes-node-items.ensures.value ∙ ap (λ (g : Graph). g.nodes) c.graph-graph.ensures.value in
    let le : length nodes ≤ c.loop-number.number = omega (arith, ap length same) in
    let all = sym (ap (λ (rest : List Node). fold with_name c.loop-number.set (flat_map (needed_by x) rest)) (drop_all c.loop-number.number nodes le)) ∙ c.loop-number.invariant in
    ap (λ set. has_name set name) all ∙ all_held (needed x) name
