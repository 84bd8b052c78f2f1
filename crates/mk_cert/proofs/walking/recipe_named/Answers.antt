use Rattle.std.proofs.Common.{◌≡◌, ◌<◌, ◌≤◌, ℕ, List, ap, sym, ◌∙◌, length, get_or, arith}
use Rattle.std.proofs.lemmas.Bool.{true≢false}
use Rattle.mk_lines.specs.Names.{number_of}
use Rattle.mk_graph.specs.declared.node.Node.{Node}
use Rattle.mk_graph.specs.Graph.{Graph, node, no_node}
use Rattle.mk_subject.specs.Subject.{name_of}
use Rattle.mk_cert.proofs.Walks.{recipe_is_node}
use Rattle.mk_subject.specs.FileInfo.{all_names}
use Rattle.mk_subject.proofs.Numbers.{number_is, number_names}
use Rattle.mk_cert.proofs.walking.recipe_named.Goals as goal

pub returns-in_default : goal.returns-in_default
returns-in_default c = λ n recipe named.
    let x = c.args.subject.now in
    let number : c.number_of-number.result ≡ number_of (all_names x) c.args.name.now = c.number_of-number.ensures ∙ ap (λ (ns : List (List ℕ)). number_of ns c.args.name.now) c.names.ensures in
    let nodes : c.nodes.result.now ≡ x.graph.nodes = c.nodes.ensures.value ∙ ap (λ (g : Graph). g.nodes) c.graph.ensures.value in
    let low : n < length x.graph.nodes = recipe_is_node x n recipe in
    let same : c.number_of-number.result ≡ n = number ∙ number_is x c.graph.ensures.graph c.names_have_one_number.ensures n low c.args.name.now named in
    let past : length c.nodes.result.now ≤ c.number_of-number.result = c.in_default.ensures.lookup.3 in
    absurd (omega (arith, ap (λ (ns : List Node). length ns) nodes))

pub returns-then-not-node : goal.returns-then-not-node
returns-then-not-node c = λ n recipe named.
    let x = c.args.subject.now in
    let number : c.number_of-number.result ≡ number_of (all_names x) c.args.name.now = c.number_of-number.ensures ∙ ap (λ (ns : List (List ℕ)). number_of ns c.args.name.now) c.names.ensures in
    let nodes : c.nodes.result.now ≡ x.graph.nodes = c.nodes.ensures.value ∙ ap (λ (g : Graph). g.nodes) c.graph.ensures.value in
    let low : n < length x.graph.nodes = recipe_is_node x n recipe in
    let same : c.number_of-number.result ≡ n = number ∙ number_is x c.graph.ensures.graph c.names_have_one_number.ensures n low c.args.name.now named in
    let this : c.in-Some.node.now ≡ node x.graph n = c.in-Some.ensures.lookup.3.1 no_node ∙ (ap (λ (ns : List Node). get_or ns c.number_of-number.result no_node) nodes ∙ ap (node x.graph) same) in
    true≢false (sym recipe ∙ (sym (ap (λ (v : Node). v.recipe) this) ∙ c.if-not-node.true))

pub returns : goal.returns
returns c =
    let x = c.args.subject.now in
    let number : c.number_of-number.result ≡ number_of (all_names x) c.args.name.now = c.number_of-number.ensures ∙ ap (λ (ns : List (List ℕ)). number_of ns c.args.name.now) c.names.ensures in
    let nodes : c.nodes.result.now ≡ x.graph.nodes = c.nodes.ensures.value ∙ ap (λ (g : Graph). g.nodes) c.graph.ensures.value in
    let this : c.in-Some.node.now ≡ node x.graph c.number_of-number.result = c.in-Some.ensures.lookup.3.1 no_node ∙ ap (λ (ns : List Node). get_or ns c.number_of-number.result no_node) nodes in
    let low : c.number_of-number.result < length c.nodes.result.now = c.in-Some.ensures.lookup.3.0 in
    let within : number_of (all_names x) c.args.name.now < length x.graph.nodes = omega (arith, ap (λ (ns : List Node). length ns) nodes) in
    (sym (ap (λ (v : Node). v.recipe) this) ∙ c.if-not-node.false, ap (name_of x) number ∙ number_names x c.args.name.now within)
