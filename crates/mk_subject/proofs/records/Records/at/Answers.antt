use Rattle.std.proofs.Common.{◌≡◌, ◌∙◌, ◌<◌, List, Option, None, Bor, ap, sym, subst, length, get_or, arith}
use Rattle.std.specs.Option.{option_copied}
use Rattle.std.proofs.lemmas.List.{get_or-map, length-map}
use Rattle.std.proofs.lemmas.List.Elements.{All-get_or}
use Rattle.mk_lines.specs.Names.{once}
use Rattle.mk_foot.specs.Book.{Record}
use Rattle.mk_foot.specs.Setting as foot
use Rattle.mk_graph.specs.declared.node.Node.{Node}
use Rattle.mk_graph.specs.Graph.{node, no_node}
use Rattle.mk_subject.specs.NodeRow.{reads_in}
use Rattle.mk_subject.specs.Records.{Recorded, records_for}
use Rattle.mk_subject.proofs.records.Records.at.Goals as goal

pub returns-clause-found : goal.returns-clause-found
returns-clause-found c =
    let g = c.self.inside.graph.now in
    let records = c.self.inside.setting.now.records in
    let found = c.self.inside.found.items in
    let n = c.args.number in
    let last = c.index.result.now in
    let by : Node → Option Record = λ (k : Node). foot.record_for records k.name in
    let copied : Option (Bor Record) → Option Record = λ (o : Option (Bor Record)). option_copied o in
    let nodes : length g.nodes ≡ length c.args.self.now.graph.nodes = ap (λ (r : Recorded). length r.graph.nodes) c.self.view_is in
    let many : length found ≡ length g.nodes = sym (length-map found copied) ∙ (ap (λ (l : List (Option Record)). length l) c.self.invariant.0 ∙ length-map g.nodes by) in
    let low : n < length g.nodes = omega (arith, c.requires, nodes) in
    ap copied c.index.ensures
    ∙ (sym (get_or-map copied found n last None (omega (arith, low, many)))
    ∙ (ap (λ (l : List (Option Record)). get_or l n None) c.self.invariant.0
    ∙ (get_or-map by g.nodes n no_node None low
    ∙ ap (λ (r : Recorded). foot.record_for r.setting.records (node r.graph n).name) c.self.view_is)))

pub returns-clause-distinct : goal.returns-clause-distinct
returns-clause-distinct c =
    let g = c.self.inside.graph.now in
    let s = c.self.inside.setting.now in
    let found = c.self.inside.found.items in
    let n = c.args.number in
    let last = c.index.result.now in
    let by : Node → Option Record = λ (k : Node). foot.record_for s.records k.name in
    let copied : Option (Bor Record) → Option Record = λ (o : Option (Bor Record)). option_copied o in
    let nodes : length g.nodes ≡ length c.args.self.now.graph.nodes = ap (λ (r : Recorded). length r.graph.nodes) c.self.view_is in
    let many : length found ≡ length g.nodes = sym (length-map found copied) ∙ (ap (λ (l : List (Option Record)). length l) c.self.invariant.0 ∙ length-map g.nodes by) in
    let low : n < length g.nodes = omega (arith, c.requires, nodes) in
    let is : copied last ≡ get_or (records_for g s) n None = ap copied c.index.ensures
    ∙ (sym (get_or-map copied found n last None (omega (arith, low, many)))
    ∙ ap (λ (l : List (Option Record)). get_or l n None) c.self.invariant.0) in
    subst (λ (o : Option Record). once (reads_in o) ≡ reads_in o) (sym is)
    (All-get_or (λ (o : Option Record). once (reads_in o) ≡ reads_in o) (records_for g s) n None
    (omega (arith, low, length-map g.nodes by)) c.self.invariant.1)
