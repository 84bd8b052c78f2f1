use Rattle.std.proofs.Common.{◌≡◌, ◌∙◌, ◌<◌, ◌++◌, ◌∷◌, [], ℕ, List, Option, None, Some, Bor, refl, ap, sym, subst, length, get_or, map, take, arith}
use Rattle.std.specs.Prelude.{IfSome}
use Rattle.std.specs.Option.{option_copied}
use Rattle.std.proofs.lemmas.List.{map_push, take_more}
use Rattle.std.proofs.lemmas.List.Elements.{All-push}
use Rattle.mk_lines.specs.Names.{once}
use Rattle.mk_foot.specs.Book.{Record}
use Rattle.mk_foot.specs.Setting as foot
use Rattle.mk_graph.specs.declared.node.Node.{Node}
use Rattle.mk_subject.specs.NodeRow.{reads_in}
use Rattle.mk_subject.specs.Records.{HaveDistinctReads}
use Rattle.mk_subject.proofs.records.found_for.Goals as goal

-- what is so of a record that was found
of_found : (o : Option (Bor Record)) → IfSome o (λ r. once r.now.reads ≡ r.now.reads) → once (reads_in (option_copied o)) ≡ reads_in (option_copied o)
of_found None h = refl
of_found (Some r) h = h

pub loop-node-preserved : goal.loop-node-preserved
loop-node-preserved c =
    let named = λ (name : List ℕ). foot.record_for c.args.setting.now.records name in
    let by : Node → Option Record = λ (n : Node). named n.name in
    let copied : Option (Bor Record) → Option Record = λ (o : Option (Bor Record)). option_copied o in
    let nodes = c.nodes-nodes.result.now in
    let i = c.loop-node.node-index in
    let node = c.node-item.result in
    let found = c.loop-node.found.items in
    let last = c.record_of.result in
    let low : i < length nodes = omega (arith, c.loop-node-test.true) in
    let told : copied last ≡ by (get_or nodes i node) = c.record_of.ensures.found ∙ ap named (c.as_str.ensures ∙ ap (λ (n : Node). n.name) c.node-item.is) in
    let more : map copied c.push.new.self.items ≡ map copied found ++ copied last ∷ [] = ap (map copied) c.in_ok-push.ensures.items ∙ map_push copied found last in
    record {
      found = more
          ∙ (ap (λ (l : List (Option Record)). l ++ copied last ∷ []) c.loop-node.invariant.found
          ∙ (ap (λ (o : Option Record). map by (take i nodes) ++ o ∷ []) told
          ∙ (sym (map_push by (take i nodes) (get_or nodes i node))
          ∙ ap (map by) (sym (take_more nodes i node low)))));
      distinct = subst (λ (l : List (Option Record)). HaveDistinctReads l) (sym more)
          (All-push (λ (o : Option Record). once (reads_in o) ≡ reads_in o) (map copied found)
          (copied last) c.loop-node.invariant.distinct (of_found last c.record_of.ensures.distinct));
    }
