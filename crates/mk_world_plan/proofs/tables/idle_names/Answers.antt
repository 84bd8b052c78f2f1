use Rattle.std.proofs.Common.{◌≡◌, ◌∙◌, ◌<◌, ◌||◌, ℕ, List, true, false, length, get_or, ap, sym, arith}
use Rattle.std.specs.Prelude.{not, ◌&&◌}
use Rattle.std.specs.Str.{bytes_eq}
use Rattle.mk_lines.specs.Names.{has_name}
use Rattle.mk_graph.specs.declared.node.Node.{Node}
use Rattle.mk_world_plan.specs.PlanText.{is_idle_at}
use Rattle.mk_world_plan.proofs.Sets.{has_with, one_more, none_more}
use Rattle.mk_world_plan.proofs.tables.idle_names.Goals as goal
use Rattle.mk_world_plan.proofs.tables.idle_names.Goals.{then-not-node+in_ok-insert, else-not-node}

pub loop-node-preserved : goal.loop-node-preserved
loop-node-preserved c = λ name.
    let nodes = c.nodes-node-items.result.now in
    let item = c.node-item.result in
    let i = c.loop-node.node-index in
    let old = has_name c.loop-node.names name in
    let lt : i < length nodes = omega arith in
    let same_name : item.name ≡ (get_or nodes i item).name = ap (λ (v : Node). v.name) c.node-item.is in
    let same_recipe : item.recipe ≡ (get_or nodes i item).recipe = ap (λ (v : Node). v.recipe) c.node-item.is in
    elim c.if-not-node.branch [
      | then-not-node+in_ok-insert w ↦
          let tested = w.if-not-node.true in
          let lent = w.as_str.ensures in
          let off : item.recipe ≡ false = cc in
          let called : w.as_str.result.now ≡ item.name = cc in
          let grown : has_name w.insert.new.self name ≡ (old || is_idle_at name item) = ap
          (λ (set : List (List ℕ)). has_name set name) w.in_ok-insert.ensures.ok
          ∙ (has_with c.loop-node.names w.as_str.result.now name
          ∙ (ap (λ (n : List ℕ). old || bytes_eq name n) called
          ∙ ap (λ b. old || (not b && bytes_eq name item.name)) (sym off))) in
          one_more (is_idle_at name) nodes i item old (has_name c.if-not-node.names name) c.node-item.is lt (c.loop-node.invariant name) (ap (λ (set : List (List ℕ)). has_name set name) w.names-is ∙ grown)
      | else-not-node w ↦
          let tested = w.if-not-node.false in
          let on : item.recipe ≡ true = cc in
          ap (λ (set : List (List ℕ)). has_name set name) w.names-is ∙ none_more (is_idle_at name) nodes i item old c.node-item.is lt (ap (λ b. not b && bytes_eq name item.name) on) (c.loop-node.invariant name)
    ]
