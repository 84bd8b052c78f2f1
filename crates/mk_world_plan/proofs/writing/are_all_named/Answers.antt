use Rattle.std.proofs.Common.{◌≡◌, ◌∙◌, ◌<◌, ℕ, List, map, true, false, length, get_or, ap, sym, arith}
use Rattle.mk_lines.specs.Names.{has_name}
use Rattle.mk_graph.specs.declared.node.Node.{Node}
use Rattle.mk_build.specs.Setting.{name}
use Rattle.mk_world_plan.proofs.Goals.{goal_low, name_at, one_lacks, one_named}
use Rattle.mk_world_plan.proofs.writing.are_all_named.Goals as goal

pub offset_bounds-nodes-goal : goal.offset_bounds-nodes-goal
offset_bounds-nodes-goal c =
    let lt : c.loop-goal.goal-index < length c.goals-goal-items.result.now = omega arith in
    let low = goal_low c.args.graph.now c.goals-goal-items.result.now c.loop-goal.goal-index c.goals-goal-items.ensures.graph c.goals-goal-items.ensures.value lt in
    omega (arith, low, c.goals-goal-items.ensures.graph.few)

pub bounds-nodes-goal : goal.bounds-nodes-goal
bounds-nodes-goal c =
    let lt : c.loop-goal.goal-index < length c.goals-goal-items.result.now = omega arith in
    let low = goal_low c.args.graph.now c.goals-goal-items.result.now c.loop-goal.goal-index c.goals-goal-items.ensures.graph c.goals-goal-items.ensures.value lt in
    omega (arith, low, ap (λ (l : List Node). length l) c.nodes-nodes.ensures.value)

pub returns-then-not-contains : goal.returns-then-not-contains
returns-then-not-contains c =
    let g = c.args.graph.now in
    let named : List (List ℕ) = map (λ goal. goal.now) c.args.goals.now in
    let goals = c.goals-goal-items.result.now in
    let i = c.loop-goal.goal-index in
    let n = get_or goals i 0 in
    let lt : i < length goals = omega arith in
    let low : n < length c.nodes-nodes.result.now = omega (arith, goal_low g goals i c.goals-goal-items.ensures.graph c.goals-goal-items.ensures.value lt, ap (λ (l : List Node). length l) c.nodes-nodes.ensures.value) in
    let this : c.as_str.result.now ≡ name g n = c.as_str.ensures ∙ name_at g c.nodes-nodes.result.now n c.index-nodes-goal.result c.nodes-nodes.ensures.value low in
    let told : c.contains.result ≡ has_name named (name g n) = c.contains.ensures ∙ (c.in_ok-named.ensures c.as_str.result.now ∙ ap (has_name named) this) in
    let off : c.contains.result ≡ false = c.if-not-contains.true in
    one_lacks g named goals i c.goals-goal-items.ensures.value lt (sym told ∙ off)

pub loop-goal-preserved : goal.loop-goal-preserved
loop-goal-preserved c =
    let g = c.args.graph.now in
    let named : List (List ℕ) = map (λ goal. goal.now) c.args.goals.now in
    let goals = c.goals-goal-items.result.now in
    let i = c.loop-goal.goal-index in
    let n = get_or goals i 0 in
    let lt : i < length goals = omega arith in
    let low : n < length c.nodes-nodes.result.now = omega (arith, goal_low g goals i c.goals-goal-items.ensures.graph c.goals-goal-items.ensures.value lt, ap (λ (l : List Node). length l) c.nodes-nodes.ensures.value) in
    let this : c.as_str.result.now ≡ name g n = c.as_str.ensures ∙ name_at g c.nodes-nodes.result.now n c.index-nodes-goal.result c.nodes-nodes.ensures.value low in
    let told : c.contains.result ≡ has_name named (name g n) = c.contains.ensures ∙ (c.in_ok-named.ensures c.as_str.result.now ∙ ap (has_name named) this) in
    let on : c.contains.result ≡ true = c.if-not-contains.false in
    one_named g named goals i lt (sym told ∙ on) c.loop-goal.invariant
