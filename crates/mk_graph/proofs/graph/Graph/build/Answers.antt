-- What the walk of the rows says of the graph.
use Rattle.std.proofs.Common.{◌∙◌, ◌≤◌, ap, refl, arith, reverse, length, map, List}
use Rattle.mk_graph.specs.declared.node.Node.{Node}
use Rattle.mk_graph.specs.Graph.{Graph}
use Rattle.mk_graph.specs.declared.walk.End.TheVariants.{Order, Cycle}
use Rattle.mk_graph.proofs.Building.{joined_groups, rows_within, walked, is_graph, path_within}
use Rattle.mk_graph.proofs.graph.Graph.build.Goals as goal

pub walk-requires-clause-rows : goal.walk-requires-clause-rows
walk-requires-clause-rows c =
    let g : Graph = record { nodes = c.args.nodes.items; goals = c.args.goals.items } in
    rw c.deref-2.ensures.value (rows_within g c.in_ok-rows.rows.items (c.in_ok-rows.ensures ∙ ap (λ (l : List Node). map joined_groups l) c.deref.ensures.value) c.requires)

pub invariant_of-result : goal.invariant_of-result
invariant_of-result c =
    let g : Graph = record { nodes = c.args.nodes.items; goals = c.args.goals.items } in
    let few : length c.args.nodes.items ≤ 4096 = omega (arith, c.args.nodes.ok.0) in
    let both = is_graph g c.in-Order.order.items c.requires few
    (walked g c.in_ok-rows.rows.items c.deref-2.result.now c.deref.result.now c.deref-3.result.now
    (Order c.in-Order.order) c.in_ok-order.field-0 c.deref-2.ensures.value c.in_ok-rows.ensures
    c.deref.ensures.value c.deref-3.ensures.value c.in-Order.is c.in_ok-order.ensures) in
    (both.0, both.1, c.in_ok-rows.ensures ∙ ap (λ (l : List Node). map joined_groups l) c.deref.ensures.value)

pub returns-in-Order : goal.returns-in-Order
returns-in-Order c =
    let g : Graph = record { nodes = c.args.nodes.items; goals = c.args.goals.items } in
    let few : length c.args.nodes.items ≤ 4096 = omega (arith, c.args.nodes.ok.0) in (
      few,
      reverse c.in-Order.order.items,
      walked g c.in_ok-rows.rows.items c.deref-2.result.now
          c.deref.result.now c.deref-3.result.now (Order c.in-Order.order) c.in_ok-order.field-0
          c.deref-2.ensures.value c.in_ok-rows.ensures c.deref.ensures.value c.deref-3.ensures.value
          c.in-Order.is c.in_ok-order.ensures,
      refl,
    )

pub names_along-requires : goal.names_along-requires
names_along-requires c =
    let g : Graph = record { nodes = c.args.nodes.items; goals = c.args.goals.items } in
    rw (c.deref-in-Cycle.ensures.value, c.deref-in-Cycle-2.ensures.value)
    (path_within g c.in-Cycle.path.items c.requires (walked g c.in_ok-rows.rows.items c.deref-2.result.now
    c.deref.result.now c.deref-3.result.now (Cycle c.in-Cycle.path) c.in_ok-order.field-0
    c.deref-2.ensures.value c.in_ok-rows.ensures c.deref.ensures.value c.deref-3.ensures.value
    c.in-Cycle.is c.in_ok-order.ensures))

pub returns-in_ok-names_along-in-Cycle : goal.returns-in_ok-names_along-in-Cycle
returns-in_ok-names_along-in-Cycle c =
    let g : Graph = record { nodes = c.args.nodes.items; goals = c.args.goals.items } in
    let few : length c.args.nodes.items ≤ 4096 = omega (arith, c.args.nodes.ok.0) in (
      few,
      c.in-Cycle.path.items,
      walked g c.in_ok-rows.rows.items c.deref-2.result.now c.deref.result.now
          c.deref-3.result.now (Cycle c.in-Cycle.path) c.in_ok-order.field-0 c.deref-2.ensures.value
          c.in_ok-rows.ensures c.deref.ensures.value c.deref-3.ensures.value c.in-Cycle.is
          c.in_ok-order.ensures,
      rw (
        c.in_ok-names_along-in-Cycle.ensures,
        c.deref-in-Cycle.ensures.value,
        c.deref-in-Cycle-2.ensures.value,
      ) refl,
    )
