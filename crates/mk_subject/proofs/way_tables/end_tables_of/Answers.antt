use Rattle.std.proofs.Common.{◌≡◌, [], true, false, get_or, subst}
use Rattle.std.specs.Prelude.{◌↔◌}
use Rattle.mk_graph.specs.Graph.{Graph, prerequisites}
use Rattle.mk_graph.specs.Membership.{Has}
use Rattle.mk_build.specs.Setting.{IsAlwaysMade}
use Rattle.mk_subject.proofs.way_tables.end_tables_of.Goals as goal

pub returns : goal.returns
returns c =
    let same = c.graph-graph.ensures.value in
    let needed = c.in_ok-needed_by.field-0.items in
    let always = c.in_ok-always_made.field-0.items in
    record {
      needed_held = λ t p. subst (λ (g : Graph). Has (get_or needed t []) p ↔ Has (prerequisites g t) p) same (c.in_ok-needed_by.ensures t p);
      always_held = λ t. subst (λ (g : Graph). (get_or always t false ≡ true) ↔ IsAlwaysMade g t) same (c.in_ok-always_made.ensures t);
    }
