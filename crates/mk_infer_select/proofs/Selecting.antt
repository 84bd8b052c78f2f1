-- What becomes of the goals, step by step.
use Rattle.std.proofs.Common.{◌≡◌, ℕ, ◌<◌, ◌≤◌, List, Option, None, Some, map, length, take, Result, Ok, Err, refl, sym, ap, subst, ◌∙◌, arith}
use Rattle.std.specs.Option.{option_map}
use Rattle.std.specs.Prelude.{find}
use Rattle.std.proofs.lemmas.List.{length-map, length-take}
use Rattle.mk_graph.specs.declared.fault.GraphFault.{GraphFault}
use Rattle.mk_graph.specs.declared.fault.GraphFault.TheVariants as graph
use Rattle.mk_graph.specs.declared.node.Node.{Node}
use Rattle.mk_graph.specs.Graph.{Graph, IsSound}
use Rattle.mk_graph.specs.Build.{Builds}
use Rattle.mk_read.specs.Reading.{Makefile}
use Rattle.mk_infer.specs.declared.fault.InferFault.{InferFault}
use Rattle.mk_infer.specs.declared.fault.InferFault.TheVariants.{Graph as Refused, NoRule}
use Rattle.mk_lines.specs.Names.{number_of}
use Rattle.mk_infer.specs.Laws.{HandedGraphIsSound}
use Rattle.mk_infer.specs.Needed.{closing_place, needing_place}
use Rattle.mk_infer.specs.Selection.{Built, BuiltUnless, Selects, graph_of, lacking, node_of}
use Rattle.mk_infer.specs.Steps.{of_graph}
use Rattle.mk_infer_select.specs.Walked.{IsWalked, VisitedName, Walked, lacks, node_with}
use Rattle.mk_infer.specs.There.{Exists}
use Rattle.mk_infer_select.proofs.Keeping.{lacking_kept, nodes_kept}

-- the first name that lacks a rule, by what a walk kept
abbrev pub first_of : Makefile → Exists → List VisitedName → Option (List ℕ)
first_of m e met = option_map (λ (x : VisitedName). x.name) (find (lacks m e) met)

-- the graph that is handed in
abbrev pub handed : Makefile → List (List ℕ) → Walked → Graph
handed m goals walked = record { nodes = map (node_with m walked.names) walked.met; goals = map (number_of walked.names) goals }

module _ (m : Makefile) (e : Exists) (goals : List (List ℕ)) (walked : Walked) (w : IsWalked m e goals walked) where
  -- a name lacks a rule
  pub one_lacks : (name : List ℕ) → first_of m e walked.met ≡ Some name → Selects m e goals (Err (NoRule name (needing_place m name)))
  one_lacks name is =
      let first : lacking m e w.all ≡ Some name = sym (lacking_kept m e w.all walked.met w.made) ∙ is in
      (w.all, w.walk, subst (λ (o : Option (List ℕ)). BuiltUnless m o (graph_of m e goals w.all) (Err (NoRule name (needing_place m name)))) (sym first) refl)

  module _ (none : first_of m e walked.met ≡ None) where
    pub unless : (answer : Result Graph InferFault) → Built m (graph_of m e goals w.all) answer → BuiltUnless m (lacking m e w.all) (graph_of m e goals w.all) answer
    unless answer b = subst (λ (first : Option (List ℕ)). BuiltUnless m first (graph_of m e goals w.all) answer) (sym (sym (lacking_kept m e w.all walked.met w.made) ∙ none)) b

    -- more names than a graph may have nodes
    pub too_many_met : 4096 < length walked.names → Selects m e goals (Err (Refused graph.TooManyNodes None))
    too_many_met lt =
        let front : length walked.names ≡ length (take 4097 w.all) = ap length w.front in
        let counted = length-take 4097 w.all in
        let more : 4096 < length w.all = omega arith in
        (w.all, w.walk, unless (Err (Refused graph.TooManyNodes None)) (subst (λ n. 4096 < n) (sym (length-map w.all (node_of m e w.all))) more, refl))

    module _ (few : length walked.names ≤ 4096) where
      -- what is handed in is the graph of all names
      pub same_graph : handed m goals walked ≡ graph_of m e goals w.all
      same_graph =
          let kept = nodes_kept m e w.all walked.names walked.met w.front few w.made in
          let with_nodes : List Node → Graph = λ nodes. record { nodes = nodes; goals = map (number_of walked.names) goals } in
          let with_names : List (List ℕ) → Graph = λ names. record { nodes = map (node_of m e w.all) w.all; goals = map (number_of names) goals } in
          ap with_nodes kept.1 ∙ ap with_names kept.0

      pub sound_handed : HandedGraphIsSound → IsSound (handed m goals walked)
      sound_handed sound = subst IsSound (sym same_graph) (sound m e goals w.all w.walk)

      -- it is built
      pub built_ok : (g : Graph) → Builds (handed m goals walked) (Ok g) → Selects m e goals (Ok g)
      built_ok g b = (w.all, w.walk, unless (Ok g) (subst (λ h. Builds h (Ok g)) same_graph b))

      -- why there is no graph
      pub built_err : (fault : GraphFault) → Builds (handed m goals walked) (Err fault) → Selects m e goals (Err (of_graph m fault))
      built_err graph.Memory b = tt
      built_err graph.TooManyNodes b = (w.all, w.walk, unless (Err (Refused graph.TooManyNodes None)) (subst (λ h. Builds h (Err graph.TooManyNodes)) same_graph b, refl))
      built_err (graph.Cycle names) b = (w.all, w.walk, unless (Err (Refused (graph.Cycle names) (closing_place m names))) (subst (λ h. Builds h (Err (graph.Cycle names))) same_graph b, refl))
