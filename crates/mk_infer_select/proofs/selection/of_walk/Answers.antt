use Rattle.std.proofs.Common.{◌≡◌, ◌≤◌, List, ℕ, Ok, Err, Some, inl, inr, length, map, sym, ap, subst, ◌∙◌, arith}
use Rattle.std.specs.Option.{option_map}
use Rattle.std.proofs.lemmas.List.{length-map}
use Rattle.mk_lemmas.proofs.Texts.{texts}
use Rattle.mk_graph.specs.declared.node.Node.{Node}
use Rattle.mk_graph.specs.Build.{Builds}
use Rattle.mk_graph.specs.Graph.{Graph, IsSound}
use Rattle.mk_lines.specs.Names.{number_of}
use Rattle.mk_read.specs.Reading.{Makefile}
use Rattle.mk_infer.specs.Needed.{needing_place}
use Rattle.mk_infer.specs.Selection.{Selects}
use Rattle.mk_infer.specs.Steps.{of_graph}
use Rattle.mk_infer.specs.declared.fault.InferFault.{InferFault}
use Rattle.mk_infer.specs.declared.fault.InferFault.TheVariants.{NoRule}
use Rattle.mk_infer_select.specs.Walked.{Walked, node_with}
use Rattle.mk_infer_select.proofs.Selecting.{built_err, built_ok, first_of, handed, one_lacks, sound_handed, too_many_met}
use Rattle.mk_infer_select.proofs.selection.of_walk.Goals as goal

pub returns-in-Some : goal.returns-in-Some
returns-in-Some c =
    let m = c.args.choices.now.makefile in
    let e = c.args.choices.now.exists in
    let walked = c.args.walked.now in
    let w = c.requires in
    let met : c.deref.result.now ≡ walked.met = c.deref.ensures.value ∙ ap (λ (x : Walked). x.met) c.walked.view_is in
    let name = c.in-Some.name.now in
    let is : c.in_ok-no_rule.field-0 ≡ NoRule name (needing_place m name) = c.in_ok-no_rule.ensures ∙ ap (λ (t : Makefile). NoRule name (needing_place t name)) c.table.ensures in
    let lacks : first_of m e walked.met ≡ Some name = ap (first_of m e) (sym met) ∙ (sym c.first_lacking.ensures ∙ ap (option_map (λ n. n.now)) c.in-Some.is) in
    subst (λ (f : InferFault). Selects m e (texts c.args.goals.now) (Err f)) (sym is) (one_lacks m e (texts c.args.goals.now) walked w name lacks)

pub returns-then-as_slice-gt-MAX_NODES : goal.returns-then-as_slice-gt-MAX_NODES
returns-then-as_slice-gt-MAX_NODES c =
    let m = c.args.choices.now.makefile in
    let e = c.args.choices.now.exists in
    let walked = c.args.walked.now in
    let w = c.requires in
    let met : c.deref.result.now ≡ walked.met = c.deref.ensures.value ∙ ap (λ (x : Walked). x.met) c.walked.view_is in
    let none = ap (first_of m e) (sym met) ∙ (sym c.first_lacking.ensures ∙ ap (option_map (λ n. n.now)) c.in_default.is) in
    let count : length c.as_slice.result.now ≡ length walked.names = sym (length-map c.as_slice.result.now (λ n. n.now)) ∙ ap length (c.as_slice.ensures ∙ ap (λ (x : Walked). x.names) c.walked.view_is) in
    too_many_met m e (texts c.args.goals.now) walked w none (omega arith)

pub build-requires : goal.build-requires
build-requires c =
    let m = c.args.choices.now.makefile in
    let e = c.args.choices.now.exists in
    let goals = (texts c.args.goals.now) in
    let walked = c.args.walked.now in
    let w = c.requires in
    let met : c.deref.result.now ≡ walked.met = c.deref.ensures.value ∙ ap (λ (x : Walked). x.met) c.walked.view_is in
    let none = ap (first_of m e) (sym met) ∙ (sym c.first_lacking.ensures ∙ ap (option_map (λ n. n.now)) c.in_default.is) in
    let names : c.walked.inside.names ≡ walked.names = ap (λ (x : Walked). x.names) c.walked.view_is in
    let count : length c.as_slice.result.now ≡ length walked.names = sym (length-map c.as_slice.result.now (λ n. n.now)) ∙ ap length (c.as_slice.ensures ∙ names) in
    let nodes : c.in_ok-nodes.nodes.items ≡ map (node_with m walked.names) walked.met =
    c.in_ok-nodes.ensures ∙ (ap (λ (ns : List (List ℕ)). map (node_with m ns) c.deref-2.result.now) names ∙ ap (map (node_with m walked.names)) (c.deref-2.ensures.value ∙ ap (λ (x : Walked). x.met) c.walked.view_is)) in
    let numbers : c.in_ok-goals.goals.items ≡ map (number_of walked.names) goals =
    c.in_ok-goals.ensures ∙ (ap (λ (ns : List (List ℕ)). map (number_of ns) goals) names) in
    let with_nodes : List Node → Graph = λ ns. record { nodes = ns; goals = c.in_ok-goals.goals.items } in
    let with_goals : List ℕ → Graph = λ ns. record { nodes = map (node_with m walked.names) walked.met; goals = ns } in
    let same : with_nodes c.in_ok-nodes.nodes.items ≡ handed m goals walked = ap with_nodes nodes ∙ ap with_goals numbers in
    let few : length walked.names ≤ 4096 = omega arith in
    subst IsSound (sym same) (sound_handed m e goals walked w none few c.handed_graph_is_sound.ensures)

pub returns-in-Err : goal.returns-in-Err
returns-in-Err c =
    let m = c.args.choices.now.makefile in
    let e = c.args.choices.now.exists in
    let goals = (texts c.args.goals.now) in
    let walked = c.args.walked.now in
    let w = c.requires in
    let met : c.deref.result.now ≡ walked.met = c.deref.ensures.value ∙ ap (λ (x : Walked). x.met) c.walked.view_is in
    let none = ap (first_of m e) (sym met) ∙ (sym c.first_lacking.ensures ∙ ap (option_map (λ n. n.now)) c.in_default.is) in
    let names : c.walked.inside.names ≡ walked.names = ap (λ (x : Walked). x.names) c.walked.view_is in
    let count : length c.as_slice.result.now ≡ length walked.names = sym (length-map c.as_slice.result.now (λ n. n.now)) ∙ ap length (c.as_slice.ensures ∙ names) in
    let nodes : c.in_ok-nodes.nodes.items ≡ map (node_with m walked.names) walked.met =
    c.in_ok-nodes.ensures ∙ (ap (λ (ns : List (List ℕ)). map (node_with m ns) c.deref-2.result.now) names ∙ ap (map (node_with m walked.names)) (c.deref-2.ensures.value ∙ ap (λ (x : Walked). x.met) c.walked.view_is)) in
    let numbers : c.in_ok-goals.goals.items ≡ map (number_of walked.names) goals =
    c.in_ok-goals.ensures ∙ (ap (λ (ns : List (List ℕ)). map (number_of ns) goals) names) in
    let with_nodes : List Node → Graph = λ ns. record { nodes = ns; goals = c.in_ok-goals.goals.items } in
    let with_goals : List ℕ → Graph = λ ns. record { nodes = map (node_with m walked.names) walked.met; goals = ns } in
    let same : with_nodes c.in_ok-nodes.nodes.items ≡ handed m goals walked = ap with_nodes nodes ∙ ap with_goals numbers in
    let few : length walked.names ≤ 4096 = omega arith in
    let fault = c.in-Err.fault in
    let is_refused : Selects m e goals (Err (of_graph m fault)) = built_err m e goals walked w none few fault (subst (λ (h : Graph). Builds h (Err fault)) same c.in-Err.ensures) in
    elim c.refused.ensures [
      | inl memory ↦ rw memory tt
      | inr is ↦ subst (λ (f : InferFault). Selects m e goals (Err f)) (sym (is ∙ ap (λ (t : Makefile). of_graph t fault) c.table-in-Err.ensures)) is_refused
    ]

pub returns-in-Ok : goal.returns-in-Ok
returns-in-Ok c =
    let m = c.args.choices.now.makefile in
    let e = c.args.choices.now.exists in
    let goals = (texts c.args.goals.now) in
    let walked = c.args.walked.now in
    let w = c.requires in
    let met : c.deref.result.now ≡ walked.met = c.deref.ensures.value ∙ ap (λ (x : Walked). x.met) c.walked.view_is in
    let none = ap (first_of m e) (sym met) ∙ (sym c.first_lacking.ensures ∙ ap (option_map (λ n. n.now)) c.in_default.is) in
    let names : c.walked.inside.names ≡ walked.names = ap (λ (x : Walked). x.names) c.walked.view_is in
    let count : length c.as_slice.result.now ≡ length walked.names = sym (length-map c.as_slice.result.now (λ n. n.now)) ∙ ap length (c.as_slice.ensures ∙ names) in
    let nodes : c.in_ok-nodes.nodes.items ≡ map (node_with m walked.names) walked.met =
    c.in_ok-nodes.ensures ∙ (ap (λ (ns : List (List ℕ)). map (node_with m ns) c.deref-2.result.now) names ∙ ap (map (node_with m walked.names)) (c.deref-2.ensures.value ∙ ap (λ (x : Walked). x.met) c.walked.view_is)) in
    let numbers : c.in_ok-goals.goals.items ≡ map (number_of walked.names) goals =
    c.in_ok-goals.ensures ∙ (ap (λ (ns : List (List ℕ)). map (number_of ns) goals) names) in
    let with_nodes : List Node → Graph = λ ns. record { nodes = ns; goals = c.in_ok-goals.goals.items } in
    let with_goals : List ℕ → Graph = λ ns. record { nodes = map (node_with m walked.names) walked.met; goals = ns } in
    let same : with_nodes c.in_ok-nodes.nodes.items ≡ handed m goals walked = ap with_nodes nodes ∙ ap with_goals numbers in
    let few : length walked.names ≤ 4096 = omega arith in
    built_ok m e goals walked w none few c.in-Ok.graph (subst (λ (h : Graph). Builds h (Ok c.in-Ok.graph)) same c.in-Ok.ensures)
