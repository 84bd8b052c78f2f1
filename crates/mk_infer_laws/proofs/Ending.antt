-- A walk comes to its end, since few names need something; so goals have an answer.
use Rattle.std.proofs.Common.{◌≡◌, ℕ, zero, suc, ◌+◌, ◌≤◌, List, [], ◌∷◌, ◌++◌, map, length, Option, Some, None, Result, Ok, Err, inl, inr, refl, sym, subst, arith}
use Rattle.std.proofs.lemmas.Bool.{both_ways, cases_Bool, cases_lt}
use Rattle.std.proofs.lemmas.List.{length-append}
use Rattle.mk_lines.proofs.NameTests.{Has-from_has_name, has_name-from_Has}
use Rattle.mk_graph.specs.Build.{WalksAll}
use Rattle.mk_graph.specs.Graph.{Graph, node}
use Rattle.mk_graph.specs.Laws.{WalkHasAnEnd}
use Rattle.mk_graph.specs.Walk.{WalkEnd, Through, Closes}
use Rattle.mk_graph.specs.declared.fault.GraphFault.TheVariants as graph
use Rattle.mk_lines.specs.Names.{has_name}
use Rattle.mk_read.specs.Laws.{GroupsKeepTheirWords}
use Rattle.mk_read.specs.Reading.{Makefile}
use Rattle.mk_infer.specs.declared.fault.InferFault.{InferFault}
use Rattle.mk_infer.specs.declared.fault.InferFault.TheVariants.{NoRule, Graph as Refused}
use Rattle.mk_infer.specs.Ends.{needing, weight}
use Rattle.mk_infer.specs.Laws.{HandedGraphIsSound, IsSettled, NewNamesLeaveLess, SelectionExists, WalkExists, WalkGoesOn}
use Rattle.mk_infer.specs.Needed.{closing_place, needing_place}
use Rattle.mk_infer.specs.Selection.{BuiltUnless, Selects, graph_of, lacking, needs}
use Rattle.mk_infer.specs.There.{Exists}
use Rattle.mk_infer.specs.Walk.{Meets}
use Rattle.mk_infer_laws.proofs.Inferable.{covered}
use Rattle.mk_infer_laws.proofs.Soundness.{is_sound}
use Rattle.mk_infer_laws.proofs.Stacks.{Stack, ends, known, new, to_tree}
use Rattle.mk_infer_laws.proofs.Walking.{Covers, falls}

abbrev Name : Type 0
Name = List ℕ

module _ (needs : Name → List Name) where
  module _ (names : List Name) (covers : Covers needs names) where
    -- from here on a walk comes to its end
    pub comes_to_an_end : (fuel : ℕ) (met todo : List Name) → weight needs met names + length todo ≤ fuel → (all : List Name) × Stack needs met todo all
    comes_to_an_end fuel met [] le = (met, ends)
    comes_to_an_end zero met (name ∷ todo) le = absurd (omega arith)
    comes_to_an_end (suc fuel) met (name ∷ todo) le =
        elim (cases_Bool (has_name met name)) [
          | inl t ↦ let r = comes_to_an_end fuel met todo (omega arith) in (r.0, known (Has-from_has_name met name t) r.1)
          | inr f ↦ (
              let off = falls needs names covers met name f in
              let long = length-append (needs name) todo in
              let r = comes_to_an_end fuel (met ++ name ∷ []) (needs name ++ todo) (omega arith) in
              (r.0, new (λ h. both_ways (has_name met name) f (has_name-from_Has met name h)) r.1))
        ]

-- a new name leaves less to do
pub new_names_leave_less : NewNamesLeaveLess
new_names_leave_less m e met names name h =
    let off = falls (needs m e) (needing m e) (covered m e) met name h in
    let long = length-append (needs m e name) names in
    omega arith

-- the rest of a walk over a makefile
pub goes_on : (m : Makefile) (e : Exists) (met todo : List Name) → (all : List Name) × Stack (needs m e) met todo all
goes_on m e met todo = comes_to_an_end (needs m e) (needing m e) (covered m e) (weight (needs m e) met (needing m e) + length todo) met todo (omega arith)

pub walk_goes_on : WalkGoesOn
walk_goes_on m e met names = let r = goes_on m e met names in (r.0, to_tree r.1)

pub walk_exists : WalkExists
walk_exists m e goals = let r = goes_on m e [] goals in (r.0, to_tree r.1)

module _ (an_end : WalkHasAnEnd) (keeps : GroupsKeepTheirWords) (m : Makefile) (e : Exists) (goals all : List Name) (walk : Meets (needs m e) [] goals all) where
  abbrev handed : Graph
  handed = graph_of m e goals all

  abbrev Answered : Type 0
  Answered = (answer : Result Graph InferFault) × IsSettled answer × Selects m e goals answer

  module _ (none : lacking m e all ≡ None) where
    unless : (answer : Result Graph InferFault) → BuiltUnless m None handed answer → BuiltUnless m (lacking m e all) handed answer
    unless answer b = subst (λ (first : Option Name). BuiltUnless m first handed answer) (sym none) b

    by_end : length handed.nodes ≤ 4096 → (end : WalkEnd) → WalksAll handed end → Answered
    by_end le (Through finished) walks = (Ok handed, tt, (all, walk, unless (Ok handed) (le, finished, walks, refl)))
    by_end le (Closes path) walks =
        let names : List Name = map (λ n. (node handed n).name) path in
        (Err (Refused (graph.Cycle names) (closing_place m names)), tt, (all, walk, unless (Err (Refused (graph.Cycle names) (closing_place m names))) ((le, path, walks, refl), refl)))

    by_count : Answered
    by_count =
        elim (cases_lt 4096 (length handed.nodes)) [
          | inl lt ↦ (Err (Refused graph.TooManyNodes None), tt, (all, walk, unless (Err (Refused graph.TooManyNodes None)) (lt, refl)))
          | inr le ↦ (let end = an_end handed (is_sound keeps m e goals all walk) in by_end le end.0 end.1)
        ]

  by_lacking : (first : Option Name) → lacking m e all ≡ first → Answered
  by_lacking None none = by_count none
  by_lacking (Some name) same = (Err (NoRule name (needing_place m name)), tt, (all, walk, subst (λ (o : Option Name). BuiltUnless m o handed (Err (NoRule name (needing_place m name)))) (sym same) refl))

  pub answered : Answered
  answered = by_lacking (lacking m e all) refl

pub selection_exists : WalkHasAnEnd → GroupsKeepTheirWords → SelectionExists
selection_exists an_end keeps m e goals = let walk = walk_exists m e goals in answered an_end keeps m e goals walk.0 walk.1

pub handed_graph_is_sound : GroupsKeepTheirWords → HandedGraphIsSound
handed_graph_is_sound keeps m e goals all walk = is_sound keeps m e goals all walk
