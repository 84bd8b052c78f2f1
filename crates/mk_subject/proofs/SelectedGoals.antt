-- A graph that was selected has the goals by their names.
use Rattle.std.proofs.Common.{◌≡◌, ℕ, zero, suc, ◌<◌, List, [], ◌∷◌, get_or, length, map, true, Option, Some, None, Ok, inl, inr, ⊎_elim, refl, sym, ap, ◌∙◌, arith}
use Rattle.std.specs.Prelude.{bytes_eq}
use Rattle.std.proofs.lemmas.Bool.{true≢false, cases_lt}
use Rattle.std.proofs.lemmas.List.{get_or-map}
use Rattle.std.proofs.lemmas.List.Sums.{fails_before_first, passes_at_first}
use Rattle.std.proofs.lemmas.Slice.Eq.{bytes_eq-Decides}
use Rattle.mk_lines.specs.Names.{number_of}
use Rattle.mk_graph.specs.declared.node.Node.{Node}
use Rattle.mk_graph.specs.Graph.{Graph, no_node}
use Rattle.mk_graph.specs.Membership.{Has}
use Rattle.mk_build.specs.Setting as build
use Rattle.mk_read.specs.Reading.{Makefile}
use Rattle.mk_infer.specs.Laws.{MeetsWhatIsReached, goal}
use Rattle.mk_infer.specs.Selection.{Selects, BuiltUnless, lacking, graph_of, needs, node_of}
use Rattle.mk_infer.specs.There.{Exists}

-- where a name stands in a list, it has a place
place_of : (all : List (List ℕ)) (name : List ℕ) → Has all name → (k : ℕ) × (k < length all) × (get_or all k [] ≡ name)
place_of [] name h = absurd h
place_of (other ∷ all) name (inl here) = (zero, omega arith, here)
place_of (other ∷ all) name (inr there) = let (k, low, same) = place_of all name there in (suc k, omega arith, same)

-- and at its number it stands
number_stands : (all : List (List ℕ)) (name : List ℕ) → Has all name → (number_of all name < length all) × (get_or all (number_of all name) [] ≡ name)
number_stands all name h =
    let (k, low, same) = place_of all name h in
    let here : bytes_eq name (get_or all k []) ≡ true = (bytes_eq-Decides name (get_or all k [])).1 (sym same) in
    let within : number_of all name < length all = ⊎_elim (λ before. absurd (true≢false (sym here ∙ fails_before_first (λ other. bytes_eq name other) all k [] before))) (λ past. omega arith) (cases_lt k (number_of all name)) in
    (within, sym ((bytes_eq-Decides name (get_or all (number_of all name) [])).0 (passes_at_first (λ other. bytes_eq name other) all [] within)))

module _ (m : Makefile) (e : Exists) (goals all : List (List ℕ)) where
  named : (name : List ℕ) → Has all name → build.name (graph_of m e goals all) (number_of all name) ≡ name
  named name h =
      let (within, same) = number_stands all name h in
      ap (λ (n : Node). n.name) (get_or-map (node_of m e all) all (number_of all name) [] no_node within) ∙ same

  named_all : (names : List (List ℕ)) → ((name : List ℕ) → Has names name → Has all name) → map (build.name (graph_of m e goals all)) (map (number_of all) names) ≡ names
  named_all [] within = refl
  named_all (name ∷ names) within =
      ap (λ (n : List ℕ). n ∷ map (build.name (graph_of m e goals all)) (map (number_of all) names)) (named name (within name (inl refl))) ∙ ap (λ (ns : List (List ℕ)). name ∷ ns) (named_all names (λ other h. within other (inr h)))

pub goals_named : MeetsWhatIsReached → (m : Makefile) (e : Exists) (goals : List (List ℕ)) (g : Graph) → Selects m e goals (Ok g) → map (build.name g) g.goals ≡ goals
goals_named meets m e goals g (all, met, unless) = from (lacking m e all) unless
  where
    from : (o : Option (List ℕ)) → BuiltUnless m o (graph_of m e goals all) (Ok g) → map (build.name g) g.goals ≡ goals
    from None built =
        let same : g ≡ graph_of m e goals all = built.3 in
        ap (λ (h : Graph). map (build.name h) h.goals) same ∙ named_all m e goals all goals (λ name h. ((meets (needs m e) goals all met).1 name).1 (goal h))
    from (Some name) answer = absurd (cc)
