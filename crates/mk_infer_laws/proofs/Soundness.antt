-- The graph of the names that goals reach is what the maker of a graph owes.
use Rattle.std.proofs.Common.{◌≡◌, ℕ, zero, suc, ◌+◌, ◌<◌, ◌≤◌, Bool, true, false, not, cond, Option, Some, None, List, [], ◌∷◌, ◌++◌, map, length, get_or, inl, inr, refl, sym, ap, subst, ◌∙◌, ⊎_elim, arith}
use Rattle.std.specs.Str.{bytes_eq}
use Rattle.std.specs.List.{flat_map}
use Rattle.std.specs.Prelude.{option_to_list}
use Rattle.std.proofs.Math.Numerals.{one-add}
use Rattle.std.proofs.lemmas.Bool.{cases_lt, both_ways, false_from_ne_true}
use Rattle.std.proofs.lemmas.List.{get_or-map, get_or_past, length-map}
use Rattle.std.proofs.lemmas.Slice.Eq.{bytes_eq-Decides}
use Rattle.mk_lemmas.proofs.Members.{Has-from_map, Has-get_or, Has-map}
use Rattle.mk_graph.specs.declared.node.Node.{Node}
use Rattle.mk_graph.specs.Graph.{IsSound, Reached, goal, onward, node, no_node, prerequisites}
use Rattle.mk_graph.specs.Membership.{Has, IsDistinct}
use Rattle.mk_lines.specs.Names.{number_of}
use Rattle.mk_read.specs.Laws.{GroupsKeepTheirWords, joined}
use Rattle.mk_read.specs.Needs.{groups}
use Rattle.mk_read.specs.Reading.{Makefile}
use Rattle.mk_infer.specs.Inference.{choice}
use Rattle.mk_infer.specs.Selection.{needs, with_choice, groups_of, node_of, graph_of}
use Rattle.mk_infer.specs.Targets.{words_for}
use Rattle.mk_infer.specs.There.{Exists}
use Rattle.mk_infer.specs.Walk.{Meets}
use Rattle.mk_infer_laws.proofs.Stacks.{of_tree}
use Rattle.mk_infer_laws.proofs.Walks.{stay_distinct, gets_met, stay_closed, goes_along}
use Rattle.mk_infer_laws.proofs.RuleNeeds.{flat_numbered}

abbrev Name : Type 0
Name = List ℕ

-- ---- places of names

-- the place of a name that stands in the list is within it
pub number_below : (names : List Name) (name : Name) → Has names name → number_of names name < length names
number_below [] name h = absurd h
number_below (other ∷ names) name h = by_first (bytes_eq name other) refl h (number_below names name)
  where
    by_first : (b : Bool) → bytes_eq name other ≡ b → Has (other ∷ names) name → (Has names name → number_of names name < length names) → cond (not b) (1 + number_of names name) 0 < suc (length names)
    by_first true t k ih = omega arith
    by_first false f (inl e) ih = absurd (both_ways _ f ((bytes_eq-Decides name other).1 (sym e)))
    by_first false f (inr k) ih = omega (arith, ih k)

-- the name stands at its place
pub get_number : (names : List Name) (name d : Name) → Has names name → get_or names (number_of names name) d ≡ name
get_number [] name d h = absurd h
get_number (other ∷ names) name d h = by_first (bytes_eq name other) refl h (get_number names name d)
  where
    by_first : (b : Bool) → bytes_eq name other ≡ b → Has (other ∷ names) name → (Has names name → get_or names (number_of names name) d ≡ name) → get_or (other ∷ names) (cond (not b) (1 + number_of names name) 0) d ≡ name
    by_first true t k ih = sym ((bytes_eq-Decides name other).0 t)
    by_first false f (inl e) ih = absurd (both_ways _ f ((bytes_eq-Decides name other).1 (sym e)))
    by_first false f (inr k) ih = rw one-add (ih k)

-- among names that differ, what stands at a place has it
number_get : (names : List Name) (i : ℕ) (d : Name) → IsDistinct names → i < length names → number_of names (get_or names i d) ≡ i
number_get [] i d distinct lt = absurd (omega arith)
number_get (other ∷ names) zero d distinct lt = ap (λ b. cond (not b) (1 + number_of names other) 0) ((bytes_eq-Decides other other).1 refl)
number_get (other ∷ names) (suc i) d distinct lt =
    let there : i < length names = omega arith in
    let differs : bytes_eq (get_or names i d) other ≡ false = false_from_ne_true _ (λ t. distinct.0 (subst (Has names) ((bytes_eq-Decides (get_or names i d) other).0 t) (Has-get_or names i d there))) in
    ap (λ b. cond (not b) (1 + number_of names (get_or names i d)) 0) differs ∙ (ap (λ n. 1 + n) (number_get names i d distinct.1 there) ∙ one-add i)

-- ---- the graph

-- the inferred prerequisite before all others
joined_with : (apart : Bool) (inferred : Option Name) (gs : List (List Name)) → joined (with_choice apart inferred gs) ≡ option_to_list inferred ++ joined gs
joined_with apart None gs = refl
joined_with true (Some name) gs = refl
joined_with false (Some name) [] = refl
joined_with false (Some name) (group ∷ gs) = refl

names_of_nodes : (m : Makefile) (e : Exists) (all names : List Name) → map (λ (n : Node). n.name) (map (node_of m e all) names) ≡ names
names_of_nodes m e all [] = refl
names_of_nodes m e all (name ∷ names) = ap (λ ns. name ∷ ns) (names_of_nodes m e all names)

module _ (keeps : GroupsKeepTheirWords) (m : Makefile) (e : Exists) (goals all : List Name) where
  -- the groups hold what the name needs
  pub grouped : (name : Name) → joined (groups_of m e name) ≡ needs m e name
  grouped name = joined_with m.not_parallel (choice m e name) (groups m.not_parallel (words_for m name)) ∙ ap (λ ns. option_to_list (choice m e name) ++ ns) (keeps m.not_parallel (words_for m name))

  -- what a number's node is
  pub node_is : (n : ℕ) → n < length all → node (graph_of m e goals all) n ≡ node_of m e all (get_or all n [])
  node_is n lt = get_or-map (node_of m e all) all n [] no_node lt

  pub prerequisites_are : (n : ℕ) → n < length all → prerequisites (graph_of m e goals all) n ≡ map (number_of all) (needs m e (get_or all n []))
  prerequisites_are n lt = ap (λ (x : Node). flat_map (λ group. group) x.groups) (node_is n lt) ∙ (flat_numbered all (groups_of m e (get_or all n [])) ∙ ap (map (number_of all)) (grouped (get_or all n [])))

  -- a number past the nodes has no prerequisites
  pub none_past : (n p : ℕ) → length all ≤ n → Has (prerequisites (graph_of m e goals all) n) p → ⊥
  none_past n p le h =
      let past : node (graph_of m e goals all) n ≡ no_node = get_or_past (map (node_of m e all) all) n no_node (omega (arith, length-map all (node_of m e all))) in
      subst (λ (x : Node). Has (flat_map (λ group. group) x.groups) p) past h

  count : length (map (node_of m e all) all) ≡ length all
  count = length-map all (node_of m e all)

  -- a prerequisite's number, from the name's
  pub edge : (name word : Name) → Has all name → Has (needs m e name) word → Has (prerequisites (graph_of m e goals all) (number_of all name)) (number_of all word)
  edge name word h k =
      let at : prerequisites (graph_of m e goals all) (number_of all name) ≡ map (number_of all) (needs m e name) =
      prerequisites_are (number_of all name) (number_below all name h) ∙ ap (λ n. map (number_of all) (needs m e n)) (get_number all name [] h) in
      subst (λ (ns : List ℕ). Has ns (number_of all word)) (sym at) (Has-map (number_of all) (needs m e name) word k)

  -- the maker owes nothing more
  pub is_sound : Meets (needs m e) [] goals all → IsSound (graph_of m e goals all)
  is_sound w =
      let needing : Name → List Name = needs m e in
      let distinct : IsDistinct all = stay_distinct needing (of_tree w) tt in
      let closed : (n : Name) → Has all n → (x : Name) → Has (needing n) x → Has all x = stay_closed needing (of_tree w) (λ n h. absurd h) in
      let reach : (a : Name) → Has all a → Reached (graph_of m e goals all) (number_of all a) =
      goes_along needing (λ a. Reached (graph_of m e goals all) (number_of all a)) (λ n x h r k. onward r (edge n x h k)) (of_tree w) (λ x h. absurd h) (λ t h. goal (Has-map (number_of all) goals t h)) in
      record {
        names = subst IsDistinct (sym (names_of_nodes m e all all)) distinct;
        goals = λ n h. let k = Has-from_map (number_of all) goals n h in
            let lt = number_below all k.0 (gets_met needing (of_tree w) k.0 k.1) in
            let same = k.2 in omega (arith, count);
        edges = λ n p h. ⊎_elim
            (λ lt. let k = Has-from_map (number_of all) (needing (get_or all n [])) p (subst (λ (ns : List ℕ). Has ns p) (prerequisites_are n lt) h) in
            let below = number_below all k.0 (closed (get_or all n []) (Has-get_or all n [] lt) k.0 k.1) in
            let same = k.2 in
            let fits : p < length (map (node_of m e all) all) = omega (arith, count) in fits)
            (λ le. absurd (none_past n p le h)) (cases_lt n (length all));
        reached = λ n lt. let low : n < length all = omega (arith, count) in
            subst (Reached (graph_of m e goals all)) (number_get all n [] distinct low) (reach (get_or all n []) (Has-get_or all n [] low));
      }
