-- A graph stays selected whatever part of the writes is there, and so do the graphs of parts of its goals.
use Rattle.std.proofs.Common.{◌≡◌, ℕ, suc, ◌+◌, ◌<◌, ◌≤◌, Bool, true, false, cond, List, [], ◌∷◌, ◌++◌, map, take, length, get_or, Option, Some, None, Ok, inl, inr, ◌⊎◌, refl, sym, subst, ap, ◌∙◌, ⊎_elim, arith}
use Rattle.std.specs.Prelude.{find}
use Rattle.std.proofs.lemmas.Bool.{cases_lt}
use Rattle.std.proofs.lemmas.List.{length-append, length-map, take_all}
use Rattle.mk_lemmas.proofs.Members.{Has-cases, Has-from_map, Has-get_or, Has-left, Has-right}
use Rattle.mk_graph.specs.declared.node.Node.{Node}
use Rattle.mk_graph.specs.Build.{WalksAll}
use Rattle.mk_graph.specs.Graph.{Graph, HasPath, one, then, node, prerequisites}
use Rattle.mk_graph.specs.Laws.{ClosesOnlyCycles, ComesThroughWithoutCycles, WalkHasAnEnd}
use Rattle.mk_graph.specs.Membership.{Has, IsDistinct, IsWithin}
use Rattle.mk_graph.specs.Walk.{WalkEnd, Through, Closes}
use Rattle.mk_read.specs.Laws.{GroupsKeepTheirWords, joined}
use Rattle.mk_read.specs.Reading.{Makefile}
use Rattle.mk_infer.specs.Inference.{choice}
use Rattle.mk_infer.specs.Laws.{GraphStaysSelected, IsPartOf, NodesKeepTheirChoices, PartsStaySelected, Reaches, goal, onward, StaysSelected, names_in_groups, with_more}
use Rattle.mk_lines.specs.Names.{number_of}
use Rattle.mk_infer.specs.Selection.{BuiltUnless, Selects, graph_of, groups_of, is_lacking, lacking, needs, node_of, in_node_numbers}
use Rattle.mk_infer.specs.There.{Exists}
use Rattle.mk_infer.specs.Walk.{Meets}
use Rattle.mk_infer_laws.proofs.Ending.{walk_exists}
use Rattle.mk_infer_laws.proofs.Soundness.{edge, get_number, grouped, is_sound, node_is, none_past, number_below, prerequisites_are}
use Rattle.mk_infer_laws.proofs.Stacks.{of_tree}
use Rattle.mk_infer_laws.proofs.Walks.{meets_what_is_reached, stay_closed}
use Rattle.mk_infer_laws.proofs.Writes.{part_chooses, same_choice, same_commands, take_Has, writes_change_nothing}

abbrev Name : Type 0
Name = List ℕ

-- ---- lists

-- a name in a list parts it
parted_at : (xs : List Name) (x : Name) → Has xs x → (front : List Name) × (back : List Name) × (xs ≡ front ++ x ∷ back)
parted_at [] x h = absurd h
parted_at (y ∷ xs) x (inl e) = ([], xs, ap (λ (z : Name). z ∷ xs) e)
parted_at (y ∷ xs) x (inr h) = let r = parted_at xs x h in (y ∷ r.0, r.1, ap (λ (zs : List Name). y ∷ zs) r.2)

-- names that differ, all among others, are no more than these
no_more : (xs ys : List Name) → IsDistinct xs → ((x : Name) → Has xs x → Has ys x) → length xs ≤ length ys
no_more [] ys distinct within = omega arith
no_more (x ∷ xs) ys distinct within =
    let r = parted_at ys x (within x (inl refl)) in
    let count : length ys ≡ length r.0 + suc (length r.1) = ap length r.2 ∙ length-append r.0 (x ∷ r.1) in
    let rest : length (r.0 ++ r.1) ≡ length r.0 + length r.1 = length-append r.0 r.1 in
    let fewer : length xs ≤ length (r.0 ++ r.1) = no_more xs (r.0 ++ r.1) distinct.1 (λ y h. other r.0 r.1 y (λ e. distinct.0 (subst (Has xs) (sym e) h)) (subst (λ (zs : List Name). Has zs y) r.2 (within y (inr h)))) in
    omega arith
  where
    other : (front back : List Name) (y : Name) → ¬ (x ≡ y) → Has (front ++ x ∷ back) y → Has (front ++ back) y
    other front back y differs h = ⊎_elim (λ k. Has-left front back y k) (λ k. ⊎_elim (λ e. absurd (differs e)) (λ k2. Has-right front back y k2) k) (Has-cases front (x ∷ back) y h)

module _ (p : Name → Bool) where
  none_passes : (xs : List Name) (x : Name) → find p xs ≡ None → Has xs x → p x ≡ false
  none_passes [] x none h = absurd h
  none_passes (y ∷ xs) x none h = at (p y) refl none h (none_passes xs x)
    where
      at : (b : Bool) → p y ≡ b → cond b (Some y) (find p xs) ≡ None → Has (y ∷ xs) x → (find p xs ≡ None → Has xs x → p x ≡ false) → p x ≡ false
      at true t k there ih = absurd cc
      at false f k (inl e) ih = ap p (sym e) ∙ f
      at false f k (inr there) ih = ih k there

  none_found : (xs : List Name) → ((x : Name) → Has xs x → p x ≡ false) → find p xs ≡ None
  none_found [] none = refl
  none_found (y ∷ xs) none = ap (λ b. cond b (Some y) (find p xs)) (none y (inl refl)) ∙ none_found xs (λ x h. none x (inr h))

-- ---- a graph that was built

record IsBuilt (m : Makefile) (e : Exists) (goals : List Name) (g : Graph) : Type 0 where
  all : List Name
  walk : Meets (needs m e) [] goals all
  none : lacking m e all ≡ None
  few : length (graph_of m e goals all).nodes ≤ 4096
  finished : List ℕ
  through : WalksAll (graph_of m e goals all) (Through finished)
  same : g ≡ graph_of m e goals all

built : (m : Makefile) (e : Exists) (goals : List Name) (g : Graph) → Selects m e goals (Ok g) → IsBuilt m e goals g
built m e goals g (names, w, b) = by (lacking m e names) refl b
  where
    by : (first : Option Name) → lacking m e names ≡ first → BuiltUnless m first (graph_of m e goals names) (Ok g) → IsBuilt m e goals g
    by (Some name) is k = absurd cc
    by None is (le, done, walks, its) = record { all = names; walk = w; none = is; few = le; finished = done; through = walks; same = its }

module _ (keeps : GroupsKeepTheirWords) (m : Makefile) (e : Exists) (goals all : List Name) where
  abbrev whole : Graph
  whole = graph_of m e goals all

  count : length whole.nodes ≡ length all
  count = length-map all (node_of m e all)

  -- a name that is met has a node
  placed : (name : Name) → Has all name → number_of all name < length whole.nodes
  placed name h = let lt = number_below all name h in omega (arith, count)

  placed_node : (name : Name) → Has all name → node whole (number_of all name) ≡ node_of m e all name
  placed_node name h = node_is keeps m e goals all (number_of all name) (number_below all name h) ∙ ap (node_of m e all) (get_number all name [] h)

  -- what a node is
  node_at : (n : ℕ) → n < length whole.nodes → node whole n ≡ node_of m e all (get_or all n [])
  node_at n lt = node_is keeps m e goals all n (omega (arith, count))

  met_at : (n : ℕ) → n < length whole.nodes → Has all (get_or all n [])
  met_at n lt = Has-get_or all n [] (omega (arith, count))

  -- the groups of a node by names
  named_back : (gs : List (List Name)) → ((word : Name) → Has (joined gs) word → Has all word) → map (map (λ p. (node whole p).name)) (in_node_numbers all gs) ≡ gs
  named_back [] within = refl
  named_back (group ∷ gs) within =
      ap (λ (ws : List Name). ws ∷ map (map (λ p. (node whole p).name)) (in_node_numbers all gs)) (names_back group (λ word h. within word (Has-left group (joined gs) word h)))
      ∙ ap (λ (hs : List (List Name)). group ∷ hs) (named_back gs (λ word h. within word (Has-right group (joined gs) word h)))
    where
      names_back : (words : List Name) → ((word : Name) → Has words word → Has all word) → map (λ p. (node whole p).name) (map (number_of all) words) ≡ words
      names_back [] met = refl
      names_back (word ∷ words) met =
          ap (λ (w : Name). w ∷ map (λ p. (node whole p).name) (map (number_of all) words)) (ap (λ (x : Node). x.name) (placed_node word (met word (inl refl))))
          ∙ ap (λ (ws : List Name). word ∷ ws) (names_back words (λ w h. met w (inr h)))

  module _ (walk : Meets (needs m e) [] goals all) where
    closed : (name word : Name) → Has all name → Has (needs m e name) word → Has all word
    closed name word h k = stay_closed (needs m e) (of_tree walk) (λ n x. absurd x) name h word k

    -- the groups of a node are those of its name
    groups_named : (n : ℕ) (name : Name) → Has all name → node whole n ≡ node_of m e all name → names_in_groups whole n ≡ groups_of m e name
    groups_named n name h is =
        ap (λ (x : Node). map (map (λ p. (node whole p).name)) x.groups) is
        ∙ named_back (groups_of m e name) (λ word k. closed name word h (subst (λ (ws : List Name). Has ws word) (grouped keeps m e goals all name) k))

-- ---- the graph of all goals

module _ (keeps : GroupsKeepTheirWords) (m : Makefile) (e : Exists) (writes goals : List Name) (g : Graph) (selects : Selects m (with_more e []) goals (Ok g)) (keep : NodesKeepTheirChoices m e writes g) where
  abbrev none_more : Exists
  none_more = with_more e []

  abbrev the_graph : IsBuilt m none_more goals g
  the_graph = built m none_more goals g selects

  -- a name that is met keeps its choice
  name_keeps : (name : Name) → Has the_graph.all name → choice m none_more name ≡ choice m (with_more e writes) name
  name_keeps name h =
      let all = the_graph.all in
      let kept : NodesKeepTheirChoices m e writes (graph_of m none_more goals all) = subst (NodesKeepTheirChoices m e writes) the_graph.same keep in
      let named = ap (λ (x : Node). x.name) (placed_node keeps m none_more goals all name h) in
      subst (λ (x : Name). choice m none_more x ≡ choice m (with_more e writes) x) named (kept (number_of all name) (placed keeps m none_more goals all name h))

  stays : StaysSelected m e writes goals g
  stays part within = record {
    selected = ((writes_change_nothing m e goals writes part within (λ name r. name_keeps name (((meets_what_is_reached (needs m none_more) goals the_graph.all the_graph.walk).1 name).1 r))).0 (Ok g)).0 selects;
    choices = λ n lt. same_choice m e part [] (node g n).name (part_chooses m e writes part within (node g n).name (keep n lt));
    same_commands = λ n lt. same_commands m e part [] (node g n).name (part_chooses m e writes part within (node g n).name (keep n lt));
  }

pub graph_stays_selected : GroupsKeepTheirWords → GraphStaysSelected
graph_stays_selected keeps m e writes goals g selects keep = stays keeps m e writes goals g selects keep

-- ---- the graph of some of the goals

module _ (an_end : WalkHasAnEnd) (closes : ClosesOnlyCycles) (comes : ComesThroughWithoutCycles) (keeps : GroupsKeepTheirWords) (m : Makefile) (e : Exists) (goals all : List Name) (walk : Meets (needs m e) [] goals all)
    (none : lacking m e all ≡ None) (few : length (graph_of m e goals all).nodes ≤ 4096) (finished : List ℕ) (through : WalksAll (graph_of m e goals all) (Through finished))
    (some : List Name) (within : IsWithin some goals) (met : List Name) (going : Meets (needs m e) [] some met) where
  abbrev large : Graph
  large = graph_of m e goals all

  abbrev small : Graph
  small = graph_of m e some met

  -- what some of the goals reach, all of them reach
  reaches_more : (name : Name) → Reaches (needs m e) some name → Reaches (needs m e) goals name
  reaches_more name (goal h) = goal (within name h)
  reaches_more name (onward {name = before} r h) = onward (reaches_more before r) h

  met_within : (name : Name) → Has met name → Has all name
  met_within name h =
      ((meets_what_is_reached (needs m e) goals all walk).1 name).1 (reaches_more name (((meets_what_is_reached (needs m e) some met going).1 name).0 h))

  fewer : length met ≤ length all
  fewer = no_more met all (meets_what_is_reached (needs m e) some met going).0 met_within

  few_nodes : length small.nodes ≤ 4096
  few_nodes = omega (arith, fewer, count keeps m e goals all, count keeps m e some met)

  none_lacks : lacking m e met ≡ None
  none_lacks =
      let all_few : length all ≤ 4096 = omega (arith, count keeps m e goals all) in
      let of_all : find (is_lacking m e) all ≡ None = ap (find (is_lacking m e)) (sym (take_all 4096 all all_few)) ∙ none in
      none_found (is_lacking m e) (take 4096 met) (λ name h. none_passes (is_lacking m e) all name of_all (met_within name (take_Has 4096 met name h)))

  -- a number of the small graph in the large one
  abbrev moved : ℕ → ℕ
  moved n = number_of all (get_or met n [])

  edge_moved : (n p : ℕ) → Has (prerequisites small n) p → Has (prerequisites large (moved n)) (moved p)
  edge_moved n p h = by (cases_lt n (length met))
    where
      by : (n < length met) ⊎ (length met ≤ n) → Has (prerequisites large (moved n)) (moved p)
      by (inr le) = absurd (none_past keeps m e some met n p le h)
      by (inl lt) =
          let name = get_or met n [] in
          let there : Has met name = Has-get_or met n [] lt in
          let k = Has-from_map (number_of met) (needs m e name) p (subst (λ (ns : List ℕ). Has ns p) (prerequisites_are keeps m e some met n lt) h) in
          let word : Has met k.0 = closed keeps m e some met going name k.0 there k.1 in
          let at : get_or met p [] ≡ k.0 = ap (λ (i : ℕ). get_or met i []) (sym k.2) ∙ get_number met k.0 [] word in
          subst (λ (w : Name). Has (prerequisites large (moved n)) (number_of all w)) (sym at) (edge keeps m e goals all name k.0 (met_within name there) k.1)

  leads_moved : (n p : ℕ) → HasPath small n p → HasPath large (moved n) (moved p)
  leads_moved n p (one h) = one (edge_moved n p h)
  leads_moved n p (then {m = middle} l h) = then (leads_moved n middle l) (edge_moved middle p h)

  comes_through : (end : WalkEnd) → WalksAll small end → (done : List ℕ) × WalksAll small (Through done)
  comes_through (Through done) walks = (done, walks)
  comes_through (Closes path) walks =
      let cycle = closes small path walks in
      absurd (comes large finished (is_sound keeps m e goals all walk) through (moved cycle.first) (leads_moved cycle.first cycle.first cycle.leads))

  small_selected : Selects m e some (Ok small)
  small_selected =
      let end = an_end small (is_sound keeps m e some met going) in
      let done = comes_through end.0 end.1 in
      (met, going, subst (λ (first : Option Name). BuiltUnless m first small (Ok small)) (sym none_lacks) (few_nodes, done.0, done.1, refl))

  -- a node of the small graph is one of the large one
  is_part : IsPartOf small large
  is_part n lt =
      let name = get_or met n [] in
      let there : Has met name = met_at keeps m e some met n lt in
      let more : Has all name = met_within name there in
      let here : node small n ≡ node_of m e met name = node_at keeps m e some met n lt in
      let its : node large (number_of all name) ≡ node_of m e all name = placed_node keeps m e goals all name more in (
        number_of all name,
        placed keeps m e goals all name more,
        record {
          name = ap (λ (x : Node). x.name) here ∙ sym (ap (λ (x : Node). x.name) its);
          groups = groups_named keeps m e some met going n name there here ∙ sym (groups_named keeps m e goals all walk (number_of all name) name more its);
          recipe = ap (λ (x : Node). x.recipe) here ∙ sym (ap (λ (x : Node). x.recipe) its);
          phony = ap (λ (x : Node). x.phony) here ∙ sym (ap (λ (x : Node). x.phony) its);
        },
      )

  -- its nodes keep their choices
  small_keeps : (writes : List Name) → ((name : Name) → Has all name → choice m (with_more e []) name ≡ choice m (with_more e writes) name) → NodesKeepTheirChoices m e writes small
  small_keeps writes keep n lt =
      let named = ap (λ (x : Node). x.name) (node_at keeps m e some met n lt) in
      subst (λ (x : Name). choice m (with_more e []) x ≡ choice m (with_more e writes) x) (sym named) (keep (get_or met n []) (met_within (get_or met n []) (met_at keeps m e some met n lt)))

pub parts_stay_selected : WalkHasAnEnd → ClosesOnlyCycles → ComesThroughWithoutCycles → GroupsKeepTheirWords → PartsStaySelected
parts_stay_selected an_end closes comes keeps m e writes goals some g selects keep within =
    let none_more : Exists = with_more e [] in
    let b = built m none_more goals g selects in
    let walk = walk_exists m none_more some in
    let part = is_part an_end closes comes keeps m none_more goals b.all b.walk b.none b.few b.finished b.through some within walk.0 walk.1 in
    let choices = small_keeps an_end closes comes keeps m none_more goals b.all b.walk b.none b.few b.finished b.through some within walk.0 walk.1 writes (name_keeps keeps m e writes goals g selects keep) in
    let selected = small_selected an_end closes comes keeps m none_more goals b.all b.walk b.none b.few b.finished b.through some within walk.0 walk.1 in
    (graph_of m none_more some walk.0, subst (IsPartOf (graph_of m none_more some walk.0)) (sym b.same) part, graph_stays_selected keeps m e writes some (graph_of m none_more some walk.0) selected choices)
