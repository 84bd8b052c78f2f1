-- The loops that make rows of open groups and keep free nodes up to one.
use Rattle.std.proofs.Common.{◌≡◌, ℕ, ◌+◌, ◌<◌, ◌≤◌, List, [], ◌∷◌, ◌++◌, length, drop, map, get_or, Vec, sym, ◌∙◌, ap, append_assoc, append-nil, eq-eqb, ne_eqb, subst, arith}
use Rattle.std.specs.declared.alloc.Global.{Global}
use Rattle.std.specs.List.{list_all}
use Rattle.std.proofs.lemmas.Bool.{false_from_ne_true}
use Rattle.std.proofs.lemmas.List.{drop_more, drop_all, length-map}
use Rattle.mk_lemmas.proofs.Members.{has-from_Has, has-from_not}
use Rattle.mk_lemmas.proofs.Lists.{get_or-map_default}
use Rattle.mk_graph.specs.BitRows.{lists}
use Rattle.mk_graph.specs.Membership.{Has, has}
use Rattle.mk_graph.specs.declared.node.Node.{Node}
use Rattle.mk_graph.specs.Graph.{Graph, no_node, IsGraph}
use Rattle.mk_graph.specs.declared.walk.End.{End}
use Rattle.mk_graph.specs.Walk.{Walks}
use Rattle.mk_graph.specs.Progress.{row, AreRows, walk_end}
use Rattle.mk_graph.specs.Schedules.{HasAll}
use Rattle.mk_graph.specs.Without.{AreOpened, opened, until}
use Rattle.mk_graph.proofs.TurnPast.{kept, kept_in, kept_out, until_here, until_there, opens, stays_shut, all_stand, all_tested, opened_are_nodes}

module _ (t : ℕ) (free order turns whole : List ℕ) (i : ℕ) (rest : turns ++ until t (kept free (drop i order)) ≡ whole) where
  module _ (low : i < length order) where
    -- the node at this place
    abbrev this : ℕ
    this = get_or order i 0

    -- it isn't free
    pub passes_over : ¬ (Has free this) → turns ++ until t (kept free (drop (i + 1) order)) ≡ whole
    passes_over out =
        let e = ap (λ (l : List ℕ). until t (kept free l)) (drop_more order i 0 low) ∙ ap (λ (l : List ℕ). until t l) (kept_out free this (drop (i + 1) order) (has-from_not free this out)) in
        sym (ap (λ (l : List ℕ). turns ++ l) e) ∙ rest

    -- it is
    here_is : Has free this → until t (kept free (drop i order)) ≡ until t (this ∷ kept free (drop (i + 1) order))
    here_is h = ap (λ (l : List ℕ). until t (kept free l)) (drop_more order i 0 low) ∙ ap (λ (l : List ℕ). until t l) (kept_in free this (drop (i + 1) order) (has-from_Has free this h))

    -- and another one
    pub takes_in : Has free this → ¬ (this ≡ t) → (turns ++ this ∷ []) ++ until t (kept free (drop (i + 1) order)) ≡ whole
    takes_in h differ =
        let more = kept free (drop (i + 1) order) in
        append_assoc turns (this ∷ []) (until t more) ∙ (sym (ap (λ (l : List ℕ). turns ++ l) (here_is h ∙ until_there t this more (ne_eqb this t differ))) ∙ rest)

    -- and the one at which it ends
    pub stops_at : Has free this → this ≡ t → turns ≡ whole
    stops_at h same =
        sym (append-nil turns) ∙ (sym (ap (λ (l : List ℕ). turns ++ l) (here_is h ∙ until_here t this (kept free (drop (i + 1) order)) (eq-eqb this t same))) ∙ rest)

  -- all were looked at
  pub all_taken : length order ≤ i → turns ≡ whole
  all_taken past = sym (append-nil turns) ∙ (sym (ap (λ (l : List ℕ). turns ++ until t (kept free l)) (drop_all i order past)) ∙ rest)

module _ (free row whole : List ℕ) (groups : List (Vec ℕ Global)) (i : ℕ) (rest : row ++ opened free (lists (drop i groups)) ≡ whole) where
  module _ (numbers : List ℕ) (more : lists (drop i groups) ≡ numbers ∷ lists (drop (i + 1) groups)) where
    -- a group that is all free
    pub goes_on : HasAll free numbers → (row ++ numbers) ++ opened free (lists (drop (i + 1) groups)) ≡ whole
    goes_on all =
        let others = lists (drop (i + 1) groups) in
        append_assoc row numbers (opened free others) ∙ (sym (ap (λ (l : List ℕ). row ++ l) (ap (λ (l : List (List ℕ)). opened free l) more ∙ opens free numbers others (all_tested free numbers all))) ∙ rest)

    -- one that isn't
    pub ends_with : ¬ (HasAll free numbers) → row ++ numbers ≡ whole
    ends_with out =
        let others = lists (drop (i + 1) groups) in
        sym (ap (λ (l : List ℕ). row ++ l) (ap (λ (l : List (List ℕ)). opened free l) more ∙ stays_shut free numbers others (false_from_ne_true (list_all (has free) numbers) (λ e. out (all_stand free numbers e))))) ∙ rest

  -- all were taken
  pub all_joined : length groups ≤ i → row ≡ whole
  all_joined past = sym (append-nil row) ∙ (sym (ap (λ (l : List (Vec ℕ Global)). row ++ opened free (lists l)) (drop_all i groups past)) ∙ rest)

-- rows that were made for all nodes
module _ (g : Graph) (free : List ℕ) (rows : List (Vec ℕ Global)) (are : lists rows ≡ map (λ (node : Node). opened free node.groups) g.nodes) where
  -- have what stands in open groups
  pub rows_opened : AreOpened g free (row rows)
  rows_opened n = ap (λ (l : List (List ℕ)). get_or l n []) are ∙ get_or-map_default (λ (node : Node). opened free node.groups) g.nodes n no_node

  -- are as many
  rows_many : length rows ≡ length g.nodes
  rows_many = sym (length-map rows (λ (r : Vec ℕ Global). r.items)) ∙ ap (λ (l : List (List ℕ)). length l) are ∙ length-map g.nodes (λ (node : Node). opened free node.groups)

  -- and hold numbers of rows
  pub rows_hold_numbers : IsGraph g → AreRows rows
  rows_hold_numbers is n p h =
      let low = opened_are_nodes g is free n p (subst (λ (l : List ℕ). Has l p) (rows_opened n) h) in
      let same = rows_many in
      omega arith

-- the walk of such rows from the goals, with what the code calls them
pub walked_rows : (g : Graph) (rows now : List (Vec ℕ Global)) (goals : List ℕ) (it end : End) → now ≡ rows → goals ≡ g.goals → it ≡ end → Walks (row now) [] [] goals (walk_end it) → Walks (row rows) [] [] g.goals (walk_end end)
walked_rows g rows now goals it end now_is goals_are it_is w =
    let w1 : Walks (row now) [] [] goals (walk_end end) = subst (λ (e : End). Walks (row now) [] [] goals (walk_end e)) it_is w in
    let w2 : Walks (row rows) [] [] goals (walk_end end) = subst (λ (l : List (Vec ℕ Global)). Walks (row l) [] [] goals (walk_end end)) now_is w1 in
    subst (λ (l : List ℕ). Walks (row rows) [] [] l (walk_end end)) goals_are w2
