-- Who reads or writes a file is a recipe in the serial order.
use Rattle.std.proofs.Common.{◌≡◌, ℕ, ◌<◌, List, [], length, true, ◌⊎◌, ⊎_elim, sym, ◌∙◌, ap, subst}
use Rattle.std.proofs.lemmas.Bool.{cases_Bool, cases_lt, cond-false, true≢false}
use Rattle.std.proofs.lemmas.List.{get_or_past}
use Rattle.mk_graph.specs.declared.node.Node.{Node}
use Rattle.mk_graph.specs.Membership.{Has}
use Rattle.mk_graph.specs.Graph.{node, no_node, IsGraph}
use Rattle.mk_graph.specs.Serial.{serial_order}
use Rattle.mk_graph.specs.Laws.{SerialReachesEachOnce}
use Rattle.mk_subject.specs.Subject.{Subject, footprints, name_of, reads_of, writes_of}

module _ (x : Subject) (is : IsGraph x.graph) (reaches : SerialReachesEachOnce) where
  -- a node stands in the serial order
  pub in_order : (n : ℕ) → n < length x.graph.nodes → Has (serial_order x.graph) n
  in_order n low = ((reaches x.graph is.no_cycle).1 n).1 (is.sound.reached n low)

  -- what has a recipe is a node
  pub recipe_is_node : (n : ℕ) → (node x.graph n).recipe ≡ true → n < length x.graph.nodes
  recipe_is_node n recipe =
      ⊎_elim (λ low. low) (λ past. let none : node x.graph n ≡ no_node = get_or_past x.graph.nodes n no_node past in absurd (true≢false (sym recipe ∙ ap (λ (v : Node). v.recipe) none))) (cases_lt n (length x.graph.nodes))

  -- who writes a file has a recipe
  pub writer_has_recipe : (t : ℕ) (f : List ℕ) → Has (writes_of x t) f → (node x.graph t).recipe ≡ true
  writer_has_recipe t f h =
      ⊎_elim (λ e. e) (λ e. absurd (subst (λ (l : List (List ℕ)). Has l f) (cond-false (node x.graph t).recipe ((footprints x.setting).writes (name_of x t)) [] e) h)) (cases_Bool (node x.graph t).recipe)

  -- so has who reads one
  pub reader_has_recipe : (t : ℕ) (f : List ℕ) → Has (reads_of x t) f → (node x.graph t).recipe ≡ true
  reader_has_recipe t f h =
      ⊎_elim (λ e. e) (λ e. absurd (subst (λ (l : List (List ℕ)). Has l f) (cond-false (node x.graph t).recipe ((footprints x.setting).reads (name_of x t)) [] e) h)) (cases_Bool (node x.graph t).recipe)

  -- both stand in the order
  pub writer_in_order : (t : ℕ) (f : List ℕ) → Has (writes_of x t) f → Has (serial_order x.graph) t
  writer_in_order t f h = in_order t (recipe_is_node t (writer_has_recipe t f h))

  pub reader_in_order : (t : ℕ) (f : List ℕ) → Has (reads_of x t) f → Has (serial_order x.graph) t
  reader_in_order t f h = in_order t (recipe_is_node t (reader_has_recipe t f h))
