-- Where nothing is found, each recipe is covered.
use Rattle.std.proofs.Common.{◌≡◌, ◌∙◌, ◌⊎◌, ◌<◌, ℕ, Bool, true, false, List, [], ◌∷◌, Option, None, Some, Ok, length, map, inl, inr, refl, sym, ap}
use Rattle.std.specs.Prelude.{bytes_eq}
use Rattle.std.proofs.lemmas.Bool.{true≢false, cases_lt}
use Rattle.std.proofs.lemmas.List.{get_or_past}
use Rattle.std.proofs.lemmas.Slice.Eq.{bytes_eq-Decides}
use Rattle.mk_lemmas.proofs.Members.{Has-flat_map}
use Rattle.mk_foot.specs.Book.{Record}
use Rattle.mk_graph.specs.declared.node.Node.{Node}
use Rattle.mk_graph.specs.Graph.{IsGraph, no_node}
use Rattle.mk_graph.specs.Laws.{SerialReachesEachOnce}
use Rattle.mk_graph.specs.Membership.{Has}
use Rattle.mk_graph.specs.Serial.{serial_order}
use Rattle.mk_infer.specs.Commands.{Commands, commands}
use Rattle.mk_infer.specs.Laws.{StaysSelected, with_more}
use Rattle.mk_infer.specs.There.{Exists}
use Rattle.mk_find.specs.Candidates.{Candidate, IsFinding, by_node, by_number, no_record, other_commands, varying_commands, static_candidates}
use Rattle.mk_subject.specs.Subject.{IsRecipe, all_writes, Subject, IsSubject, commands_of, name_of, record_of}
use Rattle.mk_find.specs.FindingLaws.{ListedExactly, NothingFoundIsSound}
use Rattle.mk_cert.specs.Laws.{VerifiedIsRight}
use Rattle.mk_find.specs.Listing.{Lists}
use Rattle.mk_cert_laws.specs.Covered.{IsCovered, commands_with}
use Rattle.mk_cert_laws.specs.Laws.{RecipesAreCovered}

-- names are the same or not, and so are lists of them
same_name : (a b : List ℕ) → (a ≡ b) ⊎ (¬ (a ≡ b))
same_name a b = by (bytes_eq a b) refl
  where
    by : (c : Bool) → bytes_eq a b ≡ c → (a ≡ b) ⊎ (¬ (a ≡ b))
    by true e = inl ((bytes_eq-Decides a b).0 e)
    by false e = inr (λ same. true≢false (sym ((bytes_eq-Decides a b).1 same) ∙ e))

same_lines : (xs ys : List (List ℕ)) → (xs ≡ ys) ⊎ (¬ (xs ≡ ys))
same_lines [] [] = inl refl
same_lines [] (y ∷ ys) = inr (λ e. let k : [] ≡ y ∷ ys = e in absurd cc)
same_lines (x ∷ xs) [] = inr (λ e. let k : x ∷ xs ≡ [] = e in absurd cc)
same_lines (x ∷ xs) (y ∷ ys) = by (same_name x y) (same_lines xs ys)
  where
    by : (x ≡ y) ⊎ (¬ (x ≡ y)) → (xs ≡ ys) ⊎ (¬ (xs ≡ ys)) → (x ∷ xs ≡ y ∷ ys) ⊎ (¬ (x ∷ xs ≡ y ∷ ys))
    by (inl first) (inl rest) = inl (λ i. first i ∷ rest i)
    by (inl first) (inr differ) = inr (λ e. let k : x ∷ xs ≡ y ∷ ys = e in let rest : xs ≡ ys = cc in differ rest)
    by (inr differ) rest = inr (λ e. let k : x ∷ xs ≡ y ∷ ys = e in let first : x ≡ y = cc in differ first)

module _ (listed : ListedExactly) (sound : NothingFoundIsSound) (reaches : SerialReachesEachOnce) (x : Subject) (is : IsGraph x.graph) (subject : IsSubject x) (nothing : Lists x (static_candidates x) [])
    (stays : StaysSelected x.makefile x.there (all_writes x) (map (name_of x) x.graph.goals) x.graph) where
  -- no candidate is a finding
  not_found : (k : Candidate) → Has (static_candidates x) k → ¬ (IsFinding x k)
  not_found k stands holds = (listed x (static_candidates x) [] nothing k).1 (stands, holds)

  -- a recipe is a node, and stands in the serial order
  is_node : (t : ℕ) → IsRecipe x t → t < length x.graph.nodes
  is_node t recipe =
      elim (cases_lt t (length x.graph.nodes)) [
        | inl low ↦ low
        | inr past ↦ absurd (true≢false (sym recipe ∙ ap (λ (n : Node). n.recipe) (get_or_past x.graph.nodes t no_node past)))
      ]

  in_order : (t : ℕ) → IsRecipe x t → Has (serial_order x.graph) t
  in_order t recipe = ((reaches x.graph is.no_cycle).1 t).1 (is.sound.reached t (is_node t recipe))

  -- what may be found of it alone
  of_node : (found : ℕ → List Candidate) (t : ℕ) (k : Candidate) → IsRecipe x t → Has (found t) k → Has (by_number x) (by_node x found) → Has (static_candidates x) k
  of_node found t k recipe of_it part =
      Has-flat_map (λ (l : List Candidate). l) (by_number x) (by_node x found) k part (Has-flat_map found (serial_order x.graph) t k (in_order t recipe) of_it)

  no_more : (e : Exists) → e.more ≡ [] → with_more e [] ≡ e
  no_more e none = ap (with_more e) (sym none)

  -- its commands without anything written
  bare : (t : ℕ) → commands_with x [] t ≡ commands_of x t
  bare t = ap (λ (e : Exists). commands x.makefile e (name_of x t)) (no_more x.there subject.nothing_more)

  not_varying : (t : ℕ) (found : Commands) → IsRecipe x t → commands_of x t ≡ Ok found → found.varying ≡ false
  not_varying t found recipe told = by found.varying refl
    where
      by : (b : Bool) → found.varying ≡ b → found.varying ≡ false
      by true e = absurd (not_found (varying_commands t) (of_node (λ k. varying_commands k ∷ []) t (varying_commands t) recipe (inl refl) (inr (inr (inl refl)))) (recipe, found, told, e))
      by false e = e

  as_recorded : (t : ℕ) (r : Record) (found : Commands) → IsRecipe x t → record_of x t ≡ Some r → commands_of x t ≡ Ok found → r.commands ≡ found.lines
  as_recorded t r found recipe some told =
      elim (same_lines r.commands found.lines) [
        | inl same ↦ same
        | inr differ ↦ absurd (not_found (other_commands t) (of_node (λ k. other_commands k ∷ []) t (other_commands t) recipe (inl refl) (inr (inl refl))) (recipe, r, some, found, told, not_varying t found recipe told, differ))
      ]

  covered : (t : ℕ) → IsRecipe x t → IsCovered x t
  covered t recipe = by (record_of x t) refl
    where
      told : (found : Commands) × (commands_of x t ≡ Ok found)
      told = subject.told t (is_node t recipe)

      by : (o : Option Record) → record_of x t ≡ o → IsCovered x t
      by None none = absurd (not_found (no_record t) (of_node (λ k. no_record k ∷ []) t (no_record t) recipe (inl refl) (inl refl)) (recipe, none))
      by (Some r) some =
          let lines = as_recorded t r told.0 recipe some told.1 in
          let varying = not_varying t told.0 recipe told.1 in
          let is_it : told.0 ≡ record { lines = r.commands; varying = false } = (λ i. record { lines = (sym lines) i; varying = varying i }) in
          record {
            recorded = r;
            has_record = some;
            runs_recorded = λ part within. (stays part within).same_commands t (is_node t recipe) ∙ (bare t ∙ (told.1 ∙ ap (λ (c : Commands). Ok c) is_it));
            writes_target = (sound x is subject nothing).target t recipe;
          }

pub recipes_are_covered : ListedExactly → NothingFoundIsSound → SerialReachesEachOnce → VerifiedIsRight → RecipesAreCovered
recipes_are_covered listed sound reaches right x c is subject accepted =
    covered listed sound reaches x is subject accepted.1.0 (right x c is subject accepted).2
