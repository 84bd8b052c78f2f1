-- Where nothing is found, the graph stays selected whatever is written.
use Rattle.std.proofs.Common.{◌≡◌, ℕ, ◌<◌, List, [], length, map, Option, Some, None, inl, inr, ⊎_elim, refl, sym, ◌∙◌, ap, subst}
use Rattle.std.specs.Prelude.{bytes_eq, option_to_list, Ok}
use Rattle.std.proofs.lemmas.Bool.{cases_Bool, true≢false}
use Rattle.std.proofs.lemmas.Slice.Eq.{bytes_eq-Decides}
use Rattle.mk_lemmas.proofs.Members.{Has-flat_map, Has-map}
use Rattle.mk_graph.specs.Membership.{Has}
use Rattle.mk_graph.specs.Graph.{IsGraph}
use Rattle.mk_graph.specs.Laws.{SerialReachesEachOnce}
use Rattle.mk_infer.specs.There.{Exists}
use Rattle.mk_infer.specs.Inference.{choice}
use Rattle.mk_infer.specs.Laws.{GraphStaysSelected, MoreTakesNoChoiceAway, PartsStaySelected, StaysSelected, with_more}
use Rattle.mk_infer.specs.Selection.{Selects}
use Rattle.mk_subject.specs.Subject.{Subject, IsSubject, name_of, all_writes}
use Rattle.mk_find.specs.Candidates.{Candidate, selection, by_node, by_number, choice_with_writes, static_candidates}
use Rattle.mk_find.specs.FindingLaws.{PartsStay}
use Rattle.mk_find.specs.Listing.{Lists}
use Rattle.mk_find.proofs.Lists.{holding_listed}
use Rattle.mk_subject.proofs.InOrder.{in_order}
use Rattle.mk_find.proofs.Sound.{found_by_node}

-- with no names more the same files are there
no_more : (e : Exists) → e.more ≡ [] → with_more e [] ≡ e
no_more e none = ap (with_more e) (sym none)

module _ (x : Subject) (is : IsGraph x.graph) (subject : IsSubject x) (reaches : SerialReachesEachOnce) (more : MoreTakesNoChoiceAway) (kept : List Candidate) (lists : Lists x (static_candidates x) kept)
    (none : (n : ℕ) (c : List ℕ) → ¬ (Has kept (selection n c))) where
  -- the inferred prerequisite of a node with no writes, and with all of them there
  abbrev without : ℕ → Option (List ℕ)
  without n = choice x.makefile (with_more x.there []) (name_of x n)

  abbrev with_all : ℕ → Option (List ℕ)
  with_all n = choice x.makefile (with_more x.there (all_writes x)) (name_of x n)

  -- another choice may be found
  stands : (n : ℕ) (c : List ℕ) → n < length x.graph.nodes → with_all n ≡ Some c → Has (static_candidates x) (selection n c)
  stands n c low chosen =
      let there : Has (choice_with_writes x n) c = subst (λ (o : Option (List ℕ)). Has (option_to_list o) c) (sym chosen) (inl refl) in
      let found = found_by_node x is reaches (λ k. map (λ d. selection k d) (choice_with_writes x k)) n (selection n c) (in_order x is reaches n low) (Has-map (λ d. selection n d) (choice_with_writes x n) c there) in
      Has-flat_map (λ (part : List Candidate). part) (by_number x) (by_node x (λ k. map (λ d. selection k d) (choice_with_writes x k))) (selection n c) (inr (inr (inr (inr (inr (inr (inr (inr (inr (inl refl)))))))))) found

  -- what is chosen without writes, as the candidate has it
  same_without : (n : ℕ) → without n ≡ choice x.makefile x.there (name_of x n)
  same_without n = ap (λ (e : Exists). choice x.makefile e (name_of x n)) (no_more x.there subject.nothing_more)

  -- no node chooses otherwise
  keeps : (n : ℕ) → n < length x.graph.nodes → without n ≡ with_all n
  keeps n low = by_all (with_all n) refl where
    by_none : (o : Option (List ℕ)) → without n ≡ o → with_all n ≡ None → o ≡ None
    by_none None few all = refl
    by_none (Some c) few all =
        let found = more x.makefile x.there [] (all_writes x) (λ name h. absurd h) (name_of x n) c few in
        absurd (let e : None ≡ Some found.0 = sym all ∙ found.1 in cc)

    by_some : (o : Option (List ℕ)) (c : List ℕ) → without n ≡ o → with_all n ≡ Some c → o ≡ Some c
    by_some None c few all =
        absurd (none n c (holding_listed x (static_candidates x) kept lists (selection n c) (stands n c low all) (all, λ e. let k : None ≡ Some c = sym few ∙ (same_without n ∙ e) in absurd cc)))
    by_some (Some d) c few all =
        ⊎_elim (λ same. ap Some ((bytes_eq-Decides d c).0 same))
        (λ differ. absurd (none n c (holding_listed x (static_candidates x) kept lists (selection n c)
        (stands n c low all) (
          all,
          λ e. let k : Some d ≡ Some c = sym few
              ∙ (same_without n ∙ e) in let s : d ≡ c = cc in true≢false
              (sym ((bytes_eq-Decides d c).1 s) ∙ differ),
        )))) (cases_Bool (bytes_eq d c))

    by_all : (o : Option (List ℕ)) → with_all n ≡ o → without n ≡ with_all n
    by_all None all = by_none (without n) refl all ∙ sym all
    by_all (Some c) all = by_some (without n) c refl all ∙ sym all

  -- the graph is selected with no writes
  selected_bare : Selects x.makefile (with_more x.there []) (map (name_of x) x.graph.goals) (Ok x.graph)
  selected_bare = subst (λ (e : Exists). Selects x.makefile e (map (name_of x) x.graph.goals) (Ok x.graph)) (sym (no_more x.there subject.nothing_more)) subject.selected

  -- so the graph stays selected
  pub stays_selected : GraphStaysSelected → StaysSelected x.makefile x.there (all_writes x) (map (name_of x) x.graph.goals) x.graph
  stays_selected law =
      law x.makefile x.there (all_writes x) (map (name_of x) x.graph.goals) x.graph selected_bare keeps

  -- and so do the graphs of parts of the goals
  pub parts_stay : PartsStaySelected → PartsStay x.makefile x.there (all_writes x) (map (name_of x) x.graph.goals) x.graph
  parts_stay law some within =
      law x.makefile x.there (all_writes x) (map (name_of x) x.graph.goals) some x.graph selected_bare keeps within
