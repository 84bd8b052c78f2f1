-- Where nothing is found, footprints are sound and races are none.
use Rattle.std.proofs.Common.{◌≡◌, ℕ, ◌<◌, List, [], ◌∷◌, length, map, get_or, true, false, Option, Some, None, Ok, ◌⊎◌, inl, inr, ⊎_elim, refl, sym, ◌∙◌, ap, subst, arith}
use Rattle.std.specs.Prelude.{bytes_eq}
use Rattle.std.specs.List.{flat_map}
use Rattle.std.proofs.lemmas.Bool.{cases_Bool, cases_eq, cases_lt, true≢false}
use Rattle.std.proofs.lemmas.List.{get_or-map, get_or_past, length-map}
use Rattle.std.proofs.lemmas.Slice.Eq.{bytes_eq-Decides}
use Rattle.mk_lemmas.proofs.Members.{Has-flat_map, Has-map, cases_Has}
use Rattle.mk_lines.specs.Names.{has_name}
use Rattle.mk_graph.specs.declared.node.Node.{Node}
use Rattle.mk_graph.specs.Membership.{Has}
use Rattle.mk_graph.specs.Graph.{Graph, node, no_node, prerequisites, IsGraph}
use Rattle.mk_graph.specs.Serial.{serial_order}
use Rattle.mk_build.specs.Right.{AreSound, HaveNoRace}
use Rattle.mk_graph.specs.Laws.{SerialReachesEachOnce}
use Rattle.mk_graph.specs.ScheduleLaws.{BeforeIsDecided}
use Rattle.mk_infer.specs.Selection.{BuiltUnless, lacking, graph_of, node_of}
use Rattle.mk_foot.specs.Book.{Record}
use Rattle.mk_foot.specs.Setting.{is_given}
use Rattle.mk_subject.specs.Subject.{Subject, IsSubject, footprints, name_of, reads_of, writes_of, record_of}
use Rattle.mk_find.specs.Candidates.{Candidate, IsFinding, no_record, no_target, two_writers, given_written, own_read, unknown_read, loose, race, by_node, pairs_of_writers, by_number, static_candidates, race_candidates}
use Rattle.mk_find.specs.Listing.{Lists}
use Rattle.mk_find.proofs.Lists.{nothing_holds}
use Rattle.mk_subject.proofs.InOrder.{in_order, recipe_is_node, writer_in_order, reader_in_order}
use Rattle.mk_find.proofs.PairMembers.{pair_stands}

-- a name stands in a list or doesn't
cases_among : (files : List (List ℕ)) (f : List ℕ) → Has files f ⊎ (¬ (Has files f))
cases_among [] f = inr (λ h. h)
cases_among (k ∷ files) f =
    ⊎_elim (λ here. inl (inl ((bytes_eq-Decides k f).0 here))) (λ differ. ⊎_elim (λ there. inl (inr there)) (λ out. inr (λ h. ⊎_elim (λ same. true≢false (sym ((bytes_eq-Decides k f).1 same) ∙ differ)) out h)) (cases_among files f)) (cases_Bool (bytes_eq k f))

module _ (x : Subject) (is : IsGraph x.graph) (reaches : SerialReachesEachOnce) where
  -- what a node may be found for
  pub found_by_node : (found : ℕ → List Candidate) (n : ℕ) (c : Candidate) → Has (serial_order x.graph) n → Has (found n) c → Has (by_node x found) c
  found_by_node found n c stands h = Has-flat_map found (serial_order x.graph) n c stands h

  -- a race may be found
  race_stands : (t o : ℕ) (f : List ℕ) → Has (reads_of x t) f → Has (writes_of x o) f → Has (race_candidates x) (race t o f)
  race_stands t o f read wrote =
      let others = λ (h : List ℕ). map (λ n. race t n h) (serial_order x.graph) in
      found_by_node (λ k. flat_map (λ h. map (λ n. race k n h) (serial_order x.graph)) (reads_of x k)) t (race t o f) (reader_in_order x is reaches t f read) (Has-flat_map others (reads_of x t) f (race t o f) read (Has-map (λ n. race t n f) (serial_order x.graph) o (writer_in_order x is reaches o f wrote)))

  -- where none is found, there is none
  pub no_race_found : BeforeIsDecided → Lists x (race_candidates x) [] → HaveNoRace x.graph (footprints x.setting)
  no_race_found decided none t o f differ read wrote =
      ⊎_elim (λ before. before) (λ not. absurd (nothing_holds x (race_candidates x) none (race t o f) (race_stands t o f read wrote) (differ, read, wrote, not))) (decided x.graph o t is)

-- what was selected is the graph of the names that were met
selected_graph : (x : Subject) → IsSubject x → (all : List (List ℕ)) × (x.graph ≡ graph_of x.makefile x.there (map (name_of x) x.graph.goals) all)
selected_graph x is = (is.selected.0, from (lacking x.makefile x.there is.selected.0) is.selected.2) where
  from : (o : Option (List ℕ)) → BuiltUnless x.makefile o (graph_of x.makefile x.there (map (name_of x) x.graph.goals) is.selected.0) (Ok x.graph) → x.graph ≡ graph_of x.makefile x.there (map (name_of x) x.graph.goals) is.selected.0
  from None built = built.3
  from (Some name) answer = absurd (cc)

-- a node is phony just where `.PHONY` lists its name
phony_is : (x : Subject) → IsSubject x → (n : ℕ) → n < length x.graph.nodes → (node x.graph n).phony ≡ has_name x.makefile.phony (name_of x n)
phony_is x is n low =
    let found = selected_graph x is in
    let all = found.0 in
    let nodes : x.graph.nodes ≡ map (node_of x.makefile x.there all) all = ap (λ (g : Graph). g.nodes) found.1 in
    let many : length x.graph.nodes ≡ length all = ap (λ (l : List Node). length l) nodes ∙ length-map all (node_of x.makefile x.there all) in
    let this : node x.graph n ≡ node_of x.makefile x.there all (get_or all n []) = ap (λ (l : List Node). get_or l n no_node) nodes ∙ get_or-map (node_of x.makefile x.there all) all n [] no_node (omega arith) in
    ap (λ (v : Node). v.phony) this ∙ sym (ap (λ (v : Node). has_name x.makefile.phony v.name) this)

module _ (x : Subject) (is : IsGraph x.graph) (subject : IsSubject x) (reaches : SerialReachesEachOnce) (none : Lists x (static_candidates x) []) where
  -- nothing that stands among the candidates holds
  pub holds_not : (c : Candidate) → Has (static_candidates x) c → ¬ (IsFinding x c)
  holds_not c stands = nothing_holds x (static_candidates x) none c stands

  -- where the candidates of a number stand
  at_no_record : (c : Candidate) → Has (by_node x (λ t. no_record t ∷ [])) c → Has (static_candidates x) c
  at_no_record c h = Has-flat_map (λ (part : List Candidate). part) (by_number x) (by_node x (λ t. no_record t ∷ [])) c (inl refl) h

  at_no_target : (c : Candidate) → Has (by_node x (λ t. no_target t ∷ [])) c → Has (static_candidates x) c
  at_no_target c h = Has-flat_map (λ (part : List Candidate). part) (by_number x) (by_node x (λ t. no_target t ∷ [])) c (inr (inr (inr (inl refl)))) h

  at_two_writers : (c : Candidate) → Has (pairs_of_writers x (serial_order x.graph)) c → Has (static_candidates x) c
  at_two_writers c h = Has-flat_map (λ (part : List Candidate). part) (by_number x) (pairs_of_writers x (serial_order x.graph)) c (inr (inr (inr (inr (inl refl))))) h

  at_given : (c : Candidate) → Has (by_node x (λ t. map (λ f. given_written t f) (writes_of x t))) c → Has (static_candidates x) c
  at_given c h = Has-flat_map (λ (part : List Candidate). part) (by_number x) (by_node x (λ t. map (λ f. given_written t f) (writes_of x t))) c (inr (inr (inr (inr (inr (inl refl)))))) h

  at_own : (c : Candidate) → Has (by_node x (λ t. map (λ f. own_read t f) (reads_of x t))) c → Has (static_candidates x) c
  at_own c h = Has-flat_map (λ (part : List Candidate). part) (by_number x) (by_node x (λ t. map (λ f. own_read t f) (reads_of x t))) c (inr (inr (inr (inr (inr (inr (inl refl))))))) h

  at_unknown : (c : Candidate) → Has (by_node x (λ t. map (λ f. unknown_read t f) (reads_of x t))) c → Has (static_candidates x) c
  at_unknown c h = Has-flat_map (λ (part : List Candidate). part) (by_number x) (by_node x (λ t. map (λ f. unknown_read t f) (reads_of x t))) c (inr (inr (inr (inr (inr (inr (inr (inl refl)))))))) h

  at_loose : (c : Candidate) → Has (by_node x (λ n. map (λ o. loose n o) (serial_order x.graph))) c → Has (static_candidates x) c
  at_loose c h = Has-flat_map (λ (part : List Candidate). part) (by_number x) (by_node x (λ n. map (λ o. loose n o) (serial_order x.graph))) c (inr (inr (inr (inr (inr (inr (inr (inr (inl refl))))))))) h

  -- a recipe has a record
  has_record : (t : ℕ) → (node x.graph t).recipe ≡ true → (r : Record) × (record_of x t ≡ Some r)
  has_record t recipe = cases (record_of x t) refl where
    cases : (o : Option Record) → record_of x t ≡ o → (r : Record) × (record_of x t ≡ Some r)
    cases None e = absurd (holds_not (no_record t) (at_no_record (no_record t) (found_by_node x is reaches (λ k. no_record k ∷ []) t (no_record t) (in_order x is reaches t (recipe_is_node x is reaches t recipe)) (inl refl))) (recipe, e))
    cases (Some r) e = (r, e)

  -- a recipe that isn't phony writes its target
  target : (t : ℕ) → (node x.graph t).recipe ≡ true → (node x.graph t).phony ≡ false → Has (writes_of x t) (name_of x t)
  target t recipe not_phony =
      ⊎_elim (λ h. h) (λ out. absurd (holds_not (no_target t)
      (at_no_target (no_target t) (found_by_node x is reaches (λ k. no_target k ∷ []) t (no_target t)
      (in_order x is reaches t (recipe_is_node x is reaches t recipe)) (inl refl)))
      (recipe, has_record t recipe, not_phony, out))) (cases_among (writes_of x t) (name_of x t))

  -- a file has one writer
  one_writer : (o t : ℕ) (f : List ℕ) → Has (writes_of x o) f → Has (writes_of x t) f → o ≡ t
  one_writer o t f o_wrote t_wrote =
      ⊎_elim (λ same. same) (λ differ. absurd (⊎_elim (λ h. holds_not (two_writers o t f)
      (at_two_writers (two_writers o t f) h) (differ, o_wrote, t_wrote))
      (λ h. holds_not (two_writers t o f) (at_two_writers (two_writers t o f) h)
      ((λ same. differ (sym same)), t_wrote, o_wrote)) (pair_stands x (serial_order x.graph) o t f differ
      (writer_in_order x is reaches o f o_wrote) (writer_in_order x is reaches t f t_wrote) o_wrote
      t_wrote))) (cases_eq o t)

  -- what is written is neither given nor phony
  given_stands : (t : ℕ) (f : List ℕ) → Has (writes_of x t) f → Has (static_candidates x) (given_written t f)
  given_stands t f wrote =
      at_given (given_written t f) (found_by_node x is reaches (λ k. map (λ h. given_written k h) (writes_of x k)) t (given_written t f) (writer_in_order x is reaches t f wrote) (Has-map (λ h. given_written t h) (writes_of x t) f wrote))

  not_given : (t : ℕ) (f : List ℕ) → Has (writes_of x t) f → is_given x.setting f ≡ false
  not_given t f wrote = ⊎_elim (λ e. absurd (holds_not (given_written t f) (given_stands t f wrote) (wrote, inl e))) (λ e. e) (cases_Bool (is_given x.setting f))

  not_phony : (t n : ℕ) → Has (writes_of x t) (name_of x n) → (node x.graph n).phony ≡ false
  not_phony t n wrote =
      ⊎_elim (λ low. let is_phony = phony_is x subject n low in ⊎_elim
      (λ e. absurd (holds_not (given_written t (name_of x n)) (given_stands t (name_of x n) wrote)
      (wrote, inr (inl (sym is_phony ∙ e))))) (λ e. e) (cases_Bool (node x.graph n).phony))
      (λ past. ap (λ (v : Node). v.phony) (get_or_past x.graph.nodes n no_node past))
      (cases_lt n (length x.graph.nodes))

  -- no recipe reads what it writes
  not_own : (t : ℕ) (f : List ℕ) → Has (reads_of x t) f → ¬ (Has (writes_of x t) f)
  not_own t f read wrote =
      holds_not (own_read t f) (at_own (own_read t f) (found_by_node x is reaches (λ k. map (λ h. own_read k h) (reads_of x k)) t (own_read t f) (reader_in_order x is reaches t f read) (Has-map (λ h. own_read t h) (reads_of x t) f read))) (read, wrote)

  -- among these nodes one writes the file or none does
  cases_writer : (f : List ℕ) (ns : List ℕ) → ((o : ℕ) × Has (writes_of x o) f) ⊎ ((o : ℕ) → Has ns o → ¬ (Has (writes_of x o) f))
  cases_writer f [] = inr (λ o h. absurd h)
  cases_writer f (n ∷ ns) =
      ⊎_elim (λ wrote. inl (n, wrote)) (λ not. ⊎_elim (λ some. inl some) (λ none_else. inr (λ o h wrote. ⊎_elim (λ same. not (subst (λ (k : ℕ). Has (writes_of x k) f) (sym same) wrote)) (λ there. none_else o there wrote) h)) (cases_writer f ns)) (cases_among (writes_of x n) f)

  -- what is read is given or written
  known : (t : ℕ) (f : List ℕ) → Has (reads_of x t) f → (is_given x.setting f ≡ true) ⊎ ((o : ℕ) × Has (writes_of x o) f)
  known t f read =
      ⊎_elim (λ given. inl given) (λ not. ⊎_elim (λ some. inr some)
      (λ no_writer. absurd (holds_not (unknown_read t f)
      (at_unknown (unknown_read t f) (found_by_node x is reaches
      (λ k. map (λ h. unknown_read k h) (reads_of x k)) t (unknown_read t f)
      (reader_in_order x is reaches t f read) (Has-map (λ h. unknown_read t h) (reads_of x t) f read)))
      (read, not, λ o wrote. no_writer o (writer_in_order x is reaches o f wrote) wrote)))
      (cases_writer f (serial_order x.graph))) (cases_Bool (is_given x.setting f))

  -- who writes a node without a recipe is its direct prerequisite
  not_loose : (n o : ℕ) → n < length x.graph.nodes → (node x.graph n).recipe ≡ false → Has (writes_of x o) (name_of x n) → Has (prerequisites x.graph n) o
  not_loose n o low no_recipe wrote =
      ⊎_elim (λ h. h) (λ out. absurd (holds_not (loose n o)
      (at_loose (loose n o) (found_by_node x is reaches (λ k. map (λ j. loose k j) (serial_order x.graph))
      n (loose n o) (in_order x is reaches n low) (Has-map (λ j. loose n j) (serial_order x.graph) o
      (writer_in_order x is reaches o (name_of x n) wrote)))) (no_recipe, wrote, out)))
      (cases_Has (prerequisites x.graph n) o)

  -- all of it
  pub footprints_are_sound : AreSound x.graph (footprints x.setting)
  footprints_are_sound = record {
    target = target;
    one_writer = one_writer;
    not_given = not_given;
    not_phony = not_phony;
    not_own = not_own;
    known = known;
    not_loose = not_loose;
  }
