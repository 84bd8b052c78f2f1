-- What is found among the rows of a build are its doubted recipes.
use Rattle.std.proofs.Common.{◌≡◌, ◌∙◌, ℕ, Bool, true, false, List, [], ◌∷◌, ◌++◌, map, reverse, ◌⊎◌, inl, inr, ⊎_elim, refl, sym, ap, subst}
use Rattle.std.specs.Prelude.{◌&&◌, ◌||◌, All, fold, not, if◌then◌else◌}
use Rattle.std.specs.List.{flat_map, list_any}
use Rattle.std.proofs.lemmas.Bool.{and_from, and_parts, cases_Bool, cond-true, cond-false, or_cases, or_left, or_right, true≢false}
use Rattle.std.proofs.lemmas.List.Elements.{All-head, All-tail}
use mathlib.Core.List.{reverse-cons}
use Rattle.mk_lemmas.proofs.Members.{Has-flat_map, Has-from_flat_map, Has-from_map, Has-left, Has-map, Has-right, Has-cases}
use Rattle.mk_lines.specs.Names.{has_name, with_name}
use Rattle.mk_lines.proofs.NameTests.{Has-from_has_name, has_name-from_Has}
use Rattle.mk_graph.specs.declared.node.Node.{Node}
use Rattle.mk_graph.specs.Graph.{IsGraph, node}
use Rattle.mk_graph.specs.Laws.{SerialReachesEachOnce}
use Rattle.mk_graph.specs.Membership.{Has}
use Rattle.mk_graph.specs.ScheduleLaws.{BeforeIsDecided}
use Rattle.mk_graph.specs.Schedules.{CanStart, IsSchedule}
use Rattle.mk_graph.specs.Serial.{serial_order}
use Rattle.mk_graph.proofs.Nodes.{recipe_is_node as recipe_node}
use Rattle.mk_graph.proofs.OneNode.{order_of_all_goals}
use Rattle.mk_graph.proofs.SerialTurns.{order_back}
use Rattle.mk_build.specs.BuildLaws.{NamesHaveOneNumber}
use Rattle.mk_build.specs.Right.{AreSound}
use Rattle.mk_build.proofs.CleanEnd.{fold_push}
use Rattle.mk_build_behaviours.specs.Trusting.{MayBeTrusted}
use Rattle.mk_build_behaviours.proofs.Present.{all_nodes, all_recipes, all_turns}
use Rattle.mk_build_since.specs.SinceLaws.{WaysAreDecided}
use Rattle.mk_build_since.proofs.WayDeciding.{all_goals}
use Rattle.mk_find.specs.Candidates.{Candidate, no_record, other_commands, varying_commands, no_target, two_writers, given_written, own_read, unknown_read, loose, race, stale, selection, race_candidates, stale_candidates, static_candidates}
use Rattle.mk_find.specs.Conditions.{IsStale, RacesWith}
use Rattle.mk_find.specs.FindingLaws.{ListedExactly, NothingFoundIsSound}
use Rattle.mk_find.specs.Findings.{AreFindings}
use Rattle.mk_find.specs.Listed.{Adds, named}
use Rattle.mk_find.specs.Listing.{Lists}
use Rattle.mk_find.specs.declared.finding.Finding.{Finding}
use Rattle.mk_find.proofs.Lists.{one_list, lists_nothing, nothing_holds}
use Rattle.mk_subject.specs.NodeRow.{NodeRow, AreRows, IsRow, row_reads, row_writes}
use Rattle.mk_subject.specs.Subject.{Subject, IsSubject, IsRecipe, footprints, name_of, reads_of, writes_of}
use Rattle.mk_subject.proofs.Entries.{same_reads, same_writes}
use Rattle.mk_subject.proofs.InOrder.{in_order, reader_has_recipe, reader_in_order, recipe_is_node, writer_has_recipe, writer_in_order}
use Rattle.mk_since.specs.Doubts.{AreDoubted, DoubtsLeaveTrust, HasNoStatic, IsDoubted, races as by_race, stale as by_stale, reads as by_read, trust_without}
use Rattle.mk_since.specs.Laws.{DoubtsAreThese}
use Rattle.mk_since.specs.Parts.{Doubts, about, all_about, doubted_among, doubts_among, is_doubted, with_row}
use Rattle.mk_since.proofs.Deciding.{any_for, any_from, not_from, not_true}
use Rattle.mk_since.proofs.Naming.{all_has, one_has}

-- whom a candidate is about, if it is found
abbrev Tells : Subject → List ℕ → Type 0
Tells x name = (t : ℕ) × (name_of x t ≡ name) × (((o : ℕ) × (f : List ℕ) × RacesWith x t o f) ⊎ ((f : List ℕ) × IsStale x t f))

module _ (x : Subject) (exactly : ListedExactly) (found : List Finding) (kept : List Candidate) (right : Lists x (race_candidates x ++ stale_candidates x) kept) (added : found ≡ map (named x) kept) where
  -- a found one
  tells_of : (name : List ℕ) (c : Candidate) → Has kept c → Has (about (named x c)) name → Tells x name
  tells_of name (no_record t) h is = absurd is
  tells_of name (other_commands t) h is = absurd is
  tells_of name (varying_commands t) h is = absurd is
  tells_of name (no_target t) h is = absurd is
  tells_of name (two_writers o t f) h is = absurd is
  tells_of name (given_written t f) h is = absurd is
  tells_of name (own_read t f) h is = absurd is
  tells_of name (unknown_read t f) h is = absurd is
  tells_of name (loose n o) h is = absurd is
  tells_of name (race t o f) h is = (t, ⊎_elim (λ here. here) (λ none. absurd none) is, inl (o, f, ((exactly x (race_candidates x ++ stale_candidates x) kept right (race t o f)).0 h).1))
  tells_of name (stale t f) h is = (t, ⊎_elim (λ here. here) (λ none. absurd none) is, inr (f, ((exactly x (race_candidates x ++ stale_candidates x) kept right (stale t f)).0 h).1))
  tells_of name (selection n c) h is = absurd is

  -- each name among these is that of a recipe that is found
  pub about_tells : (name : List ℕ) → Has (all_about found) name → Tells x name
  about_tells name h =
      ⊎_elim (λ none. absurd none)
      (λ there. let (finding, among, is) = Has-from_flat_map about found name there in
      let (c, stands, same) = Has-from_map (named x) kept finding (subst (λ (l : List Finding). Has l finding) added among) in
      tells_of name c stands (subst (λ (k : Finding). Has (about k) name) (sym same) is))
      ((all_has (flat_map about found) [] name).0 h)

  -- each recipe that is found has its name among these
  told_about : (c : Candidate) (name : List ℕ) → Has kept c → Has (about (named x c)) name → Has (all_about found) name
  told_about c name h is =
      (all_has (flat_map about found) [] name).1 (inr (Has-flat_map about found (named x c) name (subst (λ (l : List Finding). Has l (named x c)) (sym added) (Has-map (named x) kept c h)) is))

  module _ (is : IsGraph x.graph) (reaches : SerialReachesEachOnce) where
    pub racing_told : (t o : ℕ) (f : List ℕ) → RacesWith x t o f → Has (all_about found) (name_of x t)
    racing_told t o f holds =
        let order = serial_order x.graph in
        let among : Has (race_candidates x) (race t o f) = Has-flat_map (λ n. flat_map (λ k. map (λ m. race n m k) order) (reads_of x n)) order t (race t o f) (reader_in_order x is reaches t f holds.1)
        (Has-flat_map (λ k. map (λ m. race t m k) order) (reads_of x t) f (race t o f) holds.1 (Has-map (λ m. race t m f) order o (writer_in_order x is reaches o f holds.2))) in
        told_about (race t o f) (name_of x t) ((exactly x (race_candidates x ++ stale_candidates x) kept right (race t o f)).1 (Has-left (race_candidates x) (stale_candidates x) (race t o f) among, holds)) (inl refl)

    pub stale_told : (t : ℕ) (f : List ℕ) → IsStale x t f → Has (all_about found) (name_of x t)
    stale_told t f holds =
        let order = serial_order x.graph in
        let among : Has (stale_candidates x) (stale t f) = Has-flat_map (λ n. map (λ k. stale n k) (reads_of x n)) order t (stale t f) (reader_in_order x is reaches t f holds.0) (Has-map (λ k. stale t k) (reads_of x t) f holds.0) in
        told_about (stale t f) (name_of x t) ((exactly x (race_candidates x ++ stale_candidates x) kept right (stale t f)).1 (Has-right (race_candidates x) (stale_candidates x) (stale t f) among, holds)) (inl refl)

-- doubts after one node and another
abbrev test : Subject → List (List ℕ) → Doubts → ℕ → Bool
test x told so_far n = (node x.graph n).recipe && (has_name told (name_of x n) || list_any (has_name so_far.files) (reads_of x n))

abbrev more : Subject → Doubts → ℕ → Doubts
more x so_far n = record { targets = with_name so_far.targets (name_of x n); files = fold with_name so_far.files (writes_of x n) }

abbrev next : Subject → List (List ℕ) → Doubts → ℕ → Doubts
next x told so_far n = if test x told so_far n then more x so_far n else so_far

abbrev none_yet : Doubts
none_yet = record { targets = []; files = [] }

-- a row is about its node
row_is : (x : Subject) (told : List (List ℕ)) (so_far : Doubts) (e : NodeRow) → IsRow x e → with_row told so_far e ≡ next x told so_far e.number
row_is x told so_far e is =
    ap (λ (n : Node). if n.recipe && (has_name told n.name || list_any (has_name so_far.files) (row_reads e)) then record { targets = with_name so_far.targets n.name; files = fold with_name so_far.files (row_writes e) } else so_far) is.same_node
    ∙ (ap (λ (l : List (List ℕ)). if (node x.graph e.number).recipe && (has_name told (name_of x e.number) || list_any (has_name so_far.files) l) then record { targets = with_name so_far.targets (name_of x e.number); files = fold with_name so_far.files (row_writes e) } else so_far) (same_reads x e is)
    ∙ ap (λ (l : List (List ℕ)). if test x told so_far e.number then record { targets = with_name so_far.targets (name_of x e.number); files = fold with_name so_far.files l } else so_far) (same_writes x e is))

rows_are : (x : Subject) (told : List (List ℕ)) (so_far : Doubts) (rows : List NodeRow) → All (IsRow x) rows → fold (with_row told) so_far rows ≡ fold (next x told) so_far (map (λ (e : NodeRow). e.number) rows)
rows_are x told so_far [] are = refl
rows_are x told so_far (e ∷ rows) are =
    ap (λ (d : Doubts). fold (with_row told) d rows) (row_is x told so_far e (All-head (IsRow x) e rows are)) ∙ rows_are x told (next x told so_far e.number) rows (All-tail (IsRow x) e rows are)

-- the doubts about a list of nodes, the last one first
abbrev doubts_of : Subject → List (List ℕ) → List ℕ → Doubts
doubts_of x told [] = none_yet
doubts_of x told (n ∷ ns) = next x told (doubts_of x told ns) n

in_turn : (x : Subject) (told : List (List ℕ)) (ns : List ℕ) → fold (next x told) none_yet (reverse ns) ≡ doubts_of x told ns
in_turn x told [] = refl
in_turn x told (n ∷ ns) =
    ap (λ (l : List ℕ). fold (next x told) none_yet l) (reverse-cons n ns) ∙ (fold_push (next x told) none_yet (reverse ns) n ∙ ap (λ (d : Doubts). next x told d n) (in_turn x told ns))

module _ (x : Subject) (is : IsGraph x.graph) (sound : AreSound x.graph (footprints x.setting)) (reaches : SerialReachesEachOnce) (one : NamesHaveOneNumber) (decided : BeforeIsDecided)
    (told : List (List ℕ)) (tells : (name : List ℕ) → Has told name → Tells x name)
    (racing : (t o : ℕ) (f : List ℕ) → RacesWith x t o f → Has told (name_of x t)) (staling : (t : ℕ) (f : List ℕ) → IsStale x t f → Has told (name_of x t)) where
  -- two recipes with one name are one
  same_node : (t n : ℕ) → IsRecipe x t → IsRecipe x n → name_of x t ≡ name_of x n → t ≡ n
  same_node t n t_recipe n_recipe same = one x.graph is.sound (name_of x n) t n (recipe_is_node x is reaches t t_recipe, same) (recipe_is_node x is reaches n n_recipe, refl)

  -- a recipe whose name is among these is doubted
  told_is_doubted : (n : ℕ) → IsRecipe x n → Has told (name_of x n) → IsDoubted x n
  told_is_doubted n recipe h =
      let (t, same, why) = tells (name_of x n) h in
      ⊎_elim (λ race. subst (λ (k : ℕ). IsDoubted x k) (same_node t n (reader_has_recipe x is reaches t race.1 race.2.1) recipe same) (by_race race.0 race.1 race.2))
      (λ old. subst (λ (k : ℕ). IsDoubted x k) (same_node t n (reader_has_recipe x is reaches t old.0 old.1.0) recipe same) (by_stale old.0 old.1))
      why

  -- what is noted of nodes
  abbrev Targets : List ℕ → Type 0
  Targets ns = (name : List ℕ) → Has (doubts_of x told ns).targets name → (t : ℕ) × Has ns t × IsRecipe x t × IsDoubted x t × (name_of x t ≡ name)

  abbrev Files : List ℕ → Type 0
  Files ns = (f : List ℕ) → Has (doubts_of x told ns).files f → (t : ℕ) × Has ns t × IsDoubted x t × Has (writes_of x t) f

  abbrev Noted : List ℕ → ℕ → Type 0
  Noted ns t = Has (doubts_of x told ns).targets (name_of x t) × ((f : List ℕ) → Has (writes_of x t) f → Has (doubts_of x told ns).files f)

  record Holds (ns : List ℕ) : Type 0 where
    targets : Targets ns
    files : Files ns
    noted : (t : ℕ) → Has ns t → IsRecipe x t → IsDoubted x t → Noted ns t

  module _ (n : ℕ) (ns : List ℕ) (may : CanStart x.graph x.graph.goals ns n) (turns : IsSchedule x.graph x.graph.goals ns) (before : Holds ns) where
    abbrev so_far : Doubts
    so_far = doubts_of x told ns

    -- a test that says yes
    passes_is_doubted : test x told so_far n ≡ true → IsRecipe x n × IsDoubted x n
    passes_is_doubted yes_it =
        let both = and_parts (node x.graph n).recipe (has_name told (name_of x n) || list_any (has_name so_far.files) (reads_of x n)) yes_it in (
          both.0,
          ⊎_elim (λ t. told_is_doubted n both.0 (Has-from_has_name told (name_of x n) t))
              (λ r. let (f, read, has) = any_from (has_name so_far.files) (reads_of x n) r in
              let (o, there, is_doubted, wrote) = before.files f (Has-from_has_name so_far.files f has) in
              by_read o f read wrote is_doubted)
              (or_cases (has_name told (name_of x n)) (list_any (has_name so_far.files) (reads_of x n)) both.1),
        )

    -- where the name of a recipe is among these, or it reads such a file, the test says yes
    told_passes : IsRecipe x n → Has told (name_of x n) → test x told so_far n ≡ true
    told_passes recipe h =
        and_from (node x.graph n).recipe (has_name told (name_of x n) || list_any (has_name so_far.files) (reads_of x n)) recipe (or_left (has_name told (name_of x n)) (list_any (has_name so_far.files) (reads_of x n)) (has_name-from_Has told (name_of x n) h))

    reading_passes : IsRecipe x n → (f : List ℕ) → Has (reads_of x n) f → Has so_far.files f → test x told so_far n ≡ true
    reading_passes recipe f read h =
        and_from (node x.graph n).recipe (has_name told (name_of x n) || list_any (has_name so_far.files) (reads_of x n)) recipe (or_right (has_name told (name_of x n)) (list_any (has_name so_far.files) (reads_of x n)) (any_for (has_name so_far.files) (reads_of x n) f read (has_name-from_Has so_far.files f h)))

    -- the writer of what it reads runs before it, or races with it
    writer_cases : IsRecipe x n → (o : ℕ) (f : List ℕ) → Has (reads_of x n) f → Has (writes_of x o) f → Has ns o ⊎ RacesWith x n o f
    writer_cases recipe o f read wrote =
        ⊎_elim (λ earlier. inl (earlier recipe x.graph.goals ns (all_goals x.graph (is.sound.reached n (recipe_node x.graph n recipe))) turns may))
        (λ late. inr (λ same. sound.not_own n f read (subst (λ (k : ℕ). Has (writes_of x k) f) same wrote), read, wrote, late))
        (decided x.graph o n is)

    doubted_passes : IsRecipe x n → IsDoubted x n → test x told so_far n ≡ true
    doubted_passes recipe (by_race o f holds) = told_passes recipe (racing n o f holds)
    doubted_passes recipe (by_stale f holds) = told_passes recipe (staling n f holds)
    doubted_passes recipe (by_read o f read wrote doubt) =
        ⊎_elim (λ there. reading_passes recipe f read ((before.noted o there (writer_has_recipe x is reaches o f wrote) doubt).1 f wrote)) (λ late. told_passes recipe (racing n o f late)) (writer_cases recipe o f read wrote)

    -- with the node
    with_node : test x told so_far n ≡ true → Holds (n ∷ ns)
    with_node yes_it =
        let now : doubts_of x told (n ∷ ns) ≡ more x so_far n = cond-true (test x told so_far n) (more x so_far n) so_far yes_it in
        let doubt = passes_is_doubted yes_it in
        record {
          targets = λ name h. ⊎_elim (λ old. let (t, there, recipe, is_doubted, same) = before.targets name old in (t, inr there, recipe, is_doubted, same)) (λ new. (n, inl refl, doubt.0, doubt.1, new))
              ((one_has so_far.targets (name_of x n) name).0 (subst (λ (d : Doubts). Has d.targets name) now h));
          files = λ f h. ⊎_elim (λ old. let (t, there, is_doubted, wrote) = before.files f old in (t, inr there, is_doubted, wrote)) (λ new. (n, inl refl, doubt.1, new))
              ((all_has (writes_of x n) so_far.files f).0 (subst (λ (d : Doubts). Has d.files f) now h));
          noted = λ t there recipe is_doubted. ⊎_elim
              (λ here. (
                subst (λ (d : Doubts). Has d.targets (name_of x t)) (sym now) ((one_has so_far.targets (name_of x n) (name_of x t)).1 (inr (ap (name_of x) here))),
                λ f wrote. subst (λ (d : Doubts). Has d.files f) (sym now) ((all_has (writes_of x n) so_far.files f).1 (inr (subst (λ (k : ℕ). Has (writes_of x k) f) (sym here) wrote))),
              ))
              (λ old. let was = before.noted t old recipe is_doubted in (
                subst (λ (d : Doubts). Has d.targets (name_of x t)) (sym now) ((one_has so_far.targets (name_of x n) (name_of x t)).1 (inl was.0)),
                λ f wrote. subst (λ (d : Doubts). Has d.files f) (sym now) ((all_has (writes_of x n) so_far.files f).1 (inl (was.1 f wrote))),
              )) there;
        }

    -- without it
    without_node : test x told so_far n ≡ false → Holds (n ∷ ns)
    without_node fails =
        let now : doubts_of x told (n ∷ ns) ≡ so_far = cond-false (test x told so_far n) (more x so_far n) so_far fails in
        record {
          targets = λ name h. let (t, there, recipe, is_doubted, same) = before.targets name (subst (λ (d : Doubts). Has d.targets name) now h) in (t, inr there, recipe, is_doubted, same);
          files = λ f h. let (t, there, is_doubted, wrote) = before.files f (subst (λ (d : Doubts). Has d.files f) now h) in (t, inr there, is_doubted, wrote);
          noted = λ t there recipe is_doubted. ⊎_elim
              (λ here. absurd (true≢false (sym (doubted_passes (subst (λ (k : ℕ). IsRecipe x k) (sym here) recipe) (subst (λ (k : ℕ). IsDoubted x k) (sym here) is_doubted)) ∙ fails)))
              (λ old. let was = before.noted t old recipe is_doubted in (subst (λ (d : Doubts). Has d.targets (name_of x t)) (sym now) was.0, λ f wrote. subst (λ (d : Doubts). Has d.files f) (sym now) (was.1 f wrote))) there;
        }

  -- of each schedule
  holds_of : (ns : List ℕ) → IsSchedule x.graph x.graph.goals ns → Holds ns
  holds_of [] turns = record { targets = λ name h. absurd h; files = λ f h. absurd h; noted = λ t there. absurd there }
  holds_of (n ∷ ns) turns =
      let before = holds_of ns turns.1 in
      ⊎_elim (λ yes_it. with_node n ns turns.0 turns.1 before yes_it) (λ fails. without_node n ns turns.0 turns.1 before fails) (cases_Bool (test x told (doubts_of x told ns) n))

  -- so of all nodes
  all_held : Holds (all_nodes x.graph is)
  all_held = holds_of (all_nodes x.graph is) (all_turns x.graph is)

  -- what is found among rows
  among_rows : (rows : List NodeRow) → AreRows x rows → doubts_among told rows ≡ doubts_of x told (all_nodes x.graph is)
  among_rows rows entries =
      rows_are x told none_yet rows entries.right
      ∙ (ap (λ (l : List ℕ). fold (next x told) none_yet l) (entries.in_order ∙ (sym (order_of_all_goals x.graph) ∙ order_back x.graph is.no_cycle x.graph.goals))
      ∙ in_turn x told (all_nodes x.graph is))

  pub doubts_are : (rows : List NodeRow) → AreRows x rows → AreDoubted x (doubts_among told rows).targets
  doubts_are rows entries target =
      let same = among_rows rows entries in (
        λ h. let (t, there, recipe, is_doubted, name) = all_held.targets target (subst (λ (d : Doubts). Has d.targets target) same h) in (t, recipe, is_doubted, name),
        λ (t, recipe, is_doubted, name). subst (λ (k : List ℕ). Has (doubts_among told rows).targets k) name (subst (λ (d : Doubts). Has d.targets (name_of x t)) (sym same) (all_held.noted t (all_recipes x.graph is (footprints x.setting) sound t recipe) recipe is_doubted).0),
      )

-- findings without a static one are races and stale reads
found_late : (x : Subject) (found : List Finding) → HasNoStatic x → AreFindings x found → (kept : List Candidate) × Lists x (race_candidates x ++ stale_candidates x) kept × (found ≡ map (named x) kept)
found_late x found none (inl (not, adds)) = absurd (not (adds.added ∙ ap (map (named x)) (one_list x adds.right none)))
found_late x found none (inr (static, adds)) = (adds.kept, adds.right, adds.added)

pub doubts_are_these : BeforeIsDecided → ListedExactly → NamesHaveOneNumber → NothingFoundIsSound → SerialReachesEachOnce → DoubtsAreThese
doubts_are_these decided exactly one sounds reaches x found rows is is_subject none are entries =
    let (kept, right, added) = found_late x found none are in
    doubts_are x is (sounds x is is_subject none) reaches one decided (all_about found) (about_tells x exactly found kept right added) (racing_told x exactly found kept right added is reaches) (stale_told x exactly found kept right added is reaches) rows entries

-- whose target is among those of doubted recipes is doubted
pub target_is_doubted : (x : Subject) (doubted : List (List ℕ)) → IsGraph x.graph → SerialReachesEachOnce → NamesHaveOneNumber → AreDoubted x doubted → (t : ℕ) → IsRecipe x t → Has doubted (name_of x t) → IsDoubted x t
target_is_doubted x doubted is reaches one are t recipe h =
    let (o, o_recipe, is_doubted, same) = (are (name_of x t)).0 h in
    subst (λ (k : ℕ). IsDoubted x k) (one x.graph is.sound (name_of x t) o t (recipe_is_node x is reaches o o_recipe, same) (recipe_is_node x is reaches t recipe, refl)) is_doubted

-- all but doubted recipes may be trusted
pub doubts_leave_trust : BeforeIsDecided → NamesHaveOneNumber → NothingFoundIsSound → SerialReachesEachOnce → WaysAreDecided → DoubtsLeaveTrust
doubts_leave_trust decided one sounds reaches ways x doubted is is_subject none are = record {
  closed = λ t o f trusted read wrote. not_true (has_name doubted (name_of x o)) (λ e. not_doubted t trusted (reader_has_recipe x is reaches t f read) (by_read o f read wrote (target_is_doubted x doubted is reaches one are o (writer_has_recipe x is reaches o f wrote) (Has-from_has_name doubted (name_of x o) e))));
  no_race = λ t o f trusted differ read wrote. ⊎_elim (λ earlier. earlier) (λ late. absurd (not_doubted t trusted (reader_has_recipe x is reaches t f read) (by_race o f (differ, read, wrote, late)))) (decided x.graph o t is);
  ways = λ t f trusted read can. ⊎_elim (λ way. way) (λ no_way. absurd (not_doubted t trusted (reader_has_recipe x is reaches t f read) (by_stale f (read, can, no_way)))) (ways x.graph (footprints x.setting) is (sounds x is is_subject none) t f (reader_has_recipe x is reaches t f read));
} where
  not_doubted : (t : ℕ) → trust_without doubted (name_of x t) ≡ true → IsRecipe x t → ¬ (IsDoubted x t)
  not_doubted t trusted recipe is_doubted = not_from (has_name doubted (name_of x t)) trusted (has_name-from_Has doubted (name_of x t) ((are (name_of x t)).1 (t, recipe, is_doubted, refl)))
