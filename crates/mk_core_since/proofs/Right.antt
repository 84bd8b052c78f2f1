-- Makes after the removal of what is named are right.
use Rattle.std.proofs.Common.{◌≡◌, ℕ, List, inl, inr, ⊎_elim, sym, ◌∙◌}
use Rattle.std.proofs.lemmas.Bool.{true≢false}
use Rattle.mk_lines.specs.Names.{has_name}
use Rattle.mk_lines.proofs.NameTests.{Has-from_has_name}
use Rattle.mk_graph.specs.Membership.{Has}
use Rattle.mk_graph.specs.Graph.{IsGraph}
use Rattle.mk_graph.specs.Laws.{SerialReachesEachOnce}
use Rattle.mk_build.specs.BuildLaws.{NamesHaveOneNumber}
use Rattle.mk_build.specs.Right.{AreSound, HaveNoRace, HaveWays}
use Rattle.mk_build.specs.Setting.{FileName}
use Rattle.mk_build.specs.Ways.{Way}
use Rattle.mk_build_behaviours.specs.Behaviours.{Behaviours}
use Rattle.mk_build_since.specs.Next.{IsAccepted}
use Rattle.mk_build_since.specs.SinceLaws.{NextBuildsAreRight, NextBuildsAreRightTrusting}
use Rattle.mk_cert.specs.Laws.{CertificateIsAccepted}
use Rattle.mk_cert.proofs.Accepted.{have_ways}
use Rattle.mk_find.specs.FindingLaws.{NoFindings, NoRaceFoundIsNone, NothingFoundIsSound}
use Rattle.mk_find.specs.Conditions.{IsStale, RacesWith}
use Rattle.mk_subject.specs.Subject.{Subject, IsSubject, IsRecipe, footprints, name_of}
use Rattle.mk_subject.proofs.InOrder.{writer_has_recipe}
use Rattle.mk_since.specs.Doubts.{AreDoubted, DoubtsLeaveTrust, IsDoubted, races as by_race, stale as by_stale, reads as by_read, trust_without}
use Rattle.mk_since.proofs.Deciding.{not_true}
use Rattle.mk_since.specs.Laws.{NamedAreNamed}
use Rattle.mk_since.specs.Named.{AreNamed, AreNamedBy, build_of}
use Rattle.mk_since.specs.Past.{past_of}
use Rattle.mk_core_since.specs.Next.{NamedIsRight, NamedIsRightWithout}
use Rattle.mk_core_since.specs.OldAnswer.{HasYes}

module _ (accepts : CertificateIsAccepted) (nothing : NoFindings) (sound : NothingFoundIsSound) (races : NoRaceFoundIsNone) (reaches : SerialReachesEachOnce) (one : NamesHaveOneNumber) where
  -- each read of a build of which `check` says yes has a way
  accepted_ways : (x : Subject) → IsGraph x.graph → HasYes x → HaveWays x.graph (footprints x.setting)
  accepted_ways x is_graph (none_found, c, is) =
      let (goals, found, none, lacks) = accepts x c is_graph (nothing x none_found).0 is in
      have_ways x c.ways is_graph reaches one none lacks

  -- a build of which `check` says yes is accepted
  accepted : (x : Subject) → IsGraph x.graph → IsSubject x → HasYes x → (b : Behaviours) → IsAccepted (build_of x b)
  accepted x is_graph is_subject (none_found, c, is) b =
      let (goals, found, none, lacks) = accepts x c is_graph (nothing x none_found).0 is in
      record {
        graph = is_graph;
        sound = sound x is_graph is_subject found.0;
        no_race = races x is_graph found.1;
        ways = have_ways x c.ways is_graph reaches one none lacks;
      }

  module _ (named : NamedAreNamed) (x y : Subject) (graph_x : IsGraph x.graph) (yes_x : HasYes x) (graph_y : IsGraph y.graph) (doubted names : List FileName) (are : AreDoubted x doubted) (by : AreNamedBy (past_of doubted x) y names) where
    -- no recipe of a build with a yes is doubted
    none_doubted : (t : ℕ) → IsRecipe x t → ¬ (IsDoubted x t)
    none_doubted t recipe (by_race o f holds) = nothing_races o f holds where
      nothing_races : (o : ℕ) (f : FileName) → ¬ (RacesWith x t o f)
      nothing_races o f holds = holds.3 (races x graph_x (nothing x yes_x.0).0.1 t o f holds.0 holds.1 holds.2)
    none_doubted t recipe (by_stale f holds) = holds.2 (ways_of f holds) where
      ways_of : (f : FileName) → IsStale x t f → Way x.graph (footprints x.setting) f t
      ways_of f holds = (accepted_ways x graph_x yes_x) t f holds.0 holds.1
    none_doubted t recipe (by_read o f read wrote doubt) = none_doubted o (writer_has_recipe x graph_x reaches o f wrote) doubt

    no_target : (target : FileName) → ¬ (Has doubted target)
    no_target target h = let (t, recipe, is_doubted, same) = (are target).0 h in none_doubted t recipe is_doubted

    -- so the rules name all
    all_named : AreNamed x y names
    all_named b c f = (
      λ h. let is = (named doubted x y graph_x graph_y names by b c f).0 h in (is.0, ⊎_elim (λ left. inl left) (λ anew. inr (anew.0, anew.1, anew.2, ⊎_elim (λ rule. rule) (λ other. absurd (true≢false (sym (not_true (has_name doubted (name_of y anew.0)) (λ e. no_target (name_of y anew.0) (Has-from_has_name doubted (name_of y anew.0) e))) ∙ other))) anew.3)) is.1),
      λ is. (named doubted x y graph_x graph_y names by b c f).1 (is.0, ⊎_elim (λ left. inl left) (λ anew. inr (anew.0, anew.1, anew.2, inl anew.3)) is.1),
    )

  pub named_is_right : NamedAreNamed → NextBuildsAreRight → NamedIsRight
  named_is_right named right x y graph_x subject_x yes_x graph_y subject_y yes_y doubted names are by = (
    all_named named x y graph_x yes_x graph_y doubted names are by,
    λ b c alike. right (build_of x b) (build_of y c) alike (accepted x graph_x subject_x yes_x b) (accepted y graph_y subject_y yes_y c),
  )

  pub named_is_right_without : DoubtsLeaveTrust → NamedAreNamed → NextBuildsAreRightTrusting → NamedIsRightWithout
  named_is_right_without leave named right x y graph_x subject_x none_x graph_y subject_y yes_y doubted names are by = (
    named doubted x y graph_x graph_y names by,
    λ b c alike. right (build_of x b) (build_of y c) (trust_without doubted) alike (record {
      graph = graph_x;
      sound = sound x graph_x subject_x none_x;
      may = leave x doubted graph_x subject_x none_x are;
    }) (accepted y graph_y subject_y yes_y c),
  )
