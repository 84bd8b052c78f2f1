-- The parts of a history that shows a stale read, where the whole of it is legal.
use Rattle.std.proofs.Common.{ℕ, List, ◌++◌, ◌↔◌, sym, subst, append_assoc}
use Rattle.mk_world.proofs.RunsAgree.{legal_behind, legal_front}
use Rattle.mk_build.proofs.StaleExists.{edit_exists}
use Rattle.mk_graph.specs.Membership.{Has}
use Rattle.mk_graph.specs.Graph.{Graph}
use Rattle.mk_build.specs.Setting.{FileName, Setting}
use Rattle.mk_build.specs.World.{Disk, Idle, Busy}
use Rattle.mk_build.specs.Steps.{Step, make_of, IsLegal, after_all, disk_after}
use Rattle.mk_graph.specs.Serial.{order_from}
use Rattle.mk_build.specs.SerialMake.{one_make}
use Rattle.mk_build.specs.Stale.{Chain, IsEditOf, stale_history, MakesGoalsBut, ShowsStale, IsLaterThanAll}
use Rattle.mk_find_evidence.proofs.Steps.{makes_alike, makes_exist}

module _ (g : Graph) (s : Setting) (t : ℕ) (f : FileName) (d : Disk) where
  -- each history of this form is legal, and the file is later at its end
  abbrev pub AreShown : Type 0
  AreShown = (first edit second : List Step) → ShowsStale g s t f d first edit second → IsLegal g s (Idle d) (stale_history g first edit second) × IsLaterThanAll g s (disk_after g s d (stale_history g first edit second)) f t

  module _ (shown : AreShown) (passed : List ℕ) (exact : (n : ℕ) → Has passed n ↔ Chain g s t n) (first : List Step) (makes : MakesGoalsBut g s (λ n. ⊥) d first) where
    -- there is a second make
    second_exists : (before : Disk) → (steps : List Step) × MakesGoalsBut g s (Chain g s t) before steps
    second_exists before =
        let some = makes_exist g s passed (Busy (make_of 1 g.goals) before) (order_from g g.goals) in
        (some.0, makes_alike g s (Has passed) (Chain g s t) (λ n. (exact n).0) (λ n. (exact n).1) some.1)

    -- the first make is legal
    pub first_legal : IsLegal g s (Idle d) (one_make g.goals first)
    first_legal =
        let edit = edit_exists s f (disk_after g s d (one_make g.goals first)) in
        let second = second_exists (disk_after g s d (one_make g.goals first ++ edit.0)) in
        legal_front g s (Idle d) (one_make g.goals first) (edit.0 ++ one_make g.goals second.0) (shown first edit.0 second.0 (record { makes_all = makes; edits = edit.1; makes_again = second.1 })).0

    module _ (edit : List Step) (edits : IsEditOf s f (disk_after g s d (one_make g.goals first)) edit) where
      -- so is the edit behind it
      pub edit_legal : IsLegal g s (after_all g s (Idle d) (one_make g.goals first)) edit
      edit_legal =
          let second = second_exists (disk_after g s d (one_make g.goals first ++ edit)) in
          legal_front g s (after_all g s (Idle d) (one_make g.goals first)) edit (one_make g.goals second.0) (legal_behind g s (Idle d) (one_make g.goals first) (edit ++ one_make g.goals second.0) (shown first edit second.0 (record { makes_all = makes; edits = edits; makes_again = second.1 })).0)

      -- and the second make behind both
      pub second_legal : (second : List Step) → MakesGoalsBut g s (Chain g s t) (disk_after g s d (one_make g.goals first ++ edit)) second → IsLegal g s (after_all g s (Idle d) (one_make g.goals first ++ edit)) (one_make g.goals second)
      second_legal second again =
          let whole = (shown first edit second (record { makes_all = makes; edits = edits; makes_again = again })).0 in
          legal_behind g s (Idle d) (one_make g.goals first ++ edit) (one_make g.goals second) (subst (λ (steps : List Step). IsLegal g s (Idle d) steps) (sym (append_assoc (one_make g.goals first) edit (one_make g.goals second))) whole)
