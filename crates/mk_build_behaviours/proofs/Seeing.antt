-- What running recipes saw in files that none of them writes is there.
use Rattle.std.proofs.Common.{◌≡◌, ℕ, Bool, true, false, Option, Some, None, ⊎_elim, sym, ◌∙◌, ap, subst}
use Rattle.std.specs.Prelude.{if◌then◌else◌}
use Rattle.std.specs.Option.{option_map}
use Rattle.std.proofs.lemmas.Bool.{cases_eq}
use Rattle.mk_graph.specs.Membership.{Has}
use Rattle.mk_graph.specs.Graph.{Graph}
use Rattle.mk_build.specs.Setting.{FileName, Setting, name, writes}
use Rattle.mk_build.specs.World.{File, Disk, Making, World, Idle, Busy, content, changed, without}
use Rattle.mk_build.specs.Steps.{Step, Edit, Make, Begin, Look, Put, End, Break, Pass, Stop, EndMake, IsLeftToRun, begun, finished, looked, broken_off}
use Rattle.mk_build.proofs.Changes.{cases_name, changed_here, changed_there, changed_at_here, changed_at_there}
use Rattle.mk_build.proofs.InOrder.{Has-without}
use Rattle.mk_build.proofs.Writing.{content_there}
use Rattle.mk_build.proofs.Removing.{stays_there}
use Rattle.mk_build_behaviours.specs.Behaviours.{Behaviours}
use Rattle.mk_build_behaviours.specs.StepsBy.{AllowedBy, after_by}

module _ (g : Graph) (s : Setting) (b : Behaviours) (counts : ℕ → FileName → Type 0) where
  -- what running recipes saw is there, in files that count for them
  abbrev pub Sees : Making → Disk → Type 0
  Sees m d = (t : ℕ) (f : FileName) (c : Option ℕ) → Has m.running t → counts t f → m.seen t f ≡ Some c → content d f ≡ c

  abbrev pub SeesIn : World → Type 0
  SeesIn (Idle d) = Unit {0}
  SeesIn (Busy m d) = Sees m d

  -- a running recipe writes no file in which one saw something, if it counts for that
  abbrev pub AreOthers : Making → Type 0
  AreOthers m = (x t : ℕ) (h f : FileName) (c : Option ℕ) → Has m.running x → Has (writes g s x) h → Has m.running t → counts t f → m.seen t f ≡ Some c → ¬ (h ≡ f)

  abbrev pub AreOthersIn : World → Type 0
  AreOthersIn (Idle d) = Unit {0}
  AreOthersIn (Busy m d) = AreOthers m

  module _ (m : Making) (d : Disk) (sees : Sees m d) where
    -- a recipe that began has seen nothing
    begins : (x : ℕ) → Sees (begun m x) d
    begins x t f c runs count e =
        ⊎_elim (λ same. let none : None ≡ Some c = sym (ap (λ (at : FileName → Option (Option ℕ)). at f) (changed_at_here m.seen x t (λ h. None) same)) ∙ e in absurd (cc))
        (λ differ. sees t f c (⊎_elim (λ here. absurd (differ here)) (λ there. there) runs) count (sym (ap (λ (at : FileName → Option (Option ℕ)). at f) (changed_at_there m.seen x t (λ h. None) differ)) ∙ e))
        (cases_eq x t)

    -- what a recipe looked at is there
    looks : (x : ℕ) (h : FileName) → Sees (looked m x h (content d h)) d
    looks x h t f c runs count e =
        ⊎_elim (λ same. let now : changed (m.seen x) h (Some (content d h)) f ≡ Some c = sym (ap (λ (at : FileName → Option (Option ℕ)). at f) (changed_at_here m.seen x t (changed (m.seen x) h (Some (content d h))) same)) ∙ e in
        ⊎_elim (λ here. let it : Some (content d h) ≡ Some c = sym (changed_here (m.seen x) h f (Some (content d h)) here) ∙ now in let is_c : content d h ≡ c = cc in subst (λ (k : FileName). content d k ≡ c) here is_c)
        (λ there. sees t f c runs count (subst (λ (k : ℕ). m.seen k f ≡ Some c) same (sym (changed_there (m.seen x) h f (Some (content d h)) there) ∙ now)))
        (cases_name h f))
        (λ differ. sees t f c runs count (sym (ap (λ (at : FileName → Option (Option ℕ)). at f) (changed_at_there m.seen x t (changed (m.seen x) h (Some (content d h))) differ)) ∙ e))
        (cases_eq x t)

    -- what still runs saw what it did
    saw_before : (x t : ℕ) (f : FileName) (c : Option ℕ) → Has (finished m x).running t → (finished m x).seen t f ≡ Some c → Has m.running t × (m.seen t f ≡ Some c)
    saw_before x t f c runs e =
        let left = Has-without x t m.running runs in
        (left.0, sym (ap (λ (at : FileName → Option (Option ℕ)). at f) (changed_at_there m.seen x t (λ h. None) left.1)) ∙ e)

    pub ends : (x : ℕ) → Sees (finished m x) d
    ends x t f c runs count e = let before = saw_before x t f c runs e in sees t f c before.0 count before.1

    -- where a target is removed
    breaks : AreOthers m → (x : ℕ) (removed : Bool) → Has m.running x → IsLeftToRun g s d x removed → Sees (broken_off m x) (if removed then without d (name g x) else d)
    breaks others x true x_runs wrote t f c runs count e =
        let before = saw_before x t f c runs e in
        ap (λ (o : Option File). option_map (λ (file : File). file.content) o) (stays_there d (name g x) f (others x t (name g x) f c x_runs wrote before.0 count before.1)) ∙ sees t f c before.0 count before.1
    breaks others x false x_runs must t f c runs count e = let before = saw_before x t f c runs e in sees t f c before.0 count before.1

  -- each step keeps it
  pub sees_after : (w : World) (step : Step) → SeesIn w → AreOthersIn w → AllowedBy g s b w step → SeesIn (after_by g s w step)
  sees_after (Idle d) (Edit f c) sees others may = tt
  sees_after (Idle d) (Make jobs goals) sees others may = λ t f c runs. absurd runs
  sees_after (Idle d) (Begin t) sees others may = absurd may
  sees_after (Idle d) (Look t f) sees others may = absurd may
  sees_after (Idle d) (Put t f c) sees others may = absurd may
  sees_after (Idle d) (End t) sees others may = absurd may
  sees_after (Idle d) (Break t removed) sees others may = absurd may
  sees_after (Idle d) (Pass t) sees others may = absurd may
  sees_after (Idle d) Stop sees others may = absurd may
  sees_after (Idle d) EndMake sees others may = absurd may
  sees_after (Busy m d) (Edit f c) sees others may = absurd may
  sees_after (Busy m d) (Make jobs goals) sees others may = absurd may
  sees_after (Busy m d) (Begin t) sees others may = begins m d sees t
  sees_after (Busy m d) (Look t f) sees others may = looks m d sees t f
  sees_after (Busy m d) (Put x f c) sees others may = λ t h v runs count e. content_there d f c h (others x t f h v may.0 may.1 runs count e) ∙ sees t h v runs count e
  sees_after (Busy m d) (End t) sees others may = ends m d sees t
  sees_after (Busy m d) (Break t removed) sees others may = breaks m d sees others t removed may.0 may.1
  sees_after (Busy m d) (Pass n) sees others may = ends m d sees n
  sees_after (Busy m d) Stop sees others may = tt
  sees_after (Busy m d) EndMake sees others may = tt
