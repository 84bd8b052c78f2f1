-- Traces keep a disk coherent as far as recipes are trusted.
use Rattle.std.proofs.Common.{◌≡◌, ℕ, List, [], ◌∷◌, true, false, Some, map, inl, inr, ⊎_elim, refl, sym, subst}
use Rattle.std.specs.Prelude.{unwrap_or}
use Rattle.std.proofs.lemmas.Bool.{cases_Bool}
use Rattle.mk_graph.specs.Membership.{Has}
use Rattle.mk_graph.specs.Graph.{Graph, node, IsGraph}
use Rattle.mk_build.specs.Setting.{FileName, Setting, name, writes}
use Rattle.mk_build.specs.World.{Disk, Making, World, Idle, Busy, content}
use Rattle.mk_build.specs.Clean.{Contents, given_contents}
use Rattle.mk_build.specs.Steps.{Step, Edit, Make, Begin, Look, Put, End, Break, Pass, Stop, EndMake, Allowed, finished, make_of}
use Rattle.mk_build.specs.BuildLaws.{AreInside}
use Rattle.mk_build.specs.Right.{AreSound, HaveNoRace, HaveWays}
use Rattle.mk_build.specs.Coherent.{ContainsOrChanged}
use Rattle.mk_build_behaviours.specs.Behaviours.{Behaviour, Behaviours, behaviour, path, result}
use Rattle.mk_build_behaviours.specs.CleanBy.{ArePresent}
use Rattle.mk_build_behaviours.specs.StepsBy.{saw_in, MayEndBy, AllowedBy, after_by, IsLegalBy, after_all_by, IsUndisturbed}
use Rattle.mk_build_behaviours.specs.CoherentBy.{IsAsLeftBy, IsCoherentBy}
use Rattle.mk_build_behaviours.specs.BehaviourLaws.{IsPresentAt, StayPresent}
use Rattle.mk_build_behaviours.specs.Trusting.{Trust, MayBeTrusted, with_left, IsCoherentTrusting, HoldClean}
use Rattle.mk_build_behaviours.proofs.Keeping.{IsKept, keep, keeps_end}
use Rattle.mk_build_behaviours.proofs.Coherence.{other_reads, coherent_is_kept, coherent_in}
use Rattle.mk_build_behaviours.proofs.Traces.{sound_without_reads}
use Rattle.mk_build_behaviours.proofs.Trusted.{trusted_behaves, other_writes, holds_left}
use Rattle.mk_build_behaviours.proofs.TrustedMakes.{IsOtherEnd, cases_other_end, trusted_end, allowed_left, left_after, same_behaviour, writes_left, reads_nothing, FollowsTrusting, TrustingIn, trusting_step, trusting_steps, trusted_is_still, wanted, trusting_begins, trusted_hold}

-- a coherent disk is coherent whichever recipes are trusted
pub coherent_is_trusting : (g : Graph) (s : Setting) (b : Behaviours) (trusted : Trust) (d : Disk) → IsCoherentBy g s b d → IsCoherentTrusting g s b trusted d
coherent_is_trusting g s b trusted d is = (
  left,
  record {
    last = is.last;
    stamped = is.stamped;
    came = is.came;
    left = λ t recipe stopped. ⊎_elim (λ bound. inl bound) (λ as_left. inr (⊎_elim (λ trust. as_trusted t trust as_left) (λ other. as_other t recipe other as_left) (cases_Bool (trusted (name g t))))) (is.left t recipe stopped);
    apart = is.apart;
  },
) where
  left : FileName → ℕ
  left f = unwrap_or (content d f) 0

  as_trusted : (t : ℕ) → trusted (name g t) ≡ true → IsAsLeftBy g s b (is.last t) d t → IsAsLeftBy g s (with_left s b trusted left) (is.last t) d t
  as_trusted t trust as_left = record {
    holds = subst (λ (k : Behaviour). map (content d) (writes g s t) ≡ map (λ c. Some c) (result k (is.last t).saw)) (sym (trusted_behaves g s trusted b left t trust)) as_left.holds;
    during = as_left.during;
    saw = subst (λ (k : Behaviour). (f : FileName) → Has (path k (is.last t).saw) f → ContainsOrChanged g s d f ((is.last t).saw f) (is.last t).ended) (sym (trusted_behaves g s trusted b left t trust)) as_left.saw;
  }

  as_other : (t : ℕ) → (node g t).recipe ≡ true → trusted (name g t) ≡ false → IsAsLeftBy g s b (is.last t) d t → IsAsLeftBy g s (with_left s b trusted left) (is.last t) d t
  as_other t recipe other as_left = record {
    holds = subst (λ (k : Behaviour). map (content d) (writes g s t) ≡ map (λ c. Some c) (result k (is.last t).saw)) (sym (other_writes g s trusted b left t recipe other)) (holds_left d (writes g s t) (result (behaviour g b t) (is.last t).saw) as_left.holds);
    during = as_left.during;
    saw = λ f on. absurd (subst (λ (k : Behaviour). Has (path k (is.last t).saw) f) (other_writes g s trusted b left t recipe other) on);
  }

module _ (g : Graph) (s : Setting) (b : Behaviours) (trusted : Trust) (graph : IsGraph g) (sound : AreSound g s) (may : MayBeTrusted g s trusted) where
  -- A world is as some runs left it in which recipes that aren't trusted wrote what is left.
  record KeepsTrusting (w : World) : Type 0 where
    left : FileName → ℕ
    kept : IsKept g s (with_left s b trusted left) w

  -- A make in progress follows one in which others write what they leave.
  record GoesTrusting (m : Making) (d : Disk) : Type 0 where
    given : Contents
    wanted : Contents
    follows : FollowsTrusting g s b trusted graph sound may given wanted m d

  -- in a world
  abbrev GoesIn : World → Type 0
  GoesIn (Idle d) = Unit {0}
  GoesIn (Busy m d) = GoesTrusting m d

  -- trusted recipes are undisturbed
  still_left : (left : FileName → ℕ) (w : World) (step : Step) → GoesIn w → ¬ (IsOtherEnd g s b trusted step) → AllowedBy g s b w step → IsUndisturbed g s (with_left s b trusted left) w step
  still_left left (Idle d) (Edit f c) goes not allowed = tt
  still_left left (Idle d) (Make jobs goals) goes not allowed = tt
  still_left left (Idle d) (Begin t) goes not allowed = tt
  still_left left (Idle d) (Look t f) goes not allowed = tt
  still_left left (Idle d) (Put t f c) goes not allowed = tt
  still_left left (Idle d) (End t) goes not allowed = tt
  still_left left (Idle d) (Break t removed) goes not allowed = tt
  still_left left (Idle d) (Pass n) goes not allowed = tt
  still_left left (Idle d) Stop goes not allowed = tt
  still_left left (Idle d) EndMake goes not allowed = tt
  still_left left (Busy m d) (Edit f c) goes not allowed = tt
  still_left left (Busy m d) (Make jobs goals) goes not allowed = tt
  still_left left (Busy m d) (Begin t) goes not allowed = tt
  still_left left (Busy m d) (Look t f) goes not allowed = tt
  still_left left (Busy m d) (Put t f c) goes not allowed = tt
  still_left left (Busy m d) (End t) goes not allowed =
      let is = trusted_end g s b trusted t not in
      subst (λ (k : Behaviour). (f : FileName) → Has (path k (saw_in m t)) f → content d f ≡ saw_in m t f) (sym (trusted_behaves g s trusted b left t is))
      (trusted_is_still g s b trusted graph sound may goes.given goes.wanted m d goes.follows t is allowed)
  still_left left (Busy m d) (Break t removed) goes not allowed = tt
  still_left left (Busy m d) (Pass n) goes not allowed = tt
  still_left left (Busy m d) Stop goes not allowed = tt
  still_left left (Busy m d) EndMake goes not allowed = tt

  -- another recipe ends
  other_end : (m : Making) (d : Disk) (x : ℕ) → KeepsTrusting (Busy m d) → trusted (name g x) ≡ false → MayEndBy g s b m x → KeepsTrusting (Busy (finished m x) d)
  other_end m d x keeps other allowed =
      let recipe = keeps.kept.is.make.order.recipes x allowed.runs in
      let left = left_after g s trusted sound keeps.left m x in
      record {
        left = left;
        kept = keeps_end g s (with_left s b trusted keeps.left) graph (sound_without_reads g s sound) m d keeps.kept x allowed.runs allowed.put (with_left s b trusted left)
            (same_behaviour g s trusted sound keeps.left m x b)
            (writes_left g s trusted sound keeps.left m x b (saw_in m x) recipe other)
            (λ f on. absurd (subst (λ (l : List FileName). Has l f) (reads_nothing g s trusted sound keeps.left m x b (saw_in m x) recipe other) on));
      }

  -- each step keeps a world
  keeps_other : (w : World) (step : Step) → KeepsTrusting w → IsOtherEnd g s b trusted step → AllowedBy g s b w step → KeepsTrusting (after_by g s w step)
  keeps_other (Idle d) (End t) keeps other allowed = absurd allowed
  keeps_other (Busy m d) (End t) keeps other allowed = other_end m d t keeps other allowed
  keeps_other w (Edit f c) keeps other allowed = absurd other
  keeps_other w (Make jobs goals) keeps other allowed = absurd other
  keeps_other w (Begin t) keeps other allowed = absurd other
  keeps_other w (Look t f) keeps other allowed = absurd other
  keeps_other w (Put t f c) keeps other allowed = absurd other
  keeps_other w (Break t removed) keeps other allowed = absurd other
  keeps_other w (Pass n) keeps other allowed = absurd other
  keeps_other w Stop keeps other allowed = absurd other
  keeps_other w EndMake keeps other allowed = absurd other

  keeps_step : (w : World) (step : Step) → KeepsTrusting w → GoesIn w → AllowedBy g s b w step → KeepsTrusting (after_by g s w step)
  keeps_step w step keeps goes allowed =
      ⊎_elim (λ other. keeps_other w step keeps other allowed)
      (λ not. record {
        left = keeps.left;
        kept = keep g s (with_left s b trusted keeps.left) graph (sound_without_reads g s sound) w step keeps.kept (allowed_left g s b trusted keeps.left w step not allowed) (still_left keeps.left w step goes not allowed);
      })
      (cases_other_end g s b trusted step)

  -- a make that begins, if footprints are present
  goes_first : (d : Disk) (jobs : ℕ) (goals : List ℕ) → KeepsTrusting (Idle d) → AllowedBy g s b (Idle d) (Make jobs goals) → ArePresent g s b d → GoesTrusting (make_of jobs goals) d
  goes_first d jobs goals keeps allowed present =
      let coherent = coherent_in g s (with_left s b trusted keeps.left) (Idle d) keeps.kept in
      record { given = given_contents s d; wanted = wanted g s b trusted graph sound may d keeps.left coherent present jobs goals allowed.1; follows = trusting_begins g s b trusted graph sound may d keeps.left coherent present jobs goals allowed.1 }

  -- a step inside of one
  goes_on : (m : Making) (d : Disk) (step : Step) → GoesTrusting m d → AllowedBy g s b (Busy m d) step → GoesIn (after_by g s (Busy m d) step)
  goes_on m d (Edit f c) goes allowed = absurd allowed
  goes_on m d (Make jobs goals) goes allowed = absurd allowed
  goes_on m d (Begin t) goes allowed = record { given = goes.given; wanted = goes.wanted; follows = trusting_step g s b trusted graph sound may goes.given goes.wanted m d goes.follows (Begin t) tt allowed }
  goes_on m d (Look t f) goes allowed = record { given = goes.given; wanted = goes.wanted; follows = trusting_step g s b trusted graph sound may goes.given goes.wanted m d goes.follows (Look t f) tt allowed }
  goes_on m d (Put t f c) goes allowed = record { given = goes.given; wanted = goes.wanted; follows = trusting_step g s b trusted graph sound may goes.given goes.wanted m d goes.follows (Put t f c) tt allowed }
  goes_on m d (End t) goes allowed = record { given = goes.given; wanted = goes.wanted; follows = trusting_step g s b trusted graph sound may goes.given goes.wanted m d goes.follows (End t) tt allowed }
  goes_on m d (Break t removed) goes allowed = record { given = goes.given; wanted = goes.wanted; follows = trusting_step g s b trusted graph sound may goes.given goes.wanted m d goes.follows (Break t removed) tt allowed }
  goes_on m d (Pass n) goes allowed = record { given = goes.given; wanted = goes.wanted; follows = trusting_step g s b trusted graph sound may goes.given goes.wanted m d goes.follows (Pass n) tt allowed }
  goes_on m d Stop goes allowed = tt
  goes_on m d EndMake goes allowed = tt

  -- each step
  goes_after : (w : World) (step : Step) → KeepsTrusting w → GoesIn w → IsPresentAt g s b w step → AllowedBy g s b w step → GoesIn (after_by g s w step)
  goes_after (Idle d) (Edit f c) keeps goes present allowed = tt
  goes_after (Idle d) (Make jobs goals) keeps goes present allowed = goes_first d jobs goals keeps allowed present
  goes_after (Idle d) (Begin t) keeps goes present allowed = absurd allowed
  goes_after (Idle d) (Look t f) keeps goes present allowed = absurd allowed
  goes_after (Idle d) (Put t f c) keeps goes present allowed = absurd allowed
  goes_after (Idle d) (End t) keeps goes present allowed = absurd allowed
  goes_after (Idle d) (Break t removed) keeps goes present allowed = absurd allowed
  goes_after (Idle d) (Pass n) keeps goes present allowed = absurd allowed
  goes_after (Idle d) Stop keeps goes present allowed = absurd allowed
  goes_after (Idle d) EndMake keeps goes present allowed = absurd allowed
  goes_after (Busy m d) step keeps goes present allowed = goes_on m d step goes allowed

  -- so do traces
  keeps_steps : (w : World) (steps : List Step) → KeepsTrusting w → GoesIn w → StayPresent g s b w steps → IsLegalBy g s b w steps → KeepsTrusting (after_all_by g s w steps)
  keeps_steps w [] keeps goes present legal = keeps
  keeps_steps w (first ∷ steps) keeps goes present legal = keeps_steps (after_by g s w first) steps (keeps_step w first keeps goes legal.0) (goes_after w first keeps goes present.0 legal.0) present.1 legal.1

  -- a disk that is kept is coherent as far as recipes are trusted
  coherent_from : (now : Disk) → KeepsTrusting (Idle now) → IsCoherentTrusting g s b trusted now
  coherent_from now keeps = (keeps.left, coherent_in g s (with_left s b trusted keeps.left) (Idle now) keeps.kept)

  -- and a coherent one is kept
  keeps_from : (d : Disk) → IsCoherentTrusting g s b trusted d → KeepsTrusting (Idle d)
  keeps_from d is = record { left = is.0; kept = coherent_is_kept g s (with_left s b trusted is.0) d (other_reads g s (with_left s b trusted is.0) (λ target. []) [] d is.1) }

  pub traces_stay : (d now : Disk) (steps : List Step) → IsCoherentTrusting g s b trusted d → IsLegalBy g s b (Idle d) steps → StayPresent g s b (Idle d) steps → after_all_by g s (Idle d) steps ≡ Idle now → IsCoherentTrusting g s b trusted now
  traces_stay d now steps is legal present leaves = coherent_from now (subst (λ (w : World). KeepsTrusting w) leaves (keeps_steps (Idle d) steps (keeps_from d is) tt present legal))

  -- what trusted recipes wrote is clean at the end of a make
  pub files_are_right : (d : Disk) → IsCoherentTrusting g s b trusted d → ArePresent g s b d → (jobs : ℕ) (goals : List ℕ) (steps : List Step) → AreInside steps → IsLegalBy g s b (Idle d) (Make jobs goals ∷ steps) → (m : Making) (now : Disk) → after_all_by g s (Idle d) (Make jobs goals ∷ steps) ≡ Busy m now → Allowed g s (Busy m now) EndMake → HoldClean g s b trusted d now m.goals
  files_are_right d is present jobs goals steps inside legal m now leaves ends =
      let begun = trusting_begins g s b trusted graph sound may d is.0 is.1 present jobs goals legal.0.1 in
      let clean = wanted g s b trusted graph sound may d is.0 is.1 present jobs goals legal.0.1 in
      let follows = subst (λ (w : World). TrustingIn g s b trusted graph sound may (given_contents s d) clean w) leaves (trusting_steps g s b trusted graph sound may (given_contents s d) clean (Busy (make_of jobs goals) d) steps begun inside legal.1) in
      trusted_hold g s b trusted graph sound may d is.0 is.1 present jobs goals legal.0.1 m now follows ends

-- all recipes may be trusted where nothing is wrong
pub all_may : (g : Graph) (s : Setting) → HaveNoRace g s → HaveWays g s → MayBeTrusted g s (λ target. true)
all_may g s no_race ways = record { closed = λ t o f is read wrote. refl; no_race = λ t o f is differ read wrote. no_race t o f differ read wrote; ways = λ t f is read can. ways t f read can }

pub none_is_wrong : (g : Graph) (s : Setting) → MayBeTrusted g s (λ target. true) → HaveNoRace g s × HaveWays g s
none_is_wrong g s may = (λ t o f differ read wrote. may.no_race t o f refl differ read wrote, λ t f read can. may.ways t f refl read can)
