-- A make of which some recipes are trusted follows one in which the others write what they leave.
use Rattle.std.proofs.Common.{◌≡◌, ℕ, List, [], ◌∷◌, Bool, true, false, Option, Some, None, map, reverse, ◌⊎◌, inl, inr, ⊎_elim, refl, sym, ◌∙◌, ap, subst}
use Rattle.std.specs.Prelude.{unwrap_or, IfSome}
use Rattle.std.specs.Option.{option_flatten}
use Rattle.std.proofs.lemmas.Bool.{cases_Bool, cases_eq, true≢false}
use Rattle.mk_graph.specs.Membership.{Has, IsWithin}
use Rattle.mk_graph.specs.Graph.{Graph, node, IsGraph}
use Rattle.mk_graph.specs.Schedules.{IsPart}
use Rattle.mk_graph.proofs.SerialTurns.{order_back}
use Rattle.mk_build.specs.Setting.{FileName, Setting, name, reads, writes}
use Rattle.mk_build.specs.World.{Outcome, Disk, Making, World, Idle, Busy, content, outcome}
use Rattle.mk_build.specs.Clean.{Contents, given_contents, put_all}
use Rattle.mk_build.specs.Steps.{Step, Edit, Make, Begin, Look, Put, End, Break, Pass, Stop, EndMake, Allowed, MayEnd, HasPutWhatIsKnown, IsLeftToRun, make_of, finished, noted, changed_at, seen_by, put_by}
use Rattle.mk_build.specs.Runs.{runs_after}
use Rattle.mk_build.specs.BuildLaws.{IsInside, AreInside}
use Rattle.mk_build.specs.Right.{AreSound, HaveNoRace, HaveWays}
use Rattle.mk_build.proofs.Sound.{writer_has_recipe}
use Rattle.mk_build.proofs.Writing.{map_same}
use Rattle.mk_build.proofs.Passing.{is_there}
use Rattle.mk_build.proofs.Outcomes.{noted_cases, outcome_here}
use Rattle.mk_build.proofs.CleanEnd.{cases_among}
use Rattle.mk_build.proofs.Histories.{IsWhole}
use Rattle.mk_build_behaviours.specs.Behaviours.{Behaviour, Write, Behaviours, behaviour, path, result}
use Rattle.mk_build_behaviours.specs.CleanBy.{build_by, make_all_by, ReadWithin, ArePresent}
use Rattle.mk_build_behaviours.specs.StepsBy.{saw_in, MayEndBy, AllowedBy, after_by, IsLegalBy, after_all_by}
use Rattle.mk_build_behaviours.specs.CoherentBy.{IsCoherentBy}
use Rattle.mk_build_behaviours.specs.Trusting.{Trust, MayBeTrusted, with_left, HoldClean}
use Rattle.mk_build_behaviours.proofs.Paths.{same_walk}
use Rattle.mk_build_behaviours.proofs.CleanContents.{IsClean}
use Rattle.mk_build_behaviours.proofs.Known.{outcome_other}
use Rattle.mk_build_behaviours.proofs.OtherOutcomes.{holds_with, up_with}
use Rattle.mk_build_behaviours.proofs.Seeing.{ends}
use Rattle.mk_build_behaviours.proofs.Following.{Follows, done_is_clean, whole_after, follow, undisturbed_end}
use Rattle.mk_build_behaviours.proofs.Present.{all_nodes, all_recipes, reached_is_done, build, is_clean, begins}
use Rattle.mk_build_behaviours.proofs.Coherence.{other_reads}
use Rattle.mk_build_behaviours.proofs.Trusted.{trusting, other_reads_none, trusting_sound, trusting_no_race, trusting_ways, trusted_behaves, other_writes, put_all_left}
use Rattle.mk_build_behaviours.proofs.TrustedClean.{AgreeTrusted, trusted_read, not_trusted, both_builds}

-- what is taken in either case
abbrev chosen : {A B : Type 0} → A ⊎ (¬ A) → B → B → B
chosen (inl here) x y = x
chosen (inr there) x y = y

chosen_here : {A B : Type 0} (c : A ⊎ (¬ A)) (x y : B) → A → chosen c x y ≡ x
chosen_here (inl here) x y h = refl
chosen_here (inr there) x y h = absurd (there h)

chosen_there : {A B : Type 0} (c : A ⊎ (¬ A)) (x y : B) → ¬ A → chosen c x y ≡ y
chosen_there (inl here) x y h = absurd (h here)
chosen_there (inr there) x y h = refl

module _ (g : Graph) (s : Setting) (b : Behaviours) (trusted : Trust) where
  -- a recipe ends that isn't trusted
  abbrev pub IsOtherEnd : Step → Type 0
  IsOtherEnd (End t) = trusted (name g t) ≡ false
  IsOtherEnd others = ⊥

  -- it is one or not
  pub cases_other_end : (step : Step) → IsOtherEnd step ⊎ (¬ (IsOtherEnd step))
  cases_other_end (End t) = ⊎_elim (λ is. inr (λ other. true≢false (sym is ∙ other))) (λ other. inl other) (cases_Bool (trusted (name g t)))
  cases_other_end (Edit f c) = inr (λ h. h)
  cases_other_end (Make jobs goals) = inr (λ h. h)
  cases_other_end (Begin t) = inr (λ h. h)
  cases_other_end (Look t f) = inr (λ h. h)
  cases_other_end (Put t f c) = inr (λ h. h)
  cases_other_end (Break t removed) = inr (λ h. h)
  cases_other_end (Pass n) = inr (λ h. h)
  cases_other_end Stop = inr (λ h. h)
  cases_other_end EndMake = inr (λ h. h)

  -- who ends otherwise is trusted
  pub trusted_end : (t : ℕ) → ¬ (IsOtherEnd (End t)) → trusted (name g t) ≡ true
  trusted_end t not = ⊎_elim (λ is. is) (λ other. absurd (not other)) (cases_Bool (trusted (name g t)))

  -- a trusted recipe that may end may do so whatever others leave
  pub end_left : (left : FileName → ℕ) (m : Making) (t : ℕ) → trusted (name g t) ≡ true → MayEndBy g s b m t → MayEndBy g s (with_left s b trusted left) m t
  end_left left m t is may =
      let behaves = sym (trusted_behaves g s trusted b left t is) in
      record {
        runs = may.runs;
        seen = subst (λ (k : Behaviour). (f : FileName) → Has (path k (saw_in m t)) f → ¬ (m.seen t f ≡ None)) behaves may.seen;
        put = may.put;
        agrees = subst (λ (k : Behaviour). put_by g s m t ≡ result k (saw_in m t)) behaves may.agrees;
      }

  -- so are other steps allowed
  pub allowed_left : (left : FileName → ℕ) (w : World) (step : Step) → ¬ (IsOtherEnd step) → AllowedBy g s b w step → AllowedBy g s (with_left s b trusted left) w step
  allowed_left left (Idle d) (Edit f c) not may = may
  allowed_left left (Idle d) (Make jobs goals) not may = may
  allowed_left left (Idle d) (Begin t) not may = absurd may
  allowed_left left (Idle d) (Look t f) not may = absurd may
  allowed_left left (Idle d) (Put t f c) not may = absurd may
  allowed_left left (Idle d) (End t) not may = absurd may
  allowed_left left (Idle d) (Break t removed) not may = absurd may
  allowed_left left (Idle d) (Pass n) not may = absurd may
  allowed_left left (Idle d) Stop not may = absurd may
  allowed_left left (Idle d) EndMake not may = absurd may
  allowed_left left (Busy m d) (Edit f c) not may = absurd may
  allowed_left left (Busy m d) (Make jobs goals) not may = absurd may
  allowed_left left (Busy m d) (Begin t) not may = may
  allowed_left left (Busy m d) (Look t f) not may = may
  allowed_left left (Busy m d) (Put t f c) not may = may
  allowed_left left (Busy m d) (End t) not may = end_left left m t (trusted_end t not) may
  allowed_left left (Busy m d) (Break t removed) not may = may
  allowed_left left (Busy m d) (Pass n) not may = may
  allowed_left left (Busy m d) Stop not may = may
  allowed_left left (Busy m d) EndMake not may = may

module _ (g : Graph) (s : Setting) (trusted : Trust) (sound : AreSound g s) (left : FileName → ℕ) (m : Making) (x : ℕ) where
  -- what a recipe that ends put
  abbrev put_now : FileName → ℕ
  put_now f = unwrap_or (m.put x f) 0

  -- what is left after its end
  abbrev pub left_after : FileName → ℕ
  left_after f = chosen (cases_among (writes g s x) f) (put_now f) (left f)

  left_here : (f : FileName) → Has (writes g s x) f → left_after f ≡ put_now f
  left_here f own = chosen_here (cases_among (writes g s x) f) (put_now f) (left f) own

  left_there : (f : FileName) → ¬ (Has (writes g s x) f) → left_after f ≡ left f
  left_there f out = chosen_there (cases_among (writes g s x) f) (put_now f) (left f) out

  module _ (b : Behaviours) where
    -- others behave as before
    pub same_behaviour : (t : ℕ) → (node g t).recipe ≡ true → ¬ (x ≡ t) → behaviour g (with_left s b trusted left) t ≡ behaviour g (with_left s b trusted left_after) t
    same_behaviour t recipe differ =
        ⊎_elim (λ is. trusted_behaves g s trusted b left t is ∙ sym (trusted_behaves g s trusted b left_after t is))
        (λ other. other_writes g s trusted b left t recipe other
        ∙ (ap (λ (l : List ℕ). Write l) (map_same left left_after (writes g s t) (λ f wrote. sym (left_there f (λ own. differ (sound.one_writer x t f own wrote)))))
        ∙ sym (other_writes g s trusted b left_after t recipe other)))
        (cases_Bool (trusted (name g t)))

    -- and it wrote what is left
    pub writes_left : (at : Contents) → (node g x).recipe ≡ true → trusted (name g x) ≡ false → put_by g s m x ≡ result (behaviour g (with_left s b trusted left_after) x) at
    writes_left at recipe other =
        map_same put_now left_after (writes g s x) (λ f own. sym (left_here f own))
        ∙ sym (ap (λ (k : Behaviour). result k at) (other_writes g s trusted b left_after x recipe other))

    -- reading nothing
    pub reads_nothing : (at : Contents) → (node g x).recipe ≡ true → trusted (name g x) ≡ false → path (behaviour g (with_left s b trusted left_after) x) at ≡ []
    reads_nothing at recipe other = ap (λ (k : Behaviour). path k at) (other_writes g s trusted b left_after x recipe other)

module _ (g : Graph) (s : Setting) (b : Behaviours) (trusted : Trust) (graph : IsGraph g) (sound : AreSound g s) (may : MayBeTrusted g s trusted) where
  -- the footprints of trusted recipes
  abbrev less : Setting
  less = trusting s trusted

  abbrev less_sound : AreSound g less
  less_sound = trusting_sound g s trusted sound may

  abbrev no_race : HaveNoRace g less
  no_race = trusting_no_race g s trusted sound may

  abbrev ways : HaveWays g less
  ways = trusting_ways g s trusted sound may

  abbrev all : List ℕ
  all = all_nodes g graph

  abbrev pub among : (t : ℕ) → (node g t).recipe ≡ true → Has all t
  among = all_recipes g graph less less_sound

  module _ (given wanted : Contents) where
    -- A make in progress follows one in which others write what they leave, over contents that agree with the wanted ones as far as recipes are trusted.
    pub record FollowsTrusting (m : Making) (d : Disk) : Type 0 where
      pub left : FileName → ℕ
      pub clean : Contents
      pub is : IsClean g less (with_left s b trusted left) given clean all
      pub agrees : AgreeTrusted g s trusted wanted clean
      pub follows : Follows g less (with_left s b trusted left) graph less_sound no_race ways given clean all is among m d

    -- in a world
    abbrev pub TrustingIn : World → Type 0
    TrustingIn (Idle d) = ⊥
    TrustingIn (Busy m d) = FollowsTrusting m d

    module _ (m : Making) (d : Disk) (goes : FollowsTrusting m d) where
      module _ (x : ℕ) (other : trusted (name g x) ≡ false) (may_end : MayEndBy g s b m x) where
        recipe_x : (node g x).recipe ≡ true
        recipe_x = goes.follows.whole.0.make.order.recipes x may_end.runs

        -- behaviours before and after
        abbrev before : Behaviours
        before = with_left s b trusted goes.left

        abbrev left_now : FileName → ℕ
        left_now = left_after g s trusted sound goes.left m x

        abbrev after : Behaviours
        after = with_left s b trusted left_now

        -- clean contents after
        abbrev clean_now : Contents
        clean_now f = chosen (cases_among (writes g s x) f) (Some (left_now f)) (goes.clean f)

        clean_here : (f : FileName) → Has (writes g s x) f → clean_now f ≡ Some (left_now f)
        clean_here f own = chosen_here (cases_among (writes g s x) f) (Some (left_now f)) (goes.clean f) own

        clean_there : (f : FileName) → ¬ (Has (writes g s x) f) → clean_now f ≡ goes.clean f
        clean_there f out = chosen_there (cases_among (writes g s x) f) (Some (left_now f)) (goes.clean f) out

        clean_read : (t : ℕ) (f : FileName) → Has (reads g less t) f → clean_now f ≡ goes.clean f
        clean_read t f read = clean_there f (not_trusted g s trusted sound may x f other (trusted_read g s trusted sound may t f read))

        -- another recipe walks as before
        walks : (t : ℕ) → (node g t).recipe ≡ true → ¬ (x ≡ t) → (path (behaviour g before t) goes.clean ≡ path (behaviour g after t) clean_now) × (result (behaviour g before t) goes.clean ≡ result (behaviour g after t) clean_now)
        walks t recipe differ =
            let same = same_walk (behaviour g before t) goes.clean clean_now (λ f on on_now. sym (clean_read t f (goes.is.within t (among t recipe) recipe f on))) in
            subst (λ (k : Behaviour). (path (behaviour g before t) goes.clean ≡ path k clean_now) × (result (behaviour g before t) goes.clean ≡ result k clean_now)) (same_behaviour g s trusted sound goes.left m x b t recipe differ) same

        -- what is made now
        made_here : (old : Contents) × (new : Contents) × (put_all old (writes g s x) (result (behaviour g after x) clean_now) ≡ Some new) × ((f : FileName) → Has (writes g s x) f → clean_now f ≡ new f)
        made_here =
            let put = put_all_left left_now (writes g s x) goes.clean in
            (goes.clean, put.0, ap (λ (k : Behaviour). put_all goes.clean (writes g s x) (result k clean_now)) (other_writes g s trusted b left_now x recipe_x other) ∙ put.1, λ f own. clean_here f own ∙ sym (put.2 f own))

        made_there : (t : ℕ) → Has all t → (node g t).recipe ≡ true → ¬ (x ≡ t) → (old : Contents) × (new : Contents) × (put_all old (writes g s t) (result (behaviour g after t) clean_now) ≡ Some new) × ((f : FileName) → Has (writes g s t) f → clean_now f ≡ new f)
        made_there t there recipe differ =
            let was = goes.is.made t there recipe in
            (was.0, was.1, subst (λ (l : List ℕ). put_all was.0 (writes g s t) l ≡ Some was.1) (walks t recipe differ).1 was.2, λ f wrote. clean_there f (λ own. differ (sound.one_writer x t f own wrote)) ∙ was.3 f wrote)

        -- they are clean
        is_now : IsClean g less after given clean_now all
        is_now = record {
          as_given = λ f is. clean_there f (λ own. true≢false (sym is ∙ sound.not_given x f own)) ∙ goes.is.as_given f is;
          made = λ t there recipe. ⊎_elim (λ same. subst (λ (k : ℕ). (old : Contents) × (new : Contents) × (put_all old (writes g s k) (result (behaviour g after k) clean_now) ≡ Some new) × ((f : FileName) → Has (writes g s k) f → clean_now f ≡ new f)) same made_here) (λ differ. made_there t there recipe differ) (cases_eq x t);
          within = λ t there recipe. ⊎_elim (λ same. subst (λ (k : ℕ). IsWithin (path (behaviour g after k) clean_now) (reads g less k)) same
              (λ f on. absurd (subst (λ (l : List FileName). Has l f) (reads_nothing g s trusted sound goes.left m x b clean_now recipe_x other) on)))
              (λ differ. subst (λ (l : List FileName). IsWithin l (reads g less t)) (walks t recipe differ).0 (goes.is.within t there recipe)) (cases_eq x t);
        }

        -- the outcome of its run
        abbrev making : Making
        making = record m { seen = goes.follows.seen }

        abbrev own : Outcome
        own = record { recipe = x; seen = seen_by g less making x; written = put_by g less making x }

        -- noted before it ends
        abbrev known_before : Disk
        known_before = record d { known = own ∷ goes.follows.known }

        known_of_others : (t : ℕ) → ¬ (x ≡ t) → (seen : List (Option ℕ)) → outcome (own ∷ goes.follows.known) t seen ≡ outcome goes.follows.known t seen
        known_of_others t differ seen = outcome_other own goes.follows.known t seen differ

        not_done : (t : ℕ) → Has m.done t → ¬ (x ≡ t)
        not_done t done same = (goes.follows.whole.0.make.order.running x may_end.runs).not_done (subst (λ (k : ℕ). Has m.done k) (sym same) done)

        whole_before : IsWhole g less graph less_sound goes.follows.epoch no_race goes.follows.runs goes.follows.start (Busy making known_before)
        whole_before = (
          holds_with g less goes.follows.epoch goes.follows.runs goes.follows.start making d goes.follows.known (own ∷ goes.follows.known)
              (λ t stopped. known_of_others t (λ same. stopped (subst (λ (k : ℕ). Has m.running k) same may_end.runs))) goes.follows.whole.0,
          up_with g less goes.follows.runs goes.follows.start making d goes.follows.known (own ∷ goes.follows.known)
              (λ t done. known_of_others t (not_done t done)) goes.follows.whole.1,
        )

        -- so it may end in today's world
        agrees_now : HasPutWhatIsKnown g less making known_before x
        agrees_now = subst (λ (o : Option (List ℕ)). IfSome o (λ known. known ≡ put_by g less making x)) (sym (outcome_here own goes.follows.known)) refl

        ends_today : MayEnd g less making known_before x
        ends_today = record {
          runs = may_end.runs;
          seen = λ f read none. subst (λ (l : List FileName). Has l f) (other_reads_none g s trusted x other) read;
          put = may_end.put;
          agrees = agrees_now;
        }

        -- its outcome is true
        wrote_left : put_by g less making x ≡ result (behaviour g after x) clean_now
        wrote_left = writes_left g s trusted sound goes.left m x b clean_now recipe_x other

        none_seen : (at : FileName → Option ℕ) → map at (reads g less x) ≡ []
        none_seen at = ap (λ (l : List FileName). map at l) (other_reads_none g s trusted x other)

        true_here : (w : List ℕ) → outcome (own ∷ goes.follows.known) x (map clean_now (reads g less x)) ≡ Some w → w ≡ result (behaviour g after x) clean_now
        true_here w e =
            let same : map clean_now (reads g less x) ≡ own.seen = none_seen clean_now ∙ sym (none_seen (λ f. option_flatten (making.seen x f))) in
            let both : Some own.written ≡ Some w = sym (outcome_here own goes.follows.known) ∙ (sym (ap (λ (l : List (Option ℕ)). outcome (own ∷ goes.follows.known) x l) same) ∙ e) in
            let is : own.written ≡ w = cc in
            sym is ∙ wrote_left

        true_there : (t : ℕ) (w : List ℕ) → (node g t).recipe ≡ true → ¬ (x ≡ t) → outcome (own ∷ goes.follows.known) t (map clean_now (reads g less t)) ≡ Some w → w ≡ result (behaviour g after t) clean_now
        true_there t w recipe differ e =
            let same : map clean_now (reads g less t) ≡ map goes.clean (reads g less t) = map_same clean_now goes.clean (reads g less t) (λ f read. clean_read t f read) in
            let was : outcome goes.follows.known t (map goes.clean (reads g less t)) ≡ Some w = sym (ap (λ (l : List (Option ℕ)). outcome goes.follows.known t l) same) ∙ (sym (known_of_others t differ (map clean_now (reads g less t))) ∙ e) in
            goes.follows.true_of t w recipe was ∙ (walks t recipe differ).1

        true_now : (t : ℕ) (w : List ℕ) → (node g t).recipe ≡ true → outcome (noted known_before own).known t (map clean_now (reads g less t)) ≡ Some w → w ≡ result (behaviour g after t) clean_now
        true_now t w recipe e =
            ⊎_elim (λ same. subst (λ (k : ℕ). outcome (noted known_before own).known k (map clean_now (reads g less k)) ≡ Some w → w ≡ result (behaviour g after k) clean_now) same
            (λ here. ⊎_elim (λ new. sym new.1 ∙ wrote_left) (λ old. true_here w old) (noted_cases known_before own x (map clean_now (reads g less x)) w here)) e)
            (λ differ. ⊎_elim (λ new. absurd (differ new.0)) (λ old. true_there t w recipe differ old) (noted_cases known_before own t (map clean_now (reads g less t)) w e))
            (cases_eq x t)

        -- the make goes on
        pub ends_other : FollowsTrusting (finished m x) d
        ends_other = record {
          left = left_now;
          clean = clean_now;
          is = is_now;
          agrees = λ f such. goes.agrees f such ∙ sym (clean_there f (not_trusted g s trusted sound may x f other such));
          follows = record {
            epoch = goes.follows.epoch;
            runs = runs_after (Busy making known_before) (End x) goes.follows.runs;
            start = goes.follows.start;
            seen = changed_at goes.follows.seen x (λ f. None);
            known = (noted known_before own).known;
            whole = whole_after g less before graph less_sound no_race ways given goes.clean all goes.is among m d goes.follows goes.follows.epoch (Busy making known_before) goes.follows.runs goes.follows.start (End x) whole_before ends_today;
            true_of = true_now;
            given_clean = λ f is. goes.follows.given_clean f is ∙ sym (clean_there f (λ own. true≢false (sym is ∙ sound.not_given x f own)));
            saw = ends g less after (λ t f. Has (reads g less t) f) m d goes.follows.saw x;
          };
        }

      -- a step that ends no such recipe
      goes_with : {n : Making} {e : Disk} → Follows g less (with_left s b trusted goes.left) graph less_sound no_race ways given goes.clean all goes.is among n e → FollowsTrusting n e
      goes_with next = record { left = goes.left; clean = goes.clean; is = goes.is; agrees = goes.agrees; follows = next }

      -- each step inside the make is followed
      pub trusting_step : (step : Step) → IsInside step → AllowedBy g s b (Busy m d) step → TrustingIn (after_by g s (Busy m d) step)
      trusting_step (Edit f c) inside may_step = absurd inside
      trusting_step (Make jobs goals) inside may_step = absurd inside
      trusting_step (Begin t) inside may_step = goes_with (follow g less (with_left s b trusted goes.left) graph less_sound no_race ways given goes.clean all goes.is among m d goes.follows (Begin t) inside may_step)
      trusting_step (Look t f) inside may_step = goes_with (follow g less (with_left s b trusted goes.left) graph less_sound no_race ways given goes.clean all goes.is among m d goes.follows (Look t f) inside may_step)
      trusting_step (Put t f c) inside may_step = goes_with (follow g less (with_left s b trusted goes.left) graph less_sound no_race ways given goes.clean all goes.is among m d goes.follows (Put t f c) inside may_step)
      trusting_step (End t) inside may_step =
          ⊎_elim (λ is. goes_with (follow g less (with_left s b trusted goes.left) graph less_sound no_race ways given goes.clean all goes.is among m d goes.follows (End t) inside (less_end is)))
          (λ other. ends_other t other may_step)
          (cases_Bool (trusted (name g t))) where
            less_end : trusted (name g t) ≡ true → MayEndBy g less (with_left s b trusted goes.left) m t
            less_end is = let left = end_left g s b trusted goes.left m t is may_step in record { runs = left.runs; seen = left.seen; put = left.put; agrees = left.agrees }
      trusting_step (Break t removed) inside may_step = goes_with (follow g less (with_left s b trusted goes.left) graph less_sound no_race ways given goes.clean all goes.is among m d goes.follows (Break t removed) inside (less_break removed may_step)) where
        less_break : (removed : Bool) → Has m.running t × IsLeftToRun g s d t removed → Has m.running t × IsLeftToRun g less d t removed
        less_break true it = it
        less_break false it = it
      trusting_step (Pass n) inside may_step = goes_with (follow g less (with_left s b trusted goes.left) graph less_sound no_race ways given goes.clean all goes.is among m d goes.follows (Pass n) inside may_step)
      trusting_step Stop inside may_step = absurd inside
      trusting_step EndMake inside may_step = absurd inside

      -- a trusted recipe that ends read what is there
      pub trusted_is_still : (t : ℕ) → trusted (name g t) ≡ true → MayEndBy g s b m t → (f : FileName) → Has (path (behaviour g b t) (saw_in m t)) f → content d f ≡ saw_in m t f
      trusted_is_still t is may_end =
          let left = end_left g s b trusted goes.left m t is may_end in
          subst (λ (k : Behaviour). (f : FileName) → Has (path k (saw_in m t)) f → content d f ≡ saw_in m t f) (trusted_behaves g s trusted b goes.left t is)
          (undisturbed_end g less (with_left s b trusted goes.left) graph less_sound no_race ways given goes.clean all goes.is among m d goes.follows t (record { runs = left.runs; seen = left.seen; put = left.put; agrees = left.agrees }))

      -- what a trusted recipe wrote is as wanted
      pub trusted_is_wanted : (t : ℕ) → Has m.done t → trusted (name g t) ≡ true → (f : FileName) → Has (writes g s t) f → content d f ≡ wanted f
      trusted_is_wanted t done is f wrote =
          done_is_clean g less (with_left s b trusted goes.left) graph less_sound no_race ways given goes.clean all goes.is among m d goes.follows t done (writer_has_recipe g s t f wrote) f wrote ∙ sym (goes.agrees f (inr (t, wrote, is)))

    -- so is each list of steps inside the make
    pub trusting_steps : (w : World) (steps : List Step) → TrustingIn w → AreInside steps → IsLegalBy g s b w steps → TrustingIn (after_all_by g s w steps)
    trusting_steps w [] goes inside legal = goes
    trusting_steps (Idle d) (first ∷ steps) goes inside legal = absurd goes
    trusting_steps (Busy m d) (first ∷ steps) goes inside legal = trusting_steps (after_by g s (Busy m d) first) steps (trusting_step m d goes first inside.0 legal.0) inside.1 legal.1

  module _ (d : Disk) (left : FileName → ℕ) (coherent : IsCoherentBy g s (with_left s b trusted left) d) (present : ArePresent g s b d) (jobs : ℕ) (goals : List ℕ) (part : IsPart goals g.goals) where
    -- both clean builds
    abbrev given_now : Contents
    given_now = given_contents s d

    within : ReadWithin g s b given_now (reverse all)
    within = subst (λ (l : List ℕ). ReadWithin g s b given_now l) (order_back g graph.no_cycle g.goals) present

    pub both : ReadWithin g less (with_left s b trusted left) given_now (reverse all) × ((end last : Contents) × (make_all_by g s b (Some given_now) (reverse all) ≡ Some end) × (make_all_by g less (with_left s b trusted left) (Some given_now) (reverse all) ≡ Some last) × AgreeTrusted g s trusted end last)
    both = both_builds g s trusted sound may b left (reverse all) given_now given_now (λ f such. refl) within

    -- the clean contents
    abbrev pub wanted : Contents
    wanted = both.1.0

    -- they are those of the clean build
    pub wanted_is_built : build_by g s b given_now g.goals ≡ Some wanted
    wanted_is_built = ap (λ (l : List ℕ). make_all_by g s b (Some given_now) l) (order_back g graph.no_cycle g.goals) ∙ both.1.2

    coherent_too : IsCoherentBy g less (with_left s b trusted left) d
    coherent_too = other_reads g s (with_left s b trusted left) less.reads [] d coherent

    present_too : ArePresent g less (with_left s b trusted left) d
    present_too = subst (λ (l : List ℕ). ReadWithin g less (with_left s b trusted left) given_now l) (sym (order_back g graph.no_cycle g.goals)) both.0

    -- the make begins so
    pub trusting_begins : FollowsTrusting given_now wanted (make_of jobs goals) d
    trusting_begins =
        let made = build g less (with_left s b trusted left) graph less_sound no_race ways d coherent_too present_too jobs goals part in
        record {
          left = left;
          clean = made.0;
          is = is_clean g less (with_left s b trusted left) graph less_sound no_race ways d coherent_too present_too jobs goals part;
          agrees = λ f such.
              let same : Some both.1.1 ≡ Some made.0 = sym both.1.3 ∙ made.1 in
              let is : both.1.1 ≡ made.0 = cc in
              both.1.4 f such ∙ ap (λ (at : Contents). at f) is;
          follows = begins g less (with_left s b trusted left) graph less_sound no_race ways d coherent_too present_too jobs goals part;
        }

    -- what trusted recipes wrote is clean where it ends
    pub trusted_hold : (m : Making) (now : Disk) → FollowsTrusting given_now wanted m now → Allowed g s (Busy m now) EndMake → HoldClean g s b trusted d now m.goals
    trusted_hold m now goes ends = record {
      clean = wanted;
      has_value = wanted_is_built;
      holds = λ t f reached is wrote.
          let order = goes.follows.whole.0.make.order in
          let recipe = writer_has_recipe g s t f wrote in
          let done = reached_is_done g graph m.goals order.part m.done order.turns ends.0 reached in
          let up = goes.follows.whole.1 t done recipe in
          let there = is_there now (writes g s t) up.ran.whole.written up.ran.whole.holds f wrote in
          (there.0, sym (trusted_is_wanted given_now wanted m now goes t done is f wrote) ∙ there.1, there.1);
    }
