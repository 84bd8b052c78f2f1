-- A make whose recipes behave as trees follows one of today's world, over outcomes that are true of the clean contents.
use Rattle.std.proofs.Common.{◌≡◌, ℕ, List, [], ◌∷◌, Bool, true, false, Option, Some, None, map, inl, inr, ⊎_elim, refl, sym, ◌∙◌, ap, subst}
use Rattle.std.specs.Prelude.{if◌then◌else◌}
use Rattle.std.specs.Option.{option_flatten, option_map}
use Rattle.std.proofs.lemmas.Bool.{cases_eq, true≢false}
use Rattle.mk_lemmas.proofs.Results.{IfSome-from}
use Rattle.mk_graph.specs.Membership.{Has}
use Rattle.mk_graph.specs.Graph.{Graph, node, IsGraph}
use Rattle.mk_graph.specs.Schedules.{CanStart, IsSchedule}
use Rattle.mk_build.specs.Setting.{FileName, Setting, is_given, name, reads, writes}
use Rattle.mk_build.specs.World.{File, Outcome, Disk, Making, World, Idle, Busy, content, without, outcome}
use Rattle.mk_build.specs.Clean.{Contents}
use Rattle.mk_build.specs.Steps.{Step, Edit, Make, Begin, Look, Put, End, Break, Pass, Stop, EndMake, Allowed, MayEnd, IsLeftToRun, after, broken_off, noted, changed_at, seen_by, put_by}
use Rattle.mk_build.specs.Runs.{Runs, runs_after}
use Rattle.mk_build.specs.BuildLaws.{IsInside, AreInside}
use Rattle.mk_build.specs.Right.{AreSound, HaveNoRace, HaveWays}
use Rattle.mk_build.proofs.Changes.{changed_at_here, changed_at_there}
use Rattle.mk_build.proofs.Sound.{writer_has_recipe, writer_is_before}
use Rattle.mk_build.proofs.Writing.{map_same, content_there}
use Rattle.mk_build.proofs.Putting.{before_running}
use Rattle.mk_build.proofs.Passing.{passed_is_up_to_date}
use Rattle.mk_build.proofs.Ending.{seen_somewhere}
use Rattle.mk_build.proofs.Outcomes.{noted_cases}
use Rattle.mk_build.proofs.Removing.{stays_there}
use Rattle.mk_build.proofs.Invariant.{start_after}
use Rattle.mk_build.proofs.Histories.{step_keeps, step_settles, IsWhole}
use Rattle.mk_build_behaviours.specs.Behaviours.{Behaviours, behaviour, path, result}
use Rattle.mk_build_behaviours.specs.StepsBy.{saw_in, MayEndBy, AllowedBy, after_by, IsLegalBy, after_all_by, IsUndisturbed, AreUndisturbed}
use Rattle.mk_build_behaviours.proofs.Paths.{same_walk}
use Rattle.mk_build_behaviours.proofs.Putting.{put_is_held}
use Rattle.mk_build_behaviours.proofs.CleanContents.{IsClean}
use Rattle.mk_build_behaviours.proofs.Seeing.{Sees, SeesIn, AreOthers, sees_after}

module _ (g : Graph) (s : Setting) (b : Behaviours) (graph : IsGraph g) (sound : AreSound g s) (no_race : HaveNoRace g s) (ways : HaveWays g s)
    (given clean : Contents) (all : List ℕ) (is : IsClean g s b given clean all)
    (among : (t : ℕ) → (node g t).recipe ≡ true → Has all t) where
  -- the outcomes are true of clean contents
  abbrev pub AreTrue : List Outcome → Type 0
  AreTrue known = (t : ℕ) (w : List ℕ) → (node g t).recipe ≡ true → outcome known t (map clean (reads g s t)) ≡ Some w → w ≡ result (behaviour g b t) clean

  -- A make in progress follows one of today's world in which recipes have seen this and these outcomes are known; given files are clean, and
  -- what running recipes saw in their footprints is there.
  pub record Follows (m : Making) (d : Disk) : Type 0 where
    pub epoch : ℕ
    pub runs : Runs
    pub start : ℕ
    pub seen : ℕ → FileName → Option (Option ℕ)
    pub known : List Outcome
    pub whole : IsWhole g s graph sound epoch no_race runs start (Busy (record m { seen = seen }) (record d { known = known }))
    pub true_of : AreTrue known
    pub given_clean : (f : FileName) → is_given s f ≡ true → content d f ≡ clean f
    pub saw : Sees g s b (λ t f. Has (reads g s t) f) m d

  -- in a world
  abbrev pub FollowsIn : World → Type 0
  FollowsIn (Idle d) = ⊥
  FollowsIn (Busy m d) = Follows m d

  module _ (m : Making) (d : Disk) (follows : Follows m d) where
    module _ (n : ℕ) (ns : List ℕ) (may : CanStart g m.goals ns n) (turns : IsSchedule g m.goals ns) (before : (o : ℕ) → Has ns o → (node g o).recipe ≡ true → (f : FileName) → Has (writes g s o) f → content d f ≡ clean f) (done : Has m.done n) (recipe : (node g n).recipe ≡ true) where
      -- what a done recipe reads is clean, where what was done before it wrote clean contents
      reads_clean : (f : FileName) → Has (reads g s n) f → content d f ≡ clean f
      reads_clean f read =
          ⊎_elim (λ given. follows.given_clean f given)
          (λ wrote. before wrote.0 (writer_is_before g s graph sound no_race n wrote.0 f read wrote.1 recipe m.goals ns follows.whole.0.make.order.part turns may) (writer_has_recipe g s wrote.0 f wrote.1) f wrote.1)
          (sound.known n f read)

      -- so is what it wrote
      writes_clean : (f : FileName) → Has (writes g s n) f → content d f ≡ clean f
      writes_clean f own =
          let up = follows.whole.1 n done recipe in
          let whole = up.ran.whole in
          let same : map up.run.saw (reads g s n) ≡ map clean (reads g s n) = map_same up.run.saw clean (reads g s n) (λ k read. sym (up.sees k read) ∙ reads_clean k read) in
          let wrote : whole.written ≡ result (behaviour g b n) clean = follows.true_of n whole.written recipe (subst (λ (l : List (Option ℕ)). outcome follows.known n l ≡ Some whole.written) same whole.known) in
          let holds : map (content d) (writes g s n) ≡ map (λ c. Some c) (result (behaviour g b n) clean) = subst (λ (l : List ℕ). map (content d) (writes g s n) ≡ map (λ c. Some c) l) wrote whole.holds in
          let made = is.made n (among n recipe) recipe in
          sym (made.3 f own ∙ put_is_held d (writes g s n) (result (behaviour g b n) clean) made.0 made.1 holds made.2 f own)

    -- what done recipes wrote is clean
    done_clean : (ns : List ℕ) → IsSchedule g m.goals ns → ((t : ℕ) → Has ns t → Has m.done t) → (t : ℕ) → Has ns t → (node g t).recipe ≡ true → (f : FileName) → Has (writes g s t) f → content d f ≡ clean f
    done_clean [] turns within t h recipe f wrote = absurd h
    done_clean (n ∷ ns) turns within t (inr there) recipe f wrote = done_clean ns turns.1 (λ k h. within k (inr h)) t there recipe f wrote
    done_clean (n ∷ ns) turns within t (inl here) recipe f wrote =
        let before : (o : ℕ) → Has ns o → (node g o).recipe ≡ true → (h : FileName) → Has (writes g s o) h → content d h ≡ clean h = λ o there o_recipe h own. done_clean ns turns.1 (λ k h. within k (inr h)) o there o_recipe h own in
        subst (λ (k : ℕ). (node g k).recipe ≡ true → (h : FileName) → Has (writes g s k) h → content d h ≡ clean h) here (λ n_recipe h own. writes_clean n ns turns.0 turns.1 before (within n (inl refl)) n_recipe h own) recipe f wrote

    -- so are their files
    pub done_is_clean : (t : ℕ) → Has m.done t → (node g t).recipe ≡ true → (f : FileName) → Has (writes g s t) f → content d f ≡ clean f
    done_is_clean t done recipe f wrote = done_clean m.done follows.whole.0.make.order.turns (λ k h. h) t done recipe f wrote

    -- what a running recipe reads is clean
    running_clean : (t : ℕ) → Has m.running t → (f : FileName) → Has (reads g s t) f → content d f ≡ clean f
    running_clean t runs f read =
        let order = follows.whole.0.make.order in
        ⊎_elim (λ given. follows.given_clean f given)
        (λ wrote. done_is_clean wrote.0 (writer_is_before g s graph sound no_race t wrote.0 f read wrote.1 (order.recipes t runs) m.goals m.done order.part order.turns (order.running t runs)) (writer_has_recipe g s wrote.0 f wrote.1) f wrote.1)
        (sound.known t f read)

    module _ (t : ℕ) (may : MayEndBy g s b m t) where
      -- it has a recipe
      recipe_of : (node g t).recipe ≡ true
      recipe_of = follows.whole.0.make.order.recipes t may.runs

      -- what it saw along its path is there
      saw_there : (f : FileName) → Has (path (behaviour g b t) (saw_in m t)) f → Has (reads g s t) f → content d f ≡ saw_in m t f
      saw_there f on read = follows.saw t f (saw_in m t f) may.runs read (seen_somewhere (m.seen t f) (may.seen f on))

      -- it walked as over clean contents
      walked : (path (behaviour g b t) clean ≡ path (behaviour g b t) (saw_in m t)) × (result (behaviour g b t) clean ≡ result (behaviour g b t) (saw_in m t))
      walked = same_walk (behaviour g b t) clean (saw_in m t) (λ f on_clean on_saw. let read = is.within t (among t recipe_of) recipe_of f on_clean in sym (running_clean t may.runs f read) ∙ saw_there f on_saw read)

      -- so it wrote what is clean
      put_clean : put_by g s m t ≡ result (behaviour g b t) clean
      put_clean = may.agrees ∙ sym walked.1

      -- and nothing that it read has changed
      pub undisturbed_end : (f : FileName) → Has (path (behaviour g b t) (saw_in m t)) f → content d f ≡ saw_in m t f
      undisturbed_end f on = saw_there f on (is.within t (among t recipe_of) recipe_of f (subst (λ (l : List FileName). Has l f) (sym walked.0) on))

      -- today's recipe has seen all of its footprint
      abbrev all_seen : ℕ → FileName → Option (Option ℕ)
      all_seen = changed_at follows.seen t (λ f. Some (content d f))

      all_seen_here : (f : FileName) → all_seen t f ≡ Some (content d f)
      all_seen_here f = ap (λ (at : FileName → Option (Option ℕ)). at f) (changed_at_here follows.seen t t (λ h. Some (content d h)) refl)

      abbrev making : Making
      making = record m { seen = all_seen }

      abbrev disk : Disk
      disk = record d { known = follows.known }

      -- the invariant with this
      seen_cases : (u : ℕ) (f : FileName) (v : Option ℕ) → Has m.running u → Has (reads g s u) f → all_seen u f ≡ Some v → content d f ≡ v
      seen_cases u f v runs read e =
          ⊎_elim (λ same. let now : Some (content d f) ≡ Some v = sym (ap (λ (at : FileName → Option (Option ℕ)). at f) (changed_at_here follows.seen t u (λ h. Some (content d h)) same)) ∙ e in cc)
          (λ differ. follows.whole.0.make.seen u f v runs read (sym (ap (λ (at : FileName → Option (Option ℕ)). at f) (changed_at_there follows.seen t u (λ h. Some (content d h)) differ)) ∙ e))
          (cases_eq t u)

      whole_seen : IsWhole g s graph sound follows.epoch no_race follows.runs follows.start (Busy making disk)
      whole_seen =
          let holds = follows.whole.0 in (
            record {
              fits = holds.fits;
              make = record {
                order = record { part = holds.make.order.part; turns = holds.make.order.turns; recipes = holds.make.order.recipes; running = holds.make.order.running };
                start_came = holds.make.start_came;
                seen = seen_cases;
                put = holds.make.put;
                put_late = holds.make.put_late;
                waits = holds.make.waits;
                epoch_before = holds.make.epoch_before;
                runs = holds.make.runs;
              };
            },
            follows.whole.1,
          )

      -- what it has seen is clean
      seen_is_clean : seen_by g s making t ≡ map clean (reads g s t)
      seen_is_clean = map_same (λ f. option_flatten (all_seen t f)) clean (reads g s t) (λ f read. ap (λ (o : Option (Option ℕ)). option_flatten o) (all_seen_here f) ∙ running_clean t may.runs f read)

      -- so today's recipe may end
      may_end : MayEnd g s making disk t
      may_end = record {
        runs = may.runs;
        seen = λ f read none. let some : None ≡ Some (content d f) = sym none ∙ all_seen_here f in cc;
        put = may.put;
        agrees = IfSome-from (outcome follows.known t (seen_by g s making t)) (λ w. w ≡ put_by g s making t) (λ w e. follows.true_of t w recipe_of (subst (λ (l : List (Option ℕ)). outcome follows.known t l ≡ Some w) seen_is_clean e) ∙ sym put_clean);
      }

      -- its outcome
      abbrev result_of : Outcome
      result_of = record { recipe = t; seen = seen_by g s making t; written = put_by g s making t }

      -- is true
      true_after : AreTrue (noted disk result_of).known
      true_after u w recipe e =
          ⊎_elim (λ new. subst (λ (k : ℕ). w ≡ result (behaviour g b k) clean) new.0 (sym new.1 ∙ put_clean)) (λ old. follows.true_of u w recipe old) (noted_cases disk result_of u (map clean (reads g s u)) w e)

    -- no running recipe reads what a running one writes
    not_read : (t u : ℕ) (h f : FileName) → Has m.running t → Has (writes g s t) h → Has m.running u → Has (reads g s u) f → ¬ (h ≡ f)
    not_read t u h f t_runs wrote u_runs read same = before_running g (record m { seen = follows.seen }) follows.whole.0.make.order t u (writer_is_before g s graph sound no_race u t f read (subst (λ (k : FileName). Has (writes g s t) k) same wrote)) u_runs t_runs

    -- what is given isn't written
    not_given : (t : ℕ) (h f : FileName) → Has (writes g s t) h → is_given s f ≡ true → ¬ (h ≡ f)
    not_given t h f wrote given same = true≢false (sym given ∙ sound.not_given t f (subst (λ (k : FileName). Has (writes g s t) k) same wrote))

    others : AreOthers g s b (λ u f. Has (reads g s u) f) m
    others x u h f c x_runs wrote runs read e = not_read x u h f x_runs wrote runs read

    -- what running recipes saw in their footprints is there after a step
    saw_after : (step : Step) → AllowedBy g s b (Busy m d) step → SeesIn g s b (λ u f. Has (reads g s u) f) (after_by g s (Busy m d) step)
    saw_after step may = sees_after g s b (λ u f. Has (reads g s u) f) (Busy m d) step follows.saw others may

    -- other files stay where a target is removed
    removed_stays : (t : ℕ) (removed : Bool) (f : FileName) → ¬ (name g t ≡ f) → content (if removed then without d (name g t) else d) f ≡ content d f
    removed_stays t true f differ = ap (λ (o : Option File). option_map (λ (file : File). file.content) o) (stays_there d (name g t) f differ)
    removed_stays t false f differ = refl

    removed_or_same : (t : ℕ) (removed : Bool) (f : FileName) → IsLeftToRun g s d t removed → (Has (writes g s t) (name g t) → ¬ (name g t ≡ f)) → content (if removed then without d (name g t) else d) f ≡ content d f
    removed_or_same t true f wrote differ = removed_stays t true f (differ wrote)
    removed_or_same t false f must differ = refl

    -- today's invariant after a step of today's world
    pub whole_after : (epoch : ℕ) (w : World) (p : Runs) (start : ℕ) (step : Step) → IsWhole g s graph sound epoch no_race p start w → Allowed g s w step → IsWhole g s graph sound epoch no_race (runs_after w step p) (start_after w step start) (after g s w step)
    whole_after epoch w p start step whole may = (step_keeps g s graph sound epoch no_race p start w step whole.0 may, step_settles g s graph sound epoch no_race (λ q began n e at are k ready recipe need_not. passed_is_up_to_date g s graph sound epoch q began n e at.fits at.make are k ready recipe need_not no_race ways) p start w step whole may)

    abbrev today : World
    today = Busy (record m { seen = follows.seen }) (record d { known = follows.known })

    -- each step inside the make is followed
    pub follow : (step : Step) → IsInside step → AllowedBy g s b (Busy m d) step → FollowsIn (after_by g s (Busy m d) step)
    follow (Edit f c) inside may = absurd inside
    follow (Make jobs goals) inside may = absurd inside
    follow (Begin t) inside may = record {
      epoch = follows.epoch;
      runs = runs_after today (Begin t) follows.runs;
      start = follows.start;
      seen = changed_at follows.seen t (λ f. None);
      known = follows.known;
      whole = whole_after follows.epoch today follows.runs follows.start (Begin t) follows.whole may;
      true_of = follows.true_of;
      given_clean = follows.given_clean;
      saw = saw_after (Begin t) may;
    }
    follow (Look t f) inside may = record {
      epoch = follows.epoch;
      runs = follows.runs;
      start = follows.start;
      seen = follows.seen;
      known = follows.known;
      whole = follows.whole;
      true_of = follows.true_of;
      given_clean = follows.given_clean;
      saw = saw_after (Look t f) may;
    }
    follow (Put t f c) inside may = record {
      epoch = follows.epoch;
      runs = runs_after today (Put t f c) follows.runs;
      start = follows.start;
      seen = follows.seen;
      known = follows.known;
      whole = whole_after follows.epoch today follows.runs follows.start (Put t f c) follows.whole may;
      true_of = follows.true_of;
      given_clean = λ h given. content_there d f c h (not_given t f h may.1 given) ∙ follows.given_clean h given;
      saw = saw_after (Put t f c) may;
    }
    follow (End t) inside may = record {
      epoch = follows.epoch;
      runs = runs_after (Busy (making t may) (disk t may)) (End t) follows.runs;
      start = follows.start;
      seen = changed_at (all_seen t may) t (λ f. None);
      known = (noted (disk t may) (result_of t may)).known;
      whole = whole_after follows.epoch (Busy (making t may) (disk t may)) follows.runs follows.start (End t) (whole_seen t may) (may_end t may);
      true_of = true_after t may;
      given_clean = follows.given_clean;
      saw = saw_after (End t) may;
    }
    follow (Break t removed) inside may = record {
      epoch = follows.epoch;
      runs = runs_after today (Break t removed) follows.runs;
      start = follows.start;
      seen = changed_at follows.seen t (λ f. None);
      known = follows.known;
      whole = whole_broken t removed may;
      true_of = follows.true_of;
      given_clean = λ h given. removed_or_same t removed h may.1 (λ wrote. not_given t (name g t) h wrote given) ∙ follows.given_clean h given;
      saw = saw_after (Break t removed) may;
    } where
      whole_broken : (t : ℕ) (removed : Bool) → Has m.running t × IsLeftToRun g s d t removed → IsWhole g s graph sound follows.epoch no_race (runs_after today (Break t removed) follows.runs) follows.start (Busy (record (broken_off m t) { seen = changed_at follows.seen t (λ f. None) }) (record (if removed then without d (name g t) else d) { known = follows.known }))
      whole_broken t true may = whole_after follows.epoch today follows.runs follows.start (Break t true) follows.whole may
      whole_broken t false may = whole_after follows.epoch today follows.runs follows.start (Break t false) follows.whole may
    follow (Pass n) inside may = record {
      epoch = follows.epoch;
      runs = runs_after today (Pass n) follows.runs;
      start = follows.start;
      seen = changed_at follows.seen n (λ f. None);
      known = follows.known;
      whole = whole_after follows.epoch today follows.runs follows.start (Pass n) follows.whole may;
      true_of = follows.true_of;
      given_clean = follows.given_clean;
      saw = saw_after (Pass n) may;
    }
    follow Stop inside may = absurd inside
    follow EndMake inside may = absurd inside

    -- and disturbs no recipe
    pub undisturbed : (step : Step) → AllowedBy g s b (Busy m d) step → IsUndisturbed g s b (Busy m d) step
    undisturbed (Edit f c) may = tt
    undisturbed (Make jobs goals) may = tt
    undisturbed (Begin t) may = tt
    undisturbed (Look t f) may = tt
    undisturbed (Put t f c) may = tt
    undisturbed (End t) may = undisturbed_end t may
    undisturbed (Break t removed) may = tt
    undisturbed (Pass n) may = tt
    undisturbed Stop may = tt
    undisturbed EndMake may = tt

  -- so is each list of steps inside the make
  pub follow_all : (w : World) (steps : List Step) → FollowsIn w → AreInside steps → IsLegalBy g s b w steps → FollowsIn (after_all_by g s w steps)
  follow_all w [] follows inside legal = follows
  follow_all (Idle d) (first ∷ steps) follows inside legal = absurd follows
  follow_all (Busy m d) (first ∷ steps) follows inside legal = follow_all (after_by g s (Busy m d) first) steps (follow m d follows first inside.0 legal.0) inside.1 legal.1

  -- which disturb no recipe
  pub all_undisturbed : (w : World) (steps : List Step) → FollowsIn w → AreInside steps → IsLegalBy g s b w steps → AreUndisturbed g s b w steps
  all_undisturbed w [] follows inside legal = tt
  all_undisturbed (Idle d) (first ∷ steps) follows inside legal = absurd follows
  all_undisturbed (Busy m d) (first ∷ steps) follows inside legal = (undisturbed m d follows first legal.0, all_undisturbed (after_by g s (Busy m d) first) steps (follow m d follows first inside.0 legal.0) inside.1 legal.1)
