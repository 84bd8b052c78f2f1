-- A recipe that need not run and whose turn has come is up to date.
use Rattle.std.proofs.Common.{◌≡◌, ℕ, ◌<◌, ◌≤◌, List, [], ◌∷◌, true, false, Option, Some, None, map, ◌⊎◌, inl, inr, ⊎_elim, sym, ◌∙◌, ap, subst, arith}
use Rattle.std.specs.Option.{option_map}
use Rattle.std.proofs.lemmas.Bool.{cases_Bool, cases_lt}
use Rattle.mk_graph.specs.Membership.{Has}
use Rattle.mk_graph.specs.Graph.{Graph, node, prerequisites, IsGraph}
use Rattle.mk_build.specs.Setting.{FileName, Setting, name, reads, writes}
use Rattle.mk_build.specs.World.{File, Disk, Making, content, HasStamp, WasWrittenAfter}
use Rattle.mk_graph.specs.Schedules.{Before}
use Rattle.mk_build.specs.Steps.{MustRun, Ready}
use Rattle.mk_build.specs.Runs.{WholeRun, Runs}
use Rattle.mk_build.specs.Ways.{Carries, Way, over, written, source, always, CanChange}
use Rattle.mk_build.specs.Right.{AreSound, HaveNoRace, HaveWays}
use Rattle.mk_build.specs.Coherent.{IsMissing}
use Rattle.mk_build.specs.RunLaws.{RanBefore}
use Rattle.mk_graph.proofs.Turning.{turn_has_before}
use Rattle.mk_build.proofs.InOrder.{runs_not_done}
use Rattle.mk_build.proofs.Sound.{writer_has_recipe, carried_is_before, writer_is_before}
use Rattle.mk_build.proofs.Writing.{cases_file}
use Rattle.mk_build.proofs.Invariant.{RanWhole, WasThrough, AreOld, Fits, InMake, IsUpToDate, AreUpToDate}

-- what was written whole is there
pub is_there : (d : Disk) (files : List FileName) (contents : List ℕ) → map (content d) files ≡ map (λ c. Some c) contents → (f : FileName) → Has files f → (c : ℕ) × (content d f ≡ Some c)
is_there d [] contents e f h = absurd h
is_there d (k ∷ files) [] e f h = absurd (cc)
is_there d (k ∷ files) (c ∷ contents) e f (inl here) = let at_k : content d k ≡ Some c = cc in (c, subst (λ (x : FileName). content d x ≡ Some c) here at_k)
is_there d (k ∷ files) (c ∷ contents) e f (inr there) = let rest : map (content d) files ≡ map (λ c. Some c) contents = cc in is_there d files contents rest f there

-- so it has a stamp
pub has_stamp : (d : Disk) (f : FileName) (c : ℕ) → content d f ≡ Some c → (stamp : ℕ) × HasStamp d f stamp
has_stamp d f c e = elim (cases_file d f) [ inl none ↦ let gone : None ≡ Some c = sym (ap (λ (x : Option File). option_map (λ (y : File). y.content) x) none) ∙ e in absurd (cc) | inr there ↦ there ]

-- what need not run is there
pub target_is_there : (g : Graph) (d : Disk) (t : ℕ) → ¬ (MustRun g d t) → (stamp : ℕ) × HasStamp d (name g t) stamp
target_is_there g d t need_not = elim (cases_file d (name g t)) [ inl none ↦ absurd (need_not (inr (inl none))) | inr there ↦ there ]

-- and isn't phony
pub not_phony_itself : (g : Graph) (d : Disk) (t : ℕ) → ¬ (MustRun g d t) → (node g t).phony ≡ false
not_phony_itself g d t need_not = elim (cases_Bool (node g t).phony) [ inl e ↦ absurd (need_not (inl (inl e))) | inr e ↦ e ]

-- none of its direct prerequisites is later
pub no_later : (g : Graph) (d : Disk) (t q stamp late : ℕ) → ¬ (MustRun g d t) → Has (prerequisites g t) q → HasStamp d (name g t) stamp → HasStamp d (name g q) late → late ≤ stamp
no_later g d t q stamp late need_not need has has_late = ⊎_elim (λ less. absurd (need_not (inr (inr (q, stamp, late, need, has, has_late, less))))) (λ le. le) (cases_lt stamp late)

module _ (g : Graph) (s : Setting) (graph : IsGraph g) (sound : AreSound g s) (epoch : ℕ) (p : Runs) (start : ℕ) (m : Making) (d : Disk) (fits : Fits g s epoch p m.running d) (is : InMake g s epoch p start m d) (done : AreUpToDate g s p start m d) where
  -- what a done recipe writes is there
  written_is_there : (o : ℕ) → Has m.done o → (f : FileName) → Has (writes g s o) f → (stamp : ℕ) × HasStamp d f stamp
  written_is_there o o_done f wrote =
      let whole = (done o o_done (writer_has_recipe g s o f wrote)).ran.whole in
      let there = is_there d (writes g s o) whole.written whole.holds f wrote in
      has_stamp d f there.0 there.1

  -- so it isn't missing
  not_missing : (o : ℕ) → Has m.done o → (f : FileName) → Has (writes g s o) f → ¬ (d.files f ≡ None)
  not_missing o o_done f wrote none =
      let there = written_is_there o o_done f wrote in
      let gone : None ≡ Some there.0 = sym (ap (λ (x : Option File). option_map (λ (y : File). y.stamp) x) none) ∙ there.1 in cc

  -- A recipe on the way: it need not run, last began no later than the make, and all that is before it is done.
  record IsPassed (t : ℕ) : Type 0 where
    recipe : (node g t).recipe ≡ true
    need_not : ¬ (MustRun g d t)
    stopped : ¬ (Has m.running t)
    waited : p.began t ≤ start
    before : (o : ℕ) → Before g o t → Has m.done o

  -- its target is one of its files
  own_target : (t : ℕ) → IsPassed t → Has (writes g s t) (name g t)
  own_target t passed = sound.target t passed.recipe (not_phony_itself g d t passed.need_not)

  -- what was passed is as its last whole run left it
  passed_ran_whole : (t : ℕ) → IsPassed t → (run : WholeRun) × RanWhole g s p run d t
  passed_ran_whole t passed = elim (fits.whole t passed.recipe passed.stopped) [
    | inl (inl must) ↦ absurd (passed.need_not must)
    | inl (inr (q, need, missing)) ↦ absurd (not_missing missing.1.0 (passed.before missing.1.0 (carried_is_before g s graph sound t missing.1.0 (q, need, missing.1.1))) (name g q) missing.1.1 missing.0)
    | inr ran ↦ ran
  ]

  -- the end of that run
  ended : (t : ℕ) → IsPassed t → ℕ
  ended t passed = (passed_ran_whole t passed).0.ended

  -- its target was written by then, after the run began
  target_early : (t : ℕ) (passed : IsPassed t) (stamp : ℕ) → HasStamp d (name g t) stamp → (p.began t < stamp) × (stamp ≤ ended t passed)
  unfolding ended
  target_early t passed stamp has =
      let ran = (passed_ran_whole t passed).1 in
      (ran.after_begin (name g t) stamp (own_target t passed) has, ran.whole.early (name g t) stamp (own_target t passed) has)

  module _ (t o : ℕ) (passed : IsPassed t) (carries : Carries g s t o) where
    -- what is carried is done
    carried_is_done : Has m.done o
    carried_is_done = passed.before o (carried_is_before g s graph sound t o carries)

    carried_has_recipe : (node g o).recipe ≡ true
    carried_has_recipe = writer_has_recipe g s o (name g carries.0) carries.2

    -- the direct prerequisite over which it is carried is there
    link_is_there : (stamp : ℕ) × HasStamp d (name g carries.0) stamp
    link_is_there =
        written_is_there o carried_is_done (name g carries.0) carries.2

    -- it was written after its writer began, and no later than the end of the recipe's last run
    link_is_late : (p.began o < link_is_there.0) × (link_is_there.0 ≤ ended t passed)
    link_is_late =
        let target = target_is_there g d t passed.need_not in
        let bound = no_later g d t carries.0 target.0 link_is_there.0 passed.need_not carries.1 target.1 link_is_there.1 in
        let early = (target_early t passed target.0 target.1).1 in
        ((done o carried_is_done carried_has_recipe).ran.after_begin (name g carries.0) link_is_there.0 carries.2 link_is_there.1, omega arith)

    -- what is carried was through when the recipe last began, or both last ran before the epoch
    carried_apart : WasThrough g s (p.last o) m.running d o (p.began t) (p.begin_step t) ⊎ AreOld epoch p m.running o t
    carried_apart =
        let target = target_is_there g d t passed.need_not in
        let bound = no_later g d t carries.0 target.0 link_is_there.0 passed.need_not carries.1 target.1 link_is_there.1 in
        ⊎_elim (λ one. inl one) (λ rest. ⊎_elim (λ other. let early = other.early (name g t) target.0 (own_target t passed) target.1 in let late = link_is_late.0 in absurd (omega arith)) (λ old. inr old) rest) (fits.apart o t carries)

    -- if it was through then, it last began before the recipe
    began_before : WasThrough g s (p.last o) m.running d o (p.began t) (p.begin_step t) → p.began o < p.began t
    began_before through =
        let early = through.early (name g carries.0) link_is_there.0 carries.2 link_is_there.1 in
        let late = link_is_late.0 in
        omega arith

    -- if both are old, the recipe's last run ended before the make began
    ended_before_make : AreOld epoch p m.running o t → ended t passed ≤ start
    unfolding ended
    ended_before_make old =
        let up = done o carried_is_done carried_has_recipe in
        let own = passed_ran_whole t passed in
        let early = (old.in_order up.run own.0 up.ran.is_last own.1.is_last).1 in
        let before = is.epoch_before in
        omega arith

    -- so it didn't begin in this make
    began_early : p.began o < start ⊎ p.began o < p.began t
    began_early =
        ⊎_elim (λ through. inr (began_before through)) (λ old. inl (let late = link_is_late in let first = late.0 in let second = late.1 in let end = ended_before_make old in omega arith)) carried_apart

    -- its last run ended no later than the recipe's
    ended_before : (run : WholeRun) → p.last o ≡ Some run → run.ended ≤ ended t passed
    unfolding ended
    ended_before run is_last =
        let own = passed_ran_whole t passed in
        ⊎_elim (λ through. let early = through.ended run is_last in let order = own.1.in_order in omega arith) (λ old. (old.in_order run own.0 is_last own.1.is_last).0) carried_apart

    -- so it was passed too
    carried_is_passed : IsPassed o
    carried_is_passed = record {
      recipe = carried_has_recipe;
      need_not = ⊎_elim (λ need_not. need_not) (λ ran. let waited = passed.waited in ⊎_elim (λ less. absurd (omega arith)) (λ less. absurd (omega arith)) began_early) (done o carried_is_done carried_has_recipe).settled;
      stopped = λ runs. runs_not_done g m is.order o runs carried_is_done;
      waited = let waited = passed.waited in ⊎_elim (λ less. omega arith) (λ less. omega arith) began_early;
      before = λ k before. turn_has_before g m.goals is.order.part k o carried_has_recipe before m.done is.order.turns carried_is_done;
    }

    -- from a start no run is old, so its last whole run lies before the last begin of the recipe
    carried_ran_before : epoch ≡ 0 → (first : WholeRun) × (p.last o ≡ Some first) × (first.end_step < p.begin_step t)
    unfolding ended
    carried_ran_before from_start =
        let up = done o carried_is_done carried_has_recipe in
        let own = passed_ran_whole t passed in
        ⊎_elim (λ through. (up.run, up.ran.is_last, through.end_step up.run up.ran.is_last)) (λ old. let late = link_is_late.0 in let early = link_is_late.1 in let none = (old.in_order up.run own.0 up.ran.is_last own.1.is_last).1 in absurd (omega arith)) carried_apart

  -- a file that has a way from a recipe that was passed is no later than the end of its last run
  along : (f : FileName) {t : ℕ} → Way g s f t → (passed : IsPassed t) → (late : ℕ) → HasStamp d f late → late ≤ ended t passed
  unfolding ended
  along f {t = t} (over o carries way) passed late has_late =
      let o_passed = carried_is_passed t o passed carries in
      let bound = along f way o_passed late has_late in
      let own = passed_ran_whole o o_passed in
      let before = ended_before t o passed carries own.0 own.1.is_last in
      omega arith
  along f {t = t} (written o carries wrote) passed late has_late =
      let up = done o (carried_is_done t o passed carries) (carried_has_recipe t o passed carries) in
      let early = up.ran.whole.early f late wrote has_late in
      let before = ended_before t o passed carries up.run up.ran.is_last in
      omega arith
  along f {t = t} (source editable needs) passed late has_late =
      let target = target_is_there g d t passed.need_not in
      let bound = no_later g d t needs.0 target.0 late passed.need_not needs.1 target.1 (subst (λ (k : FileName). HasStamp d k late) (sym needs.2) has_late) in
      let early = (target_early t passed target.0 target.1).1 in
      omega arith
  along f {t = t} (always made) passed late has_late = absurd (passed.need_not (inl made))

  module _ (t : ℕ) (ready : Ready g m t) (recipe : (node g t).recipe ≡ true) (need_not : ¬ (MustRun g d t)) where
    -- a ready recipe that need not run is one on the way
    ready_is_passed : IsPassed t
    ready_is_passed = record { recipe = recipe; need_not = need_not; stopped = ready.1; waited = is.waits t ready.0.not_done ready.1 ready.2; before = λ o before. before recipe m.goals m.done is.order.part is.order.turns ready.0 }

    -- it is as its last whole run left it
    ready_ran_whole : (run : WholeRun) × RanWhole g s p run d t
    ready_ran_whole = passed_ran_whole t ready_is_passed

    -- from a start, the last run of what it carries lies before its own
    pub ready_ran_after : epoch ≡ 0 → (o : ℕ) → Carries g s t o → RanBefore p o t
    ready_ran_after from_start o carries =
        let first = carried_ran_before t o ready_is_passed carries from_start in
        let own = ready_ran_whole in
        let same = own.1.begin_step in
        record { first = first.0; second = own.0; is_of_first = first.1; is_of_second = own.1.is_last; in_order = let early = first.2 in omega arith }

    -- what was written after its last run and has a way is no later than its end, which isn't so
    written_no_later : HaveWays g s → (f : FileName) → Has (reads g s t) f → CanChange s f → ¬ (WasWrittenAfter d f ready_ran_whole.0.ended)
    unfolding ended ready_ran_whole
    written_no_later ways f read can later =
        let bound = along f (ways t f read can) ready_is_passed later.0 later.1 in
        let less = later.2 in
        omega arith

    -- what it reads isn't missing, as its writer is done
    read_not_missing : HaveNoRace g s → (f : FileName) → Has (reads g s t) f → ¬ (IsMissing g s d f)
    read_not_missing no_race f read missing =
        not_missing missing.1.0 (ready_is_passed.before missing.1.0 (writer_is_before g s graph sound no_race t missing.1.0 f read missing.1.1)) f missing.1.1 missing.0

    -- so each file that it reads contains what its last run saw
    sees_all : HaveNoRace g s → HaveWays g s → (f : FileName) → Has (reads g s t) f → content d f ≡ ready_ran_whole.0.saw f
    sees_all no_race ways f read = elim (fits.saw t ready_ran_whole.0 ready_ran_whole.1.is_last f read) [
      | inl sees ↦ sees
      | inr (inl later) ↦ absurd (written_no_later ways f read later.0 later.1)
      | inr (inr missing) ↦ absurd (read_not_missing no_race f read missing)
    ]

    -- it is up to date
    pub passed_is_up_to_date : HaveNoRace g s → HaveWays g s → IsUpToDate g s p start d t
    passed_is_up_to_date no_race ways = record { run = ready_ran_whole.0; ran = ready_ran_whole.1; sees = sees_all no_race ways; settled = inl need_not }
