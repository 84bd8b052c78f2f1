-- Each race and each stale read among the findings can be shown.
use Rattle.std.proofs.Common.{◌≡◌, ℕ, ◌+◌, ◌*◌, ◌<◌, ◌≤◌, Bool, true, false, not, nat_eq, cond, List, [], ◌∷◌, ◌++◌, length, map, filter, reverse, inl, inr, refl, sym, ap, subst}
use Rattle.std.proofs.lemmas.List.{reverse-reverse}
use Rattle.mk_lemmas.proofs.Members.{Has-from_filter}
use Rattle.mk_world.proofs.RunsAgree.{legal_behind}
use Rattle.mk_build.specs.EmptyInputs.{empty_setting, empty_disk, steps_of, node_steps, ShowsNotBefore}
use Rattle.mk_build.specs.BuildLaws.{FirstIsAStart, NotBeforeIsShown, StaleHistoryExists, StaleIsShown, SchedulesRun}
use Rattle.mk_graph.specs.Graph.{Graph, IsGraph, IsSound, node}
use Rattle.mk_graph.specs.ScheduleLaws.{CanStartStays}
use Rattle.mk_graph.specs.Laws.{OrderOfAllGoals, SerialReachesEachOnce}
use Rattle.mk_graph.specs.Membership.{Has, IsWithin}
use Rattle.mk_build.specs.Setting.{Setting, name, writings}
use Rattle.mk_build.specs.World.{Disk, World, Idle, Busy, IsFirstDisk, last_stamp}
use Rattle.mk_build.specs.Steps.{Step, Edit, Make, Begin, Look, Put, End, Break, Pass, Stop, EndMake, Allowed, IsLegal, after, after_all, make_of}
use Rattle.mk_build.specs.Stale.{stale_history}
use Rattle.mk_build.specs.ScheduleMake.{until_begin}
use Rattle.mk_graph.specs.Schedules.{IsScheduleWithout, HasAll, CanStart, IsSchedule, Wanted, goal, onward}
use Rattle.mk_world.specs.Steps.{step_of}
use Rattle.mk_world.specs.NamedStep as by_name
use Rattle.mk_find.specs.FindingLaws.{ListedExactly, NothingFoundIsSound}
use Rattle.mk_subject.specs.Subject.{Subject, IsSubject, footprints}
use Rattle.mk_find.specs.declared.finding.Finding.{Finding}
use Rattle.mk_find.specs.declared.finding.Finding.TheVariants as found
use Rattle.mk_find_evidence.specs.Shown.{EndsInRace, EndsStale, HasStamps, IsRaceOrStale, IsReported, ShowsFrom}
use Rattle.mk_find_evidence.proofs.Counts.{wanted_low}
use Rattle.mk_find_evidence.proofs.Names.{number_is, numbers_are}
use Rattle.mk_find_evidence.proofs.Races.{not_done_before, turns_run}
use Rattle.mk_find_evidence.proofs.Steps.{makes_exist}
use Rattle.mk_find_evidence.proofs.Told.{race_numbers, reader_has_recipe, stale_number, told_race, told_stale}

-- ---- steps whose numbers are those of nodes have names

abbrev IsLow : Graph → Step → Type 0
IsLow g (Make jobs goals) = (n : ℕ) → Has goals n → n < length g.nodes
IsLow g (Begin t) = t < length g.nodes
IsLow g (Look t f) = t < length g.nodes
IsLow g (Put t f c) = t < length g.nodes
IsLow g (End t) = t < length g.nodes
IsLow g (Break t removed) = t < length g.nodes
IsLow g (Pass n) = n < length g.nodes
IsLow g other = Unit {0}

abbrev AreLow : Graph → List Step → Type 0
AreLow g [] = Unit {0}
AreLow g (step ∷ steps) = IsLow g step × AreLow g steps

module _ (g : Graph) (sound : IsSound g) where
  name_step : (step : Step) → IsLow g step → (step_is : by_name.Step) × (step_of g step_is ≡ step)
  name_step (Edit f c) low = (by_name.Edit f c, refl)
  name_step (Make jobs goals) low = (by_name.Make jobs (map (name g) goals), ap (λ (ns : List ℕ). Make jobs ns) (numbers_are g goals sound low))
  name_step (Begin t) low = (by_name.Begin (name g t), ap (λ (n : ℕ). Begin n) (number_is g t sound low))
  name_step (Look t f) low = (by_name.Look (name g t) f, ap (λ (n : ℕ). Look n f) (number_is g t sound low))
  name_step (Put t f c) low = (by_name.Put (name g t) f c, ap (λ (n : ℕ). Put n f c) (number_is g t sound low))
  name_step (End t) low = (by_name.End (name g t), ap (λ (n : ℕ). End n) (number_is g t sound low))
  name_step (Break t removed) low = (by_name.Break (name g t) removed, ap (λ (n : ℕ). Break n removed) (number_is g t sound low))
  name_step (Pass n) low = (by_name.Pass (name g n), ap (λ (k : ℕ). Pass k) (number_is g n sound low))
  name_step Stop low = (by_name.Stop, refl)
  name_step EndMake low = (by_name.EndMake, refl)

  name_steps : (steps : List Step) → AreLow g steps → (are : List by_name.Step) × (map (step_of g) are ≡ steps)
  name_steps [] low = ([], refl)
  name_steps (step ∷ steps) low =
      let first = name_step step low.0 in
      let rest = name_steps steps low.1 in
      (first.0 ∷ rest.0, λ i. first.1 i ∷ rest.1 i)

-- ---- the numbers of legal steps are those of nodes

abbrev AreNodes : Graph → List ℕ → Type 0
AreNodes g ns = (n : ℕ) → Has ns n → n < length g.nodes

abbrev HasNodes : Graph → World → Type 0
HasNodes g (Idle d) = Unit {0}
HasNodes g (Busy m d) = IsWithin m.goals g.goals × AreNodes g m.running

all_within : (all ns : List ℕ) → HasAll all ns → (n : ℕ) → Has ns n → Has all n
all_within all [] h n none = absurd none
all_within all (m ∷ ns) h n (inl here) = subst (λ (k : ℕ). Has all k) here h.0
all_within all (m ∷ ns) h n (inr there) = all_within all ns h.1 n there

wanted_by_all : (g : Graph) (goals done : List ℕ) → IsWithin goals g.goals → (n : ℕ) → Wanted g goals done n → Wanted g g.goals done n
wanted_by_all g goals done within n (goal h) = goal (within n h)
wanted_by_all g goals done within n (onward {p = p} before h) = onward (wanted_by_all g goals done within p before) h

module _ (g : Graph) (s : Setting) (is : IsGraph g) where
  may_turn_low : (goals done : List ℕ) (n : ℕ) → IsWithin goals g.goals → CanStart g goals done n → n < length g.nodes
  may_turn_low goals done n within may = wanted_low g done is n (wanted_by_all g goals done within n may.wanted)

  finished_low : (t : ℕ) (running : List ℕ) → AreNodes g running → AreNodes g (filter (λ n. not (nat_eq t n)) running)
  finished_low t running low n h = low n ((Has-from_filter (λ k. not (nat_eq t k)) running n h).0)

  step_low : (w : World) (step : Step) → HasNodes g w → Allowed g s w step → IsLow g step × HasNodes g (after g s w step)
  step_low (Idle d) (Edit f c) low allowed = (tt, tt)
  step_low (Idle d) (Make jobs goals) low allowed =
      let within : IsWithin goals g.goals = all_within g.goals goals allowed.1.within in
      (λ n h. is.sound.goals n (within n h), (within, λ n none. absurd none))
  step_low (Idle d) (Begin t) low allowed = absurd allowed
  step_low (Idle d) (Look t f) low allowed = absurd allowed
  step_low (Idle d) (Put t f c) low allowed = absurd allowed
  step_low (Idle d) (End t) low allowed = absurd allowed
  step_low (Idle d) (Break t removed) low allowed = absurd allowed
  step_low (Idle d) (Pass n) low allowed = absurd allowed
  step_low (Idle d) Stop low allowed = absurd allowed
  step_low (Idle d) EndMake low allowed = absurd allowed
  step_low (Busy m d) (Edit f c) low allowed = absurd allowed
  step_low (Busy m d) (Make jobs goals) low allowed = absurd allowed
  step_low (Busy m d) (Begin t) low allowed =
      let here = may_turn_low m.goals m.done t low.0 allowed.0.0 in
      (here, (low.0, λ n h. elim h [ inl e ↦ subst (λ (k : ℕ). k < length g.nodes) e here | inr there ↦ low.1 n there ]))
  step_low (Busy m d) (Look t f) low allowed = (low.1 t allowed.0, low)
  step_low (Busy m d) (Put t f c) low allowed = (low.1 t allowed.0, low)
  step_low (Busy m d) (End t) low allowed = (low.1 t allowed.runs, (low.0, finished_low t m.running low.1))
  step_low (Busy m d) (Break t removed) low allowed = (low.1 t allowed.0, (low.0, finished_low t m.running low.1))
  step_low (Busy m d) (Pass n) low allowed = (may_turn_low m.goals m.done n low.0 allowed.0.0, (low.0, finished_low n m.running low.1))
  step_low (Busy m d) Stop low allowed = (tt, tt)
  step_low (Busy m d) EndMake low allowed = (tt, tt)

  legal_low : (w : World) (steps : List Step) → HasNodes g w → IsLegal g s w steps → AreLow g steps
  legal_low w [] low legal = tt
  legal_low w (step ∷ steps) low legal =
      let first = step_low w step low legal.0 in
      (first.0, legal_low (after g s w step) steps first.1 legal.1)

  -- so legal steps are those of a list by names
  by_names : (d : Disk) (steps : List Step) → IsLegal g s (Idle d) steps → (list : List by_name.Step) × (map (step_of g) list ≡ steps)
  by_names d steps legal = name_steps g is.sound steps (legal_low (Idle d) steps tt legal)

-- ---- a schedule without a node

-- the make in progress has these goals, and these nodes are done
abbrev IsAt : (goals done : List ℕ) → World → Type 0
IsAt goals done (Idle d) = ⊥
IsAt goals done (Busy m d) = (m.goals ≡ goals) × (m.done ≡ done)

turned : (g : Graph) (s : Setting) (goals ns : List ℕ) (n : ℕ) (w : World) → IsAt goals ns w → IsAt goals (n ∷ ns) (after_all g s w (node_steps g n))
turned g s goals ns n (Idle d) at = absurd at
turned g s goals ns n (Busy m d) at = by (node g n).recipe
  where
    by : (b : Bool) → IsAt goals (n ∷ ns) (after_all g s (Busy m d) (cond b (Begin n ∷ End n ∷ []) (Pass n ∷ [])))
    by true = (at.0, ap (λ (l : List ℕ). n ∷ l) at.1)
    by false = (at.0, ap (λ (l : List ℕ). n ∷ l) at.1)

all_turned : (g : Graph) (s : Setting) (goals : List ℕ) (d : Disk) (ns : List ℕ) → IsAt goals ns (after_all g s (Busy (make_of 1 goals) d) (steps_of g ns))
all_turned g s goals d [] = (refl, refl)
all_turned g s goals d (n ∷ ns) =
    subst (λ (w : World). IsAt goals (n ∷ ns) w) (sym (appended (Busy (make_of 1 goals) d) (steps_of g ns) (node_steps g n))) (turned g s goals ns n (after_all g s (Busy (make_of 1 goals) d) (steps_of g ns)) (all_turned g s goals d ns))
  where
    appended : (w : World) (xs ys : List Step) → after_all g s w (xs ++ ys) ≡ after_all g s (after_all g s w xs) ys
    appended w [] ys = refl
    appended w (x ∷ xs) ys = appended (after g s w x) xs ys

-- where a recipe may begin there, its turn may come
begin_turns : (g : Graph) (s : Setting) (goals done : List ℕ) (t : ℕ) (w : World) → IsAt goals done w → Allowed g s w (Begin t) → CanStart g goals done t
begin_turns g s goals done t (Idle d) at allowed = absurd at
begin_turns g s goals done t (Busy m d) at allowed =
    subst (λ (k : List ℕ). CanStart g k done t) at.0 (subst (λ (k : List ℕ). CanStart g m.goals k t) at.1 allowed.0.0)

-- a turn list for a part of the goals is one for all
turns_for_all : CanStartStays → (g : Graph) (goals : List ℕ) → IsWithin goals g.goals → (ns : List ℕ) → IsSchedule g goals ns → IsSchedule g g.goals ns
turns_for_all stay g goals within [] turns = tt
turns_for_all stay g goals within (n ∷ ns) turns =
    (stay g goals g.goals ns ns within (λ k h. h) n turns.0.not_done turns.0, turns_for_all stay g goals within ns turns.1)

leads_past : CanStartStays → (g : Graph) (o t : ℕ) (goals ns : List ℕ) → ShowsNotBefore g o t goals ns → IsScheduleWithout g o t ns
leads_past stay g o t goals ns shows =
    let within : IsWithin goals g.goals = all_within g.goals goals shows.part.within in
    let begins = legal_behind g empty_setting (Busy (make_of 1 goals) empty_disk) (steps_of g ns) (Begin t ∷ []) shows.legal.1 in
    let may = begin_turns g empty_setting goals ns t (after_all g empty_setting (Busy (make_of 1 goals) empty_disk) (steps_of g ns)) (all_turned g empty_setting goals empty_disk ns) begins.0 in
    record {
      turns = turns_for_all stay g goals within ns shows.turns;
      can_start = stay g goals g.goals ns ns within (λ k h. h) t may.not_done may;
      lacks = shows.lacks;
    }

-- ---- the law

module _ (listed : ListedExactly) (sound : NothingFoundIsSound) (starts : FirstIsAStart)
    (not_before : NotBeforeIsShown) (run : SchedulesRun) (stay : CanStartStays) (once : SerialReachesEachOnce)
    (exists : StaleHistoryExists) (stale : StaleIsShown) (all : OrderOfAllGoals) (x : Subject)
    (is : IsGraph x.graph) (is_subject : IsSubject x) (room : HasStamps x) (d : Disk)
    (first : IsFirstDisk x.graph (footprints x.setting) d) where
  race_shown : (recipe writer f : List ℕ) → IsReported x (found.Race recipe writer f) → (steps : List by_name.Step) × ShowsFrom x d (found.Race recipe writer f) (map (step_of x.graph) steps)
  race_shown recipe writer f told =
      let g = x.graph in
      let s = footprints x.setting in
      let race = told_race listed x recipe writer f told in
      let shows = not_before x.graph race.o race.t is race.races.3 in
      let past : IsScheduleWithout x.graph race.o race.t (reverse (reverse shows.1)) = subst (λ (l : List ℕ). IsScheduleWithout x.graph race.o race.t l) (sym (reverse-reverse shows.1)) (leads_past stay x.graph race.o race.t shows.0 shows.1 shows.2) in
      let makes = makes_exist x.graph (footprints x.setting) [] (Busy (make_of 1 x.graph.goals) d) (reverse shows.1) in
      let recipe_is = reader_has_recipe x race.t f race.races.1 in
      let start = starts x.graph (footprints x.setting) d first in
      let goes = turns_run x.graph (footprints x.setting) d race.o race.t (reverse shows.1) is run once start past recipe_is (room d first) [] (λ n h. h) makes.0 makes.1 in
      let listed_steps = by_names x.graph (footprints x.setting) is d (until_begin x.graph.goals makes.0 race.t) goes.0 in
      let ends : EndsInRace x.graph (footprints x.setting) d race.o race.t (until_begin x.graph.goals makes.0 race.t) = record {
        before = Make 1 x.graph.goals ∷ makes.0;
        last = refl;
        legal = goes.0;
        not_done = not_done_before x.graph (footprints x.setting) d race.o race.t (reverse shows.1) is run once start past recipe_is (room d first) (Make 1 x.graph.goals ∷ makes.0) goes.1;
      } in
      let numbers = race_numbers x recipe writer f race in
      (listed_steps.0, (race.o, race.t, numbers.0, numbers.1, subst (λ (steps : List Step). EndsInRace x.graph (footprints x.setting) d race.o race.t steps) (sym listed_steps.1) ends))

  stale_shown : (recipe f : List ℕ) → IsReported x (found.Stale recipe f) → (steps : List by_name.Step) × ShowsFrom x d (found.Stale recipe f) (map (step_of x.graph) steps)
  stale_shown recipe f told =
      let read = told_stale listed x recipe f told in
      let t = read.0.t in
      let are_sound = sound x is is_subject read.1 in
      let start = starts x.graph (footprints x.setting) d first in
      let parts = exists x.graph (footprints x.setting) is are_sound read.0.t f read.0.stale.0 d in
      let enough = subst (λ (order : List ℕ). d.clock + (2 * writings x.graph (footprints x.setting) order + 1) ≤ last_stamp) (sym (all x.graph)) (room d first) in
      let whole = stale x.graph (footprints x.setting) is are_sound read.0.t f read.0.stale.0 read.0.stale.1 read.0.stale.2 d start enough parts.0 parts.1 parts.2 parts.3 in
      let steps = stale_history x.graph parts.0 parts.1 parts.2 in
      let listed_steps = by_names x.graph (footprints x.setting) is d (stale_history x.graph parts.0 parts.1 parts.2) whole.0 in
      let ends : EndsStale x.graph (footprints x.setting) d read.0.t f (stale_history x.graph parts.0 parts.1 parts.2) = record {
        first = parts.0;
        edit = parts.1;
        second = parts.2;
        parts = refl;
        shows = parts.3;
        legal = whole.0;
        later = whole.1;
      } in
      (listed_steps.0, (read.0.t, stale_number x recipe f read.0, subst (λ (steps : List Step). EndsStale x.graph (footprints x.setting) d read.0.t f steps) (sym listed_steps.1) ends))

  pub shown : (finding : Finding) → IsReported x finding → IsRaceOrStale finding → (steps : List by_name.Step) × ShowsFrom x d finding (map (step_of x.graph) steps)
  shown (found.Race recipe writer f) told of = race_shown recipe writer f told
  shown (found.Stale recipe f) told of = stale_shown recipe f told
  shown (found.NoRecord recipe) told of = absurd of
  shown (found.OtherCommands recipe) told of = absurd of
  shown (found.VaryingCommands recipe) told of = absurd of
  shown (found.NoTarget recipe) told of = absurd of
  shown (found.TwoWriters one other f) told of = absurd of
  shown (found.GivenWritten recipe f) told of = absurd of
  shown (found.OwnRead recipe f) told of = absurd of
  shown (found.UnknownRead recipe f) told of = absurd of
  shown (found.Loose node writer) told of = absurd of
  shown (found.Selection node file) told of = absurd of
