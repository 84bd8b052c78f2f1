-- A make with one job that runs each recipe of the serial order whole is legal, and leaves what the clean build gives.
use Rattle.std.proofs.Common.{append-nil, ◌≡◌, ℕ, suc, ◌+◌, ◌<◌, ◌≤◌, List, [], ◌∷◌, ◌++◌, length, reverse, true, false, Option, Some, None, map, filter, inl, inr, ⊎_elim, refl, sym, ◌∙◌, ap, subst, arith}
use Rattle.std.specs.Prelude.{nat_eq, ◌&&◌}
use Rattle.std.specs.Option.{option_and_then, option_map}
use Rattle.std.proofs.lemmas.Bool.{cases_Bool, cond-true, cond-false, true≢false, ne_eqb, and_left}
use Rattle.std.proofs.lemmas.List.{append_assoc}
use Rattle.std.proofs.lemmas.List.Sums.{sum_by-cons}
use mathlib.Core.List.{reverse-cons}
use Rattle.mk_graph.proofs.TurnPast.{turns_end}
use Rattle.mk_graph.proofs.Parts.{HasAll-from_Has}
use Rattle.mk_graph.specs.Membership.{Has, has}
use Rattle.mk_graph.specs.Graph.{Graph, node, HasNoCycle}
use Rattle.mk_graph.specs.Serial.{visits, order_from}
use Rattle.mk_build.specs.Setting.{FileName, Setting, is_given, reads, writes, writings}
use Rattle.mk_build.specs.World.{File, Outcome, Disk, World, Idle, Busy, IsStartDisk, content, changed, last_stamp, outcome, same_seen, disk_of}
use Rattle.mk_graph.specs.Schedules.{HasAll, CanStart, IsSchedule, IsPart}
use Rattle.mk_build.specs.Steps.{changed_at, Step, Make, Pass, EndMake, after, noted, make_of, IsLegal, after_all}
use Rattle.mk_build.specs.Clean.{Contents, given_contents, put_all, run_clean, make_clean, make_all_clean, clean_build}
use Rattle.mk_build.specs.SerialMake.{whole_run, RunsSerially, ends, passes, runs}
use Rattle.mk_graph.proofs.Turning.{HasAll-has}
use Rattle.mk_graph.proofs.SerialTurns.{serial_turns, order_is, goal_is_chosen}
use Rattle.mk_build.proofs.WholeRuns.{legal_append, after_append, quiet, Ran, whole_run_legal}
use Rattle.mk_build.proofs.Outcomes.{noted_unknown}

-- each node's turn may come when the nodes before it in the list are done, behind these
abbrev pub TurnOn : Graph → (goals done : List ℕ) → List ℕ → Type 0
TurnOn g goals done [] = Unit {0}
TurnOn g goals done (n ∷ ns) = CanStart g goals done n × TurnOn g goals (n ∷ done) ns

-- a turn list, the first node first
pub turn_on : (g : Graph) (goals ns done : List ℕ) → IsSchedule g goals (reverse ns ++ done) → TurnOn g goals done ns
turn_on g goals [] done turns = tt
turn_on g goals (n ∷ ns) done turns =
    let split : reverse (n ∷ ns) ++ done ≡ reverse ns ++ (n ∷ done) = ap (λ (l : List ℕ). l ++ done) (reverse-cons n ns) ∙ append_assoc (reverse ns) (n ∷ []) done in
    let there = subst (λ (l : List ℕ). IsSchedule g goals l) split turns in
    ((turns_end g goals (reverse ns) (n ∷ done) there).0, turn_on g goals ns (n ∷ done) there)

-- as many contents are put as there are files
put_all_many : (at new : Contents) (files : List FileName) (cs : List ℕ) → put_all at files cs ≡ Some new → length cs ≡ length files
put_all_many at new [] [] e = refl
put_all_many at new [] (c ∷ cs) e = absurd (cc)
put_all_many at new (f ∷ files) [] e = absurd (cc)
put_all_many at new (f ∷ files) (c ∷ cs) e = let rest = put_all_many (changed at f (Some c)) new files cs e in ap suc rest

-- nothing is known of a recipe behind an outcome of another one
pub skips : (o : Outcome) (known : List Outcome) (t : ℕ) (saw : List (Option ℕ)) → ¬ (o.recipe ≡ t) → outcome known t saw ≡ None → outcome (o ∷ known) t saw ≡ None
skips o known t saw differ none = cond-false (nat_eq o.recipe t && same_seen o.seen saw) (Some o.written) (outcome known t saw) (and_left (nat_eq o.recipe t) (same_seen o.seen saw) (ne_eqb o.recipe t differ)) ∙ none

-- The serial make has come so far: these nodes are done, the files hold this, and of other nodes nothing is known.
pub record Arrives (g : Graph) (s : Setting) (jobs : ℕ) (goals done : List ℕ) (at : Contents) (clock : ℕ) (w : World) : Type 0 where
  pub seen : ℕ → FileName → Option (Option ℕ)
  pub put : ℕ → FileName → Option ℕ
  pub disk : Disk
  pub is : w ≡ Busy (quiet g s jobs goals done seen put) disk
  pub holds : (f : FileName) → content disk f ≡ at f
  pub unknown : (t : ℕ) (saw : List (Option ℕ)) → ¬ (Has done t) → outcome disk.known t saw ≡ None
  pub clock_is : disk.clock ≡ clock

module _ (g : Graph) (s : Setting) (outcomes : List Outcome) where
  -- no clean build goes on without a value
  none_stays : (ns : List ℕ) → make_all_clean g s outcomes None ns ≡ None
  none_stays [] = refl
  none_stays (n ∷ ns) = none_stays ns

  module _ (n : ℕ) (ns : List ℕ) (at clean : Contents) (more : (new : Contents) → make_all_clean g s outcomes (Some new) ns ≡ Some clean → (steps : List Step) × RunsSerially g s outcomes new ns steps clean) where
    -- where the contents can be put
    with_contents : (node g n).recipe ≡ true → (cs : List ℕ) → outcome outcomes n (map at (reads g s n)) ≡ Some cs → (o : Option Contents) → put_all at (writes g s n) cs ≡ o → make_all_clean g s outcomes o ns ≡ Some clean → (steps : List Step) × RunsSerially g s outcomes at (n ∷ ns) steps clean
    with_contents recipe cs found None put e = let none : None ≡ Some clean = sym (none_stays ns) ∙ e in absurd (cc)
    with_contents recipe cs found (Some new) put e = let rest = more new e in (whole_run g s n cs ++ rest.0, runs cs new recipe found put rest.1)

    -- where the node has a recipe
    with_recipe : (node g n).recipe ≡ true → (o : Option (List ℕ)) → outcome outcomes n (map at (reads g s n)) ≡ o → make_all_clean g s outcomes (option_and_then (put_all at (writes g s n)) o) ns ≡ Some clean → (steps : List Step) × RunsSerially g s outcomes at (n ∷ ns) steps clean
    with_recipe recipe None found e = let none : None ≡ Some clean = sym (none_stays ns) ∙ e in absurd (cc)
    with_recipe recipe (Some cs) found e = with_contents recipe cs found (put_all at (writes g s n) cs) refl e

    -- where it has or hasn't
    with_node : make_all_clean g s outcomes (make_clean g s outcomes at n) ns ≡ Some clean → (steps : List Step) × RunsSerially g s outcomes at (n ∷ ns) steps clean
    with_node e =
        ⊎_elim (λ recipe. with_recipe recipe (outcome outcomes n (map at (reads g s n))) refl
        (subst (λ (o : Option Contents). make_all_clean g s outcomes o ns ≡ Some clean)
        (cond-true (node g n).recipe (run_clean g s outcomes at n) (Some at) recipe) e))
        (λ none. let rest = more at (subst (λ (o : Option Contents). make_all_clean g s outcomes o ns
        ≡ Some clean) (cond-false (node g n).recipe (run_clean g s outcomes at n) (Some at) none) e) in
        (Pass n ∷ rest.0, passes none rest.1)) (cases_Bool (node g n).recipe)

  -- a clean build that has a value is a serial run
  pub runs_from : (ns : List ℕ) (at clean : Contents) → make_all_clean g s outcomes (Some at) ns ≡ Some clean → (steps : List Step) × RunsSerially g s outcomes at ns steps clean
  runs_from [] at clean e = let same : at ≡ clean = cc in ([], subst (λ (k : Contents). RunsSerially g s outcomes at [] [] k) same ends)
  runs_from (n ∷ ns) at clean e = with_node n ns at clean (λ new rest. runs_from ns new clean rest) e

module _ (g : Graph) (s : Setting) (outcomes : List Outcome) (jobs : ℕ) (goals : List ℕ) where
  -- a serial run from a quiet make is legal, and arrives at its end
  abbrev pub IsLegalRun : (ns done : List ℕ) → (steps : List Step) → (w : World) → Contents → (clock : ℕ) → Type 0
  IsLegalRun ns done steps w end clock = IsLegal g s w steps × Arrives g s jobs goals (reverse ns ++ done) end (clock + writings g s ns) (after_all g s w steps)

  -- the nodes done behind one more
  pub done_behind : (n : ℕ) (ns done : List ℕ) → reverse ns ++ (n ∷ done) ≡ reverse (n ∷ ns) ++ done
  done_behind n ns done = sym (append_assoc (reverse ns) (n ∷ []) done) ∙ sym (ap (λ (l : List ℕ). l ++ done) (reverse-cons n ns))

  -- the clock behind one more
  pub clock_behind : (clock n : ℕ) (ns : List ℕ) → (clock + length (writes g s n)) + writings g s ns ≡ clock + writings g s (n ∷ ns)
  clock_behind clock n ns = let more = sum_by-cons (λ (t : ℕ). length (writes g s t)) n ns in omega arith

  -- no file is written by what has no recipe
  pub writes_none : (n : ℕ) → (node g n).recipe ≡ false → length (writes g s n) ≡ 0
  writes_none n none = ap (λ (l : List FileName). length l) (cond-false (node g n).recipe (s.writes (node g n).name) [] none)

  -- a pass from a quiet make
  pub passed : (n : ℕ) (done : List ℕ) (at : Contents) (clock : ℕ) (w : World) → Arrives g s jobs goals done at clock w → (node g n).recipe ≡ false → CanStart g goals done n → IsLegal g s w (Pass n ∷ []) × Arrives g s jobs goals (n ∷ done) at (clock + length (writes g s n)) (after g s w (Pass n))
  passed n done at clock w arrived none may =
      subst (λ (k : World). IsLegal g s k (Pass n ∷ []) × Arrives g s jobs goals (n ∷ done) at
      (clock + length (writes g s n)) (after g s k (Pass n))) (sym arrived.is) (
        (((may, λ h. h, λ h. h), inl none), tt),
        record {
          seen = changed_at arrived.seen n (λ f. None);
          put =
              changed_at arrived.put n (λ f. None);
          disk = arrived.disk;
          is = refl;
          holds = arrived.holds;
          unknown
              = λ t saw out. arrived.unknown t saw (λ h. out (inr h));
          clock_is = let same = arrived.clock_is in
              let zero_writes = writes_none n none in omega arith;
        },
      )

  -- where a whole run arrives
  ran_there : (t : ℕ) (done cs : List ℕ) (at new : Contents) (clock : ℕ) (d : Disk) (w : World)
      → ((f : FileName) → content d f ≡ at f) → ((x : ℕ) (saw : List (Option ℕ)) → ¬ (Has done x)
      → outcome d.known x saw ≡ None) → ¬ (Has done t) → d.clock ≡ clock → put_all at (writes g s t) cs
      ≡ Some new → Ran g s jobs goals done t cs d w → Arrives g s jobs goals (t ∷ done) new
      (clock + length (writes g s t)) w
  ran_there t done cs at new clock d w held unknown new_one now puts_all is =
      let nothing : outcome is.disk.known is.result.recipe is.result.seen ≡ None = subst (λ (l : List Outcome). outcome l is.result.recipe is.result.seen ≡ None) (sym is.known) (unknown is.result.recipe is.result.seen (subst (λ (k : ℕ). ¬ (Has done k)) (sym is.result_recipe) new_one)) in
      record {
        seen = is.seen;
        put = is.put;
        disk = noted is.disk is.result;
        is = is.is;
        holds = is.holds at new puts_all held;
        unknown = λ x saw out. subst (λ (l : List Outcome). outcome l x saw ≡ None)
            (sym (noted_unknown is.disk is.result nothing)) (skips is.result is.disk.known x saw
            (λ same. out (inl (sym is.result_recipe ∙ same)))
            (subst (λ (l : List Outcome). outcome l x saw ≡ None) (sym is.known)
            (unknown x saw (λ h. out (inr h)))));
        clock_is = let last = is.clock in omega arith;
      }

  -- a whole run from a quiet make
  pub ran : 0 < jobs → (t : ℕ) (done cs : List ℕ) (at new : Contents) (clock : ℕ) (w : World)
      → Arrives g s jobs goals done at clock w → (node g t).recipe ≡ true → CanStart g goals done t
      → put_all at (writes g s t) cs ≡ Some new → clock + length (writes g s t) ≤ last_stamp
      → IsLegal g s w (whole_run g s t cs) × Arrives g s jobs goals (t ∷ done) new
      (clock + length (writes g s t)) (after_all g s w (whole_run g s t cs))
  ran free t done cs at new clock w arrived recipe may puts_all room =
      let now = whole_run_legal g s jobs goals t done cs arrived.seen arrived.put arrived.disk (put_all_many at new (writes g s t) cs puts_all) (let same = arrived.clock_is in omega arith) may recipe (inl (arrived.unknown t (map (content arrived.disk) (reads g s t)) may.not_done)) free in
      subst (λ (k : World). IsLegal g s k (whole_run g s t cs)
      × Arrives g s jobs goals (t ∷ done) new (clock + length (writes g s t))
      (after_all g s k (whole_run g s t cs))) (sym arrived.is) (
        now.0,
        ran_there t done cs at new clock arrived.disk
            (after_all g s (Busy (quiet g s jobs goals done arrived.seen arrived.put) arrived.disk)
            (whole_run g s t cs)) arrived.holds arrived.unknown may.not_done arrived.clock_is puts_all now.1,
      )

  -- then the rest
  pub joined : (n : ℕ) (ns done : List ℕ) (first rest : List Step) (w : World) (end : Contents) (clock : ℕ) → IsLegal g s w first → IsLegalRun ns (n ∷ done) rest (after_all g s w first) end (clock + length (writes g s n)) → IsLegalRun (n ∷ ns) done (first ++ rest) w end clock
  joined n ns done first rest w end clock legal more = (
    legal_append g s w first rest legal more.0,
    subst (λ (k : World). Arrives g s jobs goals
        (reverse (n ∷ ns) ++ done) end (clock + writings g s (n ∷ ns)) k)
        (sym (after_append g s w first rest)) (subst (λ (l : List ℕ). Arrives g s jobs goals l end
        (clock + writings g s (n ∷ ns)) (after_all g s (after_all g s w first) rest))
        (done_behind n ns done) (subst (λ (k : ℕ). Arrives g s jobs goals (reverse ns ++ (n ∷ done)) end k
        (after_all g s (after_all g s w first) rest)) (clock_behind clock n ns) more.1)),
  )

  -- each serial run is legal
  pub serial_legal : 0 < jobs → {at end : Contents} {ns : List ℕ} {steps : List Step}
      → RunsSerially g s outcomes at ns steps end → (done : List ℕ) (clock : ℕ) (w : World)
      → TurnOn g goals done ns → clock + writings g s ns ≤ last_stamp → Arrives g s jobs goals done at clock w
      → IsLegalRun ns done steps w end clock
  serial_legal free ends done clock w turns room arrived = (tt, record { seen = arrived.seen; put = arrived.put; disk = arrived.disk; is = arrived.is; holds = arrived.holds; unknown = arrived.unknown; clock_is = let same = arrived.clock_is in omega arith })
  serial_legal free (passes {at = at} {end = end} {n = n} {ns = ns} {steps = steps} none more) done clock w turns room arrived =
      let now = passed n done at clock w arrived none turns.0 in
      let after_room = clock_behind clock n ns in
      joined n ns done (Pass n ∷ []) steps w end clock now.0 (serial_legal free more (n ∷ done) (clock + length (writes g s n)) (after g s w (Pass n)) turns.1 (omega arith) now.1)
  serial_legal free (runs {at = at} {end = end} {t = t} {ns = ns} {steps = steps} cs new recipe found puts_all more) done clock w turns room arrived =
      let after_room = clock_behind clock t ns in
      let now = ran free t done cs at new clock w arrived recipe turns.0 puts_all (omega arith) in
      joined t ns done (whole_run g s t cs) steps w end clock now.0 (serial_legal free more (t ∷ done) (clock + length (writes g s t)) (after_all g s w (whole_run g s t cs)) turns.1 (omega arith) now.1)

-- at a start just the contents of given files are there
given_at_start : (s : Setting) (d : Disk) → IsStartDisk s d → (f : FileName) → content d f ≡ given_contents s d f
given_at_start s d start f = ⊎_elim (λ given. sym (cond-true (is_given s f) (content d f) None given)) (λ not_given. cases (d.files f) refl not_given) (cases_Bool (is_given s f)) where
  cases : (o : Option File) → d.files f ≡ o → is_given s f ≡ false → content d f ≡ given_contents s d f
  cases None e not_given = ap (λ (x : Option File). option_map (λ (y : File). y.content) x) e ∙ sym (cond-false (is_given s f) (content d f) None not_given)
  cases (Some file) e not_given = absurd (true≢false (sym (start.given f file e) ∙ not_given))

module _ (g : Graph) (s : Setting) (outcomes : List Outcome) (d : Disk) (goals : List ℕ) (clean : Contents)
    (is : HasNoCycle g) (part : IsPart goals g.goals) (start : IsStartDisk s d)
    (has_value : clean_build g s outcomes (given_contents s d) goals ≡ Some clean)
    (room : d.clock + writings g s (order_from g goals) ≤ last_stamp) where
  -- the serial run of the clean build
  run : (steps : List Step) × RunsSerially g s outcomes (given_contents s d) (order_from g goals) steps clean
  run = runs_from g s outcomes (order_from g goals) (given_contents s d) clean has_value

  -- the make at its begin
  at_begin : Arrives g s 1 goals [] (given_contents s d) d.clock (Busy (make_of 1 goals) d)
  at_begin = record { seen = λ t f. None; put = λ t f. None; disk = d; is = refl; holds = given_at_start s d start; unknown = λ t saw out. subst (λ (l : List Outcome). outcome l t saw ≡ None) (sym start.nothing_known) refl; clock_is = refl }

  -- the nodes of the order may turn one after another
  turns : TurnOn g goals [] (order_from g goals)
  turns = turn_on g goals (order_from g goals) [] (subst (λ (l : List ℕ). IsSchedule g goals l) (sym (append-nil (reverse (order_from g goals)) ∙ order_is g is goals)) (serial_turns g is goals).0)

  -- the run is legal
  legal_run : IsLegalRun g s outcomes 1 goals (order_from g goals) [] run.0 (Busy (make_of 1 goals) d) clean d.clock
  legal_run = serial_legal g s outcomes 1 goals (omega arith) run.1 [] d.clock (Busy (make_of 1 goals) d) turns room at_begin

  -- then all goals are done
  goals_are_done : HasAll (reverse (order_from g goals) ++ []) goals
  goals_are_done =
      let serial = serial_turns g is goals in
      subst (λ (l : List ℕ). HasAll l goals) (sym (append-nil (reverse (order_from g goals))
      ∙ order_is g is goals)) (HasAll-from_Has (visits g [] (filter (has goals) g.goals)) goals
      (λ n h. HasAll-has (visits g [] (filter (has goals) g.goals)) (filter (has goals) g.goals) n
      serial.1 (goal_is_chosen g is goals g.goals n (HasAll-has g.goals goals n part.within h) h)))

  -- the make may end, and leaves what the clean build gives
  ends_there : IsLegal g s (after_all g s (Busy (make_of 1 goals) d) run.0) (EndMake ∷ []) × ((f : FileName) → content (disk_of (after_all g s (after_all g s (Busy (make_of 1 goals) d) run.0) (EndMake ∷ []))) f ≡ clean f)
  ends_there =
      let arrived = legal_run.1 in
      subst (λ (w : World). IsLegal g s w (EndMake ∷ []) × ((f : FileName) → content (disk_of (after_all g s w (EndMake ∷ []))) f ≡ clean f)) (sym arrived.is) (((goals_are_done, refl), tt), arrived.holds)

  -- the serial make
  pub serial_make : (steps : List Step) × RunsSerially g s outcomes (given_contents s d) (order_from g goals)
      steps clean × IsLegal g s (Idle d) (Make 1 goals ∷ (steps ++ EndMake ∷ []))
      × ((f : FileName) → content (disk_of (after_all g s (Idle d) (Make 1 goals ∷ (steps ++ EndMake ∷ []))))
      f ≡ clean f)
  serial_make =
      let begin = Busy (make_of 1 goals) d in
      (run.0, run.1, ((omega arith, part), legal_append g s begin run.0 (EndMake ∷ []) legal_run.0 ends_there.0), λ f. ap (λ (w : World). content (disk_of w) f) (after_append g s begin run.0 (EndMake ∷ [])) ∙ ends_there.1 f)
