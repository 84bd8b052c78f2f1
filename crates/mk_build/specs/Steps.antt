-- The steps of builds: which are allowed in a world, and how each changes it.
use Rattle.std.specs.Prelude.{◌≡◌, ℕ, ◌<◌, List, [], ◌∷◌, length, map, filter, not, Bool, true, false, Option, Some, None, IfSome, is_some, unwrap_or, if◌then◌else◌, nat_eq, fold, ◌⊎◌}
use Rattle.std.specs.Option.{option_flatten}
use Rattle.mk_graph.specs.Membership.{Has}
use Rattle.mk_graph.specs.Graph.{Graph, node, prerequisites}
use Rattle.mk_build.specs.Setting.{FileName, Setting, is_editable, name, reads, writes, IsAlwaysMade}
use Rattle.mk_build.specs.World.{Outcome, Disk, Making, World, Idle, Busy, disk_of, content, HasStamp, changed, last_stamp, written, without, outcome}
use Rattle.mk_graph.specs.Schedules.{HasAll, CanStart, IsPart}

-- What can happen: a file is edited, a make begins, and within a make a recipe begins, reads a
-- file, writes a file, ends or breaks off, a node is passed, and the make is stopped or ends. A
-- recipe breaks off if it fails or is killed; its target may be removed then.
pub data Step : Type 0 where
  Edit : (file : FileName) (content : ℕ) → Step
  Make : (jobs : ℕ) (goals : List ℕ) → Step
  Begin : (recipe : ℕ) → Step
  Look : (recipe : ℕ) (file : FileName) → Step
  Put : (recipe : ℕ) (file : FileName) (content : ℕ) → Step
  End : (recipe : ℕ) → Step
  Break : (recipe : ℕ) (removed : Bool) → Step
  Pass : (node : ℕ) → Step
  Stop : Step
  EndMake : Step

-- A node is out of date: it is always made, its file is absent, or its file is older than that of a
-- direct prerequisite (IEEE Std 1003.1-2024, XCU make, "Description" and "Operands").
abbrev pub MustRun : Graph → Disk → ℕ → Type 0
MustRun g d t =
    IsAlwaysMade g t ⊎ (d.files (name g t) ≡ None) ⊎
    ((p stamp later : ℕ) × Has (prerequisites g t) p × HasStamp d (name g t) stamp ×
    HasStamp d (name g p) later × (stamp < later))

-- A node is ready: it can start, isn't running, and didn't break off in this make.
abbrev pub Ready : Graph → Making → ℕ → Type 0
Ready g m n = CanStart g m.goals m.done n × (¬ (Has m.running n)) × (¬ (Has m.broken n))

-- What a running recipe has read, in the order of its reads.
abbrev pub seen_by : Graph → Setting → Making → ℕ → List (Option ℕ)
seen_by g s m t = map (λ f. option_flatten (m.seen t f)) (reads g s t)

-- What a running recipe has written, in the order of its writes.
abbrev pub put_by : Graph → Setting → Making → ℕ → List ℕ
put_by g s m t = map (λ f. unwrap_or (m.put t f) 0) (writes g s t)

-- In this run the recipe has read each of the files that it reads.
abbrev pub HasSeenAll : Graph → Setting → Making → ℕ → Type 0
HasSeenAll g s m t = (f : FileName) → Has (reads g s t) f → ¬ (m.seen t f ≡ None)

-- In this run the recipe has written each of the files that it writes.
abbrev pub HasPutAll : Graph → Setting → Making → ℕ → Type 0
HasPutAll g s m t = (f : FileName) → Has (writes g s t) f → ¬ (m.put t f ≡ None)

-- If the outcome for what the recipe has read is known, the recipe has written exactly that.
abbrev pub HasPutWhatIsKnown : Graph → Setting → Making → Disk → ℕ → Type 0
HasPutWhatIsKnown g s m d t =
    IfSome (outcome d.known t (seen_by g s m t)) (λ known. known ≡ put_by g s m t)

-- The recipe runs and may end: it has read and written all its files, and what it wrote agrees with
-- the known outcome.
pub record MayEnd (g : Graph) (s : Setting) (m : Making) (d : Disk) (t : ℕ) : Type 0 where
  pub runs : Has m.running t
  pub seen : HasSeenAll g s m t
  pub put : HasPutAll g s m t
  pub agrees : HasPutWhatIsKnown g s m d t

-- A recipe that breaks off is left to run: its target, which it writes, is removed, or it must run
-- on the disk as it is.
abbrev pub IsLeftToRun : Graph → Setting → Disk → ℕ → (removed : Bool) → Type 0
IsLeftToRun g s d t true = Has (writes g s t) (name g t)
IsLeftToRun g s d t false = MustRun g d t

-- The step is allowed in the world.
abbrev pub Allowed : Graph → Setting → World → Step → Type 0
Allowed g s (Idle d) (Edit f c) = (is_editable s f ≡ true) × (d.clock < last_stamp)
Allowed g s (Idle d) (Make jobs goals) = (0 < jobs) × IsPart goals g.goals
Allowed g s (Busy m d) (Begin t) =
    Ready g m t × ((node g t).recipe ≡ true) × (length m.running < m.jobs)
Allowed g s (Busy m d) (Look t f) = Has m.running t × Has (reads g s t) f
Allowed g s (Busy m d) (Put t f c) = Has m.running t × Has (writes g s t) f × (d.clock < last_stamp)
Allowed g s (Busy m d) (End t) = MayEnd g s m d t
Allowed g s (Busy m d) (Break t removed) = Has m.running t × IsLeftToRun g s d t removed
Allowed g s (Busy m d) (Pass n) = Ready g m n × (((node g n).recipe ≡ false) ⊎ (¬ (MustRun g d n)))
Allowed g s (Busy m d) Stop = m.running ≡ []
Allowed g s (Busy m d) EndMake = HasAll m.done m.goals × (m.running ≡ [])
Allowed g s world other = ⊥

-- The function `at`, changed at one recipe.
abbrev pub changed_at : {A : Type 0} → (ℕ → A) → ℕ → A → ℕ → A
changed_at at t new other = if nat_eq t other then new else at other

-- A make of these goals that has just begun.
abbrev pub make_of : (jobs : ℕ) (goals : List ℕ) → Making
make_of jobs goals =
    record {
      jobs = jobs;
      goals = goals;
      done = [];
      running = [];
      broken = [];
      seen = λ t f. None;
      put = λ t f.
          None;
    }

-- The make after a recipe began, which has read and written nothing yet.
abbrev pub begun : Making → ℕ → Making
begun m t =
    record m {
      running = t ∷
          m.running;
      seen = changed_at m.seen t (λ f. None);
      put = changed_at m.put t (λ f. None);
    }

-- The make after a running recipe read a file, or found it absent.
abbrev pub looked : Making → ℕ → FileName → Option ℕ → Making
looked m t f c = record m { seen = changed_at m.seen t (changed (m.seen t) f (Some c)) }

-- The make after a running recipe wrote a content into a file.
abbrev pub has_put : Making → ℕ → FileName → ℕ → Making
has_put m t f c = record m { put = changed_at m.put t (changed (m.put t) f (Some c)) }

-- The make after a node was done: it no longer runs, and what it read and wrote is forgotten.
abbrev pub finished : Making → ℕ → Making
finished m t =
    record m {
      done = t ∷
          m.done;
      running = filter (λ n. not (nat_eq t n)) m.running;
      seen = changed_at m.seen t (λ f. None);
      put = changed_at m.put t (λ f. None);
    }

-- The make after a running recipe broke off: it no longer runs, and what it read and wrote is
-- forgotten.
abbrev pub broken_off : Making → ℕ → Making
broken_off m t =
    record m {
      running = filter (λ n. not (nat_eq t n)) m.running;
      broken = t ∷
          m.broken;
      seen = changed_at m.seen t (λ f. None);
      put = changed_at m.put t (λ f. None);
    }

-- The disk with this outcome added, unless one is known for the same recipe and reads.
abbrev pub noted : Disk → Outcome → Disk
noted d o =
    record d { known = if is_some (outcome d.known o.recipe o.seen) then d.known else o ∷ d.known }

-- The world after an allowed step.
abbrev pub after : Graph → Setting → World → Step → World
after g s (Idle d) (Edit f c) = Idle (written d f c)
after g s (Idle d) (Make jobs goals) = Busy (make_of jobs goals) d
after g s (Busy m d) (Begin t) = Busy (begun m t) d
after g s (Busy m d) (Look t f) = Busy (looked m t f (content d f)) d
after g s (Busy m d) (Put t f c) = Busy (has_put m t f c) (written d f c)
after g s (Busy m d) (End t) =
    Busy (finished m t) (noted d (record {
      recipe = t;
      seen = seen_by g s m t;
      written = put_by g s m t;
    }))
after g s (Busy m d) (Break t removed) =
    Busy (broken_off m t) (if removed then without d (name g t) else d)
after g s (Busy m d) (Pass n) = Busy (finished m n) d
after g s (Busy m d) Stop = Idle d
after g s (Busy m d) EndMake = Idle d
after g s world other = world

-- The steps are a trace: each is allowed in the world that those before it leave.
abbrev pub IsLegal : Graph → Setting → World → List Step → Type 0
IsLegal g s world [] = Unit {0}
IsLegal g s world (step ∷ steps) = Allowed g s world step × IsLegal g s (after g s world step) steps

-- The world after these steps.
abbrev pub after_all : Graph → Setting → World → List Step → World
after_all g s world steps = fold (after g s) world steps

-- The disk after these steps, from a disk with no make in progress.
abbrev pub disk_after : Graph → Setting → Disk → List Step → Disk
disk_after g s d steps = disk_of (after_all g s (Idle d) steps)
