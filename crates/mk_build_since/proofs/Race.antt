-- A build with a race: a recipe looks at a file before another one writes it, and ends after it.
use Rattle.std.proofs.Common.{◌≡◌, ℕ, ◌<◌, ◌⊎◌, zero, suc, List, [], ◌∷◌, Bool, true, false, if◌then◌else◌, Option, Some, None, inl, inr, ⊎_elim, refl, sym, ◌∙◌, ap, subst, arith, bytes_eq}
use Rattle.std.proofs.lemmas.Bool.{true≢false, false≢true}
use Rattle.std.proofs.lemmas.Slice.Eq.{bytes_eq-Decides}
use Rattle.mk_graph.specs.Membership.{Has}
use Rattle.mk_graph.specs.Graph.{Graph, node, prerequisites, IsGraph, goal as reached_goal}
use Rattle.mk_graph.specs.Serial.{visit, visits, serial_from, order_from}
use Rattle.mk_graph.specs.Schedules.{CanStart, goal as wanted_goal, IsPart}
use Rattle.mk_build.specs.Setting.{FileName, Setting, name, reads, writes, IsAlwaysMade}
use Rattle.mk_build.specs.World.{File, Disk, Making, Idle, HasStamp, content, changed, written}
use Rattle.mk_build.specs.Steps.{Step, Make, Begin, Look, Put, End, Pass, MustRun}
use Rattle.mk_build.specs.Clean.{Contents}
use Rattle.mk_build.specs.Ways.{written as by_written, always}
use Rattle.mk_build.specs.Right.{AreSound, HaveNoRace}
use Rattle.mk_build_behaviours.specs.Behaviours.{Behaviours, behaviour, path, Read, Write}
use Rattle.mk_build_behaviours.specs.CleanBy.{make_all_by, build_by, IsBuiltBy, ReadWithin, ArePresent}
use Rattle.mk_build_behaviours.specs.StepsBy.{IsLegalBy, after_all_by}
use Rattle.mk_build_behaviours.proofs.Coherence.{start_is_coherent_by}
use Rattle.mk_build_behaviours.proofs.Traces.{sound_without_reads}
use Rattle.mk_build_since.specs.Named.{Build, HasFile, IsWritten, WasRecipe, AreSameFiles, Rule, NewRecipe, OtherCommands, OtherWrites, OtherReads, ReadText, all_rules, HoldsOf, IsNamed}
use Rattle.mk_build_since.specs.Alike.{IsSameRecipe, AreAlike, both, ends}
use Rattle.mk_build_since.specs.Next.{IsAccepted, IsNext}
use Rattle.mk_build_since.specs.Needed.{FallShort, HasOnlyRaces}
use Rattle.mk_build_since.proofs.OneNode.{making_in, in_one, not_none, empty, empty_start, empty_stamped, written_stamped}

-- the names: a reader, a writer, and a phony name
abbrev reader : FileName
reader = 114 ∷ []

abbrev writer : FileName
writer = 119 ∷ []

abbrev phony : FileName
phony = 97 ∷ []

reader_writer : ¬ (reader ≡ writer)
reader_writer e = false≢true ((bytes_eq-Decides reader writer).1 e)

reader_phony : ¬ (reader ≡ phony)
reader_phony e = false≢true ((bytes_eq-Decides reader phony).1 e)

writer_phony : ¬ (writer ≡ phony)
writer_phony e = false≢true ((bytes_eq-Decides writer phony).1 e)

reader_none : ¬ (reader ≡ [])
reader_none e = absurd (cc)

writer_none : ¬ (writer ≡ [])
writer_none e = absurd (cc)

-- the goals
abbrev all : List ℕ
all = 2 ∷ 1 ∷ 0 ∷ []

-- the reader waits for the writer, or is always made
abbrev pair : Bool → Graph
pair waits = record { nodes = record { name = reader; groups = ((if waits then 1 else 2) ∷ []) ∷ []; recipe = true; phony = false } ∷ record { name = writer; groups = []; recipe = true; phony = false } ∷ record { name = phony; groups = []; recipe = false; phony = true } ∷ []; goals = all }

-- each recipe writes its target, and the reader reads what the writer writes
abbrev files : Setting
files = record { reads = λ f. if bytes_eq f reader then writer ∷ [] else []; writes = λ f. f ∷ []; sources = []; texts = []; fixed = [] }

-- the reader tells whether it is there
abbrev tells : Option ℕ → ℕ
tells None = 0
tells (Some c) = 1

abbrev telling : Behaviours
telling f = if bytes_eq f reader then Read writer (λ c. Write (tells c ∷ [])) else Write (1 ∷ [])

abbrev build : Bool → Build
build waits = record { graph = pair waits; setting = files; commands = λ f. []; behaviours = telling }

abbrev old : Build
old = build false

abbrev new : Build
new = build true

-- only these two write
only_writes : (w : Bool) (n : ℕ) (f : FileName) → Has (writes (pair w) files n) f → ((n ≡ 0) × (reader ≡ f)) ⊎ ((n ≡ 1) × (writer ≡ f))
only_writes w zero f h = inl (refl, in_one reader f h)
only_writes w (suc zero) f h = inr (refl, in_one writer f h)
only_writes w (suc (suc zero)) f h = absurd h
only_writes w (suc (suc (suc n))) f h = absurd h

-- and only the reader reads
only_reads : (w : Bool) (n : ℕ) (f : FileName) → Has (reads (pair w) files n) f → (n ≡ 0) × (writer ≡ f)
only_reads w zero f h = (refl, in_one writer f h)
only_reads w (suc zero) f h = absurd h
only_reads w (suc (suc zero)) f h = absurd h
only_reads w (suc (suc (suc n))) f h = absurd h

-- both graphs have the same footprints
same_writes : (v w : Bool) (n : ℕ) (f : FileName) → Has (writes (pair v) files n) f → Has (writes (pair w) files n) f
same_writes v w zero f h = h
same_writes v w (suc zero) f h = h
same_writes v w (suc (suc zero)) f h = h
same_writes v w (suc (suc (suc n))) f h = h

same_reads : (v w : Bool) (n : ℕ) (f : FileName) → Has (reads (pair v) files n) f → Has (reads (pair w) files n) f
same_reads v w zero f h = h
same_reads v w (suc zero) f h = h
same_reads v w (suc (suc zero)) f h = h
same_reads v w (suc (suc (suc n))) f h = h

-- a name has one number
same_number : (v w : Bool) (o t : ℕ) → (node (pair v) o).recipe ≡ true → name (pair v) o ≡ name (pair w) t → o ≡ t
same_number v w zero zero recipe e = refl
same_number v w zero (suc zero) recipe e = absurd (reader_writer e)
same_number v w zero (suc (suc zero)) recipe e = absurd (reader_phony e)
same_number v w zero (suc (suc (suc t))) recipe e = absurd (reader_none e)
same_number v w (suc zero) zero recipe e = absurd (reader_writer (sym e))
same_number v w (suc zero) (suc zero) recipe e = refl
same_number v w (suc zero) (suc (suc zero)) recipe e = absurd (writer_phony e)
same_number v w (suc zero) (suc (suc (suc t))) recipe e = absurd (writer_none e)
same_number v w (suc (suc zero)) t recipe e = absurd (false≢true recipe)
same_number v w (suc (suc (suc o))) t recipe e = absurd (false≢true recipe)

-- the reader is above what it waits for
abbrev height : ℕ → ℕ
height zero = 1
height (suc n) = 0

-- only the reader needs something
needs : (w : Bool) (n p : ℕ) → Has (prerequisites (pair w) n) p → (n ≡ 0) × ((if w then 1 else 2) ≡ p)
needs w zero p h = (refl, ⊎_elim (λ e. e) (λ none. absurd none) h)
needs w (suc zero) p h = absurd h
needs w (suc (suc zero)) p h = absurd h
needs w (suc (suc (suc n))) p h = absurd h

falls : (w : Bool) (n p : ℕ) → (n ≡ 0) × ((if w then 1 else 2) ≡ p) → height p < height n
falls true n p are = subst (λ (k : ℕ). height p < height k) (sym are.0) (subst (λ (k : ℕ). height k < 1) are.1 (omega arith))
falls false n p are = subst (λ (k : ℕ). height p < height k) (sym are.0) (subst (λ (k : ℕ). height k < 1) are.1 (omega arith))

edge : (w : Bool) (p : ℕ) → (if w then 1 else 2) ≡ p → p < 3
edge true p e = omega arith
edge false p e = omega arith

low : (n : ℕ) → n < 3 → height n < 3
low zero below = omega arith
low (suc n) below = omega arith

is_goal : (n : ℕ) → n < 3 → Has all n
is_goal zero below = inr (inr (inl refl))
is_goal (suc zero) below = inr (inl refl)
is_goal (suc (suc zero)) below = inl refl
is_goal (suc (suc (suc n))) below = absurd (omega arith)

below_goals : (n : ℕ) → Has all n → n < 3
below_goals n h = ⊎_elim (λ e. omega arith) (λ rest. ⊎_elim (λ e. omega arith) (λ more. ⊎_elim (λ e. omega arith) (λ none. absurd none) more) rest) h

is_graph : (w : Bool) → IsGraph (pair w)
is_graph w = record {
  sound = record {
    names = (λ h. ⊎_elim (λ e. reader_writer (sym e)) (λ rest. reader_phony (sym (in_one phony reader rest))) h, (λ h. writer_phony (sym (in_one phony writer h)), (λ h. h, tt)));
    goals = below_goals;
    edges = λ n p h. edge w p (needs w n p h).1;
    reached = λ n below. reached_goal (is_goal n below);
  };
  few = omega arith;
  no_cycle = record { height = height; low = low; falls = λ n p h. falls w n p (needs w n p h) };
}

-- recipes write their targets
writes_target : (w : Bool) (t : ℕ) → (node (pair w) t).recipe ≡ true → Has (writes (pair w) files t) (name (pair w) t)
writes_target w zero recipe = inl refl
writes_target w (suc zero) recipe = inl refl
writes_target w (suc (suc zero)) recipe = absurd (false≢true recipe)
writes_target w (suc (suc (suc t))) recipe = absurd (false≢true recipe)

-- and nothing with a phony name
not_phony : (w : Bool) (f : FileName) (n : ℕ) → (reader ≡ f) ⊎ (writer ≡ f) → name (pair w) n ≡ f → (node (pair w) n).phony ≡ false
not_phony w f zero wrote e = refl
not_phony w f (suc zero) wrote e = refl
not_phony w f (suc (suc zero)) wrote e = absurd (⊎_elim (λ is. reader_phony (is ∙ sym e)) (λ is. writer_phony (is ∙ sym e)) wrote)
not_phony w f (suc (suc (suc n))) wrote e = refl

either : (w : Bool) (n : ℕ) (f : FileName) → Has (writes (pair w) files n) f → (reader ≡ f) ⊎ (writer ≡ f)
either w n f h = ⊎_elim (λ is. inl is.1) (λ is. inr is.1) (only_writes w n f h)

one_writer : (w : Bool) (o t : ℕ) (f : FileName) → Has (writes (pair w) files o) f → Has (writes (pair w) files t) f → o ≡ t
one_writer w o t f one other =
    ⊎_elim (λ is. ⊎_elim (λ was. is.0 ∙ sym was.0) (λ was. absurd (reader_writer (is.1 ∙ sym was.1))) (only_writes w t f other))
    (λ is. ⊎_elim (λ was. absurd (reader_writer (was.1 ∙ sym is.1))) (λ was. is.0 ∙ sym was.0) (only_writes w t f other))
    (only_writes w o f one)

not_own : (w : Bool) (t : ℕ) (f : FileName) → Has (reads (pair w) files t) f → ¬ (Has (writes (pair w) files t) f)
not_own w t f read wrote =
    let is = only_reads w t f read in
    ⊎_elim (λ was. reader_writer (was.1 ∙ sym is.1)) (λ was. let numbers : 0 ≡ 1 = sym is.0 ∙ was.0 in absurd (omega arith)) (only_writes w t f wrote)

without_recipe : (w : Bool) (n o : ℕ) → n < 3 → (node (pair w) n).recipe ≡ false → Has (writes (pair w) files o) (name (pair w) n) → Has (prerequisites (pair w) n) o
without_recipe w zero o below none wrote = absurd (true≢false none)
without_recipe w (suc zero) o below none wrote = absurd (true≢false none)
without_recipe w (suc (suc zero)) o below none wrote = absurd (⊎_elim reader_phony writer_phony (either w o phony wrote))
without_recipe w (suc (suc (suc n))) o below none wrote = absurd (omega arith)

sound : (w : Bool) → AreSound (pair w) files
sound w = record {
  target = λ t recipe not. writes_target w t recipe;
  one_writer = one_writer w;
  not_given = λ t f wrote. refl;
  not_phony = λ t n wrote. not_phony w (name (pair w) n) n (either w t (name (pair w) n) wrote) refl;
  not_own = not_own w;
  known = λ t f read. inr (1, inl (only_reads w t f read).1);
  not_loose = without_recipe w;
}

-- the writer runs first where the reader waits
no_race : HaveNoRace (pair true) files
no_race t o f differ read wrote =
    let is = only_reads true t f read in
    ⊎_elim (λ was. absurd (reader_writer (was.1 ∙ sym is.1)))
    (λ was recipe goals ns part turns can. subst (λ (k : ℕ). Has ns k) (sym was.0) (subst (λ (k : ℕ). CanStart (pair true) goals ns k → Has ns 1) (sym is.0) (λ (start : CanStart (pair true) goals ns 0). start.prerequisites.0) can))
    (only_writes true o f wrote)

old_kind : HasOnlyRaces old
old_kind = record {
  graph = is_graph false;
  sound = sound false;
  ways = λ t f read can. always (inr (2, subst (λ (k : ℕ). Has (prerequisites (pair false) k) 2) (sym (only_reads false t f read).0) (inl refl), refl));
}

new_accepted : IsAccepted new
new_accepted = record {
  graph = is_graph true;
  sound = sound true;
  no_race = no_race;
  ways = λ t f read can. by_written 1 (1, subst (λ (k : ℕ). Has (prerequisites (pair true) k) 1) (sym (only_reads true t f read).0) (inl refl), inl refl) (inl (only_reads true t f read).1);
}

-- both orders have the phony name, the writer and the reader
order : (w : Bool) → order_from (pair w) all ≡ all
unfolding visit visits serial_from
order true = refl
order false = refl

-- where the writer was made, and the reader too
abbrev made_one : Contents → Contents
made_one at = changed at writer (Some 1)

abbrev made_both : Contents → Contents
made_both at = changed (made_one at) reader (Some 1)

-- footprints are present
present : (w : Bool) (d : Disk) → ArePresent (pair w) files telling d
present w d =
    subst (λ (ns : List ℕ). ReadWithin (pair w) files telling (λ f. None) ns) (sym (order w))
    (λ recipe. absurd (false≢true recipe), (λ f. None, refl, (λ recipe f on. absurd on, (made_one (λ f. None), refl, (λ recipe f on. on, (made_both (λ f. None), refl, tt))))))

-- the clean build
builds : (w : Bool) (d : Disk) → build_by (pair w) files telling (λ f. None) all ≡ Some (made_both (λ f. None))
builds w d = ap (λ (ns : List ℕ). make_all_by (pair w) files telling (Some (λ f. None)) ns) (order w)

is_part : IsPart all all
is_part = record { not_empty = λ none. absurd (cc); within = (inl refl, (inr (inl refl), (inr (inr (inl refl)), tt))) }

-- the old make: the reader looks before the writer writes, and writes after it
abbrev run : List Step
run = Pass 2 ∷ Begin 0 ∷ Look 0 writer ∷ Begin 1 ∷ Put 1 writer 1 ∷ End 1 ∷ Put 0 reader 0 ∷ End 0 ∷ []

abbrev before : Disk
before = written (written empty writer 1) reader 0

-- the make before each recipe ends
abbrev first_ending : Making
first_ending = making_in (after_all_by (pair false) files (Idle empty) (Make 2 all ∷ Pass 2 ∷ Begin 0 ∷ Look 0 writer ∷ Begin 1 ∷ Put 1 writer 1 ∷ []))

abbrev last_ending : Making
last_ending = making_in (after_all_by (pair false) files (Idle empty) (Make 2 all ∷ Pass 2 ∷ Begin 0 ∷ Look 0 writer ∷ Begin 1 ∷ Put 1 writer 1 ∷ End 1 ∷ Put 0 reader 0 ∷ []))

first_put : (f : FileName) → Has (writes (pair false) files 1) f → ¬ (first_ending.put 1 f ≡ None)
first_put f wrote = subst (λ (k : FileName). ¬ (first_ending.put 1 k ≡ None)) (in_one writer f wrote) (not_none 1)

last_put : (f : FileName) → Has (writes (pair false) files 0) f → ¬ (last_ending.put 0 f ≡ None)
last_put f wrote = subst (λ (k : FileName). ¬ (last_ending.put 0 k ≡ None)) (in_one reader f wrote) (not_none 0)

last_seen : (f : FileName) → writer ≡ f → ¬ (last_ending.seen 0 f ≡ None)
last_seen f same = subst (λ (k : FileName). ¬ (last_ending.seen 0 k ≡ None)) same (λ e. absurd (cc))

-- a node isn't among others
other_than : (n m : ℕ) → ¬ (n ≡ m) → ¬ (Has (n ∷ []) m)
other_than n m differ h = ⊎_elim differ (λ none. none) h

legal : IsLegalBy (pair false) files telling (Idle empty) (Make 2 all ∷ run)
legal = (
  (omega arith, is_part),
  (
    ((record { wanted = wanted_goal (inl refl); not_done = λ h. h; prerequisites = tt }, λ h. h, λ h. h), inl refl),
    (
      ((record { wanted = wanted_goal (inr (inr (inl refl))); not_done = other_than 2 0 (λ e. absurd (omega arith)); prerequisites = (inl refl, tt) }, λ h. h, λ h. h), refl, omega arith),
      (
        inl refl,
        (
          ((record { wanted = wanted_goal (inr (inl refl)); not_done = other_than 2 1 (λ e. absurd (omega arith)); prerequisites = tt }, other_than 0 1 (λ e. absurd (omega arith)), λ h. h), refl, omega arith),
          (
            (inl refl, inl refl, omega arith),
            (
              record { runs = inl refl; seen = λ f on. absurd on; put = first_put; agrees = refl },
              (
                (inl refl, inl refl, omega arith),
                (record { runs = inl refl; seen = λ f on. last_seen f (in_one writer f on); put = last_put; agrees = refl }, tt),
              ),
            ),
          ),
        ),
      ),
    ),
  ),
)

-- no rule names anything
none_holds : (rule : Rule) (t : ℕ) (f : FileName) → Has (writes (pair true) files t) f → ¬ (HoldsOf rule old new t)
none_holds NewRecipe zero f wrote none = none 0 (refl, refl)
none_holds NewRecipe (suc zero) f wrote none = none 1 (refl, refl)
none_holds NewRecipe (suc (suc zero)) f wrote none = wrote
none_holds NewRecipe (suc (suc (suc t))) f wrote none = wrote
none_holds OtherCommands t f wrote holds = holds.2 refl
none_holds OtherWrites t f wrote holds = holds.2 (subst (λ (k : ℕ). AreSameFiles (writes (pair false) files holds.0) (writes (pair true) files k)) (same_number false true holds.0 t holds.1.0 holds.1.1) (λ h. (same_writes false true holds.0 h, same_writes true false holds.0 h)))
none_holds OtherReads t f wrote holds = holds.2 (subst (λ (k : ℕ). AreSameFiles (reads (pair false) files holds.0) (reads (pair true) files k)) (same_number false true holds.0 t holds.1.0 holds.1.1) (λ h. (same_reads false true holds.0 h, same_reads true false holds.0 h)))
none_holds ReadText t f wrote holds = holds.2.2

unnamed : (f : FileName) → ¬ (IsNamed all_rules old new f)
unnamed f named =
    ⊎_elim (λ left. left.1 (inr (left.0.0, same_writes false true left.0.0 f left.0.1))) (λ anew. none_holds anew.3.0 anew.0 f anew.1 anew.3.2) named.1

-- recipes look for nothing but what the writer writes
looked_for : (t : ℕ) (at : Contents) (f : FileName) → Has (path (behaviour (pair true) telling t) at) f → writer ≡ f
looked_for zero at f on = in_one writer f on
looked_for (suc zero) at f on = absurd on
looked_for (suc (suc zero)) at f on = absurd on
looked_for (suc (suc (suc t))) at f on = absurd on

next : IsNext all_rules old new before before
next = record {
  came = omega arith;
  stamped = written_stamped (written empty writer 1) reader 0 (written_stamped empty writer 1 empty_stamped);
  removed = λ f named. absurd (unnamed f named);
  others = λ f has out. inl refl;
  lacking = λ t f wrote not. absurd (not (inr (inr (t, same_writes true false t f wrote))));
  coming = λ o t f same_recipe on not. absurd (not (inr (1, inl (looked_for t (content before) f on))));
}

-- the same recipe behaves alike
alike_at : (o : ℕ) → (node (pair false) o).recipe ≡ true → AreAlike old new (writes (pair false) files o) (writes (pair true) files o) (behaviour (pair false) telling o) (behaviour (pair true) telling o)
alike_at zero recipe = both (λ c. ends (λ at e. e))
alike_at (suc zero) recipe = ends (λ at e. e)
alike_at (suc (suc zero)) recipe = absurd (false≢true recipe)
alike_at (suc (suc (suc o))) recipe = absurd (false≢true recipe)

-- a make of the new build passes both recipes
writer_needs_no_run : ¬ (MustRun (pair true) before 1)
writer_needs_no_run must =
    ⊎_elim (λ made. ⊎_elim (λ is. false≢true is) (λ need. need.1) made)
    (λ rest. ⊎_elim (λ none. absurd (cc)) (λ later. later.3) rest)
    must

reader_needs_no_run : ¬ (MustRun (pair true) before 0)
reader_needs_no_run must =
    ⊎_elim (λ made. ⊎_elim (λ is. false≢true is) (λ need. false≢true (subst (λ (k : ℕ). (node (pair true) k).phony ≡ true) (sym (needs true 0 need.0 need.1).1) need.2)) made)
    (λ rest. ⊎_elim (λ none. absurd (cc)) (λ later. not_later later.1 later.2 later.4 (subst (λ (k : ℕ). HasStamp before (name (pair true) k) later.2) (sym (needs true 0 later.0 later.3).1) later.5) later.6) rest)
    must where
      not_later : (stamp later : ℕ) → HasStamp before reader stamp → HasStamp before writer later → ¬ (stamp < later)
      not_later stamp later own other low =
          let mine : 2 ≡ stamp = cc in
          let its : 1 ≡ later = cc in
          omega arith

abbrev steps : List Step
steps = Make 1 all ∷ Pass 2 ∷ Pass 1 ∷ Pass 0 ∷ []

passes : IsLegalBy (pair true) files telling (Idle before) steps
passes = (
  (omega arith, is_part),
  (
    ((record { wanted = wanted_goal (inl refl); not_done = λ h. h; prerequisites = tt }, λ h. h, λ h. h), inl refl),
    (
      ((record { wanted = wanted_goal (inr (inl refl)); not_done = other_than 2 1 (λ e. absurd (omega arith)); prerequisites = tt }, λ h. h, λ h. h), inr writer_needs_no_run),
      (((record { wanted = wanted_goal (inr (inr (inl refl))); not_done = λ h. ⊎_elim (λ e. absurd (omega arith)) (other_than 2 0 (λ e. absurd (omega arith))) h; prerequisites = (inl refl, tt) }, λ h. h, λ h. h), inr reader_needs_no_run), tt),
    ),
  ),
)

-- the reader tells that the writer's file isn't there
not_built : ¬ (IsBuiltBy (pair true) files telling before all)
not_built built =
    let held = built.holds 0 reader (reached_goal (inr (inr (inl refl)))) (inl refl) in
    let same : Some built.clean ≡ Some (made_both (λ f. None)) = sym built.has_value ∙ builds true before in
    let value : Some held.0 ≡ Some 1 = sym held.1 ∙ ap (λ (at : Option Contents). as_contents at reader) same in
    let there : Some 0 ≡ Some held.0 = held.2 in
    let numbers : Some 0 ≡ Some 1 = there ∙ value in
    absurd (cc) where
      as_contents : Option Contents → Contents
      as_contents None = λ f. None
      as_contents (Some at) = at

pub rules_fall_short : FallShort HasOnlyRaces all_rules
rules_fall_short = record {
  old = old;
  new = new;
  alike = λ o t same_recipe. subst (λ (k : ℕ). AreAlike old new (writes (pair false) files o) (writes (pair true) files k) (behaviour (pair false) telling o) (behaviour (pair true) telling k)) (same_number false true o t same_recipe.0.0 same_recipe.0.1) (alike_at o same_recipe.0.0);
  old_kind = old_kind;
  new_accepted = new_accepted;
  first = empty;
  before = before;
  now = before;
  coherent = start_is_coherent_by (pair false) files telling (sound_without_reads (pair false) files (sound false)) empty (empty_start files);
  present = present false empty;
  finished = record {
    jobs = 2;
    steps = run;
    inside = (tt, (tt, (tt, (tt, (tt, (tt, (tt, (tt, tt))))))));
    legal = legal;
    making = making_in (after_all_by (pair false) files (Idle empty) (Make 2 all ∷ run));
    leaves = refl;
    ends = ((inr (inr (inl refl)), (inr (inl refl), (inl refl, tt))), refl);
  };
  next = next;
  steps = steps;
  legal = passes;
  stay = (present true before, (tt, (tt, (tt, tt))));
  wrong = λ right. not_built (right ((inr (inr (inl refl)), (inr (inl refl), (inl refl, tt))), refl));
}
