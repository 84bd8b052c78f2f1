-- What steps of recipes leave of a make.
use Rattle.std.proofs.Common.{◌≡◌, ℕ, zero, suc, ◌<◌, Bool, true, false, List, [], ◌∷◌, length, Option, Some, None, map, refl, sym, ap, ◌∙◌, arith, inl, inr, set, subst, nat_eq, not, filter, true≢false, cond, String, Global, string_bytes}
use Rattle.std.specs.Prelude.{replicate, unwrap_or, IfSome, is_some}
use Rattle.std.specs.Option.{option_flatten}
use Rattle.std.proofs.lemmas.Bool.{cases_Bool, eqb-true, eq-eqb, cond-true, cond-false}
use Rattle.std.proofs.lemmas.List.{get_or-set_same, get_or-set_other, length-set, length-map, length-replicate}
use Rattle.mk_graph.proofs.OpenGroups.{InOpenGroup-Has}
use Rattle.mk_graph.proofs.Turning.{HasAll-has}
use Rattle.mk_graph.specs.Membership.{Has}
use Rattle.mk_graph.specs.Graph.{Graph, node, IsGraph}
use Rattle.mk_build.specs.Setting.{FileName, reads, writes}
use Rattle.mk_build.specs.World.{Disk, Busy, changed, outcome}
use Rattle.mk_graph.specs.Schedules.{Wanted, goal, onward, HasAll, IsPart}
use Rattle.mk_world.specs.Steps.{Takes}
use Rattle.mk_build.specs.Steps.{changed_at, looked, has_put, HasSeenAll, HasPutAll, HasPutWhatIsKnown, seen_by, put_by}
use Rattle.mk_build.specs.Steps as model
use Rattle.mk_world.specs.Tables.{look}
use Rattle.mk_world.specs.State.{Scene, MakeState, RunState, setting, making_of, run_at, no_run, begun, broken_off, finished, start_of, DiskState, disk_of, busy, world_in, HasLooked, HasPut}
use Rattle.mk_world.specs.Fits.{Fits}
use Rattle.mk_world.proofs.Makes.{changed_run}
use Rattle.mk_world.proofs.Tables.{look_nothing}

-- what is wanted is a node
pub wanted_low : (g : Graph) (goals done : List ℕ) → IsGraph g → ((n : ℕ) → Has goals n → n < length g.nodes) → (n : ℕ) → Wanted g goals done n → n < length g.nodes
wanted_low g goals done is low n (goal h) = low n h
wanted_low g goals done is low n (onward {p = p} before h) = is.sound.edges p n (InOpenGroup-Has done (node g p).groups n h)

-- a change to what was known changes nothing
pub unchanged_at : {A : Type 0} (at : ℕ → A) (t : ℕ) → changed_at at t (at t) ≡ at
unchanged_at at t = λ i n. same n i
  where
    same : (n : ℕ) → changed_at at t (at t) n ≡ at n
    same n = elim (cases_Bool (nat_eq t n)) [
      | inl e ↦ cond-true (nat_eq t n) (at t) (at n) e ∙ ap at (eqb-true t n e)
      | inr e ↦ cond-false (nat_eq t n) (at t) (at n) e
    ]

-- one run becomes another
pub making_with : (scene : Scene) (m : MakeState) (done running broken : List ℕ) (t : ℕ) (run : RunState) (a : FileName → Option (Option ℕ)) (b : FileName → Option ℕ) → t < length m.runs
    → look (reads scene.graph (setting scene) t) run.looks ≡ a → look (writes scene.graph (setting scene) t) run.puts ≡ b
    → making_of scene (record { jobs = m.jobs; goals = m.goals; done = done; running = running; broken = broken; runs = set m.runs t run })
    ≡ record { jobs = m.jobs; goals = m.goals; done = done; running = running; broken = broken; seen = changed_at (making_of scene m).seen t a; put = changed_at (making_of scene m).put t b }
making_with scene m done running broken t run a b lt is_a is_b =
    let seen = λ (n : ℕ). changed_run (λ k (r : RunState). look (reads scene.graph (setting scene) k) r.looks) no_run m.runs t run lt n ∙ ap (λ (x : FileName → Option (Option ℕ)). changed_at (making_of scene m).seen t x n) is_a in
    let put = λ (n : ℕ). changed_run (λ k (r : RunState). look (writes scene.graph (setting scene) k) r.puts) no_run m.runs t run lt n ∙ ap (λ (x : FileName → Option ℕ). changed_at (making_of scene m).put t x n) is_b in
    λ i. record { jobs = m.jobs; goals = m.goals; done = done; running = running; broken = broken; seen = λ n. seen n i; put = λ n. put n i }

-- it still fits
pub with_fits : (scene : Scene) (m : MakeState) → Fits scene m → (done running broken : List ℕ) (t : ℕ) (run : RunState) → t < length scene.graph.nodes
    → ((n : ℕ) → Has running n → ¬ (n ≡ t) → Has m.running n)
    → (Has running t → (length run.looks ≡ length (reads scene.graph (setting scene) t)) × (length run.puts ≡ length (writes scene.graph (setting scene) t)))
    → Fits scene (record { jobs = m.jobs; goals = m.goals; done = done; running = running; broken = broken; runs = set m.runs t run })
with_fits scene m fits done running broken t run low others this =
    record {
      goals = fits.goals;
      many = length-set m.runs t run ∙ fits.many;
      nodes = λ n h. elim (cases_Bool (nat_eq t n)) [ inl e ↦ subst (λ k. k < length scene.graph.nodes) (eqb-true t n e) low | inr e ↦ fits.nodes n (others n h (λ is. true≢false (sym (eq-eqb t n (sym is)) ∙ e))) ];
      looks = λ n h. elim (cases_Bool (nat_eq t n)) [
        | inl e ↦
            let is : t ≡ n = eqb-true t n e in
            subst (λ k. length (run_at (set m.runs t run) k).looks ≡ length (reads scene.graph (setting scene) k)) is (ap (λ (r : RunState). length r.looks) (get_or-set_same m.runs t run no_run (omega (arith, fits.many))) ∙ (this (subst (Has running) (sym is) h)).0)
        | inr e ↦
            let apart : ¬ (n ≡ t) = λ is. true≢false (sym (eq-eqb t n (sym is)) ∙ e) in
            ap (λ (r : RunState). length r.looks) (get_or-set_other m.runs t n run no_run apart) ∙ fits.looks n (others n h apart)
      ];
      puts = λ n h. elim (cases_Bool (nat_eq t n)) [
        | inl e ↦
            let is : t ≡ n = eqb-true t n e in
            subst (λ k. length (run_at (set m.runs t run) k).puts ≡ length (writes scene.graph (setting scene) k)) is (ap (λ (r : RunState). length r.puts) (get_or-set_same m.runs t run no_run (omega (arith, fits.many))) ∙ (this (subst (Has running) (sym is) h)).1)
        | inr e ↦
            let apart : ¬ (n ≡ t) = λ is. true≢false (sym (eq-eqb t n (sym is)) ∙ e) in
            ap (λ (r : RunState). length r.puts) (get_or-set_other m.runs t n run no_run apart) ∙ fits.puts n (others n h apart)
      ];
    }

-- what is left when a number was taken out
pub left : (t : ℕ) (ns : List ℕ) (n : ℕ) → Has (filter (λ k. not (nat_eq t k)) ns) n → Has ns n × (¬ (n ≡ t))
left t [] n h = absurd h
left t (k ∷ ns) n h = at (nat_eq t k) refl h (left t ns n)
  where
    at : (b : Bool) → nat_eq t k ≡ b → Has (cond (not b) (k ∷ filter (λ m. not (nat_eq t m)) ns) (filter (λ m. not (nat_eq t m)) ns)) n → (Has (filter (λ m. not (nat_eq t m)) ns) n → Has ns n × (¬ (n ≡ t))) → Has (k ∷ ns) n × (¬ (n ≡ t))
    at true e p ih = (inr (ih p).0, (ih p).1)
    at false e p ih = elim p [ inl is ↦ (inl is, λ same. true≢false (sym (eq-eqb t k (sym (is ∙ same))) ∙ e)) | inr r ↦ (inr (ih r).0, (ih r).1) ]

-- a look in the table is a look of the model
pub looked_leaves : (scene : Scene) (m new : MakeState) (t : ℕ) (names : List FileName) (f : FileName) (c : Option ℕ) → names ≡ reads scene.graph (setting scene) t → t < length m.runs → HasLooked m new t names f c → making_of scene new ≡ looked (making_of scene m) t f c
looked_leaves scene m new t names f c same lt h =
    let before = making_of scene m in
    let looks = subst (λ (l : List FileName). look l h.run.looks ≡ changed (look l (run_at m.runs t).looks) f (Some c)) same h.looks in
    let puts = ap (λ ps. look (writes scene.graph (setting scene) t) ps) h.puts in
    ap (making_of scene) h.becomes
    ∙ (making_with scene m m.done m.running m.broken t h.run (changed (before.seen t) f (Some c)) (before.put t) lt looks puts
    ∙ (λ i. record { jobs = m.jobs; goals = m.goals; done = m.done; running = m.running; broken = m.broken; seen = changed_at before.seen t (changed (before.seen t) f (Some c)); put = unchanged_at before.put t i }))

-- so is a put
pub put_leaves : (scene : Scene) (m new : MakeState) (t : ℕ) (names : List FileName) (f : FileName) (c : ℕ) → names ≡ writes scene.graph (setting scene) t → t < length m.runs → HasPut m new t names f c → making_of scene new ≡ has_put (making_of scene m) t f c
put_leaves scene m new t names f c same lt h =
    let before = making_of scene m in
    let puts = subst (λ (l : List FileName). look l h.run.puts ≡ changed (look l (run_at m.runs t).puts) f (Some c)) same h.puts in
    let looks = ap (λ ls. look (reads scene.graph (setting scene) t) ls) h.looks in
    ap (making_of scene) h.becomes
    ∙ (making_with scene m m.done m.running m.broken t h.run (before.seen t) (changed (before.put t) f (Some c)) lt looks puts
    ∙ (λ i. record { jobs = m.jobs; goals = m.goals; done = m.done; running = m.running; broken = m.broken; seen = unchanged_at before.seen t i; put = changed_at before.put t (changed (before.put t) f (Some c)) }))

-- so is an end or a pass
pub finished_leaves : (scene : Scene) (m : MakeState) (t : ℕ) → t < length m.runs → making_of scene (finished m t) ≡ model.finished (making_of scene m) t
finished_leaves scene m t lt = making_with scene m (t ∷ m.done) (filter (λ n. not (nat_eq t n)) m.running) m.broken t no_run (λ f. None) (λ f. None) lt refl refl

-- so is a break
pub broken_leaves : (scene : Scene) (m : MakeState) (t : ℕ) → t < length m.runs → making_of scene (broken_off m t) ≡ model.broken_off (making_of scene m) t
broken_leaves scene m t lt = making_with scene m m.done (filter (λ n. not (nat_eq t n)) m.running) (t ∷ m.broken) t no_run (λ f. None) (λ f. None) lt refl refl

-- so is a begin
pub begun_leaves : (scene : Scene) (m : MakeState) (t : ℕ) (run : RunState) (i j : ℕ) → t < length m.runs → run ≡ record { looks = replicate i None; puts = replicate j None } → making_of scene (begun m t run) ≡ model.begun (making_of scene m) t
begun_leaves scene m t run i j lt e =
    let looks = ap (λ (r : RunState). look (reads scene.graph (setting scene) t) r.looks) e ∙ (λ k f. look_nothing (reads scene.graph (setting scene) t) i f k) in
    let puts = ap (λ (r : RunState). look (writes scene.graph (setting scene) t) r.puts) e ∙ (λ k f. look_nothing (writes scene.graph (setting scene) t) j f k) in
    making_with scene m m.done (t ∷ m.running) m.broken t run (λ f. None) (λ f. None) lt looks puts

pub looked_fits : (scene : Scene) (m new : MakeState) (t : ℕ) (names : List FileName) (f : FileName) (c : Option ℕ) → Fits scene m → Has m.running t → HasLooked m new t names f c → Fits scene new
looked_fits scene m new t names f c fits runs h =
    subst (Fits scene) (sym h.becomes) (with_fits scene m fits m.done m.running m.broken t h.run (fits.nodes t runs) (λ n k apart. k) (λ k. (h.many ∙ fits.looks t runs, ap length h.puts ∙ fits.puts t runs)))

pub put_fits : (scene : Scene) (m new : MakeState) (t : ℕ) (names : List FileName) (f : FileName) (c : ℕ) → Fits scene m → Has m.running t → HasPut m new t names f c → Fits scene new
put_fits scene m new t names f c fits runs h =
    subst (Fits scene) (sym h.becomes) (with_fits scene m fits m.done m.running m.broken t h.run (fits.nodes t runs) (λ n k apart. k) (λ k. (ap length h.looks ∙ fits.looks t runs, h.many ∙ fits.puts t runs)))

pub finished_fits : (scene : Scene) (m : MakeState) (t : ℕ) → Fits scene m → t < length scene.graph.nodes → Fits scene (finished m t)
finished_fits scene m t fits low = with_fits scene m fits (t ∷ m.done) (filter (λ n. not (nat_eq t n)) m.running) m.broken t no_run low (λ n k apart. (left t m.running n k).0) (λ k. absurd ((left t m.running t k).1 refl))

pub broken_fits : (scene : Scene) (m : MakeState) (t : ℕ) → Fits scene m → Has m.running t → Fits scene (broken_off m t)
broken_fits scene m t fits runs = with_fits scene m fits m.done (filter (λ n. not (nat_eq t n)) m.running) (t ∷ m.broken) t no_run (fits.nodes t runs) (λ n k apart. (left t m.running n k).0) (λ k. absurd ((left t m.running t k).1 refl))

pub begun_fits : (scene : Scene) (m : MakeState) (t : ℕ) (run : RunState) (i j : ℕ) → Fits scene m
    → t < length scene.graph.nodes → run ≡ record { looks = replicate i None; puts = replicate j None } → i
    ≡ length (reads scene.graph (setting scene) t) → j ≡ length (writes scene.graph (setting scene) t)
    → Fits scene (begun m t run)
begun_fits scene m t run i j fits low e is js =
    with_fits scene m fits m.done (t ∷ m.running) m.broken t run low (λ n k apart. elim k [ inl same ↦ absurd (apart (sym same)) | inr r ↦ r ])
    (λ k. (ap (λ (r : RunState). length r.looks) e ∙ (length-replicate i None ∙ is), ap (λ (r : RunState). length r.puts) e ∙ (length-replicate j None ∙ js)))

-- as many names as texts
pub as_many : (xs : List (String Global)) (names all : List FileName) → map string_bytes xs ≡ names → names ≡ all → length xs ≡ length all
as_many xs names all e same = sym (length-map xs string_bytes) ∙ ap length (e ∙ same)

-- where something is known of all names, it is these values
pub all_known : {A : Type 0} (F : FileName → Option A) (G : Option A → A) (h : (x : A) → G (Some x) ≡ x) (names : List FileName) (xs : List A) → map F names ≡ map (λ x. Some x) xs
    → ((f : FileName) → Has names f → ¬ (F f ≡ None)) × (map (λ f. G (F f)) names ≡ xs)
all_known F G h [] [] e = (λ f none is. absurd none, refl)
all_known F G h [] (x ∷ xs) e = absurd cc
all_known F G h (n ∷ names) [] e = absurd cc
all_known {A = A} F G h (n ∷ names) (x ∷ xs) e =
    let first : F n ≡ Some x = cc in
    let more : map F names ≡ map (λ x. Some x) xs = cc in
    let rest = all_known F G h names xs more in
    (λ f has is. elim has [ inl same ↦ some_none x (sym first ∙ (ap F same ∙ is)) | inr r ↦ rest.0 f r is ], λ i. (ap G first ∙ h x) i ∷ rest.1 i)
  where
    some_none : (y : A) → Some y ≡ None → ⊥
    some_none y k = absurd cc

-- what a recipe has seen, where it has seen all
pub seen_is : (scene : Scene) (m : MakeState) (t : ℕ) (names : List FileName) (values : List (Option (Option ℕ))) (xs : List (Option ℕ)) → names ≡ reads scene.graph (setting scene) t → values ≡ (run_at m.runs t).looks → map (look names values) names ≡ map (λ x. Some x) xs
    → HasSeenAll scene.graph (setting scene) (making_of scene m) t × (seen_by scene.graph (setting scene) (making_of scene m) t ≡ xs)
seen_is scene m t names values xs is_names is_values e =
    all_known (look (reads scene.graph (setting scene) t) (run_at m.runs t).looks) option_flatten (λ x. refl)
    (reads scene.graph (setting scene) t) xs (ap (λ (l : List FileName). map
    (look l (run_at m.runs t).looks) l) (sym is_names) ∙ (ap
    (λ (vs : List (Option (Option ℕ))). map (look names vs) names) (sym is_values) ∙ e))

-- what it has put, where it has put all
pub put_is : (scene : Scene) (m : MakeState) (t : ℕ) (names : List FileName) (values : List (Option ℕ)) (xs : List ℕ) → names ≡ writes scene.graph (setting scene) t → values ≡ (run_at m.runs t).puts → map (look names values) names ≡ map (λ x. Some x) xs
    → HasPutAll scene.graph (setting scene) (making_of scene m) t × (put_by scene.graph (setting scene) (making_of scene m) t ≡ xs)
put_is scene m t names values xs is_names is_values e =
    all_known (look (writes scene.graph (setting scene) t) (run_at m.runs t).puts) (λ o. unwrap_or o 0)
    (λ x. refl) (writes scene.graph (setting scene) t) xs
    (ap (λ (l : List FileName). map (look l (run_at m.runs t).puts) l) (sym is_names)
    ∙ (ap (λ (vs : List (Option ℕ)). map (look names vs) names) (sym is_values) ∙ e))

-- what is known, where this was seen and put
pub to_known : (scene : Scene) (m : MakeState) (d : Disk) (t : ℕ) (xs : List (Option ℕ)) (ys : List ℕ) → seen_by scene.graph (setting scene) (making_of scene m) t ≡ xs → put_by scene.graph (setting scene) (making_of scene m) t ≡ ys
    → HasPutWhatIsKnown scene.graph (setting scene) (making_of scene m) d t → IfSome (outcome d.known t xs) (λ known. known ≡ ys)
to_known scene m d t xs ys e f h = subst (λ ps. IfSome (outcome d.known t xs) (λ known. known ≡ ps)) f (subst (λ ss. IfSome (outcome d.known t ss) (λ known. known ≡ put_by scene.graph (setting scene) (making_of scene m) t)) e h)

pub from_known : (scene : Scene) (m : MakeState) (d : Disk) (t : ℕ) (xs : List (Option ℕ)) (ys : List ℕ) → seen_by scene.graph (setting scene) (making_of scene m) t ≡ xs → put_by scene.graph (setting scene) (making_of scene m) t ≡ ys
    → IfSome (outcome d.known t xs) (λ known. known ≡ ys) → HasPutWhatIsKnown scene.graph (setting scene) (making_of scene m) d t
from_known scene m d t xs ys e f h = subst (λ ss. IfSome (outcome d.known t ss) (λ known. known ≡ put_by scene.graph (setting scene) (making_of scene m) t)) (sym e) (subst (λ ps. IfSome (outcome d.known t xs) (λ known. known ≡ ps)) (sym f) h)

-- a make at its begin fits
pub started_fits : (scene : Scene) (jobs : ℕ) (goals : List ℕ) → IsGraph scene.graph → HasAll scene.graph.goals goals → Fits scene (start_of jobs goals (length scene.graph.nodes))
started_fits scene jobs goals is all =
    record {
      goals = λ n h. is.sound.goals n (HasAll-has scene.graph.goals goals n all h);
      many = length-replicate (length scene.graph.nodes) no_run;
      nodes = λ t h. absurd h;
      looks = λ t h. absurd h;
      puts = λ t h. absurd h;
    }

no_run_at : (n t : ℕ) → run_at (replicate n no_run) t ≡ no_run
no_run_at zero t = refl
no_run_at (suc n) zero = refl
no_run_at (suc n) (suc t) = no_run_at n t

-- the begin of a make is allowed, and leaves it
pub started_takes : (scene : Scene) (d : DiskState) (make : Option MakeState) (jobs : ℕ) (goals : List ℕ) (many : ℕ) → make ≡ None → 0 < jobs → IsPart goals scene.graph.goals → Takes scene.graph (setting scene) (world_in scene d make) (busy scene (start_of jobs goals many) d) (model.Make jobs goals)
started_takes scene d make jobs goals many none some part =
    let seen = λ (t : ℕ). ap (λ (r : RunState). look (reads scene.graph (setting scene) t) r.looks) (no_run_at many t) in
    let put = λ (t : ℕ). ap (λ (r : RunState). look (writes scene.graph (setting scene) t) r.puts) (no_run_at many t) in
    subst (λ mk. Takes scene.graph (setting scene) (world_in scene d mk) (busy scene (start_of jobs goals many) d) (model.Make jobs goals)) (sym none)
    (record { allowed = (some, part); leaves = λ i. Busy (record { jobs = jobs; goals = goals; done = []; running = []; broken = []; seen = λ t. seen t i; put = λ t. put t i }) (disk_of d) })

pub is_none : {A : Type 0} (o : Option A) → is_some o ≡ false → o ≡ None
is_none None e = refl
is_none (Some x) e = absurd cc
