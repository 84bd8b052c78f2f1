-- Looks of a running recipe at all that it reads.
use Rattle.std.proofs.Common.{◌≡◌, ℕ, ◌<◌, Bool, true, false, ◌||◌, cond, List, [], ◌∷◌, ◌++◌, length, map, Option, Some, None, Ok, Err, refl, sym, ap, ◌∙◌, subst, inl, inr, nat_eq}
use Rattle.std.specs.Str.{bytes_eq}
use Rattle.std.specs.Option.{option_flatten}
use Rattle.std.proofs.lemmas.Bool.{cases_Bool, eq-eqb, cond-true, cond-false}
use Rattle.std.proofs.lemmas.List.{get_or-set_same}
use Rattle.std.proofs.lemmas.Slice.Eq.{bytes_eq-Decides}
use Rattle.mk_lemmas.proofs.Texts.{bytes_eq-sym}
use Rattle.mk_world.proofs.Keeping.{running_in}
use Rattle.mk_lines.proofs.NameTests.{has_name-from_Has}
use Rattle.mk_lines.specs.Names.{has_name}
use Rattle.mk_graph.specs.Membership.{Has}
use Rattle.mk_graph.specs.Graph.{Graph}
use Rattle.mk_build.specs.Setting.{FileName, Setting, reads}
use Rattle.mk_build.specs.World.{Disk, Making, World, Idle, Busy, content, changed, written}
use Rattle.mk_build.specs.Steps.{Look, End, changed_at, looked, has_put}
use Rattle.mk_build.specs.SerialMake.{puts}
use Rattle.mk_world.specs.declared.fault.StepFault.TheVariants.{NotRunning}
use Rattle.mk_world.specs.Tables.{look}
use Rattle.mk_world.specs.State.{Scene, MakeState, RunState, DiskState, setting, making_of, disk_of, busy, run_at, no_run, with_run}
use Rattle.mk_world.specs.Fits.{HasSeen}
use Rattle.mk_world.specs.Running.{TakesInTurn, ends, takes, refused}
use Rattle.mk_world.proofs.Changes.{unchanged_at, making_with, seen_is}

-- what is known of names once all of these were looked at, one after another
saw : Disk → List FileName → (FileName → Option (Option ℕ)) → FileName → Option (Option ℕ)
saw d [] at = at
saw d (f ∷ fs) at = saw d fs (changed at f (Some (content d f)))

saw_at : (d : Disk) (fs : List FileName) (at : FileName → Option (Option ℕ)) (h : FileName) → saw d fs at h ≡ cond (has_name fs h) (Some (content d h)) (at h)
unfolding saw
saw_at d [] at h = refl
saw_at d (f ∷ fs) at h = saw_at d fs (changed at f (Some (content d f))) h ∙ elim (cases_Bool (bytes_eq h f)) [
  | inl e ↦
      let is : f ≡ h = sym ((bytes_eq-Decides h f).0 e) in
      let here : changed at f (Some (content d f)) h ≡ Some (content d h) = cond-true (bytes_eq f h) (Some (content d f)) (at h) (bytes_eq-sym f h ∙ e) ∙ ap (λ (n : FileName). Some (content d n)) is in
      ap (cond (has_name fs h) (Some (content d h))) here ∙ (either (has_name fs h) (Some (content d h)) ∙ sym (cond-true (bytes_eq h f || has_name fs h) (Some (content d h)) (at h) (ap (λ (b : Bool). b || has_name fs h) e)))
  | inr e ↦
      let other : changed at f (Some (content d f)) h ≡ at h = cond-false (bytes_eq f h) (Some (content d f)) (at h) (bytes_eq-sym f h ∙ e) in
      ap (cond (has_name fs h) (Some (content d h))) other ∙ ap (λ (b : Bool). cond (b || has_name fs h) (Some (content d h)) (at h)) (sym e)
]
  where
    either : (b : Bool) (x : Option (Option ℕ)) → cond b x x ≡ x
    either true x = refl
    either false x = refl

module _ (g : Graph) (s : Setting) (t : ℕ) (d : Disk) (m : Making) where
  -- the make where the recipe has seen this
  abbrev seeing : (FileName → Option (Option ℕ)) → Making
  seeing at = record { jobs = m.jobs; goals = m.goals; done = m.done; running = m.running; broken = m.broken; seen = changed_at m.seen t at; put = m.put }

  looks_again : (at : FileName → Option (Option ℕ)) (f : FileName) (c : Option ℕ) → looked (seeing at) t f c ≡ seeing (changed at f (Some c))
  looks_again at f c = λ i. record { jobs = m.jobs; goals = m.goals; done = m.done; running = m.running; broken = m.broken; seen = λ n. same n i; put = m.put }
    where
      own : changed_at m.seen t at t ≡ at
      own = cond-true (nat_eq t t) at (m.seen t) (eq-eqb t t refl)

      same : (n : ℕ) → changed_at (changed_at m.seen t at) t (changed (changed_at m.seen t at t) f (Some c)) n ≡ changed_at m.seen t (changed at f (Some c)) n
      same n = elim (cases_Bool (nat_eq t n)) [
        | inl e ↦ cond-true (nat_eq t n) (changed (changed_at m.seen t at t) f (Some c)) _ e ∙ (ap (λ (b : FileName → Option (Option ℕ)). changed b f (Some c)) own ∙ sym (cond-true (nat_eq t n) (changed at f (Some c)) (m.seen n) e))
        | inr e ↦ cond-false (nat_eq t n) (changed (changed_at m.seen t at t) f (Some c)) (changed_at m.seen t at n) e ∙ (cond-false (nat_eq t n) at (m.seen n) e ∙ sym (cond-false (nat_eq t n) (changed at f (Some c)) (m.seen n) e))
      ]

  each_taken : Has m.running t → (fs : List FileName) (at : FileName → Option (Option ℕ)) → ((f : FileName) → Has fs f → Has (reads g s t) f) → TakesInTurn g s (Busy (seeing at) d) (Busy (seeing (saw d fs at)) d) (map (λ f. Look t f) fs) (Ok tt)
  unfolding saw
  each_taken runs [] at within = ends
  each_taken runs (f ∷ fs) at within =
      let rest = each_taken runs fs (changed at f (Some (content d f))) (λ h k. within h (inr k)) in
      takes (runs, within f (inl refl)) (subst (λ (n : Making). TakesInTurn g s (Busy n d) (Busy (seeing (saw d fs (changed at f (Some (content d f))))) d) (map (λ h. Look t h) fs) (Ok tt)) (sym (looks_again at f (content d f))) rest)

-- what stands beside names where all were looked at
look_all : (d : Disk) (names : List FileName) (h : FileName) → look names (map (λ (c : Option ℕ). Some c) (map (content d) names)) h ≡ cond (has_name names h) (Some (content d h)) None
look_all d [] h = refl
look_all d (n ∷ names) h = elim (cases_Bool (bytes_eq h n)) [
  | inl e ↦
      let is : n ≡ h = sym ((bytes_eq-Decides h n).0 e) in
      cond-true (bytes_eq h n) (Some (content d n)) _ e ∙ (ap (λ (f : FileName). Some (content d f)) is ∙ sym (cond-true (bytes_eq h n || has_name names h) (Some (content d h)) None (ap (λ (b : Bool). b || has_name names h) e)))
  | inr e ↦ cond-false (bytes_eq h n) (Some (content d n)) _ e ∙ (look_all d names h ∙ ap (λ (b : Bool). cond (b || has_name names h) (Some (content d h)) None) (sym e))
]

-- of what isn't there nothing is known
nothing_known : {A : Type 0} (names : List FileName) (xs : List (Option A)) (h : FileName) → has_name names h ≡ false → look names xs h ≡ None
nothing_known names [] h none = refl
nothing_known [] (x ∷ xs) h none = refl
nothing_known {A = A} (n ∷ names) (x ∷ xs) h none = at (bytes_eq h n) none (nothing_known names xs h)
  where
    at : (b : Bool) → (b || has_name names h) ≡ false → (has_name names h ≡ false → look names xs h ≡ None) → cond b x (look names xs h) ≡ None
    at true e rest = absurd cc
    at false e rest = rest e

-- where all were looked at, it is known of each what it holds
all_looked : (d : Disk) (names fs : List FileName) → ((f : FileName) → Has fs f → Has names f) → map (look names (map (λ (c : Option ℕ). Some c) (map (content d) names))) fs ≡ map (λ (c : Option ℕ). Some c) (map (content d) fs)
all_looked d names [] within = refl
all_looked d names (f ∷ fs) within =
    let first : look names (map (λ (c : Option ℕ). Some c) (map (content d) names)) f ≡ Some (content d f) = look_all d names f ∙ cond-true (has_name names f) (Some (content d f)) None (has_name-from_Has names f (within f (inl refl))) in
    λ i. first i ∷ all_looked d names fs (λ h k. within h (inr k)) i

module _ (scene : Scene) (m new : MakeState) (d : DiskState) (t : ℕ) (seen : List (Option ℕ))
    (low : t < length m.runs) (sees : seen ≡ map (content (disk_of d)) (reads scene.graph (setting scene) t))
    (becomes : new ≡ with_run m t (record {
      looks = map (λ (c : Option ℕ). Some c) seen;
      puts =
          (run_at m.runs t).puts;
    })) where
  -- looks at all files that a recipe reads are taken where it runs,
  pub looks_taken : Has m.running t → TakesInTurn scene.graph (setting scene) (busy scene m d) (busy scene new d) (map (λ f. Look t f) (reads scene.graph (setting scene) t)) (Ok tt)
  looks_taken runs =
      let g = scene.graph in
      let s = setting scene in
      let files = reads g s t in
      let old = making_of scene m in
      let first : seeing g s t (disk_of d) old (old.seen t) ≡ old = λ i. record { jobs = m.jobs; goals = m.goals; done = m.done; running = m.running; broken = m.broken; seen = unchanged_at old.seen t i; put = old.put } in
      let looks : look files (map (λ (c : Option ℕ). Some c) seen) ≡ saw (disk_of d) files (old.seen t) = ap (λ (l : List (Option ℕ)). look files (map (λ (c : Option ℕ). Some c) l)) sees ∙ (λ i h. alike h i) in
      let run : RunState = record { looks = map (λ (c : Option ℕ). Some c) seen; puts = (run_at m.runs t).puts } in
      let leaves = ap (making_of scene) becomes ∙ (making_with scene m m.done m.running m.broken t run
      (saw (disk_of d) files (old.seen t)) (old.put t) low looks refl
      ∙ (λ i. record {
        jobs = m.jobs;
        goals = m.goals;
        done = m.done;
        running = m.running;
        broken = m.broken;
        seen =
            changed_at old.seen t (saw (disk_of d) files (old.seen t));
        put = unchanged_at old.put t i;
      })) in
      subst (λ (n : Making). TakesInTurn g s (Busy n (disk_of d)) (busy scene new d)
      (map (λ f. Look t f) files) (Ok tt)) first (subst (λ (n : Making). TakesInTurn g s
      (Busy (seeing g s t (disk_of d) old (old.seen t)) (disk_of d)) (Busy n (disk_of d))
      (map (λ f. Look t f) files) (Ok tt)) (sym leaves) (each_taken g s t (disk_of d) old runs files
      (old.seen t) (λ f h. h)))
    where
      alike : (h : FileName) → look (reads scene.graph (setting scene) t) (map (λ (c : Option ℕ). Some c) (map (content (disk_of d)) (reads scene.graph (setting scene) t))) h ≡ saw (disk_of d) (reads scene.graph (setting scene) t) ((making_of scene m).seen t) h
      alike h =
          let files = reads scene.graph (setting scene) t in
          let at = (making_of scene m).seen t in
          look_all (disk_of d) files h ∙ (both (has_name files h) refl ∙ sym (saw_at (disk_of d) files at h))
        where
          both : (b : Bool) → has_name (reads scene.graph (setting scene) t) h ≡ b → cond b (Some (content (disk_of d) h)) None ≡ cond b (Some (content (disk_of d) h)) ((making_of scene m).seen t h)
          both true e = refl
          both false e = sym (nothing_known (reads scene.graph (setting scene) t) (run_at m.runs t).looks h e)

  -- and it has seen them then
  pub looks_seen : HasSeen scene new t seen
  looks_seen =
      let files = reads scene.graph (setting scene) t in
      let run : RunState = record { looks = map (λ (c : Option ℕ). Some c) seen; puts = (run_at m.runs t).puts } in
      let own : run_at new.runs t ≡ run = ap (λ (k : MakeState). run_at k.runs t) becomes ∙ get_or-set_same m.runs t run no_run low in
      let known : map (look files (map (λ (c : Option ℕ). Some c) seen)) files
      ≡ map (λ (c : Option ℕ). Some c) seen = ap (λ (l : List (Option ℕ)). map
      (look files (map (λ (c : Option ℕ). Some c) l)) files) sees
      ∙ (all_looked (disk_of d) files files (λ f h. h) ∙ ap (map (λ (c : Option ℕ). Some c)) (sym sees))
      in
      let both = seen_is scene new t files (map (λ (c : Option ℕ). Some c) seen) seen refl (sym (ap (λ (r : RunState). r.looks) own)) known in
      record { all = both.0; is = both.1 }

-- what recipes have seen, and which run, in a world in which a make is in progress
abbrev seen_in : World → ℕ → FileName → Option (Option ℕ)
seen_in (Idle d) = λ n f. None
seen_in (Busy m d) = m.seen

-- puts change nothing of that
puts_keep : (g : Graph) (s : Setting) (t : ℕ) (new : World) (files : List FileName) (cs : List ℕ) (m : Making) (d : Disk) → TakesInTurn g s (Busy m d) new (puts t files cs) (Ok tt) → (seen_in new ≡ m.seen) × (running_in new ≡ m.running)
puts_keep g s t new [] cs m d ends = (refl, refl)
puts_keep g s t new (f ∷ files) [] m d ends = (refl, refl)
puts_keep g s t new (f ∷ files) (c ∷ cs) m d (takes allowed more) = puts_keep g s t new files cs (has_put m t f c) (written d f c) more

module _ (scene : Scene) (m new : MakeState) (d e : DiskState) (t : ℕ) (files : List FileName) (cs : List ℕ) (h : TakesInTurn scene.graph (setting scene) (busy scene m d) (busy scene new e) (puts t files cs) (Ok tt)) where
  -- so the recipe has seen the same behind its puts, and still runs
  pub still_seen : (seen : List (Option ℕ)) → HasSeen scene m t seen → HasSeen scene new t seen
  still_seen seen has =
      let g = scene.graph in
      let s = setting scene in
      let same = (puts_keep g s t (busy scene new e) files cs (making_of scene m) (disk_of d) h).0 in
      record {
        all = subst (λ (at : ℕ → FileName → Option (Option ℕ)). (f : FileName) → Has (reads g s t) f → ¬ (at t f ≡ None)) (sym same) has.all;
        is = ap (λ (at : ℕ → FileName → Option (Option ℕ)). map (λ f. option_flatten (at t f)) (reads g s t)) same ∙ has.is;
      }

  pub still_runs : Has m.running t → Has new.running t
  still_runs runs = subst (λ (l : List ℕ). Has l t) (sym (puts_keep scene.graph (setting scene) t (busy scene new e) files cs (making_of scene m) (disk_of d) h).1) runs

-- the first step of what is left of a run is refused where the recipe doesn't run
pub rest_refused : (g : Graph) (s : Setting) (m : Making) (d : Disk) (t : ℕ) (fs ws : List FileName) (cs : List ℕ) → ¬ (Has m.running t) → TakesInTurn g s (Busy m d) (Busy m d) (map (λ f. Look t f) fs ++ (puts t ws cs ++ End t ∷ [])) (Err NotRunning)
rest_refused g s m d t (f ∷ fs) ws cs not = refused (inr (inl (not, refl)))
rest_refused g s m d t [] (f ∷ ws) (c ∷ cs) not = refused (inr (inl (not, refl)))
rest_refused g s m d t [] (f ∷ ws) [] not = refused (inr (inl (not, refl)))
rest_refused g s m d t [] [] cs not = refused (inr (inl (not, refl)))
