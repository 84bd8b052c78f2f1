-- The whole graph follows each step of a part.
use Rattle.std.proofs.Common.{◌≡◌, ℕ, ◌<◌, List, [], ◌∷◌, Bool, true, false, length, map, filter, Option, Some, None, inl, inr, ⊎_elim, refl, sym, ◌∙◌, ap, subst, arith}
use Rattle.std.specs.Prelude.{if◌then◌else◌, nat_eq, not, is_some, unwrap_or, IfSome, ◌&&◌}
use Rattle.std.specs.Option.{option_flatten}
use Rattle.std.proofs.lemmas.Bool.{cases_Bool, cond-true, cond-false}
use Rattle.std.proofs.lemmas.List.{length-map}
use Rattle.mk_lemmas.proofs.Members.{Has-from_map, Has-map}
use Rattle.mk_graph.proofs.Parts.{HasAll-from_Has}
use Rattle.mk_graph.specs.Membership.{Has}
use Rattle.mk_graph.specs.Graph.{Graph, IsGraph}
use Rattle.mk_graph.specs.Schedules.{IsPart}
use Rattle.mk_graph.proofs.Turning.{HasAll-has}
use Rattle.mk_build.specs.Setting.{FileName, Setting, name, reads, writes}
use Rattle.mk_build.specs.World.{Outcome, Disk, Making, World, Idle, Busy, IsStartDisk, content, changed, without, outcome, same_seen, disk_of}
use Rattle.mk_build.specs.Steps.{Step, Edit, Make, Begin, Look, Put, End, Break, Pass, Stop, EndMake, Ready, MayEnd, Allowed, changed_at, seen_by, put_by, noted, after, after_all, IsLegal, disk_after}
use Rattle.mk_build.proofs.InOrder.{Has-without}
use Rattle.mk_infer.specs.Laws.{IsPartOf}
use Rattle.mk_build_parts.specs.Alike.{IsSameStep, edits, makes, begins, looks, puts, ends, breaks, passes, stops, ends_make, AreSameSteps, HasItsGoalsIn, HaveSameFiles}
use Rattle.mk_build_parts.proofs.Numbers.{to, same, to_named, same_test, changed_to, filter_to, names_to, all_to, start_to, must_to, must_from, reads_are, writes_are, unmapped}

-- the disk with other known outcomes
abbrev with_known : Disk → List Outcome → Disk
with_known d known = record d { known = known }

-- an empty list comes from an empty one
map_empty : (f : ℕ → ℕ) (ns : List ℕ) → map f ns ≡ [] → ns ≡ []
map_empty f [] e = refl
map_empty f (n ∷ ns) e = absurd (cc)

module _ (h g : Graph) (s : Setting) (is_h : IsGraph h) (is_g : IsGraph g) (part : IsPartOf h g) (goals_in : HasItsGoalsIn h g) where
  -- the number in the whole graph
  abbrev there : ℕ → ℕ
  there = to h g is_h is_g part

  -- each of these is a node of the part
  abbrev Low : List ℕ → Type 0
  Low ns = (x : ℕ) → Has ns x → x < length h.nodes

  -- as much is known of each recipe
  abbrev KnowsAlike : Disk → List Outcome → Type 0
  KnowsAlike d known = (t : ℕ) → t < length h.nodes → (saw : List (Option ℕ)) → outcome known (there t) saw ≡ outcome d.known t saw

  -- the make with the other numbers
  abbrev twin : Making → (ℕ → FileName → Option (Option ℕ)) → (ℕ → FileName → Option ℕ) → Making
  twin m seen put = record { jobs = m.jobs; goals = map there m.goals; done = map there m.done; running = map there m.running; broken = map there m.broken; seen = seen; put = put }

  -- a world over the whole graph in which the same make is in progress
  record Twin (m : Making) (d : Disk) (w : World) : Type 0 where
    seen : ℕ → FileName → Option (Option ℕ)
    put : ℕ → FileName → Option ℕ
    known : List Outcome
    is : w ≡ Busy (twin m seen put) (with_known d known)
    saw : (t : ℕ) → t < length h.nodes → seen (there t) ≡ m.seen t
    has_put : (t : ℕ) → t < length h.nodes → put (there t) ≡ m.put t
    knows : KnowsAlike d known
    goals : Low m.goals
    done : Low m.done
    running : Low m.running
    broken : Low m.broken

  -- a world over the whole graph that is alike
  abbrev IsTwin : World → World → Type 0
  IsTwin (Idle d) w = (known : List Outcome) × (w ≡ Idle (with_known d known)) × KnowsAlike d known
  IsTwin (Busy m d) w = Twin m d w

  -- a step over the whole graph that does the same
  abbrev Follows : World → Step → World → Type 0
  Follows w step v = (other : Step) × IsSameStep h g step other × Allowed g s v other × IsTwin (after h s w step) (after g s v other)

  -- a list with one more
  low_more : (t : ℕ) (ns : List ℕ) → t < length h.nodes → Low ns → Low (t ∷ ns)
  low_more t ns low all x (inl here) = subst (λ (k : ℕ). k < length h.nodes) here low
  low_more t ns low all x (inr more) = all x more

  -- a list without one
  low_without : (t : ℕ) (ns : List ℕ) → Low ns → Low (filter (λ n. not (nat_eq t n)) ns)
  low_without t ns all x has = all x (Has-without t x ns has).0

  -- an edit
  edit_follows : (d : Disk) (v : World) (f : FileName) (c : ℕ) → IsTwin (Idle d) v → Allowed h s (Idle d) (Edit f c) → Follows (Idle d) (Edit f c) v
  edit_follows d v f c tw may = subst (λ (w : World). Follows (Idle d) (Edit f c) w) (sym tw.1) (Edit f c, edits, may, (tw.0, refl, tw.2))

  -- the goals of a make
  goals_low : (goals : List ℕ) → IsPart goals h.goals → Low goals
  goals_low goals is x has = is_h.sound.goals x (HasAll-has h.goals goals x is.within has)

  -- they are goals of the whole graph
  goals_there : (goals : List ℕ) → IsPart goals h.goals → IsPart (map there goals) g.goals
  goals_there goals is = record {
    not_empty = λ e. is.not_empty (map_empty there goals e);
    within = HasAll-from_Has g.goals (map there goals) (λ k has. let one = Has-from_map there goals k has in let found = goals_in one.0 (HasAll-has h.goals goals one.0 is.within one.1) in subst (λ (x : ℕ). Has g.goals x) (sym (to_named h g is_h is_g part one.0 found.0 (goals_low goals is one.0 one.1) (is_g.sound.goals found.0 found.1) found.2) ∙ one.2) found.1);
  }

  -- a make
  make_follows : (d : Disk) (v : World) (jobs : ℕ) (goals : List ℕ) → IsTwin (Idle d) v → Allowed h s (Idle d) (Make jobs goals) → Follows (Idle d) (Make jobs goals) v
  make_follows d v jobs goals tw may =
      let low = goals_low goals may.1 in
      subst (λ (w : World). Follows (Idle d) (Make jobs goals) w) (sym tw.1) (
        Make jobs (map there goals),
        makes (names_to h g is_h is_g part goals low),
        (may.0, goals_there goals may.1),
        record { seen = λ t f. None; put = λ t f. None; known = tw.0; is = refl; saw = λ t l. refl; has_put = λ t l. refl; knows = tw.2; goals = low; done = λ x has. absurd has; running = λ x has. absurd has; broken = λ x has. absurd has },
      )

  -- one of a list there is one of the list here
  unmap : (ns : List ℕ) (n : ℕ) → Low ns → n < length h.nodes → Has (map there ns) (there n) → Has ns n
  unmap ns n all low has = unmapped h g is_h is_g part ns n all low has

  -- what is ready is ready there
  ready_there : (m : Making) (d : Disk) (v : World) (tw : Twin m d v) (n : ℕ) → Ready h m n → (n < length h.nodes) × Ready g (twin m tw.seen tw.put) (there n)
  ready_there m d v tw n ready =
      let start = start_to h g is_h is_g part m.goals m.done tw.goals n tw.done ready.0 in
      (start.0, (start.1, λ has. ready.1 (unmap m.running n tw.running start.0 has), λ has. ready.2 (unmap m.broken n tw.broken start.0 has)))

  -- what was seen or put, changed at one recipe
  changed_there : {A : Type 0} (a b : ℕ → A) (t u : ℕ) (x y : A) → t < length h.nodes → u < length h.nodes → x ≡ y → a (there u) ≡ b u → changed_at a (there t) x (there u) ≡ changed_at b t y u
  changed_there a b t u x y low u_low e rest = changed_to h g is_h is_g part a b t u x y low u_low e rest

  -- what a running recipe has seen and put
  seen_there : (m : Making) (d : Disk) (v : World) (tw : Twin m d v) (t : ℕ) → t < length h.nodes → seen_by g s (twin m tw.seen tw.put) (there t) ≡ seen_by h s m t
  seen_there m d v tw t low =
      ap (λ (k : FileName → Option (Option ℕ)). map (λ f. option_flatten (k f)) (reads g s (there t))) (tw.saw t low) ∙ ap (λ (l : List FileName). map (λ f. option_flatten (m.seen t f)) l) (reads_are h g is_h is_g part s t low)

  put_there : (m : Making) (d : Disk) (v : World) (tw : Twin m d v) (t : ℕ) → t < length h.nodes → put_by g s (twin m tw.seen tw.put) (there t) ≡ put_by h s m t
  put_there m d v tw t low =
      ap (λ (k : FileName → Option ℕ). map (λ f. unwrap_or (k f) 0) (writes g s (there t))) (tw.has_put t low) ∙ ap (λ (l : List FileName). map (λ f. unwrap_or (m.put t f) 0) l) (writes_are h g is_h is_g part s t low)

  -- known outcomes and one more, of the same recipe
  module _ (d : Disk) (known : List Outcome) (knows : KnowsAlike d known) (t : ℕ) (low : t < length h.nodes) (a : List (Option ℕ)) (b : List ℕ) where
    -- the outcome here, and there
    own : Outcome
    own = record { recipe = t; seen = a; written = b }

    other : Outcome
    other = record { recipe = there t; seen = a; written = b }

    -- both are known or not
    both_known : is_some (outcome known (there t) a) ≡ is_some (outcome d.known t a)
    both_known = ap (λ (o : Option (List ℕ)). is_some o) (knows t low a)

    -- as much is known then
    one_more : KnowsAlike (noted d own) (noted (with_known d known) other).known
    unfolding own other
    one_more u u_low saw =
        let q = is_some (outcome d.known t a) in
        let first : outcome (noted (with_known d known) other).known (there u) saw ≡ outcome (if q then known else (other ∷ known)) (there u) saw = ap (λ (c : Bool). outcome (if c then known else (other ∷ known)) (there u) saw) both_known in
        ⊎_elim
        (λ yes. first ∙ (ap (λ (l : List Outcome). outcome l (there u) saw) (cond-true q known (other ∷ known) yes) ∙ (knows u u_low saw ∙ sym (ap (λ (l : List Outcome). outcome l u saw) (cond-true q d.known (own ∷ d.known) yes)))))
        (λ no. first ∙ (ap (λ (l : List Outcome). outcome l (there u) saw) (cond-false q known (other ∷ known) no) ∙ (found_there u u_low saw ∙ sym (ap (λ (l : List Outcome). outcome l u saw) (cond-false q d.known (own ∷ d.known) no)))))
        (cases_Bool q) where
          found_there : (u : ℕ) → u < length h.nodes → (saw : List (Option ℕ)) → outcome (other ∷ known) (there u) saw ≡ outcome (own ∷ d.known) u saw
          found_there u u_low saw =
              ap (λ (c : Bool). if c && same_seen a saw then Some b else outcome known (there u) saw) (same_test h g is_h is_g part t u low u_low) ∙ ap (λ (o : Option (List ℕ)). if nat_eq t u && same_seen a saw then Some b else o) (knows u u_low saw)

  -- the same where what was seen and put is equal
  noted_alike : (d : Disk) (known : List Outcome) → KnowsAlike d known → (t : ℕ) → t < length h.nodes → (a c : List (Option ℕ)) (b e : List ℕ) → c ≡ a → e ≡ b → KnowsAlike (noted d (record { recipe = t; seen = a; written = b })) (noted (with_known d known) (record { recipe = there t; seen = c; written = e })).known
  unfolding own other
  noted_alike d known knows t low a c b e same_saw same_wrote =
      subst (λ (x : List (Option ℕ)). KnowsAlike (noted d (record { recipe = t; seen = a; written = b })) (noted (with_known d known) (record { recipe = there t; seen = x; written = e })).known) (sym same_saw)
      (subst (λ (y : List ℕ). KnowsAlike (noted d (record { recipe = t; seen = a; written = b })) (noted (with_known d known) (record { recipe = there t; seen = a; written = y })).known) (sym same_wrote)
      (one_more d known knows t low a b))

  -- the steps of a make
  module _ (m : Making) (d : Disk) (v : World) (tw : Twin m d v) where
    -- the make over the whole graph
    other_make : Making
    other_make = twin m tw.seen tw.put

    -- the disk
    other_disk : Disk
    other_disk = with_known d tw.known

    -- it is enough to follow there
    follow_from : (step : Step) → Follows (Busy m d) step (Busy other_make other_disk) → Follows (Busy m d) step v
    unfolding other_make other_disk
    follow_from step follows = subst (λ (w : World). Follows (Busy m d) step w) (sym tw.is) follows

    -- a begin
    begin_follows : (t : ℕ) → Allowed h s (Busy m d) (Begin t) → Follows (Busy m d) (Begin t) (Busy other_make other_disk)
    unfolding other_make other_disk
    begin_follows t may =
        let ready = ready_there m d v tw t may.0 in
        let is = same h g is_h is_g part t ready.0 in (
          Begin (there t),
          begins is.name,
          (ready.1, sym is.recipe ∙ may.1, let many = length-map m.running there in let free = may.2 in omega arith),
          record {
            seen = changed_at tw.seen (there t) (λ f. None);
            put = changed_at tw.put (there t) (λ f. None);
            known = tw.known;
            is = refl;
            saw = λ u low. changed_there tw.seen m.seen t u (λ f. None) (λ f. None) ready.0 low refl (tw.saw u low);
            has_put = λ u low. changed_there tw.put m.put t u (λ f. None) (λ f. None) ready.0 low refl (tw.has_put u low);
            knows = tw.knows;
            goals = tw.goals;
            done = tw.done;
            running = low_more t m.running ready.0 tw.running;
            broken = tw.broken;
          },
        )

    -- a look
    look_follows : (t : ℕ) (f : FileName) → Allowed h s (Busy m d) (Look t f) → Follows (Busy m d) (Look t f) (Busy other_make other_disk)
    unfolding other_make other_disk
    look_follows t f may =
        let low = tw.running t may.0 in (
          Look (there t) f,
          looks (same h g is_h is_g part t low).name,
          (Has-map there m.running t may.0, subst (λ (l : List FileName). Has l f) (sym (reads_are h g is_h is_g part s t low)) may.1),
          record {
            seen = changed_at tw.seen (there t) (changed (tw.seen (there t)) f (Some (content d f)));
            put = tw.put;
            known = tw.known;
            is = refl;
            saw = λ u u_low. changed_there tw.seen m.seen t u (changed (tw.seen (there t)) f (Some (content d f))) (changed (m.seen t) f (Some (content d f))) low u_low (ap (λ (k : FileName → Option (Option ℕ)). changed k f (Some (content d f))) (tw.saw t low)) (tw.saw u u_low);
            has_put = tw.has_put;
            knows = tw.knows;
            goals = tw.goals;
            done = tw.done;
            running = tw.running;
            broken = tw.broken;
          },
        )

    -- a writing
    put_follows : (t : ℕ) (f : FileName) (c : ℕ) → Allowed h s (Busy m d) (Put t f c) → Follows (Busy m d) (Put t f c) (Busy other_make other_disk)
    unfolding other_make other_disk
    put_follows t f c may =
        let low = tw.running t may.0 in (
          Put (there t) f c,
          puts (same h g is_h is_g part t low).name,
          (Has-map there m.running t may.0, subst (λ (l : List FileName). Has l f) (sym (writes_are h g is_h is_g part s t low)) may.1, may.2),
          record {
            seen = tw.seen;
            put = changed_at tw.put (there t) (changed (tw.put (there t)) f (Some c));
            known = tw.known;
            is = refl;
            saw = tw.saw;
            has_put = λ u u_low. changed_there tw.put m.put t u (changed (tw.put (there t)) f (Some c)) (changed (m.put t) f (Some c)) low u_low (ap (λ (k : FileName → Option ℕ). changed k f (Some c)) (tw.has_put t low)) (tw.has_put u u_low);
            knows = tw.knows;
            goals = tw.goals;
            done = tw.done;
            running = tw.running;
            broken = tw.broken;
          },
        )

    -- it may end there
    may_end : (t : ℕ) → t < length h.nodes → MayEnd h s m d t → MayEnd g s other_make other_disk (there t)
    unfolding other_make other_disk
    may_end t low may = record {
      runs = Has-map there m.running t may.runs;
      seen = λ f read e. may.seen f (subst (λ (l : List FileName). Has l f) (reads_are h g is_h is_g part s t low) read) (sym (ap (λ (k : FileName → Option (Option ℕ)). k f) (tw.saw t low)) ∙ e);
      put = λ f wrote e. may.put f (subst (λ (l : List FileName). Has l f) (writes_are h g is_h is_g part s t low) wrote) (sym (ap (λ (k : FileName → Option ℕ). k f) (tw.has_put t low)) ∙ e);
      agrees =
          let other_put = put_by g s (twin m tw.seen tw.put) (there t) in
          subst (λ (o : Option (List ℕ)). IfSome o (λ k. k ≡ other_put))
          (sym (ap (λ (l : List (Option ℕ)). outcome tw.known (there t) l) (seen_there m d v tw t low) ∙ tw.knows t low (seen_by h s m t)))
          (subst (λ (p : List ℕ). IfSome (outcome d.known t (seen_by h s m t)) (λ k. k ≡ p)) (sym (put_there m d v tw t low)) may.agrees);
    }

    -- the running recipes without one
    left_running : (t : ℕ) → t < length h.nodes → filter (λ n. not (nat_eq (there t) n)) (map there m.running) ≡ map there (filter (λ n. not (nat_eq t n)) m.running)
    left_running t low = filter_to h g is_h is_g part t m.running low tw.running

    -- an end
    end_follows : (t : ℕ) → Allowed h s (Busy m d) (End t) → Follows (Busy m d) (End t) (Busy other_make other_disk)
    unfolding other_make other_disk
    end_follows t may =
        let low = tw.running t may.runs in
        let result : Outcome = record { recipe = there t; seen = seen_by g s (twin m tw.seen tw.put) (there t); written = put_by g s (twin m tw.seen tw.put) (there t) } in
        let known = (noted (with_known d tw.known) result).known in
        let seen = changed_at tw.seen (there t) (λ f. None) in
        let put = changed_at tw.put (there t) (λ f. None) in (
          End (there t),
          ends (same h g is_h is_g part t low).name,
          may_end t low may,
          record {
            seen = seen;
            put = put;
            known = known;
            is = ap (λ (l : List ℕ). Busy (record { jobs = m.jobs; goals = map there m.goals; done = there t ∷ map there m.done; running = l; broken = map there m.broken; seen = seen; put = put }) (with_known d known)) (left_running t low);
            saw = λ u u_low. changed_there tw.seen m.seen t u (λ f. None) (λ f. None) low u_low refl (tw.saw u u_low);
            has_put = λ u u_low. changed_there tw.put m.put t u (λ f. None) (λ f. None) low u_low refl (tw.has_put u u_low);
            knows = noted_alike d tw.known tw.knows t low (seen_by h s m t) (seen_by g s (twin m tw.seen tw.put) (there t)) (put_by h s m t) (put_by g s (twin m tw.seen tw.put) (there t)) (seen_there m d v tw t low) (put_there m d v tw t low);
            goals = tw.goals;
            done = low_more t m.done low tw.done;
            running = low_without t m.running tw.running;
            broken = tw.broken;
          },
        )

    -- a recipe that was removed or not, and the rest of the make after it broke off
    break_twin : (t : ℕ) (low : t < length h.nodes) (e : Disk) (known : List Outcome) → KnowsAlike e known → Twin (record m { running = filter (λ n. not (nat_eq t n)) m.running; broken = t ∷ m.broken; seen = changed_at m.seen t (λ f. None); put = changed_at m.put t (λ f. None) }) e (Busy (record { jobs = m.jobs; goals = map there m.goals; done = map there m.done; running = filter (λ n. not (nat_eq (there t) n)) (map there m.running); broken = there t ∷ map there m.broken; seen = changed_at tw.seen (there t) (λ f. None); put = changed_at tw.put (there t) (λ f. None) }) (with_known e known))
    break_twin t low e known knows =
        let seen = changed_at tw.seen (there t) (λ f. None) in
        let put = changed_at tw.put (there t) (λ f. None) in
        record {
          seen = seen;
          put = put;
          known = known;
          is = ap (λ (l : List ℕ). Busy (record { jobs = m.jobs; goals = map there m.goals; done = map there m.done; running = l; broken = there t ∷ map there m.broken; seen = seen; put = put }) (with_known e known)) (left_running t low);
          saw = λ u u_low. changed_there tw.seen m.seen t u (λ f. None) (λ f. None) low u_low refl (tw.saw u u_low);
          has_put = λ u u_low. changed_there tw.put m.put t u (λ f. None) (λ f. None) low u_low refl (tw.has_put u u_low);
          knows = knows;
          goals = tw.goals;
          done = tw.done;
          running = low_without t m.running tw.running;
          broken = low_more t m.broken low tw.broken;
        }

    -- a recipe that breaks off, whose target is removed
    removed_follows : (t : ℕ) → Allowed h s (Busy m d) (Break t true) → Follows (Busy m d) (Break t true) (Busy other_make other_disk)
    unfolding other_make other_disk
    removed_follows t may =
        let low = tw.running t may.0 in
        let is = same h g is_h is_g part t low in (
          Break (there t) true,
          breaks is.name,
          (
            Has-map there m.running t may.0,
            subst (λ (f : FileName). Has (writes g s (there t)) f) is.name (subst (λ (l : List FileName). Has l (name h t)) (sym (writes_are h g is_h is_g part s t low)) may.1),
          ),
          subst (λ (f : FileName). Twin (record m { running = filter (λ n. not (nat_eq t n)) m.running; broken = t ∷ m.broken; seen = changed_at m.seen t (λ f. None); put = changed_at m.put t (λ f. None) }) (without d (name h t)) (Busy (record { jobs = m.jobs; goals = map there m.goals; done = map there m.done; running = filter (λ n. not (nat_eq (there t) n)) (map there m.running); broken = there t ∷ map there m.broken; seen = changed_at tw.seen (there t) (λ f. None); put = changed_at tw.put (there t) (λ f. None) }) (without (with_known d tw.known) f))) is.name (break_twin t low (without d (name h t)) tw.known tw.knows),
        )

    -- one whose files stay
    stayed_follows : (t : ℕ) → Allowed h s (Busy m d) (Break t false) → Follows (Busy m d) (Break t false) (Busy other_make other_disk)
    unfolding other_make other_disk
    stayed_follows t may =
        let low = tw.running t may.0 in (
          Break (there t) false,
          breaks (same h g is_h is_g part t low).name,
          (Has-map there m.running t may.0, must_to h g is_h is_g part d t low may.1),
          break_twin t low d tw.known tw.knows,
        )

    -- a pass
    pass_follows : (n : ℕ) → Allowed h s (Busy m d) (Pass n) → Follows (Busy m d) (Pass n) (Busy other_make other_disk)
    unfolding other_make other_disk
    pass_follows n may =
        let ready = ready_there m d v tw n may.0 in
        let low = ready.0 in
        let is = same h g is_h is_g part n low in
        let seen = changed_at tw.seen (there n) (λ f. None) in
        let put = changed_at tw.put (there n) (λ f. None) in (
          Pass (there n),
          passes is.name,
          (ready.1, ⊎_elim (λ no. inl (sym is.recipe ∙ no)) (λ need_not. inr (λ must. need_not (must_from h g is_h is_g part d n low must))) may.1),
          record {
            seen = seen;
            put = put;
            known = tw.known;
            is = ap (λ (l : List ℕ). Busy (record { jobs = m.jobs; goals = map there m.goals; done = there n ∷ map there m.done; running = l; broken = map there m.broken; seen = seen; put = put }) (with_known d tw.known)) (left_running n low);
            saw = λ u u_low. changed_there tw.seen m.seen n u (λ f. None) (λ f. None) low u_low refl (tw.saw u u_low);
            has_put = λ u u_low. changed_there tw.put m.put n u (λ f. None) (λ f. None) low u_low refl (tw.has_put u u_low);
            knows = tw.knows;
            goals = tw.goals;
            done = low_more n m.done low tw.done;
            running = low_without n m.running tw.running;
            broken = tw.broken;
          },
        )

    -- a stop
    stop_follows : Allowed h s (Busy m d) Stop → Follows (Busy m d) Stop (Busy other_make other_disk)
    unfolding other_make other_disk
    stop_follows may = (Stop, stops, ap (map there) may, (tw.known, refl, tw.knows))

    -- the end of the make
    make_ends : Allowed h s (Busy m d) EndMake → Follows (Busy m d) EndMake (Busy other_make other_disk)
    unfolding other_make other_disk
    make_ends may = (EndMake, ends_make, (all_to h g is_h is_g part m.done m.goals may.0, ap (map there) may.1), (tw.known, refl, tw.knows))

  -- each step
  follows : (w : World) (step : Step) (v : World) → IsTwin w v → Allowed h s w step → Follows w step v
  follows (Idle d) (Edit f c) v tw may = edit_follows d v f c tw may
  follows (Idle d) (Make jobs goals) v tw may = make_follows d v jobs goals tw may
  follows (Idle d) (Begin t) v tw may = absurd may
  follows (Idle d) (Look t f) v tw may = absurd may
  follows (Idle d) (Put t f c) v tw may = absurd may
  follows (Idle d) (End t) v tw may = absurd may
  follows (Idle d) (Break t removed) v tw may = absurd may
  follows (Idle d) (Pass t) v tw may = absurd may
  follows (Idle d) Stop v tw may = absurd may
  follows (Idle d) EndMake v tw may = absurd may
  follows (Busy m d) (Edit f c) v tw may = absurd may
  follows (Busy m d) (Make jobs goals) v tw may = absurd may
  follows (Busy m d) (Begin t) v tw may = follow_from m d v tw (Begin t) (begin_follows m d v tw t may)
  follows (Busy m d) (Look t f) v tw may = follow_from m d v tw (Look t f) (look_follows m d v tw t f may)
  follows (Busy m d) (Put t f c) v tw may = follow_from m d v tw (Put t f c) (put_follows m d v tw t f c may)
  follows (Busy m d) (End t) v tw may = follow_from m d v tw (End t) (end_follows m d v tw t may)
  follows (Busy m d) (Break t true) v tw may = follow_from m d v tw (Break t true) (removed_follows m d v tw t may)
  follows (Busy m d) (Break t false) v tw may = follow_from m d v tw (Break t false) (stayed_follows m d v tw t may)
  follows (Busy m d) (Pass t) v tw may = follow_from m d v tw (Pass t) (pass_follows m d v tw t may)
  follows (Busy m d) Stop v tw may = follow_from m d v tw Stop (stop_follows m d v tw may)
  follows (Busy m d) EndMake v tw may = follow_from m d v tw EndMake (make_ends m d v tw may)

  -- all steps
  follows_all : (w : World) (steps : List Step) (v : World) → IsTwin w v → IsLegal h s w steps → (others : List Step) × AreSameSteps h g steps others × IsLegal g s v others × IsTwin (after_all h s w steps) (after_all g s v others)
  follows_all w [] v tw legal = ([], tt, tt, tw)
  follows_all w (step ∷ steps) v tw legal =
      let one = follows w step v tw legal.0 in
      let rest = follows_all (after h s w step) steps (after g s v one.0) one.3 legal.1 in
      (one.0 ∷ rest.0, (one.1, rest.1), (one.2, rest.2), rest.3)

  -- worlds that are alike have the same files
  same_files : (w v : World) → IsTwin w v → HaveSameFiles (disk_of w) (disk_of v)
  same_files (Idle d) v tw = (λ f. ap (λ (x : World). (disk_of x).files f) (sym tw.1), ap (λ (x : World). (disk_of x).clock) (sym tw.1))
  same_files (Busy m d) v tw = (λ f. ap (λ (x : World). (disk_of x).files f) (sym tw.is), ap (λ (x : World). (disk_of x).clock) (sym tw.is))

  -- a start disk is alike itself
  start_twin : (d : Disk) → IsStartDisk s d → IsTwin (Idle d) (Idle d)
  start_twin d start = (d.known, refl, λ t low saw. ap (λ (l : List Outcome). outcome l (there t) saw) start.nothing_known ∙ sym (ap (λ (l : List Outcome). outcome l t saw) start.nothing_known))

  -- a trace from a start disk
  pub parts_alike : (d : Disk) (steps : List Step) → IsStartDisk s d → IsLegal h s (Idle d) steps
      → (others : List Step) × AreSameSteps h g steps others × IsLegal g s (Idle d) others
      × HaveSameFiles (disk_after h s d steps) (disk_after g s d others)
  parts_alike d steps start legal =
      let all = follows_all (Idle d) steps (Idle d) (start_twin d start) legal in
      (all.0, all.1, all.2, same_files (after_all h s (Idle d) steps) (after_all g s (Idle d) all.0) all.3)
