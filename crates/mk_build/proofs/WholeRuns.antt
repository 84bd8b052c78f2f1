-- A whole run of a recipe, in a make in which nothing else runs.
use Rattle.std.proofs.Common.{◌≡◌, ℕ, ◌+◌, ◌<◌, ◌≤◌, List, [], ◌∷◌, ◌++◌, length, true, Option, Some, None, map, filter, ◌⊎◌, inl, inr, ⊎_elim, refl, sym, ◌∙◌, ap, subst, arith}
use Rattle.std.specs.Prelude.{nat_eq, not, IfSome, unwrap_or}
use Rattle.std.specs.Option.{option_flatten}
use Rattle.std.proofs.lemmas.Bool.{cond-false}
use Rattle.std.proofs.lemmas.Bool.Decides.{Decides-eqb}
use Rattle.std.proofs.lemmas.List.Sums.{fold-append}
use Rattle.mk_graph.specs.Membership.{Has, has}
use Rattle.mk_graph.specs.Graph.{Graph, node}
use Rattle.mk_build.specs.Setting.{FileName, Setting, reads, writes}
use Rattle.mk_build.specs.World.{Outcome, Disk, Making, World, Busy, HasStamp, content, changed, written, last_stamp, outcome}
use Rattle.mk_graph.specs.Schedules.{CanStart}
use Rattle.mk_build.specs.Steps.{changed_at, Step, Look, End, MayEnd, after, begun, looked, has_put, noted, seen_by, put_by, IsLegal, after_all}
use Rattle.mk_build.specs.Clean.{Contents, put_all}
use Rattle.mk_build.specs.SerialMake.{puts, whole_run}
use Rattle.mk_build.proofs.Changes.{cases_name, changed_here, changed_there, changed_at_here}
use Rattle.mk_build.proofs.Writing.{map_same, content_here, content_there, stamp_here, stamp_is, stamp_there, stamp_kept}

module _ (g : Graph) (s : Setting) where
  -- two legal histories, one behind the other
  pub legal_append : (w : World) (a b : List Step) → IsLegal g s w a → IsLegal g s (after_all g s w a) b → IsLegal g s w (a ++ b)
  legal_append w [] b first second = second
  legal_append w (step ∷ a) b first second = (first.0, legal_append (after g s w step) a b first.1 second)

  -- what they leave
  pub after_append : (w : World) (a b : List Step) → after_all g s w (a ++ b) ≡ after_all g s (after_all g s w a) b
  after_append w a b = fold-append (after g s) w a b

  -- What looks at files leave: all is seen that was or is looked at, as the files are now, and nothing else changes.
  record Looks (t : ℕ) (files : List FileName) (m : Making) (d : Disk) : Type 0 where
    legal : IsLegal g s (Busy m d) (map (λ f. Look t f) files)
    seen : ℕ → FileName → Option (Option ℕ)
    leaves : after_all g s (Busy m d) (map (λ f. Look t f) files) ≡ Busy (record m { seen = seen }) d
    now : (f : FileName) → Has files f → seen t f ≡ Some (content d f)
    still : (f : FileName) → m.seen t f ≡ Some (content d f) → seen t f ≡ Some (content d f)

  -- one look more is seen
  seen_after : (m : Making) (t : ℕ) (f h : FileName) (d : Disk) → (f ≡ h) ⊎ (m.seen t h ≡ Some (content d h)) → (looked m t f (content d f)).seen t h ≡ Some (content d h)
  seen_after m t f h d why =
      ap (λ (k : FileName → Option (Option ℕ)). k h) (changed_at_here m.seen t t
      (changed (m.seen t) f (Some (content d f))) refl) ∙ ⊎_elim
      (λ same. changed_here (m.seen t) f h (Some (content d f)) same
      ∙ ap (λ (k : FileName). Some (content d k)) same) (λ differ. changed_there (m.seen t) f h
      (Some (content d f)) differ ∙ ⊎_elim (λ same. absurd (differ same)) (λ before. before) why)
      (cases_name f h)

  -- looks at files that a running recipe reads
  looks : (t : ℕ) (files : List FileName) (m : Making) (d : Disk) → Has m.running t → ((f : FileName) → Has files f → Has (reads g s t) f) → Looks t files m d
  looks t [] m d runs read = record { legal = tt; seen = m.seen; leaves = refl; now = λ f h. absurd h; still = λ f h. h }
  looks t (f ∷ files) m d runs read =
      let rest = looks t files (looked m t f (content d f)) d runs (λ h there. read h (inr there)) in
      record {
        legal = ((runs, read f (inl refl)), rest.legal);
        seen = rest.seen;
        leaves = rest.leaves;
        now = λ h among. ⊎_elim (λ here. rest.still h (seen_after m t f h d (inl here))) (λ there. rest.now h there) among;
        still = λ h before. rest.still h (seen_after m t f h d (inr before));
      }

  -- What writings leave: what is written has a new stamp, other files stay, the clock has gone on by their number, all
  -- is put that was or is written, and nothing else changes. What files hold is what was put into them, in order.
  record Writes (t : ℕ) (files : List FileName) (cs : List ℕ) (m : Making) (d : Disk) : Type 0 where
    legal : IsLegal g s (Busy m d) (puts t files cs)
    put : ℕ → FileName → Option ℕ
    disk : Disk
    leaves : after_all g s (Busy m d) (puts t files cs) ≡ Busy (record m { put = put }) disk
    now : (f : FileName) → Has files f → ¬ (put t f ≡ None)
    still : (f : FileName) → ¬ (m.put t f ≡ None) → ¬ (put t f ≡ None)
    same_put : (φ : FileName → ℕ) → cs ≡ map φ files → (f : FileName) → Has files f ⊎ (m.put t f ≡ Some (φ f)) → put t f ≡ Some (φ f)
    holds : (at new : Contents) → put_all at files cs ≡ Some new → ((h : FileName) → content d h ≡ at h) → (h : FileName) → content disk h ≡ new h
    keeps : (h : FileName) → ¬ (Has files h) → disk.files h ≡ d.files h
    late : (h : FileName) → Has files h → (stamp : ℕ) × HasStamp disk h stamp × (d.clock < stamp)
    later : (h : FileName) (old : ℕ) → HasStamp d h old → (stamp : ℕ) × HasStamp disk h stamp × (old ≤ stamp ⊎ d.clock < stamp)
    stamped : ((h : FileName) (stamp : ℕ) → HasStamp d h stamp → stamp ≤ d.clock) → (h : FileName) (stamp : ℕ) → HasStamp disk h stamp → stamp ≤ disk.clock
    clock : disk.clock ≡ d.clock + length files
    known : disk.known ≡ d.known

  -- one writing more is put
  put_after : (m : Making) (t : ℕ) (f h : FileName) (c : ℕ) → (f ≡ h) ⊎ (¬ (m.put t h ≡ None)) → ¬ ((has_put m t f c).put t h ≡ None)
  put_after m t f h c why e =
      let at : changed (m.put t) f (Some c) h ≡ None = sym (ap (λ (k : FileName → Option ℕ). k h) (changed_at_here m.put t t (changed (m.put t) f (Some c)) refl)) ∙ e in
      ⊎_elim (λ same. let both : Some c ≡ None = sym (changed_here (m.put t) f h (Some c) same) ∙ at in cc) (λ differ. ⊎_elim (λ same. differ same) (λ before. before (sym (changed_there (m.put t) f h (Some c) differ) ∙ at)) why) (cases_name f h)

  -- the contents after one writing
  holds_after : (d : Disk) (at : Contents) (f : FileName) (c : ℕ) → ((h : FileName) → content d h ≡ at h) → (h : FileName) → content (written d f c) h ≡ changed at f (Some c) h
  holds_after d at f c holds h =
      ⊎_elim (λ same. content_here d f c h same ∙ sym (changed_here at f h (Some c) same)) (λ differ. content_there d f c h differ ∙ (holds h ∙ sym (changed_there at f h (Some c) differ))) (cases_name f h)

  -- one writing more of what a name is given is put
  put_same : (m : Making) (t : ℕ) (f h : FileName) (φ : FileName → ℕ) → (f ≡ h) ⊎ (m.put t h ≡ Some (φ h)) → (has_put m t f (φ f)).put t h ≡ Some (φ h)
  put_same m t f h φ why =
      ap (λ (k : FileName → Option ℕ). k h) (changed_at_here m.put t t (changed (m.put t) f (Some (φ f)))
      refl) ∙ ⊎_elim (λ same. changed_here (m.put t) f h (Some (φ f)) same
      ∙ ap (λ (k : FileName). Some (φ k)) same) (λ differ. changed_there (m.put t) f h (Some (φ f)) differ
      ∙ ⊎_elim (λ same. absurd (differ same)) (λ before. before) why) (cases_name f h)

  -- stamps that had come have come after one writing
  stamped_after : (d : Disk) (f : FileName) (c : ℕ) → ((h : FileName) (stamp : ℕ) → HasStamp d h stamp → stamp ≤ d.clock) → (h : FileName) (stamp : ℕ) → HasStamp (written d f c) h stamp → stamp ≤ d.clock + 1
  stamped_after d f c came h stamp has = ⊎_elim (λ same. let new = stamp_is d f c h stamp same has in omega arith) (λ differ. let old = came h stamp (stamp_there d f c h stamp differ has) in omega arith) (cases_name f h)

  -- no writings
  no_writings : (t : ℕ) (m : Making) (d : Disk) → Writes t [] [] m d
  no_writings t m d = record {
    legal = tt;
    put = m.put;
    disk = d;
    leaves = refl;
    now = λ f h. absurd h;
    still = λ f h. h;
    same_put = λ φ e f why. ⊎_elim (λ h. absurd h) (λ before. before) why;
    holds = λ at new e held h. let same : at ≡ new = cc in held h ∙ ap (λ (k : Contents). k h) same;
    keeps = λ h out. refl;
    late = λ h among. absurd among;
    later = λ h old has. (old, has, inl (omega arith));
    stamped = λ came. came;
    clock = omega arith;
    known = refl;
  }

  -- one writing, and then others
  module _ (t : ℕ) (f : FileName) (files : List FileName) (c : ℕ) (cs : List ℕ) (m : Making) (d : Disk) (runs : Has m.running t) (wrote : Has (writes g s t) f) (room : d.clock < last_stamp) (rest : Writes t files cs (has_put m t f c) (written d f c)) where
    -- a file that is written now has a new stamp at the end
    late_here : (h : FileName) → f ≡ h → (stamp : ℕ) × HasStamp rest.disk h stamp × (d.clock < stamp)
    late_here h same =
        let last = rest.later h (d.clock + 1) (stamp_here d f c h same) in
        (last.0, last.1, ⊎_elim (λ le. omega arith) (λ lt. omega arith) last.2)

    -- a file that was there is there at the end
    later_here : (h : FileName) (old : ℕ) → HasStamp d h old → (stamp : ℕ) × HasStamp rest.disk h stamp × (old ≤ stamp ⊎ d.clock < stamp)
    later_here h old has =
        ⊎_elim (λ same. let new = late_here h same in (new.0, new.1, inr new.2)) (λ differ. let last = rest.later h old (stamp_kept d f c h old differ has) in (last.0, last.1, ⊎_elim (λ le. inl le) (λ lt. inr (omega arith)) last.2)) (cases_name f h)

    -- both
    one_writing : Writes t (f ∷ files) (c ∷ cs) m d
    one_writing = record {
      legal = ((runs, wrote, room), rest.legal);
      put = rest.put;
      disk = rest.disk;
      leaves = rest.leaves;
      now = λ h among. ⊎_elim (λ here. rest.still h (put_after m t f h c (inl here))) (λ there. rest.now h there) among;
      still = λ h before. rest.still h (put_after m t f h c (inr before));
      same_put = λ φ e h why. let first : c ≡ φ f = cc in let others : cs
          ≡ map φ files = cc in rest.same_put φ others h (⊎_elim
          (λ among. ⊎_elim (λ here. inr (subst (λ (k : ℕ). (has_put m t f k).put t h ≡ Some (φ h)) (sym first)
          (put_same m t f h φ (inl here)))) (λ there. inl there) among)
          (λ before. inr (subst (λ (k : ℕ). (has_put m t f k).put t h ≡ Some (φ h)) (sym first)
          (put_same m t f h φ (inr before)))) why);
      holds = λ at new e held. rest.holds (changed at f (Some c)) new e (λ h. ⊎_elim (λ same. content_here d f c h same ∙ sym (changed_here at f h (Some c) same)) (λ differ. content_there d f c h differ ∙ (held h ∙ sym (changed_there at f h (Some c) differ))) (cases_name f h));
      keeps = λ h out. rest.keeps h (λ there. out (inr there)) ∙ changed_there d.files f h (Some (record { content = c; stamp = d.clock + 1 })) (λ same. out (inl same));
      late = λ h among. ⊎_elim (λ here. late_here h here) (λ there. let last = rest.late h there in (last.0, last.1, let less = last.2 in omega arith)) among;
      later = later_here;
      stamped = λ came. rest.stamped (stamped_after d f c came);
      clock = let more = rest.clock in omega arith;
      known = rest.known;
    }

  -- writings of a running recipe
  writings : (t : ℕ) (files : List FileName) (cs : List ℕ) (m : Making) (d : Disk) → length cs ≡ length files → d.clock + length files ≤ last_stamp → Has m.running t → ((f : FileName) → Has files f → Has (writes g s t) f) → Writes t files cs m d
  writings t [] [] m d many room runs wrote = no_writings t m d
  writings t [] (c ∷ cs) m d many room runs wrote = absurd (omega arith)
  writings t (f ∷ files) [] m d many room runs wrote = absurd (omega arith)
  writings t (f ∷ files) (c ∷ cs) m d many room runs wrote =
      one_writing t f files c cs m d runs (wrote f (inl refl)) (omega arith) (writings t files cs (has_put m t f c) (written d f c) (omega arith) (omega arith) runs (λ h there. wrote h (inr there)))

  -- a make in which nothing runs
  abbrev pub quiet : (jobs : ℕ) (goals done : List ℕ) (seen : ℕ → FileName → Option (Option ℕ)) (put : ℕ → FileName → Option ℕ) → Making
  quiet jobs goals done seen put = record { jobs = jobs; goals = goals; done = done; running = []; broken = []; seen = seen; put = put }

  -- The contents that a recipe is to put agree with what is known: nothing is of a run that sees the same, or these are,
  -- one content for each name.
  abbrev pub Agree : (t : ℕ) (cs : List ℕ) (d : Disk) → Type 0
  Agree t cs d = (outcome d.known t (map (content d) (reads g s t)) ≡ None) ⊎ ((φ : FileName → ℕ) × (outcome d.known t (map (content d) (reads g s t)) ≡ Some cs) × (cs ≡ map φ (writes g s t)))

  -- What a whole run leaves: the recipe is done, its files are written, other files stay, and its outcome is noted.
  pub record Ran (jobs : ℕ) (goals done : List ℕ) (t : ℕ) (cs : List ℕ) (d : Disk) (w : World) : Type 0 where
    pub seen : ℕ → FileName → Option (Option ℕ)
    pub put : ℕ → FileName → Option ℕ
    pub disk : Disk
    pub result : Outcome
    pub is : w ≡ Busy (quiet jobs goals (t ∷ done) seen put) (noted disk result)
    pub result_recipe : result.recipe ≡ t
    pub result_saw : result.seen ≡ map (content d) (reads g s t)
    pub result_is : (φ : FileName → ℕ) × (result.written ≡ map φ (writes g s t))
    pub holds : (at new : Contents) → put_all at (writes g s t) cs ≡ Some new → ((h : FileName) → content d h ≡ at h) → (h : FileName) → content disk h ≡ new h
    pub keeps : (h : FileName) → ¬ (Has (writes g s t) h) → disk.files h ≡ d.files h
    pub late : (h : FileName) → Has (writes g s t) h → (stamp : ℕ) × HasStamp disk h stamp × (d.clock < stamp)
    pub stamped : ((h : FileName) (stamp : ℕ) → HasStamp d h stamp → stamp ≤ d.clock) → (h : FileName) (stamp : ℕ) → HasStamp disk h stamp → stamp ≤ disk.clock
    pub clock : disk.clock ≡ d.clock + length (writes g s t)
    pub known : disk.known ≡ d.known

  -- nothing is left of a list of one when it is taken out
  none_left : (t : ℕ) → filter (λ n. not (nat_eq t n)) (t ∷ []) ≡ []
  none_left t = cond-false (not (nat_eq t t)) (t ∷ []) [] (ap not ((Decides-eqb t t).1 refl))

  module _ (jobs : ℕ) (goals : List ℕ) (t : ℕ) (done : List ℕ) (cs : List ℕ) (seen : ℕ → FileName → Option (Option ℕ)) (put : ℕ → FileName → Option ℕ) (d : Disk) (many : length cs ≡ length (writes g s t)) (room : d.clock + length (writes g s t) ≤ last_stamp) where
    -- the make when the recipe has begun
    running : Making
    running = begun (quiet jobs goals done seen put) t

    -- the looks of a recipe that has begun
    its_looks : Looks t (reads g s t) running d
    unfolding running
    its_looks = looks t (reads g s t) running d (inl refl) (λ f h. h)

    -- its writings after the looks
    its_writes : Writes t (writes g s t) cs (record running { seen = its_looks.seen }) d
    unfolding running
    its_writes = writings t (writes g s t) cs (record running { seen = its_looks.seen }) d many room (inl refl) (λ f h. h)

    -- the make when all is seen and put
    full : Making
    full = record running { seen = its_looks.seen; put = its_writes.put }

    -- what it has seen
    it_saw : seen_by g s full t ≡ map (content d) (reads g s t)
    unfolding full
    it_saw = map_same (λ f. option_flatten (its_looks.seen t f)) (content d) (reads g s t) (λ f read. ap (λ (o : Option (Option ℕ)). option_flatten o) (its_looks.now f read))

    -- what it has put, where one content is given for each name
    it_put : (φ : FileName → ℕ) → cs ≡ map φ (writes g s t) → put_by g s full t ≡ cs
    unfolding full
    it_put φ e = map_same (λ f. unwrap_or (its_writes.put t f) 0) φ (writes g s t) (λ f wrote. ap (λ (o : Option ℕ). unwrap_or o 0) (its_writes.same_put φ e f (inl wrote))) ∙ sym e

    -- its outcome
    result : Outcome
    result = record { recipe = t; seen = seen_by g s full t; written = put_by g s full t }

    module _ (may : CanStart g goals done t) (recipe : (node g t).recipe ≡ true) (agree : Agree t cs d) (free : 0 < jobs) where
      -- what is known of a run that saw the same
      known_now : outcome its_writes.disk.known t (seen_by g s full t) ≡ outcome d.known t (map (content d) (reads g s t))
      known_now = ap (λ (l : List Outcome). outcome l t (seen_by g s full t)) its_writes.known ∙ ap (λ (l : List (Option ℕ)). outcome d.known t l) it_saw

      -- it agrees
      it_agrees : IfSome (outcome its_writes.disk.known t (seen_by g s full t)) (λ known. known ≡ put_by g s full t)
      it_agrees = subst (λ (o : Option (List ℕ)). IfSome o (λ known. known ≡ put_by g s full t))
          (sym known_now) (⊎_elim (λ none. subst (λ (o : Option (List ℕ)). IfSome o
          (λ known. known ≡ put_by g s full t)) (sym none) tt)
          (λ some. subst (λ (o : Option (List ℕ)). IfSome o (λ known. known ≡ put_by g s full t)) (sym some.1)
          (sym (it_put some.0 some.2))) agree)

      -- it may end
      its_end : MayEnd g s full its_writes.disk t
      unfolding full running
      its_end = record {
        runs = inl refl;
        seen = λ f read e. let both : Some (content d f) ≡ None = sym (its_looks.now f read) ∙ e in absurd (cc);
        put = λ f wrote. its_writes.now f wrote;
        agrees = it_agrees;
      }

      -- where it ends
      ended : Ran jobs goals done t cs d (after g s (Busy full its_writes.disk) (End t))
      unfolding full running result
      ended = record {
        seen = changed_at its_looks.seen t (λ f. None);
        put = changed_at its_writes.put t (λ f. None);
        disk = its_writes.disk;
        result = result;
        is = ap (λ (l : List ℕ). Busy (record { jobs = jobs; goals = goals; done = t ∷ done; running = l; broken = []; seen = changed_at its_looks.seen t (λ f. None); put = changed_at its_writes.put t (λ f. None) }) (noted its_writes.disk result)) (none_left t);
        result_recipe = refl;
        result_saw = it_saw;
        result_is = (λ f. unwrap_or (its_writes.put t f) 0, refl);
        holds = its_writes.holds;
        keeps = its_writes.keeps;
        late = its_writes.late;
        stamped = its_writes.stamped;
        clock = its_writes.clock;
        known = its_writes.known;
      }

      -- the writings and the end
      ending : List Step
      ending = puts t (writes g s t) cs ++ End t ∷ []

      -- they are legal after the looks
      ending_legal : IsLegal g s (Busy (record running { seen = its_looks.seen }) d) ending × Ran jobs goals done t cs d (after_all g s (Busy (record running { seen = its_looks.seen }) d) ending)
      unfolding ending full running
      ending_legal =
          let start = Busy (record running { seen = its_looks.seen }) d in (
            legal_append start (puts t (writes g s t) cs) (End t ∷ []) its_writes.legal
                (subst (λ (w : World). IsLegal g s w (End t ∷ [])) (sym its_writes.leaves) (its_end, tt)),
            subst
                (λ (w : World). Ran jobs goals done t cs d w) (sym
                (after_append start (puts t (writes g s t) cs) (End t ∷ [])))
                (subst (λ (w : World). Ran jobs goals done t cs d (after_all g s w (End t ∷ [])))
                (sym its_writes.leaves) ended),
          )

      -- a whole run is legal
      pub whole_run_legal : IsLegal g s (Busy (quiet jobs goals done seen put) d) (whole_run g s t cs) × Ran jobs goals done t cs d (after_all g s (Busy (quiet jobs goals done seen put) d) (whole_run g s t cs))
      unfolding ending running
      whole_run_legal =
          let start = Busy running d in
          let looking = map (λ f. Look t f) (reads g s t) in (
            (
              ((may, λ h. h, λ h. h), recipe, omega arith),
              legal_append start looking ending its_looks.legal
                  (subst (λ (w : World). IsLegal g s w ending) (sym its_looks.leaves) ending_legal.0),
            ),
            subst
                (λ (w : World). Ran jobs goals done t cs d w) (sym (after_append start looking ending))
                (subst (λ (w : World). Ran jobs goals done t cs d (after_all g s w ending))
                (sym its_looks.leaves) ending_legal.1),
          )
