-- A make with one job in which each node is run whole or passed: what it leaves.
use Rattle.std.proofs.Common.{◌≡◌, ℕ, zero, suc, ◌+◌, ◌<◌, ◌≤◌, List, [], ◌∷◌, ◌++◌, length, reverse, true, false, Option, Some, None, map, ◌⊎◌, inl, inr, ⊎_elim, refl, sym, ◌∙◌, ap, subst, arith}
use Rattle.std.specs.Prelude.{unwrap_or}
use Rattle.std.specs.Option.{option_map}
use Rattle.std.proofs.lemmas.Bool.{cases_Bool, true≢false}
use Rattle.std.proofs.lemmas.List.{length-map}
use Rattle.mk_graph.specs.Membership.{Has, has}
use Rattle.mk_graph.specs.Graph.{Graph, node}
use Rattle.mk_build.specs.Setting.{FileName, Setting, reads, writes, writings}
use Rattle.mk_build.specs.World.{File, Outcome, Disk, World, Busy, HasStamp, content, last_stamp, outcome, disk_of}
use Rattle.mk_graph.specs.Schedules.{CanStart}
use Rattle.mk_build.specs.Steps.{changed_at, Step, Pass, MustRun, after, noted, IsLegal, after_all}
use Rattle.mk_build.specs.SerialMake.{whole_run}
use Rattle.mk_build.specs.Right.{AreSound}
use Rattle.mk_build.specs.NodeByNode.{next_stamps, to_put, MakesAllBut, ends, passes, runs}
use Rattle.mk_build.proofs.Sound.{writer_has_recipe}
use Rattle.mk_build.proofs.Outcomes.{cases_outcome, noted_cases}
use Rattle.mk_build.proofs.Writing.{one_stamp}
use Rattle.mk_build.proofs.WholeRuns.{legal_append, after_append, quiet, Agree, Ran, whole_run_legal}
use Rattle.mk_build.proofs.SerialHistory.{TurnOn, done_behind, clock_behind}

-- so many stamps are as many
pub next_stamps_many : (clock many : ℕ) → length (next_stamps clock many) ≡ many
next_stamps_many clock zero = refl
next_stamps_many clock (suc many) = ap suc (next_stamps_many (clock + 1) many)

-- a stamp of a file that stays
pub same_stamp : (d e : Disk) (h : FileName) (stamp : ℕ) → e.files h ≡ d.files h → HasStamp d h stamp → HasStamp e h stamp
same_stamp d e h stamp same has = ap (λ (o : Option File). option_map (λ (y : File). y.stamp) o) same ∙ has

module _ (g : Graph) (s : Setting) where
  -- each outcome that is known gives one content to each name
  abbrev pub AreByName : Disk → Type 0
  AreByName d = (x : ℕ) (saw : List (Option ℕ)) (w : List ℕ) → outcome d.known x saw ≡ Some w → (φ : FileName → ℕ) × (w ≡ map φ (writes g s x))

  -- what recipes that weren't passed wrote is later than what those done before them wrote
  abbrev pub Ascends : (passed : ℕ → Type 0) → List ℕ → Disk → Type 0
  Ascends passed [] d = Unit {0}
  Ascends passed (n ∷ ns) d = ((x : ℕ) (h k : FileName) (stamp old : ℕ) → Has ns x → ¬ (passed x) → ¬ (passed n) → Has (writes g s n) h → Has (writes g s x) k → HasStamp d h stamp → HasStamp d k old → old < stamp) × Ascends passed ns d

  -- no file changed but those of recipes that weren't passed
  abbrev pub Keeps : (passed : ℕ → Type 0) → (before now : Disk) → Type 0
  Keeps passed before now = (h : FileName) → ((x : ℕ) → Has (writes g s x) h → passed x) → now.files h ≡ before.files h

  -- What a make has left so far that began on this disk: stamps have come, outcomes are by name, files stay, and what
  -- was run has later files than the make's begin and than what was run before it.
  pub record Left (passed : ℕ → Type 0) (done : List ℕ) (before : Disk) (limit : ℕ) (now : Disk) : Type 0 where
    pub stamped : (h : FileName) (stamp : ℕ) → HasStamp now h stamp → stamp ≤ now.clock
    pub grown : before.clock ≤ now.clock
    pub low : now.clock ≤ limit
    pub by_name : AreByName now
    pub keeps : Keeps passed before now
    pub fresh : (x : ℕ) (h : FileName) → Has done x → ¬ (passed x) → Has (writes g s x) h → (stamp : ℕ) × HasStamp now h stamp × (before.clock < stamp)
    pub ascends : Ascends passed done now

  -- a make with one job that has left this
  pub record Goes (passed : ℕ → Type 0) (done : List ℕ) (before : Disk) (limit : ℕ) (w : World) : Type 0 where
    pub seen : ℕ → FileName → Option (Option ℕ)
    pub put : ℕ → FileName → Option ℕ
    pub disk : Disk
    pub is : w ≡ Busy (quiet g s 1 g.goals done seen put) disk
    pub left : Left passed done before limit disk

  module _ (sound : AreSound g s) (passed : ℕ → Type 0) (before : Disk) where
    -- what is to be put is as many as the files, and agrees with what is known
    to_put_fits : (d : Disk) (t : ℕ) → AreByName d → (length (to_put g s d t) ≡ length (writes g s t)) × Agree g s t (to_put g s d t) d
    to_put_fits d t by_name =
        let found = outcome d.known t (map (content d) (reads g s t)) in
        let stamps = next_stamps d.clock (length (writes g s t)) in
        ⊎_elim (λ none. (
          ap (λ (o : Option (List ℕ)). length (unwrap_or o stamps)) none
              ∙ next_stamps_many d.clock (length (writes g s t)),
          inl none,
        ))
        (λ some. let form = by_name t (map (content d) (reads g s t)) some.0 some.1 in let is : to_put g s
        d t ≡ some.0 = ap (λ (o : Option (List ℕ)). unwrap_or o stamps) some.1 in (
          ap (λ (l : List ℕ). length l) (is ∙ form.1) ∙ length-map (writes g s t) form.0,
          inr
              (form.0, some.1 ∙ ap (λ (l : List ℕ). Some l) (sym is), is ∙ form.1),
        ))
        (cases_outcome d (record { recipe = t; seen = []; written = [] }) t
        (map (content d) (reads g s t)))

    -- files of what was done before a run stay
    module _ (t : ℕ) (done : List ℕ) (limit : ℕ) (d e : Disk) (left : Left passed done before limit d) (new : ¬ (Has done t)) (keeps : (h : FileName) → ¬ (Has (writes g s t) h) → e.files h ≡ d.files h) where
      -- another recipe's files
      other_stays : (x : ℕ) (h : FileName) → Has done x → Has (writes g s x) h → e.files h ≡ d.files h
      other_stays x h x_done wrote = keeps h (λ own. new (subst (λ (k : ℕ). Has done k) (sound.one_writer x t h wrote own) x_done))

      -- their stamps
      other_stamp : (x : ℕ) (h : FileName) (stamp : ℕ) → Has done x → Has (writes g s x) h → HasStamp e h stamp → HasStamp d h stamp
      other_stamp x h stamp x_done wrote has = same_stamp e d h stamp (sym (other_stays x h x_done wrote)) has

      -- the order of their stamps
      ascends_still : (ns : List ℕ) → ((n : ℕ) → Has ns n → Has done n) → Ascends passed ns d → Ascends passed ns e
      ascends_still [] within old = tt
      ascends_still (n ∷ ns) within old = (
        λ x h k stamp early x_in x_run n_run wrote k_wrote has k_has. old.0 x h k stamp early x_in x_run
            n_run wrote k_wrote (other_stamp n h stamp (within n (inl refl)) wrote has)
            (other_stamp x k early (within x (inr x_in)) k_wrote k_has),
        ascends_still ns
            (λ m there. within m (inr there)) old.1,
      )

    -- after a whole run
    left_ran : (t : ℕ) (done cs : List ℕ) (limit : ℕ) (d : Disk) (w : World) → ¬ (passed t) → ¬ (Has done t) → Left passed done before limit d → (ran : Ran g s 1 g.goals done t cs d w) → Left passed (t ∷ done) before (limit + length (writes g s t)) (noted ran.disk ran.result)
    left_ran t done cs limit d w run new left ran =
        let now = ran.clock in
        let began = left.grown in
        let low = left.low in
        record {
          stamped = ran.stamped left.stamped;
          grown = omega arith;
          low = omega arith;
          by_name = λ x saw written e. ⊎_elim (λ same. let form = ran.result_is in (
            form.0,
            sym same.1 ∙ subst (λ (k : ℕ). ran.result.written ≡ map form.0 (writes g s k))
                (sym ran.result_recipe ∙ same.0) form.1,
          )) (λ old. left.by_name x saw written
              (subst (λ (l : List Outcome). outcome l x saw ≡ Some written) ran.known old))
              (noted_cases ran.disk ran.result x saw written e);
          keeps = λ h all. ran.keeps h (λ own. run (all t own)) ∙ left.keeps h all;
          fresh = λ x h x_done x_run wrote. ⊎_elim (λ same. let late = ran.late h
              (subst (λ (k : ℕ). Has (writes g s k) h) (sym same) wrote) in
              (late.0, late.1, let less = late.2 in omega arith))
              (λ there. let old = left.fresh x h there x_run wrote in (
                old.0,
                same_stamp d ran.disk h old.0 (other_stays t done limit d ran.disk left new ran.keeps x
                    h there wrote) old.1,
                old.2,
              )) x_done;
          ascends = (
            λ x h k stamp old x_in x_run t_run wrote k_wrote has k_has. let late = ran.late h wrote
                in let same = one_stamp ran.disk h stamp late.0 has late.1 in let less = late.2 in let came =
                left.stamped k old (other_stamp t done limit d ran.disk left new ran.keeps x k old x_in k_wrote
                k_has) in omega arith,
            ascends_still t done limit d (noted ran.disk ran.result) left new
                ran.keeps done (λ n h. h) left.ascends,
          );
        }

    -- after a node was passed
    left_passed : (n : ℕ) (done : List ℕ) (limit : ℕ) (d : Disk) → ((node g n).recipe ≡ false) ⊎ passed n → Left passed done before limit d → Left passed (n ∷ done) before (limit + length (writes g s n)) d
    left_passed n done limit d why left =
        let none : (h : FileName) → ¬ (passed n) → ¬ (Has (writes g s n) h) = λ h run wrote. ⊎_elim (λ no. true≢false (sym (writer_has_recipe g s n h wrote) ∙ no)) run why in
        record {
          stamped = left.stamped;
          grown = left.grown;
          low = let low = left.low in omega arith;
          by_name = left.by_name;
          keeps = left.keeps;
          fresh = λ x h x_done x_run wrote. ⊎_elim (λ same. absurd (none h (subst (λ (k : ℕ). ¬ (passed k)) (sym same) x_run) (subst (λ (k : ℕ). Has (writes g s k) h) (sym same) wrote))) (λ there. left.fresh x h there x_run wrote) x_done;
          ascends = (λ x h k stamp old x_in x_run n_run wrote k_wrote has k_has. absurd (none h n_run wrote), left.ascends);
        }

    module _ (need_not : (n : ℕ) (now : Disk) → passed n → (node g n).recipe ≡ true → Keeps passed before now → ¬ (MustRun g now n)) where
      -- a whole run
      one_run : (t : ℕ) (done : List ℕ) (limit : ℕ) (w : World) → (node g t).recipe ≡ true → ¬ (passed t)
          → CanStart g g.goals done t → limit + length (writes g s t) ≤ last_stamp
          → Goes passed done before limit w → IsLegal g s w (whole_run g s t (to_put g s (disk_of w) t))
          × Goes passed (t ∷ done) before (limit + length (writes g s t))
          (after_all g s w (whole_run g s t (to_put g s (disk_of w) t)))
      one_run t done limit w recipe run may room goes =
          let fits = to_put_fits goes.disk t goes.left.by_name in
          let low = goes.left.low in
          let now = whole_run_legal g s 1 g.goals t done (to_put g s goes.disk t) goes.seen goes.put goes.disk fits.0 (omega arith) may recipe fits.1 (omega arith) in
          subst (λ (k : World). IsLegal g s k (whole_run g s t (to_put g s (disk_of k) t))
          × Goes passed (t ∷ done) before (limit + length (writes g s t))
          (after_all g s k (whole_run g s t (to_put g s (disk_of k) t)))) (sym goes.is) (
            now.0,
            record {
              seen = now.1.seen;
              put = now.1.put;
              disk = noted now.1.disk now.1.result;
              is =
                  now.1.is;
              left = left_ran t done (to_put g s goes.disk t) limit goes.disk
                  (after_all g s (Busy (quiet g s 1 g.goals done goes.seen goes.put) goes.disk)
                  (whole_run g s t (to_put g s goes.disk t))) run may.not_done goes.left now.1;
            },
          )

      -- a pass
      one_pass : (n : ℕ) (done : List ℕ) (limit : ℕ) (w : World) → ((node g n).recipe ≡ false) ⊎ passed n → CanStart g g.goals done n → Goes passed done before limit w → IsLegal g s w (Pass n ∷ []) × Goes passed (n ∷ done) before (limit + length (writes g s n)) (after g s w (Pass n))
      one_pass n done limit w why may goes =
          let may_pass : ((node g n).recipe ≡ false) ⊎ (¬ (MustRun g goes.disk n)) = ⊎_elim (λ no. inl no) (λ is. ⊎_elim (λ recipe. inr (need_not n goes.disk is recipe goes.left.keeps)) (λ no. inl no) (cases_Bool (node g n).recipe)) why in
          subst (λ (k : World). IsLegal g s k (Pass n ∷ []) × Goes passed (n ∷ done) before
          (limit + length (writes g s n)) (after g s k (Pass n))) (sym goes.is) (
            (((may, λ h. h, λ h. h), may_pass), tt),
            record {
              seen = changed_at goes.seen n (λ f. None);
              put =
                  changed_at goes.put n (λ f. None);
              disk = goes.disk;
              is = refl;
              left = left_passed n done limit
                  goes.disk why goes.left;
            },
          )

      -- one node, and then others
      then_others : (n : ℕ) (ns done : List ℕ) (first rest : List Step) (w : World) (limit : ℕ)
          → IsLegal g s w first → IsLegal g s (after_all g s w first) rest
          × Goes passed (reverse ns ++ (n ∷ done)) before ((limit + length (writes g s n)) + writings g s ns)
          (after_all g s (after_all g s w first) rest) → IsLegal g s w (first ++ rest)
          × Goes passed (reverse (n ∷ ns) ++ done) before (limit + writings g s (n ∷ ns))
          (after_all g s w (first ++ rest))
      then_others n ns done first rest w limit legal more = (
        legal_append g s w first rest legal more.0,
        subst
            (λ (k : World). Goes passed (reverse (n ∷ ns) ++ done) before (limit + writings g s (n ∷ ns)) k)
            (sym (after_append g s w first rest)) (subst (λ (l : List ℕ). Goes passed l before
            (limit + writings g s (n ∷ ns)) (after_all g s (after_all g s w first) rest))
            (done_behind g s [] 1 g.goals n ns done) (subst (λ (k : ℕ). Goes passed
            (reverse ns ++ (n ∷ done)) before k (after_all g s (after_all g s w first) rest))
            (clock_behind g s [] 1 g.goals limit n ns) more.1)),
      )

      -- all nodes
      pub makes_legal : {w : World} {ns : List ℕ} {steps : List Step} → MakesAllBut g s passed w ns steps
          → (done : List ℕ) (limit : ℕ) → TurnOn g g.goals done ns → limit + writings g s ns ≤ last_stamp
          → Goes passed done before limit w → IsLegal g s w steps
          × Goes passed (reverse ns ++ done) before (limit + writings g s ns) (after_all g s w steps)
      makes_legal (ends {w = w}) done limit turns room goes = (tt, subst (λ (k : ℕ). Goes passed done before k w) (omega arith) goes)
      makes_legal (passes {w = w} {n = n} {ns = ns} {steps = steps} why more) done limit turns room goes =
          let now = one_pass n done limit w why turns.0 goes in
          let behind = clock_behind g s [] 1 g.goals limit n ns in
          then_others n ns done (Pass n ∷ []) steps w limit now.0 (makes_legal more (n ∷ done) (limit + length (writes g s n)) turns.1 (omega arith) now.1)
      makes_legal (runs {w = w} {t = t} {ns = ns} {steps = steps} recipe run more) done limit turns room goes =
          let behind = clock_behind g s [] 1 g.goals limit t ns in
          let now = one_run t done limit w recipe run turns.0 (omega arith) goes in
          then_others t ns done (whole_run g s t (to_put g s (disk_of w) t)) steps w limit now.0 (makes_legal more (t ∷ done) (limit + length (writes g s t)) turns.1 (omega arith) now.1)
