-- What is kept of a make, as nodes are looked at and done.
use Rattle.std.proofs.Common.{◌≡◌, ◌≢◌, ℕ, zero, suc, ◌<◌, false, List, [], ◌∷◌, length, get_or, set, map, replicate, inl, inr, ◌⊎◌, refl, sym, ap, subst, ◌∙◌, arith}
use Rattle.std.specs.Prelude.{◌↔◌}
use Rattle.std.specs.Vec.{with_item}
use Rattle.std.proofs.Math.ListN.{get_or-map}
use Rattle.std.proofs.lemmas.Bool.{cases_eq}
use Rattle.std.proofs.lemmas.List.{get_or-set_same, get_or-set_other, length-set}
use Rattle.mk_graph.specs.declared.node.Node.{Node}
use Rattle.mk_graph.specs.Membership.{Has}
use Rattle.mk_graph.specs.Graph.{Graph, IsGraph, node, no_node, prerequisites}
use Rattle.mk_graph.specs.ScheduleLaws.{WantedGrows, CanStartStays}
use Rattle.mk_graph.specs.Serial.{serial_order}
use Rattle.mk_graph.specs.Schedules.{Wanted, goal, onward}
use Rattle.mk_graph.specs.Without.{joined}
use Rattle.mk_graph_ready.specs.Rest.{Rest}
use Rattle.mk_graph_ready.specs.RemainingGroups.{IsLeft, IsStopped}
use Rattle.mk_graph_ready.specs.Progress.{Progress, IsIdle, IsFirstIdle, AreNotIdle}
use Rattle.mk_graph_ready.specs.Stages.{Wants, WantsOpened, Wakes, IsOpened, to_come, work}
use Rattle.mk_graph_ready.specs.State.{no_rest, fresh, rest_at, node_at, progress, Stands, IsAtRest}
use Rattle.mk_graph_ready.specs.declared.state.State.{State}
use Rattle.mk_graph_ready.proofs.Stepping.{left_grows, open_wanted, over_done, done_over, left_member, behind_member, work_set, still_stopped}

-- a stage that isn't 0 is that of a node
pub at_nonzero : (xs : List ℕ) (n : ℕ) → ¬ (get_or xs n 0 ≡ 0) → n < length xs
at_nonzero [] n h = absurd (h refl)
at_nonzero (x ∷ xs) zero h = omega arith
at_nonzero (x ∷ xs) (suc n) h = let low = at_nonzero xs n h in omega arith

pub at_one : (xs : List ℕ) (n : ℕ) → get_or xs n 0 ≡ 1 → n < length xs
at_one xs n e = at_nonzero xs n (λ z. let a : get_or xs n 0 ≡ 0 = z in omega arith)

-- At rest all that is wanted was looked at.
module _ (g : Graph) (s : State) (stands : Stands g s) (rest : IsAtRest s) where
  pub wanted_is : (n : ℕ) → Wanted g s.goals s.done n → ¬ (get_or s.stages n 0 ≡ 0)
  wanted_is n (goal h) = stands.goals n h
  wanted_is n (onward {p = p} w there) =
      let wants = wanted_is p w in
      open_wanted s.stages s.done (node g p).groups (rest_at s p) (stands.left p (rw (← stands.stages) (at_nonzero s.stages p wants))) (stands.settled p wants (rest p)).stopped n there

  -- what is idle is marked
  pub idle_marked : (i : ℕ) → i < length (serial_order g) → IsIdle (progress g s) (node_at g i) → get_or s.marks i 0 ≡ 1
  idle_marked i lt idle =
      let n = node_at g i in
      let wants = wanted_is n idle.0.wanted in
      let settled = stands.settled n wants (rest n) in
      let left = stands.left n (rw (← stands.stages) (at_nonzero s.stages n wants)) in
      settled.marked (done_over s.stages s.done (node g n).groups (rest_at s n) left settled.stopped idle.0.prerequisites) idle.0.not_done idle.1 i lt refl

-- the first place at which a node is idle
pub first_at : (p : Progress) (xs : List ℕ) (i : ℕ) → i < length xs → IsIdle p (get_or xs i 0) → ((j : ℕ) → j < i → ¬ (IsIdle p (get_or xs j 0))) → IsFirstIdle p xs (get_or xs i 0)
first_at p [] i lt idle none = absurd (omega arith)
first_at p (x ∷ xs) zero lt idle none = inl (idle, refl)
first_at p (x ∷ xs) (suc i) lt idle none = inr (none zero (omega arith), first_at p xs i (omega arith) idle (λ j low. none (suc j) (omega arith)))

-- no place at which one is
pub none_at : (p : Progress) (xs : List ℕ) → ((j : ℕ) → j < length xs → ¬ (IsIdle p (get_or xs j 0))) → AreNotIdle p xs
none_at p [] none n h idle = absurd h
none_at p (x ∷ xs) none n h idle = elim h [
  | inl e ↦ none zero (omega arith) (subst (IsIdle p) (sym e) idle)
  | inr r ↦ none_at p xs (λ j low. none (suc j) (omega arith)) n r idle
]

pub zero_at : (many n : ℕ) → get_or (replicate {A = ℕ} many 0) n 0 ≡ 0
zero_at zero n = refl
zero_at (suc many) zero = refl
zero_at (suc many) (suc n) = zero_at many n

pub zeros_many : (many : ℕ) → length (replicate {A = ℕ} many 0) ≡ many
zeros_many zero = refl
zeros_many (suc many) = ap suc (zeros_many many)

-- where nothing is wanted
pub blank : (g : Graph) (s : State) → length s.stages ≡ length g.nodes → ((n : ℕ) → get_or s.stages n 0 ≡ 0) → s.left.items ≡ map fresh g.nodes
    → length s.marks ≡ length (serial_order g) → ((i : ℕ) → ¬ (get_or s.marks i 0 ≡ 1)) → ((n : ℕ) → ¬ (Has s.goals n)) → Stands g s
blank g s stages zeros lefts marks none goals = record {
  stages = stages;
  lefts = ap (λ (l : List Rest). length l) lefts ∙ length_map fresh g.nodes;
  marks = marks;
  goals = λ n h. absurd (goals n h);
  wanted = λ n h. absurd (h (zeros n));
  left = λ n lt. let is : rest_at s n ≡ fresh (node g n) = ap (λ (l : List Rest). get_or l n no_rest) lefts ∙ get_or-map fresh g.nodes n no_node in
      subst (λ (r : Rest). IsLeft s.stages s.done (node g n).groups r) (sym is) (record { before = []; past = []; groups_are = refl; members_are = refl; past_done = tt; wanted = λ m h. absurd h });
  settled = λ n h k. absurd (h (zeros n));
  marked = λ i e. absurd (none i e);
}
  where
    length_map : (f : Node → Rest) (ns : List Node) → length (map f ns) ≡ length ns
    length_map f [] = refl
    length_map f (n ∷ ns) = ap suc (length_map f ns)

-- goals are wanted, where nothing was
pub wants_goals : (g : Graph) (s : State) (numbers goals : List ℕ) (stages : List ℕ) → Stands g s → ((n : ℕ) → get_or s.stages n 0 ≡ 0) → ((n : ℕ) → ¬ (Has s.goals n))
    → ((n : ℕ) → Has goals n ↔ (Has numbers n ⊎ Has s.goals n)) → Wants s.stages stages numbers
    → Stands g (record { goals = goals; done = s.done; stages = stages; left = s.left; marks = s.marks })
wants_goals g s numbers goals stages stands zeros none are w = record {
  stages = w.many ∙ stands.stages;
  lefts = stands.lefts;
  marks = stands.marks;
  goals = λ n h. w.all n (named n h);
  wanted = λ n h. goal ((are n).1 (inl (wants n h (w.each n))));
  left = λ n lt. left_grows s.stages stages s.done s.done (node g n).groups (rest_at s n) (λ m h. absurd (h (zeros m))) (λ m h. h) (stands.left n lt);
  settled = λ n h k. absurd (k (one n h (w.each n)));
  marked = λ i e. absurd (wanted_is g s stands (λ n f. let z = zeros n in omega arith) (node_at g i) (stands.marked i e).0.wanted (zeros (node_at g i)));
}
  where
    named : (n : ℕ) → Has goals n → Has numbers n
    named n h = elim ((are n).0 h) [ inl there ↦ there | inr was ↦ absurd (none n was) ]

    wants : (n : ℕ) → ¬ (get_or stages n 0 ≡ 0) → (get_or stages n 0 ≡ get_or s.stages n 0) ⊎ ((get_or s.stages n 0 ≡ 0) × (get_or stages n 0 ≡ 1) × Has numbers n) → Has numbers n
    wants n h (inl is) = absurd (h (is ∙ zeros n))
    wants n h (inr newly) = newly.2

    one : (n : ℕ) → ¬ (get_or stages n 0 ≡ 0) → (get_or stages n 0 ≡ get_or s.stages n 0) ⊎ ((get_or s.stages n 0 ≡ 0) × (get_or stages n 0 ≡ 1) × Has numbers n) → get_or stages n 0 ≡ 1
    one n h (inl is) = absurd (h (is ∙ zeros n))
    one n h (inr newly) = newly.1

-- What becomes of marks where a node is looked at.
pub record MarksOne (g : Graph) (s : State) (t : ℕ) (left : Rest) (marks : List ℕ) : Type 0 where
  pub many : length marks ≡ length s.marks
  pub stay : (i : ℕ) → get_or s.marks i 0 ≡ 1 → get_or marks i 0 ≡ 1
  pub new : (i : ℕ) → get_or marks i 0 ≡ 1 → (get_or s.marks i 0 ≡ 1) ⊎ ((node_at g i ≡ t) × (left.group ≡ []) × ((node g t).recipe ≡ false) × (¬ (Has s.done t)))
  pub idle : left.group ≡ [] → ¬ (Has s.done t) → (node g t).recipe ≡ false → (i : ℕ) → i < length (serial_order g) → node_at g i ≡ t → get_or marks i 0 ≡ 1

-- no mark is set where the node isn't idle
pub marks_none : (g : Graph) (s : State) (t : ℕ) (left : Rest) → (left.group ≡ [] → ¬ (Has s.done t) → (node g t).recipe ≡ false → ⊥) → MarksOne g s t left s.marks
marks_none g s t left not = record {
  many = refl;
  stay = λ i e. e;
  new = λ i e. inl e;
  idle = λ over out plain i lt is. absurd (not over out plain);
}

-- one is where it is
pub marks_one : (g : Graph) (s : State) (t place : ℕ) (left : Rest) → Stands g s → place < length (serial_order g) → node_at g place ≡ t → ((i : ℕ) → i < length (serial_order g) → node_at g i ≡ t → i ≡ place)
    → left.group ≡ [] → (node g t).recipe ≡ false → ¬ (Has s.done t) → MarksOne g s t left (set s.marks place 1)
marks_one g s t place left stands low is only over plain out = record {
  many = length-set s.marks place 1;
  stay = λ i e. elim (cases_eq i place) [
    | inl here ↦ subst (λ k. get_or (set s.marks place 1) k 0 ≡ 1) (sym here) same
    | inr apart ↦ get_or-set_other s.marks place i 1 0 apart ∙ e
  ];
  new = λ i e. elim (cases_eq i place) [
    | inl here ↦ inr (ap (λ k. node_at g k) here ∙ is, over, plain, out)
    | inr apart ↦ inl (sym (get_or-set_other s.marks place i 1 0 apart) ∙ e)
  ];
  idle = λ o d p i lt there. subst (λ k. get_or (set s.marks place 1) k 0 ≡ 1) (sym (only i lt there)) same;
}
  where
    same : get_or (set s.marks place 1) place 0 ≡ 1
    same = get_or-set_same s.marks place 1 0 (rw stands.marks low)

-- what was written is read
pub written_left : (lefts : List Rest) (n : ℕ) (new read : Rest) → n < length lefts → read ≡ get_or (set lefts n new) n read → read ≡ new
written_left lefts n new read low is = is ∙ get_or-set_same lefts n new read low

-- what is behind are nodes
pub behind_low : (g : Graph) (s : State) (t n : ℕ) (rest : Rest) → IsGraph g → Stands g s → t < length g.nodes → rest ≡ rest_at s t → Has (joined rest.behind) n → n < length (set s.stages t 2)
behind_low g s t n rest is stands low at h =
    let member = behind_member s.stages s.done (node g t).groups (rest_at s t) (stands.left t low) n (subst (λ (r : Rest). Has (joined r.behind) n) at h) in
    let edge = is.sound.edges t n member in
    let many = stands.stages in
    omega (arith, length-set s.stages t 2)

-- less is to come
pub looked_less : (s : State) (t : ℕ) (new : List ℕ) (rest : Rest) → t < length s.stages → WantsOpened (set s.stages t 2) new s.done rest → get_or s.stages t 0 ≡ 1 → work new < work s.stages
looked_less s t new rest low w one =
    let h = work_set s.stages t 2 low in
    let e : to_come (get_or s.stages t 0) ≡ 1 = ap to_come one in
    let less = w.less in
    omega arith

-- a node was looked at
pub looked : (g : Graph) (s : State) (t : ℕ) (stages : List ℕ) (left : Rest) (marks : List ℕ) → Stands g s → t < length g.nodes → ¬ (get_or s.stages t 0 ≡ 0)
    → WantsOpened (set s.stages t 2) stages s.done (rest_at s t)
    → ((groups : List (List ℕ)) → IsLeft (set s.stages t 2) s.done groups (rest_at s t) → IsLeft stages s.done groups left)
    → IsStopped s.done left → MarksOne g s t left marks
    → Stands g (record { goals = s.goals; done = s.done; stages = stages; left = with_item s.left t left; marks = marks })
looked g s t stages left marks stands low wants w lefts stopped m = record {
  stages = w.many ∙ (length-set s.stages t 2 ∙ stands.stages);
  lefts = length-set s.left.items t left ∙ stands.lefts;
  marks = m.many ∙ stands.marks;
  goals = λ n h. grows n (stands.goals n h);
  wanted = λ n h. wanted n h (w.each n);
  left = λ n lt. elim (cases_eq n t) [
    | inl is ↦ subst (λ k. IsLeft stages s.done (node g k).groups (get_or (set s.left.items t left) k no_rest)) (sym is) (subst (λ (r : Rest). IsLeft stages s.done (node g t).groups r) (sym this) (lefts (node g t).groups before))
    | inr apart ↦ subst (λ (r : Rest). IsLeft stages s.done (node g n).groups r) (sym (other n apart)) (left_grows s.stages stages s.done s.done (node g n).groups (rest_at s n) grows (λ k h. h) (stands.left n lt))
  ];
  settled = λ n h k. elim (cases_eq n t) [
    | inl is ↦ record {
      stopped = subst (λ j. IsStopped s.done (get_or (set s.left.items t left) j no_rest)) (sym is) (subst (λ (r : Rest). IsStopped s.done r) (sym this) stopped);
      marked = λ over out plain i lt there. m.idle (ap (λ (r : Rest). r.group) (sym this) ∙ subst (λ j. (get_or (set s.left.items t left) j no_rest).group ≡ []) is over) (subst (λ j. ¬ (Has s.done j)) is out) (subst (λ j. (node g j).recipe ≡ false) is plain) i lt (there ∙ is);
    }
    | inr apart ↦
        let old = stands.settled n (was n h k (w.each n) apart).0 (was n h k (w.each n) apart).1 in
        record {
          stopped = subst (λ (r : Rest). IsStopped s.done r) (sym (other n apart)) old.stopped;
          marked = λ over out plain i lt there. m.stay i (old.marked (ap (λ (r : Rest). r.group) (sym (other n apart)) ∙ over) out plain i lt there);
        }
  ];
  marked = λ i e. elim (m.new i e) [
    | inl had ↦ stands.marked i had
    | inr now ↦
        subst (λ k. IsIdle (progress g s) k) (sym now.0) (record { wanted = stands.wanted t wants; not_done = now.3; prerequisites = over_done stages s.done (node g t).groups left (lefts (node g t).groups before) stopped now.1 }, now.2)
  ];
}
  where
    this : get_or (set s.left.items t left) t no_rest ≡ left
    this = get_or-set_same s.left.items t left no_rest (rw stands.lefts low)

    other : (n : ℕ) → n ≢ t → get_or (set s.left.items t left) n no_rest ≡ rest_at s n
    other n apart = get_or-set_other s.left.items t n left no_rest apart

    two : get_or (set s.stages t 2) t 0 ≡ 2
    two = get_or-set_same s.stages t 2 0 (rw stands.stages low)

    first : (n : ℕ) → ¬ (get_or s.stages n 0 ≡ 0) → ¬ (get_or (set s.stages t 2) n 0 ≡ 0)
    first n h e = elim (cases_eq n t) [
      | inl is ↦ let z : get_or (set s.stages t 2) t 0 ≡ 0 = subst (λ k. get_or (set s.stages t 2) k 0 ≡ 0) is e in let y = two in absurd (omega arith)
      | inr apart ↦ h (sym (get_or-set_other s.stages t n 2 0 apart) ∙ e)
    ]

    back : (n : ℕ) → ¬ (get_or (set s.stages t 2) n 0 ≡ 0) → ¬ (get_or s.stages n 0 ≡ 0)
    back n h e = elim (cases_eq n t) [
      | inl is ↦ wants (subst (λ k. get_or s.stages k 0 ≡ 0) is e)
      | inr apart ↦ h (get_or-set_other s.stages t n 2 0 apart ∙ e)
    ]

    before : IsLeft (set s.stages t 2) s.done (node g t).groups (rest_at s t)
    before = left_grows s.stages (set s.stages t 2) s.done s.done (node g t).groups (rest_at s t) first (λ k h. h) (stands.left t low)

    grows : (n : ℕ) → ¬ (get_or s.stages n 0 ≡ 0) → ¬ (get_or stages n 0 ≡ 0)
    grows n h e = elim (w.each n) [
      | inl is ↦ first n h (sym is ∙ e)
      | inr newly ↦ first n h newly.0
    ]

    wanted : (n : ℕ) → ¬ (get_or stages n 0 ≡ 0)
        → (get_or stages n 0 ≡ get_or (set s.stages t 2) n 0) ⊎ ((get_or (set s.stages t 2) n 0 ≡ 0) × (get_or stages n 0 ≡ 1) × IsOpened (set s.stages t 2) s.done (rest_at s t) n)
        → Wanted g s.goals s.done n
    wanted n h (inl is) = stands.wanted n (back n (λ e. h (is ∙ e)))
    wanted n h (inr newly) = onward (stands.wanted t wants) (newly.2 (node g t).groups before)

    was : (n : ℕ) → ¬ (get_or stages n 0 ≡ 0) → ¬ (get_or stages n 0 ≡ 1)
        → (get_or stages n 0 ≡ get_or (set s.stages t 2) n 0) ⊎ ((get_or (set s.stages t 2) n 0 ≡ 0) × (get_or stages n 0 ≡ 1) × IsOpened (set s.stages t 2) s.done (rest_at s t) n)
        → n ≢ t → (¬ (get_or s.stages n 0 ≡ 0)) × (¬ (get_or s.stages n 0 ≡ 1))
    was n h k (inl is) apart =
        let same = is ∙ get_or-set_other s.stages t n 2 0 apart in
        ((λ e. h (same ∙ e)), λ e. k (same ∙ e))
    was n h k (inr newly) apart = absurd (k newly.1)

-- a node is done too
pub done_too : (g : Graph) (s : State) (t place : ℕ) (done users : List ℕ) (stages : List ℕ) → WantedGrows → CanStartStays → Stands g s → t < length g.nodes
    → ((n : ℕ) → Has done n ↔ ((n ≡ t) ⊎ Has s.done n))
    → place < length (serial_order g) → node_at g place ≡ t → ((i : ℕ) → i < length (serial_order g) → node_at g i ≡ t → i ≡ place)
    → ((n : ℕ) → n < length g.nodes → Has (prerequisites g n) t → Has users n) → Wakes s.stages stages users
    → Stands g (record { goals = s.goals; done = done; stages = stages; left = s.left; marks = set s.marks place 0 })
done_too g s t place done users stages wants turns stands low are within is only all w = record {
  stages = w.many ∙ stands.stages;
  lefts = stands.lefts;
  marks = length-set s.marks place 0 ∙ stands.marks;
  goals = λ n h e. stands.goals n h (w.was_new n e);
  wanted = λ n h. wants g s.goals s.goals s.done done (λ m k. k) more n (stands.wanted n (λ e. h (w.stays_new n e)));
  left = λ n lt. left_grows s.stages stages s.done done (node g n).groups (rest_at s n) (λ m h e. h (w.was_new m e)) more (stands.left n lt);
  settled = λ n h k.
      let same = (w.others n h k).0 in
      let out = (w.others n h k).1 in
      let had : ¬ (get_or s.stages n 0 ≡ 0) = λ e. h (same ∙ e) in
      let old = stands.settled n had (λ e. k (same ∙ e)) in
      let node_low : n < length g.nodes = rw (← stands.stages) (at_nonzero s.stages n had) in
      record {
        stopped = still_stopped s.done done t (rest_at s n) (λ m j. (are m).0 j) (λ j. out (all n node_low (left_member s.stages s.done (node g n).groups (rest_at s n) (stands.left n node_low) t j))) old.stopped;
        marked = λ over undone plain i lt there.
            get_or-set_other s.marks place i 0 0 (λ here. undone ((are n).1 (inl (sym there ∙ (ap (λ j. node_at g j) here ∙ is))))) ∙ old.marked over (λ j. undone (more n j)) plain i lt there;
      };
  marked = λ i e. elim (cases_eq i place) [
    | inl here ↦ let z : get_or (set s.marks place 0) place 0 ≡ 1 = subst (λ k. get_or (set s.marks place 0) k 0 ≡ 1) here e in let y = none in absurd (omega arith)
    | inr apart ↦
        let had = sym (get_or-set_other s.marks place i 0 0 apart) ∙ e in
        let idle = stands.marked i had in
        let lt : i < length (serial_order g) = rw (← stands.marks) (at_one s.marks i had) in
        (turns g s.goals s.goals s.done done (λ m k. k) more (node_at g i) (λ j. elim ((are (node_at g i)).0 j) [ inl this ↦ apart (only i lt this) | inr was ↦ idle.0.not_done was ]) idle.0, idle.1)
  ];
}
  where
    more : (n : ℕ) → Has s.done n → Has done n
    more n h = (are n).1 (inr h)

    none : get_or (set s.marks place 0) place 0 ≡ 0
    none = get_or-set_same s.marks place 0 0 (rw stands.marks within)
