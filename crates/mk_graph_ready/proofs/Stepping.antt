-- Stages of nodes, and what is left of their groups.
use Rattle.std.proofs.Common.{◌≡◌, ◌≢◌, ℕ, zero, suc, ◌+◌, ◌<◌, ◌≤◌, List, [], ◌∷◌, ◌++◌, length, get_or, set, take, inl, inr, ◌⊎◌, refl, sym, ap, subst, ◌∙◌, arith, append-nil, append_assoc}
use Rattle.std.proofs.lemmas.Bool.{cases_eq}
use Rattle.std.proofs.lemmas.List.{get_or-set_same, get_or-set_other, length-set}
use Rattle.mk_lemmas.proofs.Members.{Has-cases, Has-left, Has-right}
use Rattle.mk_graph.specs.Membership.{Has}
use Rattle.mk_graph.specs.Schedules.{HasAll, InOpenGroup}
use Rattle.mk_graph.specs.Without.{joined}
use Rattle.mk_graph_ready.specs.Rest.{Rest}
use Rattle.mk_graph_ready.specs.RemainingGroups.{Skips, IsStopped, IsStoppedAt, Halts, Opens, IsLeft}
use Rattle.mk_graph_ready.specs.Stages.{to_come, work, Wants, IsOpened, WantsOpened, Wakes}
use Rattle.mk_graph_ready.proofs.Lists.{all_has, has_all, all_joined, all_more, joined_both, more_taken, taken_more}

-- one stage is another one
pub work_set : (stages : List ℕ) (k v : ℕ) → k < length stages → work (set stages k v) + to_come (get_or stages k 0) ≡ work stages + to_come v
work_set [] k v lt = absurd (omega arith)
work_set (s ∷ stages) zero v lt = omega arith
work_set (s ∷ stages) (suc k) v lt = let h = work_set stages k v (omega arith) in omega arith

-- a node is wanted that wasn't
pub wants_one : (old mid group : List ℕ) (i : ℕ) → i < length group → get_or group i 0 < length mid → get_or mid (get_or group i 0) 0 ≡ 0 → Wants old mid (take i group) → Wants old (set mid (get_or group i 0) 1) (take (i + 1) group)
wants_one old mid group i lt low new w =
    let k = get_or group i 0 in
    let same : get_or (set mid k 1) k 0 ≡ 1 = get_or-set_same mid k 1 0 low in
    record {
      many = length-set mid k 1 ∙ w.many;
      all = λ n h. elim (cases_eq n k) [
        | inl is ↦ subst (λ m. ¬ (get_or (set mid k 1) m 0 ≡ 0)) (sym is) (λ e. let bad : get_or (set mid k 1) k 0 ≡ 0 = e in omega arith)
        | inr apart ↦ λ e. elim (more_taken group i n lt h) [
          | inl before ↦ w.all n before (sym (get_or-set_other mid k n 1 0 apart) ∙ e)
          | inr is ↦ apart (sym is)
        ]
      ];
      each = λ n. elim (cases_eq n k) [
        | inl is ↦ subst (λ m. (get_or (set mid k 1) m 0 ≡ get_or old m 0) ⊎ ((get_or old m 0 ≡ 0) × (get_or (set mid k 1) m 0 ≡ 1) × Has (take (i + 1) group) m)) (sym is) (inr (was k new (w.each k), same, taken_more group i k lt (inr refl)))
        | inr apart ↦ other n apart (w.each n)
      ];
      less = fewer k new (work_set mid k 1 low) w.less;
    }
  where
    was : (k : ℕ) → get_or mid k 0 ≡ 0 → (get_or mid k 0 ≡ get_or old k 0) ⊎ ((get_or old k 0 ≡ 0) × (get_or mid k 0 ≡ 1) × Has (take i group) k) → get_or old k 0 ≡ 0
    was k e (inl is) = sym is ∙ e
    was k e (inr newly) = newly.0

    other : (n : ℕ) → n ≢ get_or group i 0 → (get_or mid n 0 ≡ get_or old n 0) ⊎ ((get_or old n 0 ≡ 0) × (get_or mid n 0 ≡ 1) × Has (take i group) n)
        → (get_or (set mid (get_or group i 0) 1) n 0 ≡ get_or old n 0) ⊎ ((get_or old n 0 ≡ 0) × (get_or (set mid (get_or group i 0) 1) n 0 ≡ 1) × Has (take (i + 1) group) n)
    other n apart (inl is) = inl (get_or-set_other mid (get_or group i 0) n 1 0 apart ∙ is)
    other n apart (inr newly) = inr (newly.0, get_or-set_other mid (get_or group i 0) n 1 0 apart ∙ newly.1, taken_more group i n lt (inl newly.2))

    fewer : (k : ℕ) → get_or mid k 0 ≡ 0 → work (set mid k 1) + to_come (get_or mid k 0) ≡ work mid + 1 → work mid ≤ work old → work (set mid k 1) ≤ work old
    fewer k e h less = let two : to_come (get_or mid k 0) ≡ 2 = ap to_come e in omega arith

-- a node is wanted already
pub wants_had : (old mid group : List ℕ) (i : ℕ) → i < length group → ¬ (get_or mid (get_or group i 0) 0 ≡ 0) → Wants old mid (take i group) → Wants old mid (take (i + 1) group)
wants_had old mid group i lt had w = record {
  many = w.many;
  all = λ n h e. elim (more_taken group i n lt h) [ inl before ↦ w.all n before e | inr is ↦ had (subst (λ m. get_or mid m 0 ≡ 0) (sym is) e) ];
  each = λ n. elim (w.each n) [ inl is ↦ inl is | inr newly ↦ inr (newly.0, newly.1, taken_more group i n lt (inl newly.2)) ];
  less = w.less;
}

-- a node that is wanted is to be looked at
pub wakes_one : (old mid numbers : List ℕ) (i : ℕ) → i < length numbers → get_or numbers i 0 < length mid → ¬ (get_or mid (get_or numbers i 0) 0 ≡ 0) → Wakes old mid (take i numbers) → Wakes old (set mid (get_or numbers i 0) 1) (take (i + 1) numbers)
wakes_one old mid numbers i lt low had w =
    let k = get_or numbers i 0 in
    let same : get_or (set mid k 1) k 0 ≡ 1 = get_or-set_same mid k 1 0 low in
    record {
      many = length-set mid k 1 ∙ w.many;
      was_new = λ n e. elim (cases_eq n k) [
        | inl is ↦ let z : get_or (set mid k 1) k 0 ≡ 0 = subst (λ m. get_or (set mid k 1) m 0 ≡ 0) is e in absurd (omega arith)
        | inr apart ↦ w.was_new n (sym (get_or-set_other mid k n 1 0 apart) ∙ e)
      ];
      stays_new = λ n e. elim (cases_eq n k) [
        | inl is ↦ absurd (had (w.stays_new k (subst (λ m. get_or old m 0 ≡ 0) is e)))
        | inr apart ↦ get_or-set_other mid k n 1 0 apart ∙ w.stays_new n e
      ];
      others = λ n apart_0 apart_1. elim (cases_eq n k) [
        | inl is ↦ absurd (apart_1 (subst (λ m. get_or (set mid k 1) m 0 ≡ 1) (sym is) same))
        | inr apart ↦
            let is = get_or-set_other mid k n 1 0 apart in
            let before = w.others n (λ e. apart_0 (is ∙ e)) (λ e. apart_1 (is ∙ e)) in
            (is ∙ before.0, λ h. elim (more_taken numbers i n lt h) [ inl there ↦ before.1 there | inr here ↦ apart (sym here) ])
      ];
    }

pub wakes_none : (old mid numbers : List ℕ) (i : ℕ) → i < length numbers → get_or mid (get_or numbers i 0) 0 ≡ 0 → Wakes old mid (take i numbers) → Wakes old mid (take (i + 1) numbers)
wakes_none old mid numbers i lt new w = record {
  many = w.many;
  was_new = w.was_new;
  stays_new = w.stays_new;
  others = λ n apart_0 apart_1.
      let before = w.others n apart_0 apart_1 in
      (before.0, λ h. elim (more_taken numbers i n lt h) [ inl there ↦ before.1 there | inr here ↦ apart_0 (subst (λ m. get_or mid m 0 ≡ 0) here new) ]);
}

-- what is left stays so where more is wanted and more is done
pub left_grows : (stages more done later : List ℕ) (groups : List (List ℕ)) (rest : Rest) → ((n : ℕ) → ¬ (get_or stages n 0 ≡ 0) → ¬ (get_or more n 0 ≡ 0)) → ((n : ℕ) → Has done n → Has later n)
    → IsLeft stages done groups rest → IsLeft more later groups rest
left_grows stages more done later groups rest wants does l = record {
  before = l.before;
  past = l.past;
  groups_are = l.groups_are;
  members_are = l.members_are;
  past_done = all_more done later l.past does l.past_done;
  wanted = λ n h. wants n (l.wanted n h);
}

-- the members of open groups are those past and those left
halted_members : (xs past skipped all left : List ℕ) → xs ≡ past ++ all → all ≡ skipped ++ left → xs ≡ (past ++ skipped) ++ left
halted_members xs past skipped all left is split = is ∙ (ap (λ (l : List ℕ). past ++ l) split ∙ sym (append_assoc past skipped left))

-- done members are passed over
pub halts_left : (stages done : List ℕ) (groups : List (List ℕ)) (old new : Rest) → Halts done old new → IsLeft stages done groups old → IsLeft stages done groups new
halts_left stages done groups old new h l = record {
  before = l.before;
  past = l.past ++ h.skips.past;
  groups_are = l.groups_are ∙ ap (λ (b : List (List ℕ)). l.before ++ b) (sym h.behind);
  members_are = halted_members (joined l.before) l.past h.skips.past old.group new.group l.members_are h.skips.all_are;
  past_done = all_joined done l.past h.skips.past l.past_done h.skips.past_done;
  wanted = l.wanted;
}

-- where all of a group are done, all members of open groups are
all_past : (stages done : List ℕ) (groups : List (List ℕ)) (rest : Rest) → Skips done rest.group [] → (l : IsLeft stages done groups rest) → HasAll done (joined l.before)
all_past stages done groups rest s l =
    subst (λ (ns : List ℕ). HasAll done ns) (sym (halted_members (joined l.before) l.past s.past rest.group [] l.members_are s.all_are ∙ append-nil (l.past ++ s.past))) (all_joined done l.past s.past l.past_done s.past_done)

-- the next group is open then
in_open : (done : List ℕ) (before : List (List ℕ)) (group : List ℕ) (behind : List (List ℕ)) (n : ℕ) → HasAll done (joined before) → Has group n → InOpenGroup done (before ++ group ∷ behind) n
in_open done [] group behind n all h = inl h
in_open done (b ∷ before) group behind n all h =
    let some : (m : ℕ) → Has (b ++ joined before) m → Has done m = λ m k. all_has done (b ++ joined before) m all k in
    inr (has_all done b (λ m k. some m (Has-left b (joined before) m k)), in_open done before group behind n (has_all done (joined before) (λ m k. some m (Has-right b (joined before) m k))) h)

pub opened_now : (stages done : List ℕ) (groups : List (List ℕ)) (old new : Rest) (group : List ℕ) → Opens done old new group → IsLeft stages done groups old → (n : ℕ) → Has group n → InOpenGroup done groups n
opened_now stages done groups old new group o l n h =
    subst (λ (gs : List (List ℕ)). InOpenGroup done gs n) (sym (l.groups_are ∙ ap (λ (b : List (List ℕ)). l.before ++ b) o.behind)) (in_open done l.before group new.behind n (all_past stages done groups old o.skips l) h)

-- and it is left
pub opens_left : (stages more done : List ℕ) (groups : List (List ℕ)) (old new : Rest) (group : List ℕ) → Opens done old new group → Wants stages more group → IsLeft stages done groups old → IsLeft more done groups new
opens_left stages more done groups old new group o w l = record {
  before = l.before ++ group ∷ [];
  past = l.past ++ o.skips.past;
  groups_are = l.groups_are ∙ (ap (λ (b : List (List ℕ)). l.before ++ b) o.behind ∙ sym (append_assoc l.before (group ∷ []) new.behind));
  members_are = members ∙ (ap (λ (ns : List ℕ). ns ++ group) was ∙ ap (λ (ns : List ℕ). (l.past ++ o.skips.past) ++ ns) (sym o.group_is));
  past_done = all_joined done l.past o.skips.past l.past_done o.skips.past_done;
  wanted = λ n h. elim (Has-cases (joined l.before) group n (subst (λ (ns : List ℕ). Has ns n) members h)) [ inl had ↦ stays n (l.wanted n had) (w.each n) | inr new ↦ w.all n new ];
}
  where
    members : joined (l.before ++ group ∷ []) ≡ joined l.before ++ group
    members = joined_both l.before (group ∷ []) ∙ ap (λ (ns : List ℕ). joined l.before ++ ns) (append-nil group)

    was : joined l.before ≡ l.past ++ o.skips.past
    was = halted_members (joined l.before) l.past o.skips.past old.group [] l.members_are o.skips.all_are ∙ append-nil (l.past ++ o.skips.past)

    stays : (n : ℕ) → ¬ (get_or stages n 0 ≡ 0) → (get_or more n 0 ≡ get_or stages n 0) ⊎ ((get_or stages n 0 ≡ 0) × (get_or more n 0 ≡ 1) × Has group n) → ¬ (get_or more n 0 ≡ 0)
    stays n had (inl is) e = had (sym is ∙ e)
    stays n had (inr newly) e = had newly.0

-- one more group is opened, and its members are wanted
pub wants_more : (first stages more done : List ℕ) (start old new : Rest) (group : List ℕ)
    → ((groups : List (List ℕ)) → IsLeft first done groups start → IsLeft stages done groups old)
    → Opens done old new group → Wants stages more group → WantsOpened first stages done start → WantsOpened first more done start
wants_more first stages more done start old new group lefts o w before = record {
  many = w.many ∙ before.many;
  each = λ n. joins n (w.each n) (before.each n);
  less = (let a = w.less in let b = before.less in omega arith);
}
  where
    joins : (n : ℕ) → (get_or more n 0 ≡ get_or stages n 0) ⊎ ((get_or stages n 0 ≡ 0) × (get_or more n 0 ≡ 1) × Has group n)
        → (get_or stages n 0 ≡ get_or first n 0) ⊎ ((get_or first n 0 ≡ 0) × (get_or stages n 0 ≡ 1) × IsOpened first done start n)
        → (get_or more n 0 ≡ get_or first n 0) ⊎ ((get_or first n 0 ≡ 0) × (get_or more n 0 ≡ 1) × IsOpened first done start n)
    joins n (inl is) (inl was) = inl (is ∙ was)
    joins n (inl is) (inr newly) = inr (newly.0, is ∙ newly.1, newly.2)
    joins n (inr now) (inl was) = inr (sym was ∙ now.0, now.1, λ groups l. opened_now stages done groups old new group o (lefts groups l) n now.2)
    joins n (inr now) (inr newly) = let e = now.0 in let f = newly.1 in absurd (omega arith)

-- Where it is stopped, what is in an open group is wanted.
pub open_wanted : (stages done : List ℕ) (groups : List (List ℕ)) (rest : Rest) → IsLeft stages done groups rest → IsStopped done rest → (n : ℕ) → InOpenGroup done groups n → ¬ (get_or stages n 0 ≡ 0)
open_wanted stages done groups rest l stopped n stands =
    cases (within l.before rest.behind (subst (λ (gs : List (List ℕ)). InOpenGroup done gs n) l.groups_are stands))
  where
    within : (before behind : List (List ℕ)) → InOpenGroup done (before ++ behind) n → Has (joined before) n ⊎ (HasAll done (joined before) × InOpenGroup done behind n)
    within [] behind h = inr (tt, h)
    within (b ∷ before) behind (inl here) = inl (Has-left b (joined before) n here)
    within (b ∷ before) behind (inr later) = elim (within before behind later.1) [
      | inl there ↦ inl (Has-right b (joined before) n there)
      | inr past ↦ inr (all_joined done b (joined before) later.0 past.0, past.1)
    ]

    none : (group : List ℕ) (behind : List (List ℕ)) → IsStoppedAt done group behind → ((m : ℕ) → Has group m → Has done m) → InOpenGroup done behind n → ⊥
    none [] behind stop all h = subst (λ (gs : List (List ℕ)). InOpenGroup done gs n) stop h
    none (next ∷ group) behind stop all h = stop (all next (inl refl))

    cases : Has (joined l.before) n ⊎ (HasAll done (joined l.before) × InOpenGroup done rest.behind n) → ¬ (get_or stages n 0 ≡ 0)
    cases (inl there) = l.wanted n there
    cases (inr past) =
        absurd (none rest.group rest.behind stopped (λ m h. all_has done (joined l.before) m past.0 (subst (λ (ns : List ℕ). Has ns m) (sym l.members_are) (Has-right l.past rest.group m h))) past.1)

-- where nothing is left, all prerequisites are done
pub over_done : (stages done : List ℕ) (groups : List (List ℕ)) (rest : Rest) → IsLeft stages done groups rest → IsStopped done rest → rest.group ≡ [] → HasAll done (joined groups)
over_done stages done groups rest l stopped over =
    let none : rest.behind ≡ [] = subst (λ (ns : List ℕ). IsStoppedAt done ns rest.behind) over stopped in
    let all : joined groups ≡ joined l.before = ap (λ (gs : List (List ℕ)). joined gs) (l.groups_are ∙ (ap (λ (b : List (List ℕ)). l.before ++ b) none ∙ append-nil l.before)) in
    let past : joined l.before ≡ l.past = l.members_are ∙ (ap (λ (ns : List ℕ). l.past ++ ns) over ∙ append-nil l.past) in
    subst (λ (ns : List ℕ). HasAll done ns) (sym (all ∙ past)) l.past_done

-- where all prerequisites are done, nothing is left
pub done_over : (stages done : List ℕ) (groups : List (List ℕ)) (rest : Rest) → IsLeft stages done groups rest → IsStopped done rest → HasAll done (joined groups) → rest.group ≡ []
done_over stages done groups rest l stopped all = at rest.group stopped (λ m h. all_has done (joined groups) m all (member m h))
  where
    member : (m : ℕ) → Has rest.group m → Has (joined groups) m
    member m h =
        let all_of : joined groups ≡ joined l.before ++ joined rest.behind = ap (λ (gs : List (List ℕ)). joined gs) l.groups_are ∙ joined_both l.before rest.behind in
        subst (λ (ns : List ℕ). Has ns m) (sym all_of) (Has-left (joined l.before) (joined rest.behind) m (subst (λ (ns : List ℕ). Has ns m) (sym l.members_are) (Has-right l.past rest.group m h)))

    at : (group : List ℕ) → IsStoppedAt done group rest.behind → ((m : ℕ) → Has group m → Has done m) → group ≡ []
    at [] stop h = refl
    at (next ∷ group) stop h = absurd (stop (h next (inl refl)))

-- a member that is left is a prerequisite, and so is one of a group behind
pub left_member : (stages done : List ℕ) (groups : List (List ℕ)) (rest : Rest) → IsLeft stages done groups rest → (m : ℕ) → Has rest.group m → Has (joined groups) m
left_member stages done groups rest l m h =
    let all_of : joined groups ≡ joined l.before ++ joined rest.behind = ap (λ (gs : List (List ℕ)). joined gs) l.groups_are ∙ joined_both l.before rest.behind in
    subst (λ (ns : List ℕ). Has ns m) (sym all_of) (Has-left (joined l.before) (joined rest.behind) m (subst (λ (ns : List ℕ). Has ns m) (sym l.members_are) (Has-right l.past rest.group m h)))

pub behind_member : (stages done : List ℕ) (groups : List (List ℕ)) (rest : Rest) → IsLeft stages done groups rest → (m : ℕ) → Has (joined rest.behind) m → Has (joined groups) m
behind_member stages done groups rest l m h =
    let all_of : joined groups ≡ joined l.before ++ joined rest.behind = ap (λ (gs : List (List ℕ)). joined gs) l.groups_are ∙ joined_both l.before rest.behind in
    subst (λ (ns : List ℕ). Has ns m) (sym all_of) (Has-right (joined l.before) (joined rest.behind) m h)

-- a node is still stopped where the one that is done now isn't left of it
pub still_stopped : (done later : List ℕ) (t : ℕ) (rest : Rest) → ((n : ℕ) → Has later n → (n ≡ t) ⊎ Has done n) → ¬ (Has rest.group t) → IsStopped done rest → IsStopped later rest
still_stopped done later t rest was none stopped = at rest.group none stopped
  where
    at : (group : List ℕ) → ¬ (Has group t) → IsStoppedAt done group rest.behind → IsStoppedAt later group rest.behind
    at [] out stop = stop
    at (next ∷ group) out stop = λ h. elim (was next h) [ inl is ↦ out (inl is) | inr had ↦ stop had ]
