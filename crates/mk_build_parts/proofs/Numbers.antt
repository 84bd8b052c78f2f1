-- The numbers that the nodes of a part have in the whole graph.
use Rattle.std.proofs.Common.{◌≡◌, ℕ, ◌<◌, ◌≤◌, List, [], ◌∷◌, Bool, true, false, length, map, filter, None, ◌⊎◌, inl, inr, ⊎_elim, refl, sym, ◌∙◌, ap, subst, arith}
use Rattle.std.specs.Prelude.{if◌then◌else◌, nat_eq, not}
use Rattle.std.specs.List.{flat_map}
use Rattle.std.proofs.lemmas.Bool.{cases_Bool, cases_lt, cond-true, cond-false, eqb-true, ne_eqb}
use Rattle.std.proofs.lemmas.Bool.Decides.{Decides-eqb}
use Rattle.mk_lemmas.proofs.Members.{Has-flat_map, Has-from_flat_map, Has-from_map, Has-map}
use Rattle.mk_graph.proofs.OpenGroups.{InOpenGroup-Has}
use Rattle.mk_graph.proofs.Parts.{HasAll-from_Has}
use Rattle.mk_graph.specs.Membership.{Has}
use Rattle.mk_graph.specs.Graph.{Graph, node, prerequisites, IsGraph}
use Rattle.mk_graph.specs.Schedules.{HasAll, InOpenGroup, Wanted, goal, onward, CanStart}
use Rattle.mk_graph.proofs.Turning.{HasAll-has}
use Rattle.mk_build.specs.Setting.{FileName, Setting, name, reads, writes, IsAlwaysMade}
use Rattle.mk_build.specs.World.{Disk, HasStamp}
use Rattle.mk_build.specs.Steps.{MustRun, changed_at}
use Rattle.mk_build.proofs.ChainWays.{one_number}
use Rattle.mk_infer.specs.Laws.{IsPartOf, IsSameNode}

module _ (h g : Graph) (is_h : IsGraph h) (is_g : IsGraph g) (part : IsPartOf h g) where
  -- each of these is a node of the part
  abbrev pub AreLow : List ℕ → Type 0
  AreLow ns = (x : ℕ) → Has ns x → x < length h.nodes

  -- the number where the node is in the part, else the same
  pick : (n : ℕ) → (n < length h.nodes) ⊎ (length h.nodes ≤ n) → ℕ
  pick n (inl low) = (part n low).0
  pick n (inr high) = n

  -- the number in the whole graph
  pub to : ℕ → ℕ
  to n = pick n (cases_lt n (length h.nodes))

  -- it is a number there, and the node is the same
  to_is : (n : ℕ) → n < length h.nodes → (to n < length g.nodes) × IsSameNode h n g (to n)
  unfolding to pick
  to_is n low = is (cases_lt n (length h.nodes)) where
    is : (c : (n < length h.nodes) ⊎ (length h.nodes ≤ n)) → (pick n c < length g.nodes) × IsSameNode h n g (pick n c)
    is (inl less) = ((part n less).1, (part n less).2)
    is (inr high) = absurd (omega arith)

  -- the node is the same
  pub same : (n : ℕ) → n < length h.nodes → IsSameNode h n g (to n)
  same n low = (to_is n low).1

  -- a number of the whole graph whose node has the name of a node is its number
  pub to_named : (n k : ℕ) → n < length h.nodes → k < length g.nodes → (node h n).name ≡ (node g k).name → to n ≡ k
  to_named n k low k_low e = one_number g is_g.sound (node g k).name (to n) k ((to_is n low).0, sym (same n low).name ∙ e) (k_low, refl)

  -- two nodes have two numbers
  pub to_one : (n m : ℕ) → n < length h.nodes → m < length h.nodes → to n ≡ to m → n ≡ m
  to_one n m low m_low e = one_number h is_h.sound (node h n).name n m (low, refl) (m_low, (same m m_low).name ∙ (ap (λ (k : ℕ). (node g k).name) (sym e) ∙ sym (same n low).name))

  -- numbers are equal where those in the whole graph are
  pub same_test : (t u : ℕ) → t < length h.nodes → u < length h.nodes → nat_eq (to t) (to u) ≡ nat_eq t u
  same_test t u low u_low =
      ⊎_elim (λ yes. (Decides-eqb (to t) (to u)).1 (ap to (eqb-true t u yes)) ∙ sym yes) (λ no. ne_eqb (to t) (to u) (λ e. let same_numbers = to_one t u low u_low e in let yes = (Decides-eqb t u).1 same_numbers in let both : true ≡ false = sym yes ∙ no in absurd (cc)) ∙ sym no) (cases_Bool (nat_eq t u))

  -- a function of nodes, changed at one
  pub changed_to : {A : Type 0} (a b : ℕ → A) (t u : ℕ) (x y : A) → t < length h.nodes → u < length h.nodes → x ≡ y → a (to u) ≡ b u → changed_at a (to t) x (to u) ≡ changed_at b t y u
  changed_to {A} a b t u x y low u_low e rest =
      ap (λ (c : Bool). if c then x else a (to u)) (same_test t u low u_low)
      ∙ (ap (λ (z : A). if nat_eq t u then z else a (to u)) e ∙ ap (λ (z : A). if nat_eq t u then y else z) rest)

  -- a list without one
  pub filter_to : (t : ℕ) (ns : List ℕ) → t < length h.nodes → AreLow ns → filter (λ n. not (nat_eq (to t) n)) (map to ns) ≡ map to (filter (λ n. not (nat_eq t n)) ns)
  filter_to t [] low all = refl
  filter_to t (n ∷ ns) low all =
      let rest = filter_to t ns low (λ x there. all x (inr there)) in
      let left = filter (λ k. not (nat_eq t k)) ns in
      ap (λ (c : Bool). if not c then (to n ∷ filter (λ k. not (nat_eq (to t) k)) (map to ns)) else filter (λ k. not (nat_eq (to t) k)) (map to ns)) (same_test t n low (all n (inl refl)))
      ∙ (ap (λ (l : List ℕ). if not (nat_eq t n) then (to n ∷ l) else l) rest
      ∙ ⊎_elim (λ yes. cond-true (not (nat_eq t n)) (to n ∷ map to left) (map to left) yes ∙ sym (ap (map to) (cond-true (not (nat_eq t n)) (n ∷ left) left yes))) (λ no. cond-false (not (nat_eq t n)) (to n ∷ map to left) (map to left) no ∙ sym (ap (map to) (cond-false (not (nat_eq t n)) (n ∷ left) left no))) (cases_Bool (not (nat_eq t n))))

  -- the names of nodes
  pub names_to : (ns : List ℕ) → AreLow ns → map (name h) ns ≡ map (name g) (map to ns)
  names_to [] all = refl
  names_to (n ∷ ns) all = ap (λ (f : FileName). f ∷ map (name h) ns) (same n (all n (inl refl))).name ∙ ap (λ (l : List FileName). name g (to n) ∷ l) (names_to ns (λ x there. all x (inr there)))

  -- numbers of the same names
  list_is : (ps ks : List ℕ) → AreLow ps → ((k : ℕ) → Has ks k → k < length g.nodes) → map (λ p. (node h p).name) ps ≡ map (λ p. (node g p).name) ks → map to ps ≡ ks
  list_is [] [] low k_low e = refl
  list_is [] (k ∷ ks) low k_low e = absurd (cc)
  list_is (p ∷ ps) [] low k_low e = absurd (cc)
  list_is (p ∷ ps) (k ∷ ks) low k_low e =
      let first : (node h p).name ≡ (node g k).name = cc in
      let others : map (λ p. (node h p).name) ps ≡ map (λ p. (node g p).name) ks = cc in
      ap (λ (x : ℕ). x ∷ map to ps) (to_named p k (low p (inl refl)) (k_low k (inl refl)) first) ∙ ap (λ (l : List ℕ). k ∷ l) (list_is ps ks (λ x there. low x (inr there)) (λ x there. k_low x (inr there)) others)

  -- and groups of them
  groups_is : (ps ks : List (List ℕ)) → ((l : List ℕ) (x : ℕ) → Has ps l → Has l x → x < length h.nodes) → ((l : List ℕ) (k : ℕ) → Has ks l → Has l k → k < length g.nodes) → map (map (λ p. (node h p).name)) ps ≡ map (map (λ p. (node g p).name)) ks → map (map to) ps ≡ ks
  groups_is [] [] low k_low e = refl
  groups_is [] (k ∷ ks) low k_low e = absurd (cc)
  groups_is (p ∷ ps) [] low k_low e = absurd (cc)
  groups_is (p ∷ ps) (k ∷ ks) low k_low e =
      let first : map (λ p. (node h p).name) p ≡ map (λ p. (node g p).name) k = cc in
      let others : map (map (λ p. (node h p).name)) ps ≡ map (map (λ p. (node g p).name)) ks = cc in
      ap (λ (x : List ℕ). x ∷ map (map to) ps) (list_is p k (λ x here. low p x (inl refl) here) (λ x here. k_low k x (inl refl) here) first) ∙ ap (λ (l : List (List ℕ)). k ∷ l) (groups_is ps ks (λ l x there. low l x (inr there)) (λ l x there. k_low l x (inr there)) others)

  -- the groups of a node
  groups_are : (n : ℕ) → n < length h.nodes → map (map to) (node h n).groups ≡ (node g (to n)).groups
  groups_are n low = groups_is (node h n).groups (node g (to n)).groups (λ l x has_l has_x. is_h.sound.edges n x (Has-flat_map (λ group. group) (node h n).groups l x has_l has_x)) (λ l k has_l has_k. is_g.sound.edges (to n) k (Has-flat_map (λ group. group) (node g (to n)).groups l k has_l has_k)) (same n low).groups

  -- a prerequisite is one there
  pub pre_to : (n p : ℕ) → n < length h.nodes → Has (prerequisites h n) p → Has (prerequisites g (to n)) (to p)
  pre_to n p low has =
      let found = Has-from_flat_map (λ group. group) (node h n).groups p has in
      subst (λ (gs : List (List ℕ)). Has (flat_map (λ group. group) gs) (to p)) (groups_are n low) (Has-flat_map (λ group. group) (map (map to) (node h n).groups) (map to found.0) (to p) (Has-map (map to) (node h n).groups found.0 found.1) (Has-map to found.0 p found.2))

  -- and each one there is one here
  pub pre_from : (n k : ℕ) → n < length h.nodes → Has (prerequisites g (to n)) k → (p : ℕ) × Has (prerequisites h n) p × (to p ≡ k)
  pre_from n k low has =
      let groups = (node h n).groups in
      let found = Has-from_flat_map (λ group. group) (map (map to) groups) k (subst (λ (gs : List (List ℕ)). Has (flat_map (λ group. group) gs) k) (sym (groups_are n low)) has) in
      let group = Has-from_map (map to) groups found.0 found.1 in
      let one = Has-from_map to group.0 k (subst (λ (l : List ℕ). Has l k) (sym group.2) found.2) in
      (one.0, Has-flat_map (λ group. group) groups group.0 one.0 group.1 one.1, one.2)

  -- one of a list there is one of the list here
  pub unmapped : (ns : List ℕ) (n : ℕ) → AreLow ns → n < length h.nodes → Has (map to ns) (to n) → Has ns n
  unmapped ns n all low has = let one = Has-from_map to ns (to n) has in subst (λ (k : ℕ). Has ns k) (to_one one.0 n (all one.0 one.1) low one.2) one.1

  -- what stands wholly in a list does so there
  pub all_to : (ns ms : List ℕ) → HasAll ns ms → HasAll (map to ns) (map to ms)
  all_to ns [] all = tt
  all_to ns (m ∷ ms) all = (Has-map to ns m all.0, all_to ns ms all.1)

  -- open groups
  open_to : (done : List ℕ) (groups : List (List ℕ)) (n : ℕ) → InOpenGroup done groups n → InOpenGroup (map to done) (map (map to) groups) (to n)
  open_to done [] n h = absurd h
  open_to done (group ∷ groups) n (inl here) = inl (Has-map to group n here)
  open_to done (group ∷ groups) n (inr there) = inr (all_to done group there.0, open_to done groups n there.1)

  module _ (goals done : List ℕ) (goals_low : AreLow goals) where
    -- what is wanted
    wanted_to : {n : ℕ} → Wanted h goals done n → (n < length h.nodes) × Wanted g (map to goals) (map to done) (to n)
    wanted_to (goal {n = n} is) = (goals_low n is, goal (Has-map to goals n is))
    wanted_to (onward {p = p} {n = n} wanted in_open) =
        let before = wanted_to wanted in (
          is_h.sound.edges p n (InOpenGroup-Has done (node h p).groups n in_open),
          onward before.1
              (subst (λ (gs : List (List ℕ)). InOpenGroup (map to done) gs (to n)) (groups_are p before.0) (open_to done (node h p).groups n in_open)),
        )

    -- what can start
    pub start_to : (n : ℕ) → AreLow done → CanStart h goals done n → (n < length h.nodes) × CanStart g (map to goals) (map to done) (to n)
    start_to n done_low can =
        let wanted = wanted_to can.wanted in (
          wanted.0,
          record {
            wanted = wanted.1;
            not_done = λ is_done. can.not_done (unmapped done n done_low wanted.0 is_done);
            prerequisites = HasAll-from_Has (map to done) (prerequisites g (to n)) (λ k has. let one = pre_from n k wanted.0 has in subst (λ (x : ℕ). Has (map to done) x) one.2 (Has-map to done one.0 (HasAll-has done (prerequisites h n) one.0 can.prerequisites one.1)));
          },
        )

  -- always made here, always made there
  always_to : (t : ℕ) → t < length h.nodes → IsAlwaysMade h t → IsAlwaysMade g (to t)
  always_to t low (inl phony) = inl (sym (same t low).phony ∙ phony)
  always_to t low (inr (p, has, phony)) = inr (to p, pre_to t p low has, sym (same p (is_h.sound.edges t p has)).phony ∙ phony)

  -- and the other way round
  always_from : (t : ℕ) → t < length h.nodes → IsAlwaysMade g (to t) → IsAlwaysMade h t
  always_from t low (inl phony) = inl ((same t low).phony ∙ phony)
  always_from t low (inr (k, has, phony)) = let one = pre_from t k low has in inr (one.0, one.1, (same one.0 (is_h.sound.edges t one.0 one.1)).phony ∙ subst (λ (x : ℕ). (node g x).phony ≡ true) (sym one.2) phony)

  -- what must run here must run there
  pub must_to : (d : Disk) (t : ℕ) → t < length h.nodes → MustRun h d t → MustRun g d (to t)
  must_to d t low (inl always) = inl (always_to t low always)
  must_to d t low (inr (inl absent)) = inr (inl (subst (λ (f : FileName). d.files f ≡ None) (same t low).name absent))
  must_to d t low (inr (inr (p, stamp, later, has, own, late, less))) = inr (inr (to p, stamp, later, pre_to t p low has, subst (λ (f : FileName). HasStamp d f stamp) (same t low).name own, subst (λ (f : FileName). HasStamp d f later) (same p (is_h.sound.edges t p has)).name late, less))

  -- and the other way round
  pub must_from : (d : Disk) (t : ℕ) → t < length h.nodes → MustRun g d (to t) → MustRun h d t
  must_from d t low (inl always) = inl (always_from t low always)
  must_from d t low (inr (inl absent)) = inr (inl (subst (λ (f : FileName). d.files f ≡ None) (sym (same t low).name) absent))
  must_from d t low (inr (inr (k, stamp, later, has, own, late, less))) =
      let one = pre_from t k low has in
      inr (inr (one.0, stamp, later, one.1, subst (λ (f : FileName). HasStamp d f stamp) (sym (same t low).name) own, subst (λ (f : FileName). HasStamp d f later) (ap (λ (x : ℕ). (node g x).name) (sym one.2) ∙ sym (same one.0 (is_h.sound.edges t one.0 one.1)).name) late, less))

  module _ (s : Setting) where
    -- the same reads
    pub reads_are : (t : ℕ) → t < length h.nodes → reads g s (to t) ≡ reads h s t
    reads_are t low = ap (λ (b : Bool). if b then s.reads (name g (to t)) else []) (sym (same t low).recipe) ∙ ap (λ (f : FileName). if (node h t).recipe then s.reads f else []) (sym (same t low).name)

    -- the same writes
    pub writes_are : (t : ℕ) → t < length h.nodes → writes g s (to t) ≡ writes h s t
    writes_are t low = ap (λ (b : Bool). if b then s.writes (name g (to t)) else []) (sym (same t low).recipe) ∙ ap (λ (f : FileName). if (node h t).recipe then s.writes f else []) (sym (same t low).name)
