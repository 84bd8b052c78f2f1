-- On a cycle in the graph with the lines of offers stands one of these lines.
use Rattle.std.proofs.Common.{◌≡◌, ◌∙◌, ℕ, ◌+◌, ◌<◌, ◌≤◌, ◌==◌, ◌&&◌, ◌||◌, ◌⊎◌, Bool, true, false, cond, List, [], ◌∷◌, ◌++◌, get_or, length, map, Option, None, Some, inl, inr, ⊎_elim, refl, sym, ap, subst, arith, append_assoc, append-nil, length-append}
use Rattle.std.specs.Prelude.{nat_lt, option_to_list}
use Rattle.std.specs.Str.{bytes_eq}
use Rattle.std.proofs.lemmas.Bool.{eqb-true, ltb-true}
use Rattle.std.proofs.lemmas.List.{get_or-map, length-map}
use Rattle.std.proofs.lemmas.List.Sums.{passes_at_first}
use Rattle.std.proofs.lemmas.Slice.Eq.{bytes_eq-Decides}
use Rattle.mk_lemmas.proofs.Members.{Has-cases, Has-from_then}
use Rattle.mk_lines.specs.Names.{number_of}
use Rattle.mk_graph.specs.declared.node.Node.{Node}
use Rattle.mk_graph.specs.Graph.{Graph, HasNoCycle, HasPath, IsGraph, no_node, node, one, prerequisites, then}
use Rattle.mk_graph.specs.Laws.{ClosesOnlyCycles, GoesAlong, IsCycle, further, step}
use Rattle.mk_graph.specs.Membership.{Has}
use Rattle.mk_graph.proofs.Acyclic.{no_node_leads_to_itself}
use Rattle.mk_build_needs.specs.NeedsGraph.{IsFirstCycle, with_prerequisites}
use Rattle.mk_claims.proofs.WiderGraphs.{node_is, prerequisites_within}
use Rattle.mk_repair.specs.Word.{Word, needs, phony}
use Rattle.mk_claims.specs.Offers.{Offer, cycle_text, graph_with, has_step, is_on, names_in, needed_in, open_word, open_words, stand_after, step_of, steps_of, without_step}
use Rattle.mk_claims.proofs.OfferRows.{needed-append, steps_joined}

-- the name of a node
abbrev name_in : Graph → ℕ → List ℕ
name_in g n = (node g n).name

-- the first number stands right before the second one
record StandBeside (path : List ℕ) (n p : ℕ) : Type 0 where
  front : List ℕ
  back : List ℕ
  split : path ≡ front ++ n ∷ p ∷ back

module _ (g : Graph) (more : ℕ → List ℕ) where
  abbrev given : ℕ → List ℕ
  given n = prerequisites g n ++ more n

  abbrev wider : Graph
  wider = with_prerequisites g given

  -- a further prerequisite stands on the path
  record Uses (path : List ℕ) : Type 0 where
    number : ℕ
    needed : ℕ
    low : number < length g.nodes
    there : Has (more number) needed
    beside : StandBeside path number needed

  -- a prerequisite is one of the graph or a further one
  one_of : (n p : ℕ) → Has (prerequisites wider n) p → Has (prerequisites g n) p ⊎ ((n < length g.nodes) × Has (more n) p)
  one_of n p h =
      let is = prerequisites_within g given n p h in
      ⊎_elim (λ old. inl old) (λ new. inr (is.0, new)) (Has-cases (prerequisites g n) (more n) p is.1)

  -- a path ends with its last number
  ends_with : {n m : ℕ} {path : List ℕ} → GoesAlong wider n m path → (front : List ℕ) × (path ≡ front ++ m ∷ [])
  ends_with (step {n} h) = (n ∷ [], refl)
  ends_with (further {path} along h) = (path, refl)

  -- a path goes along prerequisites of the graph alone, or uses a further one
  leads_or_uses : {n m : ℕ} {path : List ℕ} → GoesAlong wider n m path → HasPath g n m ⊎ Uses path
  leads_or_uses (step {n} {p} h) =
      ⊎_elim (λ old. inl (one old)) (λ new. inr (record { number = n; needed = p; low = new.0; there = new.1; beside = record { front = []; back = []; split = refl } })) (one_of n p h)
  leads_or_uses (further {m} {p} {path} along h) =
      ⊎_elim
      (λ leads. ⊎_elim (λ old. inl (then leads old)) (λ new.
      let end = ends_with along in
      inr (record { number = m; needed = p; low = new.0; there = new.1; beside = record { front = end.0; back = []; split = ap (λ (l : List ℕ). l ++ p ∷ []) end.1 ∙ append_assoc end.0 (m ∷ []) (p ∷ []) } })) (one_of m p h))
      (λ used. inr (record {
        number = used.number;
        needed = used.needed;
        low = used.low;
        there = used.there;
        beside = record {
          front = used.beside.front;
          back = used.beside.back ++ p ∷ [];
          split = ap (λ (l : List ℕ). l ++ p ∷ []) used.beside.split ∙ append_assoc used.beside.front (used.number ∷ used.needed ∷ used.beside.back) (p ∷ []);
        };
      })) (leads_or_uses along)

  -- a cycle uses a further one
  cycle_uses : HasNoCycle g → (path : List ℕ) → IsCycle wider path → Uses path
  cycle_uses none path cycle = ⊎_elim (λ leads. absurd (no_node_leads_to_itself g none cycle.first leads)) (λ used. used) (leads_or_uses cycle.along)

  -- the names stay
  same_name : (n : ℕ) → n < length g.nodes → name_in wider n ≡ name_in g n
  same_name n low = ap (λ (v : Node). v.name) (node_is g given n low)

-- a test of two parts
or_right : (a b : Bool) → b ≡ true → (a || b) ≡ true
or_right true b e = refl
or_right false b e = e

is_itself : (a b : List ℕ) → (bytes_eq a a && bytes_eq b b) ≡ true
is_itself a b = rw ((bytes_eq-Decides a a).1 refl, (bytes_eq-Decides b b).1 refl) refl

or_left : (a b : Bool) → a ≡ true → (a || b) ≡ true
or_left true b e = refl
or_left false b e = absurd cc

-- what stands beside each other is found there
found_beside : (f : ℕ → List ℕ) (n p : ℕ) (previous : List ℕ) (front back : List ℕ) → stand_after previous (map f (front ++ n ∷ p ∷ back)) (f n) (f p) ≡ true
found_beside f n p previous [] back = or_right (bytes_eq previous (f n) && bytes_eq (f n) (f p)) _ (or_left (bytes_eq (f n) (f n) && bytes_eq (f p) (f p)) _ (is_itself (f n) (f p)))
found_beside f n p previous (a ∷ front) back = or_right (bytes_eq previous (f n) && bytes_eq (f a) (f p)) _ (found_beside f n p (f a) front back)

-- at a number that is a node's stands the name
number_names : (g : Graph) (f : List ℕ) → number_of (names_in g) f < length g.nodes → name_in g (number_of (names_in g) f) ≡ f
number_names g f low =
    let name = λ (n : Node). n.name in
    let within : number_of (names_in g) f < length (names_in g) = omega (arith, length-map g.nodes name) in
    let passes : bytes_eq f (get_or (names_in g) (number_of (names_in g) f) []) ≡ true = passes_at_first (λ other. bytes_eq f other) (names_in g) [] within in
    sym (get_or-map name g.nodes (number_of (names_in g) f) no_node [] low) ∙ sym ((bytes_eq-Decides f (get_or (names_in g) (number_of (names_in g) f) [])).0 passes)

module _ (g : Graph) (f : ℕ → List ℕ) (same : (n : ℕ) → n < length g.nodes → f n ≡ name_in g n) where
  abbrev count : ℕ
  count = length g.nodes

  -- the word that gives a node a prerequisite says so of their names
  step_named : (target prerequisite : List ℕ) (n p : ℕ) → Has (needed_in n (step_of g count (needs target prerequisite))) p → (f n ≡ target) × (f p ≡ prerequisite)
  step_named target prerequisite n p h = at (nat_lt t count) (nat_lt q count) refl refl h
    where
      t : ℕ
      t = number_of (names_in g) target

      q : ℕ
      q = number_of (names_in g) prerequisite

      at : (a b : Bool) → nat_lt t count ≡ a → nat_lt q count ≡ b → Has (needed_in n (cond (a && b) ((t, q) ∷ []) [])) p → (f n ≡ target) × (f p ≡ prerequisite)
      at true true d e k =
          let here = Has-from_then (t == n) (q ∷ []) p k in
          let node_here : t ≡ n = eqb-true t n here.0 in
          let needed_here : q ≡ p = elim here.1 [ inl is ↦ is | inr none ↦ absurd none ] in
          let low : t < count = ltb-true t count d in
          let down : q < count = ltb-true q count e in
          (ap f (sym node_here) ∙ (same t low ∙ number_names g target low), ap f (sym needed_here) ∙ (same q down ∙ number_names g prerequisite down))
      at true false d e k = absurd k
      at false b d e k = absurd k

  -- so it is on the cycle
  word_on : (names : List (List ℕ)) (w : Word) (n p : ℕ) → stand_after [] names (f n) (f p) ≡ true → Has (needed_in n (step_of g count w)) p → has_step names w ≡ true
  word_on names (phony target) n p beside h = absurd h
  word_on names (needs target prerequisite) n p beside h =
      let named = step_named target prerequisite n p h in
      sym (ap (λ (t : List ℕ). stand_after [] names t (f p)) named.0 ∙ ap (λ (q : List ℕ). stand_after [] names target q) named.1) ∙ beside

  some_word_on : (names : List (List ℕ)) (w : Option Word) (n p : ℕ) → stand_after [] names (f n) (f p) ≡ true → Has (needed_in n (steps_of g (option_to_list w))) p → is_on names w ≡ true
  some_word_on names None n p beside h = absurd h
  some_word_on names (Some w) n p beside h = word_on names w n p beside (subst (λ (l : List (ℕ × ℕ)). Has (needed_in n l) p) (append-nil (step_of g count w)) h)

-- how many lines an offer has
abbrev size : Option Word → ℕ
size w = length (option_to_list w)

none_on : (w : Option Word) → is_on [] w ≡ false
none_on None = refl
none_on (Some (phony target)) = refl
none_on (Some (needs target prerequisite)) = refl

has_one : (names : List (List ℕ)) (w : Option Word) → is_on names w ≡ true → size w ≡ 1
has_one names None e = absurd cc
has_one names (Some w) e = refl

-- a line on the cycle is taken back
taken_back : (names : List (List ℕ)) (o : Offer) → is_on names (open_word o) ≡ true → open_word (record o { cycle = cycle_text names }) ≡ None
taken_back [] o e = let bad : true ≡ false = sym e ∙ none_on (open_word o) in absurd cc
taken_back (name ∷ names) o e = refl

-- no line is added
not_more : (names : List (List ℕ)) (o : Offer) (b : Bool) → is_on names (open_word o) ≡ b → size (open_word (cond b (record o { cycle = cycle_text names }) o)) ≤ size (open_word o)
not_more names o true e = let none : size (open_word (record o { cycle = cycle_text names })) ≡ 0 = ap size (taken_back names o e) in omega arith
not_more names o false e = omega arith

-- one line less
one_less : (names : List (List ℕ)) (o : Offer) → is_on names (open_word o) ≡ true → size (open_word (without_step names o)) + 1 ≡ size (open_word o)
one_less names o e =
    let test : without_step names o ≡ record o { cycle = cycle_text names } = rw e refl in
    let none : size (open_word (without_step names o)) ≡ 0 = ap (λ (l : Offer). size (open_word l)) test ∙ ap size (taken_back names o e) in
    let was = has_one names (open_word o) e in
    omega arith

counted : (o : Offer) (offers : List Offer) → length (open_words (o ∷ offers)) ≡ size (open_word o) + length (open_words offers)
counted o offers = length-append (option_to_list (open_word o)) (open_words offers)

none_more : (names : List (List ℕ)) (offers : List Offer) → length (open_words (map (without_step names) offers)) ≤ length (open_words offers)
none_more names [] = omega arith
none_more names (o ∷ offers) =
    let rest = none_more names offers in
    let here = not_more names o (is_on names (open_word o)) refl in
    omega (arith, counted o offers, counted (without_step names o) (map (without_step names) offers))

-- a round leaves fewer lines
module _ (g : Graph) (f : ℕ → List ℕ) (same : (n : ℕ) → n < length g.nodes → f n ≡ name_in g n) (names : List (List ℕ)) (n p : ℕ) (beside : stand_after [] names (f n) (f p) ≡ true) where
  fewer : (offers : List Offer) → Has (needed_in n (steps_of g (open_words offers))) p → length (open_words (map (without_step names) offers)) < length (open_words offers)
  fewer [] h = absurd h
  fewer (o ∷ offers) h =
      let front = option_to_list (open_word o) in
      let parts : needed_in n (steps_of g (open_words (o ∷ offers))) ≡ needed_in n (steps_of g front) ++ needed_in n (steps_of g (open_words offers)) =
      ap (needed_in n) (steps_joined g front (open_words offers)) ∙ needed-append n (steps_of g front) (steps_of g (open_words offers)) in
      let all = counted o offers in
      let new = counted (without_step names o) (map (without_step names) offers) in
      ⊎_elim
      (λ here.
      let less = one_less names o (some_word_on g f same names (open_word o) n p beside here) in
      let rest = none_more names offers in
      omega (arith, all, new, less, rest))
      (λ later.
      let rest = fewer offers later in
      let kept = not_more names o (is_on names (open_word o)) refl in
      omega (arith, all, new, kept, rest))
      (Has-cases (needed_in n (steps_of g front)) (needed_in n (steps_of g (open_words offers))) p (subst (λ (l : List ℕ). Has l p) parts h))

pub round_falls : ClosesOnlyCycles → (g : Graph) → IsGraph g → (offers : List Offer) (names : List (List ℕ)) → IsFirstCycle (graph_with g (open_words offers)) (Some names)
    → length (open_words (map (without_step names) offers)) < length (open_words offers)
round_falls closes g is offers names (path, walks, e) =
    let more : ℕ → List ℕ = λ n. needed_in n (steps_of g (open_words offers)) in
    let used = cycle_uses g more is.no_cycle path (closes (graph_with g (open_words offers)) path walks) in
    let f : ℕ → List ℕ = name_in (graph_with g (open_words offers)) in
    let beside : stand_after [] names (f used.number) (f used.needed) ≡ true =
    ap (λ (l : List (List ℕ)). stand_after [] l (f used.number) (f used.needed)) (e ∙ ap (map f) used.beside.split)
    ∙ found_beside f used.number used.needed [] used.beside.front used.beside.back in
    fewer g f (λ n low. same_name g more n low) names used.number used.needed beside offers used.there
