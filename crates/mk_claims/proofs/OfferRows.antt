-- The rows of lines that are offered.
use Rattle.std.proofs.Common.{◌≡◌, ◌≢◌, ◌∙◌, ℕ, ◌+◌, ◌<◌, ◌≤◌, ◌==◌, ◌&&◌, Bool, true, false, cond, List, [], ◌∷◌, ◌++◌, length, map, get_or, set, take, Vec, Global, inl, inr, ⊎_elim, refl, sym, ap, subst, arith, append-nil}
use Rattle.std.specs.Prelude.{nat_lt}
use Rattle.std.proofs.lemmas.Bool.{cases_eq, cases_lt, eq-eqb, eqb-true, ltb-true, ne_eqb}
use Rattle.std.proofs.lemmas.List.{get_or-set_other, get_or-set_same, get_or_past, length-map, map-append, map-set, take_more}
use Rattle.std.proofs.lemmas.List.Concat.{flat_map-append}
use Rattle.mk_graph.specs.declared.node.Node.{Node}
use Rattle.mk_graph.specs.Graph.{Graph}
use Rattle.mk_graph.specs.Membership.{Has}
use Rattle.mk_graph.specs.Progress.{row}
use Rattle.mk_repair.specs.Word.{Word, needs, phony}
use Rattle.mk_lines.specs.Names.{number_of}
use Rattle.mk_claims.specs.Offers.{names_in, needed_in, step_between, step_of, step_view, steps_of}
use Rattle.mk_claims.specs.declared.offer.Step.{Step}

-- both numbers of a step are those of nodes
abbrev AreWithin : ℕ → List (ℕ × ℕ) → Type 0
AreWithin count [] = Unit {0}
AreWithin count (step ∷ steps) = (step.0 < count) × (step.1 < count) × AreWithin count steps

between_within : (count t p : ℕ) → AreWithin count (step_between count t p)
between_within count t p = at (nat_lt t count) (nat_lt p count) refl refl
  where
    at : (a b : Bool) → nat_lt t count ≡ a → nat_lt p count ≡ b → AreWithin count (cond (a && b) ((t, p) ∷ []) [])
    at true true d e = (ltb-true t count d, ltb-true p count e, tt)
    at true false d e = tt
    at false b d e = tt

word_within : (g : Graph) (count : ℕ) (w : Word) → AreWithin count (step_of g count w)
word_within g count (phony target) = tt
word_within g count (needs target prerequisite) = between_within count (number_of (names_in g) target) (number_of (names_in g) prerequisite)

both_within : (count : ℕ) (a b : List (ℕ × ℕ)) → AreWithin count a → AreWithin count b → AreWithin count (a ++ b)
both_within count [] b h k = k
both_within count (s ∷ a) b h k = (h.0, h.1, both_within count a b h.2 k)

words_within : (g : Graph) (words : List Word) → AreWithin (length g.nodes) (steps_of g words)
words_within g [] = tt
words_within g (w ∷ words) = both_within (length g.nodes) (step_of g (length g.nodes) w) (steps_of g words) (word_within g (length g.nodes) w) (words_within g words)

-- what the steps give a node is a node
needed_within : (count n p : ℕ) (steps : List (ℕ × ℕ)) → AreWithin count steps → Has (needed_in n steps) p → p < count
needed_within count n p [] h k = absurd k
needed_within count n p (s ∷ steps) h k = at (s.0 == n) k (needed_within count n p steps h.2)
  where
    at : (b : Bool) → Has (cond b (s.1 ∷ needed_in n steps) (needed_in n steps)) p → (Has (needed_in n steps) p → p < count) → p < count
    at true (inl e) ih = subst (λ (m : ℕ). m < count) e h.1
    at true (inr later) ih = ih later
    at false later ih = ih later

-- what is no node gets nothing
none_past : (count n : ℕ) (steps : List (ℕ × ℕ)) → AreWithin count steps → count ≤ n → needed_in n steps ≡ []
none_past count n [] h past = refl
none_past count n (s ∷ steps) h past = at (s.0 == n) refl (none_past count n steps h.2 past)
  where
    at : (b : Bool) → (s.0 == n) ≡ b → needed_in n steps ≡ [] → cond b (s.1 ∷ needed_in n steps) (needed_in n steps) ≡ []
    at true e ih =
        let same : s.0 ≡ n = eqb-true s.0 n e in
        let low : s.0 < count = h.0 in
        absurd (omega (arith, same, low, past))
    at false e ih = ih

-- the rows of all numbers
pub rows_are : (g : Graph) (words : List Word) (rows : List (Vec ℕ Global)) → length rows ≡ length g.nodes → ((n : ℕ) → n < length g.nodes → row rows n ≡ needed_in n (steps_of g words)) → (n : ℕ) → row rows n ≡ needed_in n (steps_of g words)
rows_are g words rows count same n =
    ⊎_elim (λ low. same n low)
    (λ past. get_or_past (map (λ (r : Vec ℕ Global). r.items) rows) n [] (omega (arith, past, count, length-map rows (λ (r : Vec ℕ Global). r.items)))
    ∙ sym (none_past (length g.nodes) n (steps_of g words) (words_within g words) past)) (cases_lt n (length g.nodes))

-- the same, where the nodes and the steps are seen otherwise
pub rows_given : (g : Graph) (words : List Word) (rows : List (Vec ℕ Global)) (nodes : List Node) (steps : List (ℕ × ℕ)) → length rows ≡ length nodes → ((n : ℕ) → n < length nodes → row rows n ≡ needed_in n steps) → nodes ≡ g.nodes → steps ≡ steps_of g words → (n : ℕ) → row rows n ≡ needed_in n (steps_of g words)
rows_given g words rows nodes steps count low e d =
    rows_are g words rows (count ∙ ap (λ (l : List Node). length l) e)
    (λ n lt. low n (subst (λ (l : List Node). n < length l) (sym e) lt) ∙ ap (λ (l : List (ℕ × ℕ)). needed_in n l) d)

-- what stands in the rows is a node
pub rows_within : (g : Graph) (words : List Word) (rows : List (Vec ℕ Global)) → ((n : ℕ) → row rows n ≡ needed_in n (steps_of g words)) → (n p : ℕ) → Has (row rows n) p → p < length g.nodes
rows_within g words rows are n p h = needed_within (length g.nodes) n p (steps_of g words) (words_within g words) (subst (λ (l : List ℕ). Has l p) (are n) h)

-- what steps in two parts give a node
pub needed-append : (n : ℕ) (front back : List (ℕ × ℕ)) → needed_in n (front ++ back) ≡ needed_in n front ++ needed_in n back
needed-append n [] back = refl
needed-append n (s ∷ front) back = at (s.0 == n) (needed-append n front back)
  where
    at : (b : Bool) → needed_in n (front ++ back) ≡ needed_in n front ++ needed_in n back
        → cond b (s.1 ∷ needed_in n (front ++ back)) (needed_in n (front ++ back)) ≡ cond b (s.1 ∷ needed_in n front) (needed_in n front) ++ needed_in n back
    at true ih = ap (λ (l : List ℕ). s.1 ∷ l) ih
    at false ih = ih

-- one more step
pub needed_more : (n : ℕ) (steps : List Step) (i : ℕ) (d : Step) → i < length steps → needed_in n (map step_view (take (i + 1) steps)) ≡ needed_in n (map step_view (take i steps)) ++ needed_in n (step_view (get_or steps i d) ∷ [])
needed_more n steps i d low =
    ap (λ (l : List Step). needed_in n (map step_view l)) (take_more steps i d low)
    ∙ (ap (needed_in n) (map-append step_view (take i steps) (get_or steps i d ∷ []))
    ∙ needed-append n (map step_view (take i steps)) (step_view (get_or steps i d) ∷ []))

-- what one step gives a node
gives_one : (k p n : ℕ) → k ≡ n → needed_in n ((k, p) ∷ []) ≡ p ∷ []
gives_one k p n e = rw (eq-eqb k n e) refl

gives_none : (k p n : ℕ) → k ≢ n → needed_in n ((k, p) ∷ []) ≡ []
gives_none k p n apart = rw (ne_eqb k n apart) refl

-- a step is added to the row of its target
pub row_pushed : (rows : List (Vec ℕ Global)) (k p n : ℕ) (v : Vec ℕ Global) → k < length rows → v.items ≡ row rows k ++ p ∷ [] → row (set rows k v) n ≡ row rows n ++ needed_in n ((k, p) ∷ [])
row_pushed rows k p n v low e =
    let items = λ (r : Vec ℕ Global). r.items in
    let many : k < length (map items rows) = omega (arith, length-map rows items) in
    let put = ap (λ (l : List (List ℕ)). get_or l n []) (map-set items rows k v) in
    elim (cases_eq k n) [
      | inl is ↦ put
          ∙ (ap (λ (m : ℕ). get_or (set (map items rows) k v.items) m []) (sym is)
          ∙ (get_or-set_same (map items rows) k v.items [] many
          ∙ (e ∙ (ap (λ (m : ℕ). row rows m ++ p ∷ []) is ∙ ap (λ (l : List ℕ). row rows n ++ l) (sym (gives_one k p n is))))))
      | inr apart ↦ put
          ∙ (get_or-set_other (map items rows) k n v.items [] (λ same. apart (sym same))
          ∙ (sym (append-nil (row rows n)) ∙ ap (λ (l : List ℕ). row rows n ++ l) (sym (gives_none k p n apart))))
    ]

-- a step without a row
pub row_kept : (rows : List (Vec ℕ Global)) (k p n : ℕ) → length rows ≤ k → n < length rows → row rows n ≡ row rows n ++ needed_in n ((k, p) ∷ [])
row_kept rows k p n past low =
    let apart : k ≢ n = λ same. absurd (omega (arith, past, low, same)) in
    sym (append-nil (row rows n)) ∙ ap (λ (l : List ℕ). row rows n ++ l) (sym (gives_none k p n apart))

-- the steps of words in two parts
pub steps_joined : (g : Graph) (front back : List Word) → steps_of g (front ++ back) ≡ steps_of g front ++ steps_of g back
steps_joined g front back = flat_map-append (step_of g (length g.nodes)) front back
