-- Rows of numbers, and places.
use Rattle.std.proofs.Common.{◌≡◌, ◌≢◌, ℕ, zero, suc, ◌+◌, ◌<◌, List, [], ◌∷◌, ◌++◌, length, get_or, set, drop, replicate, Vec, inl, inr, ◌⊎◌, refl, sym, ap, subst, ◌∙◌, arith}
use Rattle.std.specs.Prelude.{◌↔◌}
use Rattle.std.specs.declared.alloc.Global.{Global}
use Rattle.std.proofs.lemmas.Bool.{cases_eq}
use Rattle.std.proofs.lemmas.List.{get_or-set_same, get_or-set_other, get_or_default}
use Rattle.mk_lemmas.proofs.Members.{Has-cases, Has-left, Has-right}
use Rattle.mk_graph.specs.BitRows.{lists}
use Rattle.mk_graph.specs.Membership.{Has, IsDistinct}
use Rattle.mk_graph.specs.Graph.{Graph, IsGraph}
use Rattle.mk_graph.specs.Laws.{SerialReachesEachOnce}
use Rattle.mk_graph.specs.Progress.{row}
use Rattle.mk_graph.specs.Serial.{serial_order}
use Rattle.mk_graph_ready.specs.Layout.{ArePlaces, AreUsers}
use Rattle.mk_graph_ready.proofs.Lists.{place_of, one_place, rest_is, rest_has}

pub row_at : (rows : List (Vec ℕ Global)) (k : ℕ) (d : Vec ℕ Global) → k < length rows → row rows k ≡ (get_or rows k d).items
row_at [] k d lt = absurd (omega arith)
row_at (r ∷ rows) zero d lt = refl
row_at (r ∷ rows) (suc k) d lt = row_at rows k d (omega arith)

-- one row is another one
pub row_same : (rows : List (Vec ℕ Global)) (k : ℕ) (v : Vec ℕ Global) → k < length rows → row (set rows k v) k ≡ v.items
row_same [] k v lt = absurd (omega arith)
row_same (r ∷ rows) zero v lt = refl
row_same (r ∷ rows) (suc k) v lt = row_same rows k v (omega arith)

pub row_other : (rows : List (Vec ℕ Global)) (k n : ℕ) (v : Vec ℕ Global) → n ≢ k → row (set rows k v) n ≡ row rows n
row_other [] k n v apart = refl
row_other (r ∷ rows) zero zero v apart = absurd (apart refl)
row_other (r ∷ rows) zero (suc n) v apart = refl
row_other (r ∷ rows) (suc k) zero v apart = refl
row_other (r ∷ rows) (suc k) (suc n) v apart = row_other rows k n v (λ e. apart (ap suc e))

-- no row of empty ones has a number
pub none_in : (rows : List (Vec ℕ Global)) (many : ℕ) → lists rows ≡ replicate many [] → (n p : ℕ) → ¬ (Has (row rows n) p)
none_in rows many is n p h = none many n (subst (λ (l : List (List ℕ)). Has (get_or l n []) p) is h)
  where
    none : (many n : ℕ) → ¬ (Has (get_or (replicate {A = List ℕ} many []) n []) p)
    none zero n k = k
    none (suc many) zero k = k
    none (suc many) (suc n) k = none many n k

-- a node is added to one row more
pub adds : (was rows : List (Vec ℕ Global)) (numbers : List ℕ) (i node : ℕ) (v : Vec ℕ Global) → i < length numbers → get_or numbers i 0 < length rows
    → v.items ≡ row rows (get_or numbers i 0) ++ node ∷ []
    → ((n p : ℕ) → (Has (row was n) p ⊎ ((p ≡ node) × Has numbers n)) ↔ (Has (row rows n) p ⊎ ((p ≡ node) × Has (drop i numbers) n)))
    → (n p : ℕ) → (Has (row was n) p ⊎ ((p ≡ node) × Has numbers n)) ↔ (Has (row (set rows (get_or numbers i 0) v) n) p ⊎ ((p ≡ node) × Has (drop (i + 1) numbers) n))
adds was rows numbers i node v lt low items left n p =
    let k = get_or numbers i 0 in
    let same = row_same rows k v low in
    let into : Has (row rows k) p ⊎ (p ≡ node) → Has (row (set rows k v) k) p = λ h. subst (λ (l : List ℕ). Has l p) (sym (same ∙ items)) (elim h [ inl had ↦ Has-left (row rows k) (node ∷ []) p had | inr is ↦ Has-right (row rows k) (node ∷ []) p (inl (sym is)) ]) in
    let out : Has (row (set rows k v) k) p → Has (row rows k) p ⊎ (p ≡ node) = λ h. elim (Has-cases (row rows k) (node ∷ []) p (subst (λ (l : List ℕ). Has l p) (same ∙ items) h)) [ inl had ↦ inl had | inr now ↦ elim now [ inl is ↦ inr (sym is) | inr none ↦ absurd none ] ] in (
      λ h. elim ((left n p).0 h) [
        | inl had ↦ elim (cases_eq n k) [
          | inl is ↦ inl (subst (λ m. Has (row (set rows k v) m) p) (sym is) (into (inl (subst (λ m. Has (row rows m) p) is had))))
          | inr apart ↦ inl (subst (λ (l : List ℕ). Has l p) (sym (row_other rows k n v apart)) had)
        ]
        | inr later ↦ elim (rest_is numbers i n lt later.1) [
          | inl here ↦ inl (subst (λ m. Has (row (set rows k v) m) p) here (into (inr later.0)))
          | inr after ↦ inr (later.0, after)
        ]
      ],
      λ h. (left n p).1 (elim h [
        | inl has ↦ elim (cases_eq n k) [
          | inl is ↦ elim (out (subst (λ m. Has (row (set rows k v) m) p) is has)) [
            | inl had ↦ inl (subst (λ m. Has (row rows m) p) (sym is) had)
            | inr new ↦ inr (new, rest_has numbers i n lt (inl (sym is)))
          ]
          | inr apart ↦ inl (subst (λ (l : List ℕ). Has l p) (row_other rows k n v apart) has)
        ]
        | inr later ↦ inr (later.0, rest_has numbers i n lt (inr later.1))
      ]),
    )

-- one more place is noted
pub notes : (order places : List ℕ) (place : ℕ) → IsDistinct order → place < length order → get_or order place 0 < length places
    → ((i : ℕ) → i < place → get_or places (get_or order i 0) 0 ≡ i)
    → (i : ℕ) → i < place + 1 → get_or (set places (get_or order place 0) place) (get_or order i 0) 0 ≡ i
notes order places place distinct lt low noted i more = elim (cases_eq i place) [
  | inl is ↦ subst (λ k. get_or (set places (get_or order place 0) place) (get_or order k 0) 0 ≡ k) (sym is) (get_or-set_same places (get_or order place 0) place 0 low)
  | inr apart ↦
      get_or-set_other places (get_or order place 0) (get_or order i 0) place 0 (λ e. apart (one_place order distinct i place (omega arith) lt e)) ∙ noted i (omega arith)
]

-- a node of the order stands at its place
pub place_is : (order places : List ℕ) → ArePlaces order places → (n : ℕ) → Has order n → (get_or places n 0 < length order) × (get_or order (get_or places n 0) 0 ≡ n)
place_is order places are n h =
    let p = place_of order n h in
    let is : get_or places n 0 ≡ p.0 = ap (λ k. get_or places k 0) (sym p.2) ∙ are p.0 p.1 in
    (subst (λ k. k < length order) (sym is) p.1, ap (λ k. get_or order k 0) is ∙ p.2)

-- so each node of a graph does in the serial order
pub node_place : (g : Graph) → IsGraph g → SerialReachesEachOnce → (places : List ℕ) → length places ≡ length g.nodes → ArePlaces (serial_order g) places
    → (n place : ℕ) → n < length g.nodes → place ≡ get_or places n place → (place < length (serial_order g)) × (get_or (serial_order g) place 0 ≡ n)
node_place g is once places many are n place lt at =
    let there : Has (serial_order g) n = ((once g is.no_cycle).1 n).1 (is.sound.reached n lt) in
    let same : get_or places n 0 ≡ place = get_or_default places n 0 place (rw many lt) ∙ sym at in
    subst (λ k. (k < length (serial_order g)) × (get_or (serial_order g) k 0 ≡ n)) same (place_is (serial_order g) places are n there)

pub only_place : (g : Graph) (places : List ℕ) → length places ≡ length g.nodes → ArePlaces (serial_order g) places
    → (n place : ℕ) → n < length g.nodes → place ≡ get_or places n place → (i : ℕ) → i < length (serial_order g) → get_or (serial_order g) i 0 ≡ n → i ≡ place
only_place g places many are n place lt at i low is =
    sym (are i low) ∙ (ap (λ k. get_or places k 0) is ∙ (get_or_default places n 0 place (rw many lt) ∙ sym at))

-- the row of a node
pub users_are : (g : Graph) (rows : List (Vec ℕ Global)) → AreUsers g rows → (n : ℕ) (v : Vec ℕ Global) (numbers : List ℕ) → n < length g.nodes → v ≡ get_or rows n v → numbers ≡ v.items → numbers ≡ row rows n
users_are g rows are n v numbers lt is value = value ∙ (ap (λ (r : Vec ℕ Global). r.items) is ∙ sym (row_at rows n v (rw are.many lt)))
