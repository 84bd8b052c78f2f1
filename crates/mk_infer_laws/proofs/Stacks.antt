-- The walk of names over one list of names to do, as a stack has them.
use Rattle.std.proofs.Common.{◌≡◌, ℕ, zero, suc, ◌≤◌, List, [], ◌∷◌, ◌++◌, refl, sym, subst, arith}
use Rattle.std.proofs.lemmas.List.{append-nil}
use Rattle.mk_graph.specs.Membership.{Has}
use Rattle.mk_infer.specs.Walk.{Meets, ends as nothing, known as seen, new as fresh}

-- with these met before it, a walk of what is to do meets these in all: what a new name needs comes to the front
pub data Stack (needs : List ℕ → List (List ℕ)) : (met todo all : List (List ℕ)) → Type 0 where
  ends : {met : List (List ℕ)} → Stack needs met [] met
  known : {met todo all : List (List ℕ)} {name : List ℕ} → Has met name → Stack needs met todo all → Stack needs met (name ∷ todo) all
  new : {met todo all : List (List ℕ)} {name : List ℕ} → ¬ (Has met name) → Stack needs (met ++ name ∷ []) (needs name ++ todo) all → Stack needs met (name ∷ todo) all

-- a walk of names, and then of what is left
pub stacked : {needs : List ℕ → List (List ℕ)} {met names below rest all : List (List ℕ)} → Meets needs met names below → Stack needs below rest all → Stack needs met (names ++ rest) all
stacked nothing s = s
stacked (seen h m) s = known h (stacked m s)
stacked (fresh u m1 m2) s = new u (stacked m1 (stacked m2 s))

-- a walk of names goes over one list
pub of_tree : {needs : List ℕ → List (List ℕ)} {met names all : List (List ℕ)} → Meets needs met names all → Stack needs met names all
of_tree {needs} {met} {names} {all} m = subst (λ todo. Stack needs met todo all) (append-nil names) (stacked m ends)

-- how many names it goes over
size : {needs : List ℕ → List (List ℕ)} {met todo all : List (List ℕ)} → Stack needs met todo all → ℕ
size ends = 0
size (known h s) = suc (size s)
size (new u s) = suc (size s)

-- the walk of the front, and what is left after it
record Parted (needs : List ℕ → List (List ℕ)) (met front rest all : List (List ℕ)) (bound : ℕ) : Type 0 where
  below : List (List ℕ)
  walked : Meets needs met front below
  left : Stack needs below rest all
  less : size left ≤ bound

parted : {needs : List ℕ → List (List ℕ)} (fuel : ℕ) {met all : List (List ℕ)} (front rest : List (List ℕ)) (s : Stack needs met (front ++ rest) all) → size s ≤ fuel → Parted needs met front rest all (size s)
unfolding size
parted fuel [] rest s le = record { below = _; walked = nothing; left = s; less = omega arith }
parted zero (name ∷ front) rest (known h s) le = absurd (omega arith)
parted zero (name ∷ front) rest (new u s) le = absurd (omega arith)
parted (suc fuel) (name ∷ front) rest (known h s) le =
    let p = parted fuel front rest s (omega arith) in
    record { below = p.below; walked = seen h p.walked; left = p.left; less = omega (arith, p.less) }
parted {needs} (suc fuel) (name ∷ front) rest (new u s) le =
    let p = parted fuel (needs name) (front ++ rest) s (omega arith) in
    let q = parted fuel front rest p.left (omega (arith, p.less)) in
    record { below = q.below; walked = fresh u p.walked q.walked; left = q.left; less = omega (arith, p.less, q.less) }

-- nothing is left to do
all_met : {needs : List ℕ → List (List ℕ)} {met all : List (List ℕ)} → Stack needs met [] all → met ≡ all
all_met ends = refl

-- a walk over one list is one of names
pub to_tree : {needs : List ℕ → List (List ℕ)} {met names all : List (List ℕ)} → Stack needs met names all → Meets needs met names all
to_tree {needs} {met} {names} {all} s =
    let t : Stack needs met (names ++ []) all = subst (λ todo. Stack needs met todo all) (sym (append-nil names)) s in
    let p = parted (size t) names [] t (omega arith) in
    subst (Meets needs met names) (all_met p.left) p.walked
