-- Nodes that are ready and have no recipe.
use Rattle.std.proofs.Common.{◌≡◌, ℕ, zero, suc, ◌+◌, ◌<◌, ◌≤◌, Bool, true, false, cond, List, [], ◌∷◌, ◌++◌, length, map, get_or, drop, refl, sym, ap, ◌∙◌, subst, arith, inl, inr, nat_eq, ◌||◌}
use Rattle.std.proofs.lemmas.Bool.{cases_Bool, eqb-true, eq-eqb, true≢false}
use Rattle.std.proofs.lemmas.List.{at_drop_more}
use Rattle.mk_lemmas.proofs.Members.{Has-from_has}
use Rattle.mk_graph.specs.Membership.{Has, has}
use Rattle.mk_graph.specs.Graph.{Graph, IsGraph}
use Rattle.mk_graph.specs.Serial.{serial_order}
use Rattle.mk_build.specs.Setting.{Setting}
use Rattle.mk_build.specs.World.{Making, Disk, Busy}
use Rattle.mk_build.specs.Steps.{Pass, IsLegal, after_all, finished}
use Rattle.mk_world.specs.State.{Scene, MakeState, making_of}
use Rattle.mk_world.specs.State as lists
use Rattle.mk_world.specs.Fits.{Fits}
use Rattle.mk_world.proofs.Changes.{wanted_low, finished_leaves}
use Rattle.mk_world.specs.Running.{IsIdle, IsFirstIdle, AreNotIdle, Passes, LeadsTo}

next_is : (xs : List ℕ) (i : ℕ) → i < length xs → drop i xs ≡ get_or xs i 0 ∷ drop (i + 1) xs
next_is xs i lt = at_drop_more (λ l. l) xs i 0 lt

-- the next of these is idle, or isn't
pub first_here : (g : Graph) (m : Making) (xs : List ℕ) (i : ℕ) → i < length xs → IsIdle g m (get_or xs i 0) → IsFirstIdle g m (drop i xs) (get_or xs i 0)
first_here g m xs i lt h = subst (λ l. IsFirstIdle g m l (get_or xs i 0)) (sym (next_is xs i lt)) (inl (h, refl))

pub first_later : (g : Graph) (m : Making) (xs : List ℕ) (i : ℕ) → i < length xs → ¬ (IsIdle g m (get_or xs i 0)) → (n : ℕ) → IsFirstIdle g m (drop (i + 1) xs) n → IsFirstIdle g m (drop i xs) n
first_later g m xs i lt not n h = subst (λ l. IsFirstIdle g m l n) (sym (next_is xs i lt)) (inr (not, h))

pub none_later : (g : Graph) (m : Making) (xs : List ℕ) (i : ℕ) → i < length xs → ¬ (IsIdle g m (get_or xs i 0)) → AreNotIdle g m (drop (i + 1) xs) → AreNotIdle g m (drop i xs)
none_later g m xs i lt not rest =
    subst (AreNotIdle g m) (sym (next_is xs i lt)) (λ n h. elim h [ inl e ↦ subst (λ k. ¬ (IsIdle g m k)) e not | inr r ↦ rest n r ])

-- the first idle node is one
pub first_is_idle : (g : Graph) (m : Making) (xs : List ℕ) (n : ℕ) → IsFirstIdle g m xs n → IsIdle g m n
first_is_idle g m [] n h = absurd h
first_is_idle g m (x ∷ xs) n h = elim h [ inl here ↦ subst (IsIdle g m) (sym here.1) here.0 | inr later ↦ first_is_idle g m xs n later.1 ]

-- one more is passed
pub passes_more : (g : Graph) (m : Making) (ns : List ℕ) (mid : Making) (n : ℕ) → Passes g m ns mid → IsFirstIdle g mid (serial_order g) n → Passes g m (ns ++ n ∷ []) (finished mid n)
passes_more g m [] mid n h first = (subst (λ (k : Making). IsFirstIdle g k (serial_order g) n) h first, ap (λ k. finished k n) h)
passes_more g m (x ∷ ns) mid n h first = (h.0, passes_more g (finished m x) ns mid n h.1 first)

-- passing is legal
pub passes_legal : (g : Graph) (s : Setting) (d : Disk) (m : Making) (ns : List ℕ) (end : Making) → Passes g m ns end → IsLegal g s (Busy m d) (map (λ n. Pass n) ns)
passes_legal g s d m [] end h = tt
passes_legal g s d m (n ∷ ns) end h =
    let idle = first_is_idle g m (serial_order g) n h.0 in
    ((idle.0, inl idle.1), passes_legal g s d (finished m n) ns end h.1)

pub passes_leave : (g : Graph) (s : Setting) (d : Disk) (m : Making) (ns : List ℕ) (end : Making) → Passes g m ns end → Busy end d ≡ after_all g s (Busy m d) (map (λ n. Pass n) ns)
passes_leave g s d m [] end h = ap (λ k. Busy k d) h
passes_leave g s d m (n ∷ ns) end h = passes_leave g s d (finished m n) ns end h.1

pub passes_lead : (g : Graph) (s : Setting) (d : Disk) (m : Making) (ns : List ℕ) (end : Making) → Passes g m ns end → LeadsTo g s (Busy m d) (Busy end d)
passes_lead g s d m ns end h = record { steps = map (λ n. Pass n) ns; legal = passes_legal g s d m ns end h; leaves = passes_leave g s d m ns end h }

-- how many of the first numbers aren't in a list
pub missing : ℕ → List ℕ → ℕ
missing zero done = 0
missing (suc k) done = cond (has done k) 0 1 + missing k done

pub fewer_or_same : (k n : ℕ) (done : List ℕ) → missing k (n ∷ done) ≤ missing k done
unfolding missing
fewer_or_same zero n done = omega arith
fewer_or_same (suc k) n done = at (nat_eq n k) (has done k) (fewer_or_same k n done)
  where
    at : (a b : Bool) → missing k (n ∷ done) ≤ missing k done → cond (a || b) 0 1 + missing k (n ∷ done) ≤ cond b 0 1 + missing k done
    at true true h = omega arith
    at true false h = omega arith
    at false true h = omega arith
    at false false h = omega arith

-- fewer are missing where one that was missing came
pub fewer_missing : (k n : ℕ) (done : List ℕ) → n < k → ¬ (Has done n) → missing k (n ∷ done) < missing k done
unfolding missing
fewer_missing zero n done lt not = absurd (omega arith)
fewer_missing (suc k) n done lt not = elim (cases_Bool (nat_eq n k)) [
  | inl e ↦
      let is : n ≡ k = eqb-true n k e in
      let none : has done k ≡ false = not_has (has done k) refl is in
      here (nat_eq n k) (has done k) e none (fewer_or_same k n done)
  | inr f ↦
      let lower : n < k = lower_one n k lt f in
      later (nat_eq n k) (has done k) f (fewer_missing k n done lower not)
]
  where
    not_has : (b : Bool) → has done k ≡ b → n ≡ k → has done k ≡ false
    not_has true t is = absurd (not (subst (Has done) (sym is) (Has-from_has done k t)))
    not_has false t is = t

    lower_one : (a b : ℕ) → a < suc b → nat_eq a b ≡ false → a < b
    lower_one a b l f = let apart : ¬ (a ≡ b) = λ is. true≢false (sym (eq-eqb a b is) ∙ f) in omega arith

    here : (a b : Bool) → a ≡ true → b ≡ false → missing k (n ∷ done) ≤ missing k done → cond (a || b) 0 1 + missing k (n ∷ done) < cond b 0 1 + missing k done
    here true true ea eb h = absurd cc
    here true false ea eb h = omega arith
    here false b ea eb h = absurd cc

    later : (a b : Bool) → a ≡ false → missing k (n ∷ done) < missing k done → cond (a || b) 0 1 + missing k (n ∷ done) < cond b 0 1 + missing k done
    later true b e h = absurd cc
    later false true e h = omega arith
    later false false e h = omega arith

-- the first idle node is one of the graph
pub idle_low : (scene : Scene) (m : MakeState) (n : ℕ) → IsGraph scene.graph → Fits scene m → IsFirstIdle scene.graph (making_of scene m) (serial_order scene.graph) n → n < length scene.graph.nodes
idle_low scene m n is fits first =
    wanted_low scene.graph m.goals m.done is fits.goals n (first_is_idle scene.graph (making_of scene m) (serial_order scene.graph) n first).0.0.wanted

-- after it was passed fewer are left
pub idle_fewer : (scene : Scene) (m : MakeState) (n : ℕ) → IsGraph scene.graph → Fits scene m → IsFirstIdle scene.graph (making_of scene m) (serial_order scene.graph) n → missing (length scene.graph.nodes) (n ∷ m.done) < missing (length scene.graph.nodes) m.done
idle_fewer scene m n is fits first =
    fewer_missing (length scene.graph.nodes) n m.done (idle_low scene m n is fits first) (first_is_idle scene.graph (making_of scene m) (serial_order scene.graph) n first).0.0.not_done

-- in lists one more is passed
pub passed_more : (scene : Scene) (old m : MakeState) (n : ℕ) → IsGraph scene.graph → Fits scene m
    → IsFirstIdle scene.graph (making_of scene m) (serial_order scene.graph) n → (ns : List ℕ)
    × Passes scene.graph (making_of scene old) ns (making_of scene m) → (ns : List ℕ)
    × Passes scene.graph (making_of scene old) ns (making_of scene (lists.finished m n))
passed_more scene old m n is fits first (ns, passes) =
    let low = idle_low scene m n is fits first in
    let leaves = finished_leaves scene m n (rw fits.many low) in
    (ns ++ n ∷ [], subst (Passes scene.graph (making_of scene old) (ns ++ n ∷ [])) (sym leaves) (passes_more scene.graph (making_of scene old) ns (making_of scene m) n passes first))
