-- A recipe that breaks off leaves its job to another one, and isn't begun again in its make.
use Rattle.std.proofs.Common.{◌≡◌, ℕ, ◌<◌, ◌≤◌, List, [], ◌∷◌, length, filter, true, false, Bool, inl, inr, ⊎_elim, refl, sym, ◌∙◌, ap, subst, arith, eq-eqb}
use Rattle.std.specs.Prelude.{not, nat_eq, cond}
use Rattle.std.proofs.lemmas.Bool.{cases_Bool, cond-true, cond-false}
use Rattle.mk_graph.specs.Membership.{Has}
use Rattle.mk_graph.specs.Graph.{Graph, node}
use Rattle.mk_build.specs.Setting.{FileName, Setting}
use Rattle.mk_build.specs.World.{Disk, Making, World, Idle, Busy, without}
use Rattle.mk_build.specs.Steps.{Step, Edit, Make, Begin, Look, Put, End, Break, Pass, Stop, EndMake, Ready, Allowed, after, IsLegal, after_all}
use Rattle.mk_build.specs.BuildLaws.{IsInside, AreInside}
use Rattle.mk_build.specs.BreakLaws.{IsWithout}
use Rattle.mk_build.proofs.InOrder.{Has-without}
use Rattle.mk_build.proofs.Removing.{gone_here, stays_there}

-- what is left of a list from which elements are taken out is no longer
without_short : (t : ℕ) (ns : List ℕ) → length (filter (λ n. not (nat_eq t n)) ns) ≤ length ns
without_short t [] = omega arith
without_short t (n ∷ ns) =
    let rest = filter (λ k. not (nat_eq t k)) ns in
    let less = without_short t ns in
    ⊎_elim (λ same. let e : length (cond (not (nat_eq t n)) (n ∷ rest) rest) ≡ length rest = ap (λ (l : List ℕ). length l) (cond-false (not (nat_eq t n)) (n ∷ rest) rest (ap not same)) in omega arith) (λ other. let e : length (cond (not (nat_eq t n)) (n ∷ rest) rest) ≡ length (n ∷ rest) = ap (λ (l : List ℕ). length l) (cond-true (not (nat_eq t n)) (n ∷ rest) rest (ap not other)) in omega arith) (cases_Bool (nat_eq t n))

-- and shorter, if one of them was in it
pub without_shorter : (t : ℕ) (ns : List ℕ) → Has ns t → length (filter (λ n. not (nat_eq t n)) ns) < length ns
without_shorter t [] h = absurd h
without_shorter t (n ∷ ns) h =
    let rest = filter (λ k. not (nat_eq t k)) ns in
    let less = without_short t ns in
    ⊎_elim (λ same. let e : length (cond (not (nat_eq t n)) (n ∷ rest) rest) ≡ length rest = ap (λ (l : List ℕ). length l) (cond-false (not (nat_eq t n)) (n ∷ rest) rest (ap not same)) in omega arith) (λ other. elim h [
      | inl here ↦ absurd (differs t n here other)
      | inr there ↦ let shorter = without_shorter t ns there in let e : length (cond (not (nat_eq t n)) (n ∷ rest) rest) ≡ length (n ∷ rest) = ap (λ (l : List ℕ). length l) (cond-true (not (nat_eq t n)) (n ∷ rest) rest (ap not other)) in omega arith
    ]) (cases_Bool (nat_eq t n)) where
      differs : (t n : ℕ) → n ≡ t → nat_eq t n ≡ false → ⊥
      differs t n here other = let yes : true ≡ false = sym (eq-eqb t n (sym here)) ∙ other in cc

-- the disk without a file
pub is_without : (d : Disk) (f : FileName) → IsWithout d f (without d f)
is_without d f = (gone_here d f f refl, λ h differ. stays_there d f h differ)

module _ (g : Graph) (s : Setting) where
  -- another recipe begins in the place of one that breaks off
  pub others_go_on : (m : Making) (d : Disk) (t n : ℕ) (removed : Bool) → Allowed g s (Busy m d) (Break t removed) → length m.running ≤ m.jobs → Ready g m n → (node g n).recipe ≡ true → IsLegal g s (Busy m d) (Break t removed ∷ Begin n ∷ [])
  others_go_on m d t n removed may room ready recipe =
      let shorter = without_shorter t m.running may.0 in
      let differ : ¬ (t ≡ n) = λ same. ready.1 (subst (λ (k : ℕ). Has m.running k) same may.0) in
      (may, (((ready.0, λ h. ready.1 (Has-without t n m.running h).0, λ h. ⊎_elim differ ready.2 h), recipe, omega arith), tt))

  -- the recipe is among those of the make that broke off
  abbrev BrokeOff : ℕ → World → Type 0
  BrokeOff t (Idle d) = ⊥
  BrokeOff t (Busy m d) = Has m.broken t

  -- it is so after each step inside the make
  still_broken : (t : ℕ) (w : World) (step : Step) → IsInside step → BrokeOff t w → BrokeOff t (after g s w step)
  still_broken t (Idle d) step inside broke = absurd broke
  still_broken t (Busy m d) (Edit f c) inside broke = absurd inside
  still_broken t (Busy m d) (Make jobs goals) inside broke = absurd inside
  still_broken t (Busy m d) (Begin n) inside broke = broke
  still_broken t (Busy m d) (Look n f) inside broke = broke
  still_broken t (Busy m d) (Put n f c) inside broke = broke
  still_broken t (Busy m d) (End n) inside broke = broke
  still_broken t (Busy m d) (Break n removed) inside broke = inr broke
  still_broken t (Busy m d) (Pass n) inside broke = broke
  still_broken t (Busy m d) Stop inside broke = absurd inside
  still_broken t (Busy m d) EndMake inside broke = absurd inside

  -- and after all of them
  all_broken : (t : ℕ) (w : World) (steps : List Step) → AreInside steps → BrokeOff t w → BrokeOff t (after_all g s w steps)
  all_broken t w [] inside broke = broke
  all_broken t w (step ∷ steps) inside broke = all_broken t (after g s w step) steps inside.1 (still_broken t w step inside.0 broke)

  -- so it can't begin
  begins_not : (t : ℕ) (w : World) → BrokeOff t w → ¬ (Allowed g s w (Begin t))
  begins_not t (Idle d) broke may = broke
  begins_not t (Busy m d) broke may = may.0.2 broke

  pub not_begun_again : (m : Making) (d : Disk) (t : ℕ) → Has m.broken t → (steps : List Step) → AreInside steps → ¬ (Allowed g s (after_all g s (Busy m d) steps) (Begin t))
  not_begun_again m d t broke steps inside = begins_not t (after_all g s (Busy m d) steps) (all_broken t (Busy m d) steps inside broke)
