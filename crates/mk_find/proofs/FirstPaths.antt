-- First paths: there is one, none is shorter, and a search finds it.
use Rattle.std.proofs.Common.{◌≡◌, ℕ, ◌≤◌, Bool, true, false, List, [], ◌∷◌, length, reverse, ◌⊎◌, inl, inr, ◌↔◌, refl, sym, ◌∙◌, ap, subst, arith}
use Rattle.std.proofs.lemmas.Bool.{false≢true}
use Rattle.std.proofs.lemmas.List.{length-append}
use Rattle.mk_graph.specs.Membership.{Has}
use Rattle.mk_build.specs.Ways.{Carries}
use Rattle.mk_graph_search.specs.Ways.{end, IsWay, Precedes, IsFirstWay}
use Rattle.mk_graph_search.specs.Laws.{PrecedesIsAnOrder, PrecedesAsRead}
use Rattle.mk_cert_text.specs.declared.certificate.Finish.{Finish}
use Rattle.mk_cert_text.specs.declared.certificate.Finish.TheVariants.{Written, Source, Always}
use Rattle.mk_subject.specs.Carried.{carried}
use Rattle.mk_subject.specs.Subject.{Subject, footprints, writes_of}
use Rattle.mk_find.specs.FirstPaths.{rank, MayEnd, IsPathOver, IsFirstPath}
use Rattle.mk_find.specs.WayLaws.{FirstPathIsOne, FirstPathIsShortest}
use Rattle.mk_find.proofs.Turned.{turned_twice, length_turned, none_turned, last_is_end, way_is_carried, carried_is_way}

-- a finish of each rank is one
same_rank : (one other : Finish) → rank one ≤ rank other → rank other ≤ rank one → one ≡ other
same_rank Written Written h k = refl
same_rank Written Source h k = absurd (omega arith)
same_rank Written Always h k = absurd (omega arith)
same_rank Source Written h k = absurd (omega arith)
same_rank Source Source h k = refl
same_rank Source Always h k = absurd (omega arith)
same_rank Always Written h k = absurd (omega arith)
same_rank Always Source h k = absurd (omega arith)
same_rank Always Always h k = refl

-- there is one first path
pub one_first_path : PrecedesIsAnOrder → FirstPathIsOne
one_first_path order x f t way other finish other_finish a b = by (a.before other other_finish b.path) (b.before way finish a.path)
  where
    twice : Precedes (carried x) t way other → ¬ (Precedes (carried x) t other way)
    twice h k = (order (carried x) t).1 way ((order (carried x) t).0 way other way h k)

    none : ¬ (Precedes (carried x) t way way)
    none = (order (carried x) t).1 way

    by : ((other ≡ way) × (rank finish ≤ rank other_finish)) ⊎ Precedes (carried x) t way other → ((way ≡ other) × (rank other_finish ≤ rank finish)) ⊎ Precedes (carried x) t other way → (way ≡ other) × (finish ≡ other_finish)
    by (inl h) (inl k) = (k.0, same_rank finish other_finish h.1 k.1)
    by (inl h) (inr k) = absurd (none (subst (λ (w : List ℕ). Precedes (carried x) t w way) h.0 k))
    by (inr h) (inl k) = absurd (none (subst (λ (w : List ℕ). Precedes (carried x) t way w) (sym k.0) h))
    by (inr h) (inr k) = absurd (twice h k)

-- what precedes isn't longer
not_longer : PrecedesAsRead → (succ : ℕ → List ℕ) (t : ℕ) (way other : List ℕ) → Precedes succ t way other → length way ≤ length other
not_longer read succ t way other h =
    elim ((read succ t way other).0 h) [
      | inl less ↦ omega arith
      | inr turns ↦ (let one : length way ≡ _ = ap length turns.one_is
          ∙ length-append turns.rest (turns.m ∷ turns.common) in let two : length other
          ≡ _ = ap length turns.other_is ∙ length-append turns.other_rest (turns.n ∷ turns.common) in let e =
          turns.equally_long in omega arith)
    ]

-- none is shorter
pub none_shorter : PrecedesAsRead → FirstPathIsShortest
none_shorter read x f t way finish a others other_finish path =
    let long = length_turned others in
    let turned : IsPathOver x f other_finish t (reverse (reverse others)) = subst (λ (l : List ℕ). IsPathOver x f other_finish t l) (sym (turned_twice others)) path in
    elim (a.before (reverse others) other_finish turned) [ inl same ↦ (let e : length (reverse others) ≡ length way = ap length same.0 in omega arith) | inr h ↦ (let less = not_longer read (carried x) t way (reverse others) h in omega arith) ]

-- a path to the file may end at this recipe
abbrev pub HasFinish : Subject → List ℕ → ℕ → Type 0
HasFinish x f n = (finish : Finish) × MayEnd x f finish n

-- what a search finds first, by a test of ends, is the first path
pub found_first : (x : Subject) (f : List ℕ) (t : ℕ) → ((t o : ℕ) → Has (carried x t) o
    ↔ Carries x.graph (footprints x.setting) t o) → ¬ (Has (writes_of x t) f) → (test : ℕ → Bool)
    → ((n : ℕ) → HasFinish x f n → test n ≡ true) → (way : List ℕ) (finish : Finish)
    → IsFirstWay (carried x) t (λ n. test n ≡ true) way → MayEnd x f finish (end t way)
    → ((other : Finish) → MayEnd x f other (end t way) → rank finish ≤ rank other)
    → IsFirstPath x f t way finish
found_first x f t carries out test passes way finish first ends least = record {
  path = record {
    carried = way_is_carried x.graph (footprints x.setting) (carried x) (λ k o. (carries k o).0) t way first.is_way;
    ends = subst (λ (n : ℕ). MayEnd x f finish n) (sym (last_is_end x.graph (footprints x.setting) t way)) ends;
    not_alone = λ written none. out (at_start written (none_turned way none));
  };
  before = λ other other_finish path. by other other_finish (at_end other other_finish path) (first.before other (carried_is_way x.graph (footprints x.setting) (carried x) (λ k o. (carries k o).1) t other path.carried) (passes (end t other) (other_finish, at_end other other_finish path)));
}
  where
    at_start : finish ≡ Written → way ≡ [] → Has (writes_of x t) f
    at_start written none = subst (λ (k : Finish). MayEnd x f k t) written (subst (λ (w : List ℕ). MayEnd x f finish (end t w)) none ends)

    at_end : (other : List ℕ) (other_finish : Finish) → IsPathOver x f other_finish t (reverse other) → MayEnd x f other_finish (end t other)
    at_end other other_finish path = subst (λ (n : ℕ). MayEnd x f other_finish n) (last_is_end x.graph (footprints x.setting) t other) path.ends

    by : (other : List ℕ) (other_finish : Finish) → MayEnd x f other_finish (end t other) → (other ≡ way) ⊎ Precedes (carried x) t way other → ((other ≡ way) × (rank finish ≤ rank other_finish)) ⊎ Precedes (carried x) t way other
    by other other_finish at (inl e) = inl (e, least other_finish (subst (λ (w : List ℕ). MayEnd x f other_finish (end t w)) e at))
    by other other_finish at (inr h) = inr h

-- where the test says no at the end of each way, there is no path
pub none_found : (x : Subject) (f : List ℕ) (t : ℕ) → ((t o : ℕ) → Has (carried x t) o
    ↔ Carries x.graph (footprints x.setting) t o) → (test : ℕ → Bool)
    → ((n : ℕ) → HasFinish x f n → test n ≡ true) → ((way : List ℕ) → IsWay (carried x) t way
    → test (end t way) ≡ false) → (finish : Finish) (others : List ℕ) → ¬ (IsPathOver x f finish t others)
none_found x f t carries test passes never finish others path =
    let turned : IsPathOver x f finish t (reverse (reverse others)) = subst (λ (l : List ℕ). IsPathOver x f finish t l) (sym (turned_twice others)) path in
    let is = carried_is_way x.graph (footprints x.setting) (carried x) (λ k o. (carries k o).1) t (reverse others) turned.carried in
    let at : MayEnd x f finish (end t (reverse others)) = subst (λ (n : ℕ). MayEnd x f finish n) (last_is_end x.graph (footprints x.setting) t (reverse others)) turned.ends in
    false≢true (sym (never (reverse others) is) ∙ passes (end t (reverse others)) (finish, at))
