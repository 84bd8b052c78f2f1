-- What a walk finishes, and that it has one end.
use Rattle.std.proofs.Common.{◌≡◌, ℕ, eqb, List, [], ◌∷◌, ◌++◌, ◌⊎◌, inl, inr, refl, sym, subst}
use Rattle.std.proofs.lemmas.Bool.{cond_both}
use Rattle.mk_lemmas.proofs.Members.{Has-cases}
use Rattle.mk_graph.specs.Membership.{Has, IsDistinct}
use Rattle.mk_graph.specs.Walk.{WalkEnd, Through, Closes, path_from, Walks, ends, passes, closes, breaks, finishes}

module _ (needs : ℕ → List ℕ) where
  -- each node once, behind its prerequisites; the last one first
  abbrev pub IsOrdered : List ℕ → Type 0
  IsOrdered [] = Unit {0}
  IsOrdered (n ∷ ns) = ¬ (Has ns n) × ((p : ℕ) → Has (needs n) p → Has ns p) × IsOrdered ns

  -- the prerequisites of what stands in an ordered list stand there
  pub ordered_needs : (ns : List ℕ) (n p : ℕ) → IsOrdered ns → Has ns n → Has (needs n) p → Has ns p
  ordered_needs [] n p o h need = absurd h
  ordered_needs (m ∷ ms) n p o (inl here) need = inr (o.1 p (subst (λ k. Has (needs k) p) (sym here) need))
  ordered_needs (m ∷ ms) n p o (inr there) need = inr (ordered_needs ms n p o.2 there need)

  -- an ordered list has no repeats
  pub ordered_distinct : (ns : List ℕ) → IsOrdered ns → IsDistinct ns
  ordered_distinct [] o = tt
  ordered_distinct (n ∷ ns) o = (o.0, ordered_distinct ns o.2)

  -- behind a node of an ordered list stand its prerequisites
  pub ordered_behind : (front : List ℕ) (n : ℕ) (back : List ℕ) (p : ℕ) → IsOrdered (front ++ n ∷ back) → Has (needs n) p → Has back p
  ordered_behind [] n back p o need = o.1 p need
  ordered_behind (m ∷ front) n back p o need = ordered_behind front n back p o.2 need

  -- what is finished stays so
  pub keeps : {under finished todo final : List ℕ} → Walks needs under finished todo (Through final) → (n : ℕ) → Has finished n → Has final n
  keeps ends n h = h
  keeps (passes in_it w) n h = keeps w n h
  keeps (finishes new unfinished w v) n h = keeps v n (inr (keeps w n h))

  -- what is to do is finished
  pub takes : {under finished todo final : List ℕ} → Walks needs under finished todo (Through final) → (n : ℕ) → Has todo n → Has final n
  takes ends n h = absurd h
  takes (passes {finished} in_it w) n (inl here) = keeps w n (subst (λ k. Has finished k) here in_it)
  takes (passes in_it w) n (inr there) = takes w n there
  takes (finishes new unfinished w v) n (inl here) = keeps v n (inl here)
  takes (finishes new unfinished w v) n (inr there) = takes v n there

  -- what is under way isn't finished meanwhile
  pub stays_under : {under finished todo final : List ℕ} → Walks needs under finished todo (Through final) → (n : ℕ) → Has final n → Has finished n ⊎ (¬ (Has under n))
  stays_under ends n h = inl h
  stays_under (passes in_it w) n h = stays_under w n h
  stays_under (finishes {under} {n = m} new unfinished w v) n h =
      elim (stays_under v n h) [ inl (inl here) ↦ inr (λ u. new (subst (λ k. Has under k) (sym here) u)) | inl (inr there) ↦ elim (stays_under w n there) [ inl was ↦ inl was | inr out ↦ inr (λ u. out (inr u)) ] | inr out ↦ inr out ]

  -- what a walk finishes is ordered
  pub keeps_order : {under finished todo final : List ℕ} → Walks needs under finished todo (Through final) → IsOrdered finished → IsOrdered final
  keeps_order ends o = o
  keeps_order (passes in_it w) o = keeps_order w o
  keeps_order (finishes {n} new unfinished w v) o =
      keeps_order v (λ h. elim (stays_under w n h) [ inl was ↦ unfinished was | inr out ↦ out (inl refl) ], takes w, keeps_order w o)

  -- nothing is both under way and finished
  abbrev pub AreApart : (under finished : List ℕ) → Type 0
  AreApart under finished = (n : ℕ) → Has under n → ¬ (Has finished n)

  -- a new node under way is apart
  apart_in : (under finished : List ℕ) (n : ℕ) → AreApart under finished → ¬ (Has finished n) → AreApart (n ∷ under) finished
  apart_in under finished n apart unfinished m (inl here) h = unfinished (subst (λ k. Has finished k) (sym here) h)
  apart_in under finished n apart unfinished m (inr there) h = apart m there h

  -- so is a node behind its prerequisites
  apart_after : {under finished todo middle : List ℕ} (n : ℕ) → ¬ (Has under n) → AreApart (n ∷ under) finished → Walks needs (n ∷ under) finished todo (Through middle) → AreApart under (n ∷ middle)
  apart_after {under} n new apart w m u (inl here) = new (subst (λ k. Has under k) (sym here) u)
  apart_after n new apart w m u (inr there) = elim (stays_under w m there) [ inl was ↦ apart m (inr u) was | inr out ↦ out (inr u) ]

  -- a walk that comes through closes no path
  pub through_closes : {A : Type 0} (finished path : List ℕ) → Through finished ≡ Closes path → A
  through_closes finished path e = absurd (cc)

  -- one end has one list of finished nodes
  pub same_finished : (a b : List ℕ) → Through a ≡ Through b → a ≡ b
  same_finished a b e = cc

  -- a walk has one end
  pub one_end : {under finished todo : List ℕ} {a b : WalkEnd} → AreApart under finished → Walks needs under finished todo a → Walks needs under finished todo b → a ≡ b
  one_end apart ends ends = refl
  one_end apart (passes in_it w) (passes in_it' w') = one_end apart w w'
  one_end apart (passes {n} in_it w) (closes u) = absurd (apart n u in_it)
  one_end apart (passes in_it w) (breaks new unfinished w') = absurd (unfinished in_it)
  one_end apart (passes in_it w) (finishes new unfinished w' v') = absurd (unfinished in_it)
  one_end apart (closes {n} u) (passes in_it w) = absurd (apart n u in_it)
  one_end apart (closes u) (closes u') = refl
  one_end apart (closes u) (breaks new unfinished w') = absurd (new u)
  one_end apart (closes u) (finishes new unfinished w' v') = absurd (new u)
  one_end apart (breaks new unfinished w) (passes in_it w') = absurd (unfinished in_it)
  one_end apart (breaks new unfinished w) (closes u) = absurd (new u)
  one_end apart (breaks {under} {finished} {n} new unfinished w) (breaks new' unfinished' w') = one_end (apart_in under finished n apart unfinished) w w'
  one_end apart (breaks {under} {finished} {path} {n} new unfinished w) (finishes {middle} new' unfinished' w' v') = through_closes middle path (sym (one_end (apart_in under finished n apart unfinished) w w'))
  one_end apart (finishes new unfinished w v) (passes in_it w') = absurd (unfinished in_it)
  one_end apart (finishes new unfinished w v) (closes u) = absurd (new u)
  one_end apart (finishes {under} {finished} {middle} {n} new unfinished w v) (breaks {path} new' unfinished' w') = through_closes middle path (one_end (apart_in under finished n apart unfinished) w w')
  one_end apart (finishes {under} {finished} {todo} {middle} {n} {end} new unfinished w v) (finishes {middle = middle'} {end = end'} new' unfinished' w' v') =
      let e = same_finished middle middle' (one_end (apart_in under finished n apart unfinished) w w') in
      one_end (apart_after n new (apart_in under finished n apart unfinished) w) v (subst (λ (l : List ℕ). Walks needs under (n ∷ l) todo end') (sym e) v')

  -- what holds of all that is to do, and along prerequisites, holds of all that is finished
  pub holds_through : (P : ℕ → Type 0) → ((n p : ℕ) → P n → Has (needs n) p → P p) → {under finished todo final : List ℕ} → Walks needs under finished todo (Through final) → ((n : ℕ) → Has todo n → P n) → ((n : ℕ) → Has finished n → P n) → (n : ℕ) → Has final n → P n
  holds_through P on ends h f n in_it = f n in_it
  holds_through P on (passes was w) h f n in_it = holds_through P on w (λ m t. h m (inr t)) f n in_it
  holds_through P on (finishes {n = m} new unfinished w v) h f n in_it =
      let here : P m = h m (inl refl) in
      holds_through P on v (λ k t. h k (inr t)) (λ k t. elim t [ inl e ↦ subst P e here | inr t' ↦ holds_through P on w (λ q need. on m q here need) f k t' ]) n in_it

  -- the same of the nodes of the path that a walk closes
  path_from_holds : (P : ℕ → Type 0) (n : ℕ) (under : List ℕ) → ((m : ℕ) → Has under m → P m) → (m : ℕ) → Has (path_from n under) m → P m
  path_from_holds P n [] h = λ m in_it. absurd in_it
  path_from_holds P n (k ∷ under) h =
      cond_both (eqb k n) (k ∷ []) (path_from n under ++ k ∷ []) (λ (l : List ℕ). (m : ℕ) → Has l m → P m)
      (λ e m in_it. elim in_it [ inl here ↦ h m (inl here) | inr none ↦ absurd none ])
      (λ e m in_it. elim (Has-cases (path_from n under) (k ∷ []) m in_it) [
        | inl before ↦ path_from_holds P n under (λ q u. h q (inr u)) m before
        | inr (inl last) ↦ h m (inl last)
        | inr (inr none) ↦ absurd none
      ])

  -- what holds of all that is under way and to do holds along the closed path
  pub holds_closes : (P : ℕ → Type 0) → ((n p : ℕ) → P n → Has (needs n) p → P p) → {under finished todo path : List ℕ} → Walks needs under finished todo (Closes path) → ((n : ℕ) → Has under n → P n) → ((n : ℕ) → Has todo n → P n) → (n : ℕ) → Has path n → P n
  holds_closes P on (passes was w) u h n in_it = holds_closes P on w u (λ m t. h m (inr t)) n in_it
  holds_closes P on (closes {under} {n = m} there) u h n in_it =
      elim (Has-cases (path_from m under) (m ∷ []) n in_it) [ inl before ↦ path_from_holds P m under u n before | inr (inl last) ↦ u n (subst (λ k. Has under k) last there) | inr (inr none) ↦ absurd none ]
  holds_closes P on (breaks {n = m} new unfinished w) u h n in_it =
      let here : P m = h m (inl refl) in
      holds_closes P on w (λ k t. elim t [ inl e ↦ subst P e here | inr t' ↦ u k t' ]) (λ q need. on m q here need) n in_it
  holds_closes P on (finishes new unfinished w v) u h n in_it = holds_closes P on v u (λ k t. h k (inr t)) n in_it
