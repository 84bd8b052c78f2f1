-- Which values the rows hold that were gathered.
use Rattle.std.proofs.Common.{◌≡◌, Bool, true, false, cond, ◌⊎◌, inl, inr, List, [], ◌∷◌, ◌++◌, refl, sym, ap, subst, ◌∙◌}
use Rattle.mk_lemmas.proofs.Members.{Has-cases, Has-left, Has-right}
use Rattle.mk_graph.specs.Membership.{Has}
use Rattle.mk_repair.specs.Gathering.{with_value, with_values}

-- a row with this key holds this value
pub record Holds {K V : Type 0} (rows : List (K × List V)) (key : K) (value : V) : Type 0 where
  pub row : K × List V
  pub among : Has rows row
  pub keyed : row.0 ≡ key
  pub held : Has row.1 value

module _ {K V : Type 0} (same : K → K → Bool) (decides : (x y : K) → same x y ≡ true → x ≡ y) where
  -- a value that was added
  put_held : (rows : List (K × List V)) (k : K) (v : V) → Holds (with_value same rows k v) k v
  put_held [] k v = record { row = (k, v ∷ []); among = inl refl; keyed = refl; held = inl refl }
  put_held (row ∷ rows) k v = at (same k row.0) refl (put_held rows k v)
    where
      at : (b : Bool) → same k row.0 ≡ b → Holds (with_value same rows k v) k v → Holds (cond b ((row.0, row.1 ++ v ∷ []) ∷ rows) (row ∷ with_value same rows k v)) k v
      at true e ih = record { row = (row.0, row.1 ++ v ∷ []); among = inl refl; keyed = sym (decides k row.0 e); held = Has-right row.1 (v ∷ []) v (inl refl) }
      at false e ih = record { row = ih.row; among = inr ih.among; keyed = ih.keyed; held = ih.held }

  -- the values that were there
  kept_held : (rows : List (K × List V)) (k : K) (v : V) (l : K) (w : V) → Holds rows l w → Holds (with_value same rows k v) l w
  kept_held [] k v l w h = absurd h.among
  kept_held (row ∷ rows) k v l w h =
      at (same k row.0) h.among (λ there. kept_held rows k v l w (record { row = h.row; among = there; keyed = h.keyed; held = h.held }))
    where
      at : (b : Bool) → (row ≡ h.row) ⊎ Has rows h.row → (Has rows h.row → Holds (with_value same rows k v) l w) → Holds (cond b ((row.0, row.1 ++ v ∷ []) ∷ rows) (row ∷ with_value same rows k v)) l w
      at true (inl e) ih = record {
        row = (row.0, row.1 ++ v ∷ []);
        among = inl refl;
        keyed = ap (λ (r : K × List V). r.0) e ∙ h.keyed;
        held = Has-left row.1 (v ∷ []) w (subst (λ (r : K × List V). Has r.1 w) (sym e) h.held);
      }
      at true (inr there) ih = record { row = h.row; among = inr there; keyed = h.keyed; held = h.held }
      at false (inl e) ih = record { row = h.row; among = inl e; keyed = h.keyed; held = h.held }
      at false (inr there) ih =
          let r = ih there in
          record { row = r.row; among = inr r.among; keyed = r.keyed; held = r.held }

  -- the values that were there before several
  all_held : (rows : List (K × List V)) (pairs : List (K × V)) (k : K) (v : V) → Holds rows k v → Holds (with_values same rows pairs) k v
  all_held rows [] k v h = h
  all_held rows (p ∷ pairs) k v h = all_held (with_value same rows p.0 p.1) pairs k v (kept_held rows p.0 p.1 k v h)

  -- each of several values
  pub each_held : (rows : List (K × List V)) (pairs : List (K × V)) (k : K) (v : V) → Has pairs (k, v) → Holds (with_values same rows pairs) k v
  each_held rows [] k v h = absurd h
  each_held rows (p ∷ pairs) k v (inl e) =
      all_held (with_value same rows p.0 p.1) pairs k v (subst (λ (q : K × V). Holds (with_value same rows p.0 p.1) q.0 q.1) e (put_held rows p.0 p.1))
  each_held rows (p ∷ pairs) k v (inr there) = each_held (with_value same rows p.0 p.1) pairs k v there

  -- a value of a row, once one was added
  value_from : (rows : List (K × List V)) (k : K) (v : V) (row : K × List V) (w : V) → Has (with_value same rows k v) row → Has row.1 w → ((k ≡ row.0) × (v ≡ w)) ⊎ Holds rows row.0 w
  value_from [] k v row w (inl e) h =
      elim (subst (λ (r : K × List V). Has r.1 w) (sym e) h) [ inl d ↦ inl (ap (λ (r : K × List V). r.0) e, d) | inr none ↦ absurd none ]
  value_from [] k v row w (inr none) h = absurd none
  value_from (r ∷ rows) k v row w there h = at (same k r.0) refl there (λ later. value_from rows k v row w later h)
    where
      shifted : ((k ≡ row.0) × (v ≡ w)) ⊎ Holds rows row.0 w → ((k ≡ row.0) × (v ≡ w)) ⊎ Holds (r ∷ rows) row.0 w
      shifted (inl new) = inl new
      shifted (inr old) = inr (record { row = old.row; among = inr old.among; keyed = old.keyed; held = old.held })

      longer : same k r.0 ≡ true → (e : (r.0, r.1 ++ v ∷ []) ≡ row) → Has r.1 w ⊎ Has (v ∷ []) w → ((k ≡ row.0) × (v ≡ w)) ⊎ Holds (r ∷ rows) row.0 w
      longer b e (inl old) = inr (record { row = r; among = inl refl; keyed = ap (λ (s : K × List V). s.0) e; held = old })
      longer b e (inr (inl d)) = inl (decides k r.0 b ∙ ap (λ (s : K × List V). s.0) e, d)
      longer b e (inr (inr none)) = absurd none

      at : (b : Bool) → same k r.0 ≡ b → Has (cond b ((r.0, r.1 ++ v ∷ []) ∷ rows) (r ∷ with_value same rows k v)) row → (Has (with_value same rows k v) row → ((k ≡ row.0) × (v ≡ w)) ⊎ Holds rows row.0 w) → ((k ≡ row.0) × (v ≡ w)) ⊎ Holds (r ∷ rows) row.0 w
      at true b (inl e) ih = longer b e (Has-cases r.1 (v ∷ []) w (subst (λ (s : K × List V). Has s.1 w) (sym e) h))
      at true b (inr later) ih = inr (record { row = row; among = inr later; keyed = refl; held = h })
      at false b (inl e) ih = inr (record { row = row; among = inl e; keyed = refl; held = h })
      at false b (inr later) ih = shifted (ih later)

  -- a value of a row, once several were added
  pub values_from : (rows : List (K × List V)) (pairs : List (K × V)) (row : K × List V) (w : V) → Has (with_values same rows pairs) row → Has row.1 w → Has pairs (row.0, w) ⊎ Holds rows row.0 w
  values_from rows [] row w there h = inr (record { row = row; among = there; keyed = refl; held = h })
  values_from rows (p ∷ pairs) row w there h = earlier (values_from (with_value same rows p.0 p.1) pairs row w there h)
    where
      first : (old : Holds (with_value same rows p.0 p.1) row.0 w) → ((p.0 ≡ old.row.0) × (p.1 ≡ w)) ⊎ Holds rows old.row.0 w → ((p ≡ (row.0, w)) ⊎ Has pairs (row.0, w)) ⊎ Holds rows row.0 w
      first old (inl new) = inl (inl (λ i. ((new.0 ∙ old.keyed) i, new.1 i)))
      first old (inr before) = inr (record { row = before.row; among = before.among; keyed = before.keyed ∙ old.keyed; held = before.held })

      earlier : Has pairs (row.0, w) ⊎ Holds (with_value same rows p.0 p.1) row.0 w → ((p ≡ (row.0, w)) ⊎ Has pairs (row.0, w)) ⊎ Holds rows row.0 w
      earlier (inl later) = inl (inr later)
      earlier (inr old) = first old (value_from rows p.0 p.1 old.row w old.among old.held)
