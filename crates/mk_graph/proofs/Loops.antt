-- Loops over numbers and over groups: what holds of the rest decides what holds of all.
use Rattle.std.proofs.Common.{◌≡◌, ℕ, zero, suc, ◌+◌, ◌<◌, List, [], ◌∷◌, ◌++◌, length, get_or, drop, Vec, inl, inr, ⊎_elim, ◌⊎◌, sym, ap, subst, ◌∙◌, arith}
use Rattle.std.specs.Prelude.{◌↔◌}
use Rattle.std.specs.declared.alloc.Global.{Global}
use Rattle.std.proofs.lemmas.List.{drop_more}
use Rattle.mk_lemmas.proofs.Members.{Has-cases, Has-left, Has-right}
use Rattle.mk_graph.specs.BitRows.{lists}
use Rattle.mk_graph.specs.Membership.{Has}
use Rattle.mk_graph.specs.Schedules.{HasAll, InOpenGroup}
use Rattle.mk_graph.specs.Without.{joined}
use Rattle.mk_graph.proofs.Parts.{HasAll-from_Has, Has-from_HasAll}

module _ (ns numbers : List ℕ) (i : ℕ) (low : i < length numbers) where
  -- a number is there
  pub number_there : Has ns (get_or numbers i 0) → (HasAll ns numbers ↔ HasAll ns (drop i numbers)) → (HasAll ns numbers ↔ HasAll ns (drop (i + 1) numbers))
  number_there h rest =
      let e = drop_more numbers i 0 low in
      (λ all. (subst (λ (l : List ℕ). HasAll ns l) e (rest.0 all)).1, λ after. rest.1 (subst (λ (l : List ℕ). HasAll ns l) (sym e) (h, after)))

  -- a number is not
  pub number_lacks : ¬ (Has ns (get_or numbers i 0)) → (HasAll ns numbers ↔ HasAll ns (drop i numbers)) → ¬ (HasAll ns numbers)
  number_lacks out rest all = out (subst (λ (l : List ℕ). HasAll ns l) (drop_more numbers i 0 low) (rest.0 all)).0

-- a number joins a set
pub number_joins : (was old new numbers : List ℕ) (i : ℕ) → i < length numbers
    → ((n : ℕ) → Has new n ↔ ((n ≡ get_or numbers i 0) ⊎ Has old n))
    → ((n : ℕ) → (Has numbers n ⊎ Has was n) ↔ (Has (drop i numbers) n ⊎ Has old n)) → (n : ℕ)
    → (Has numbers n ⊎ Has was n) ↔ (Has (drop (i + 1) numbers) n ⊎ Has new n)
number_joins was old new numbers i low joins rest n =
    let e = drop_more numbers i 0 low in (
      λ h. elim ((rest n).0 h) [ inl left ↦ (elim (subst (λ (l : List ℕ). Has l n) e left) [ inl here ↦ inr ((joins n).1 (inl (sym here))) | inr there ↦ inl there ]) | inr had ↦ inr ((joins n).1 (inr had)) ],
      λ h. (rest n).1 (elim h [ inl there ↦ inl (subst (λ (l : List ℕ). Has l n) (sym e) (inr there)) | inr has ↦ (elim ((joins n).0 has) [ inl same ↦ inl (subst (λ (l : List ℕ). Has l n) (sym e) (inl (sym same))) | inr had ↦ inr had ]) ]),
    )

-- all of two joined lists
pub HasAll-append : (ns ms ks : List ℕ) → HasAll ns (ms ++ ks) ↔ (HasAll ns ms × HasAll ns ks)
HasAll-append ns ms ks = (
  λ all. (HasAll-from_Has ns ms (λ n h. Has-from_HasAll ns (ms ++ ks) all n (Has-left ms ks n h)), HasAll-from_Has ns ks (λ n h. Has-from_HasAll ns (ms ++ ks) all n (Has-right ms ks n h))),
  λ both. HasAll-from_Has ns (ms ++ ks) (λ n h. ⊎_elim (Has-from_HasAll ns ms both.0 n) (Has-from_HasAll ns ks both.1 n) (Has-cases ms ks n h)),
)

-- what stands in the group at a place stands in all groups
Has-joined : (groups : List (Vec ℕ Global)) (i : ℕ) (d : Vec ℕ Global) (n : ℕ) → i < length groups → Has (get_or groups i d).items n → Has (joined (lists groups)) n
Has-joined [] i d n low h = absurd (omega arith)
Has-joined (group ∷ groups) zero d n low h = Has-left group.items (joined (lists groups)) n h
Has-joined (group ∷ groups) (suc i) d n low h = Has-right group.items (joined (lists groups)) n (Has-joined groups i d n (omega arith) h)

module _ (groups : List (Vec ℕ Global)) (i : ℕ) (group : Vec ℕ Global) (numbers : List ℕ) (low : i < length groups) (is : group ≡ get_or groups i group) (value : numbers ≡ group.items) where
  -- its members are members of all groups
  pub group_within : (n : ℕ) → Has numbers n → Has (joined (lists groups)) n
  group_within n h = Has-joined groups i group n low (subst (λ (v : Vec ℕ Global). Has v.items n) is (subst (λ (l : List ℕ). Has l n) value h))

  -- the group at this place comes first of the rest
  pub lists_more : lists (drop i groups) ≡ numbers ∷ lists (drop (i + 1) groups)
  lists_more =
      ap (λ (l : List (Vec ℕ Global)). lists l) (drop_more groups i group low) ∙ ap (λ (v : Vec ℕ Global). v.items ∷ lists (drop (i + 1) groups)) (sym is) ∙ ap (λ (l : List ℕ). l ∷ lists (drop (i + 1) groups)) (sym value)

  module _ (ns : List ℕ) (rest : HasAll ns (joined (lists groups)) ↔ HasAll ns (joined (lists (drop i groups)))) where
    -- the group is there
    pub group_there : HasAll ns numbers → (HasAll ns (joined (lists groups)) ↔ HasAll ns (joined (lists (drop (i + 1) groups))))
    group_there h =
        let both = HasAll-append ns numbers (joined (lists (drop (i + 1) groups))) in
        (λ all. (both.0 (subst (λ (l : List (List ℕ)). HasAll ns (joined l)) lists_more (rest.0 all))).1, λ after. rest.1 (subst (λ (l : List (List ℕ)). HasAll ns (joined l)) (sym lists_more) (both.1 (h, after))))

    -- it is not
    pub group_lacks : ¬ (HasAll ns numbers) → ¬ (HasAll ns (joined (lists groups)))
    group_lacks out all =
        let both = HasAll-append ns numbers (joined (lists (drop (i + 1) groups))) in
        out (both.0 (subst (λ (l : List (List ℕ)). HasAll ns (joined l)) lists_more (rest.0 all))).0

  module _ (was old new done : List ℕ) (joins : (n : ℕ) → Has new n ↔ (Has numbers n ⊎ Has old n)) (rest : (n : ℕ) → (InOpenGroup done (lists groups) n ⊎ Has was n) ↔ (InOpenGroup done (lists (drop i groups)) n ⊎ Has old n)) where
    -- the group's members joined a set, and the groups behind it are open
    pub opens_next : HasAll done numbers → (n : ℕ) → (InOpenGroup done (lists groups) n ⊎ Has was n) ↔ (InOpenGroup done (lists (drop (i + 1) groups)) n ⊎ Has new n)
    opens_next all n = (
      λ h. elim ((rest n).0 h) [ inl stands ↦ (elim (subst (λ (l : List (List ℕ)). InOpenGroup done l n) lists_more stands) [ inl here ↦ inr ((joins n).1 (inl here)) | inr later ↦ inl later.1 ]) | inr had ↦ inr ((joins n).1 (inr had)) ],
      λ h. (rest n).1 (elim h [ inl later ↦ inl (subst (λ (l : List (List ℕ)). InOpenGroup done l n) (sym lists_more) (inr (all, later))) | inr has ↦ (elim ((joins n).0 has) [ inl here ↦ inl (subst (λ (l : List (List ℕ)). InOpenGroup done l n) (sym lists_more) (inl here)) | inr had ↦ inr had ]) ]),
    )

    -- or they are not
    pub opens_no_more : ¬ (HasAll done numbers) → (n : ℕ) → Has new n ↔ (InOpenGroup done (lists groups) n ⊎ Has was n)
    opens_no_more out n = (
      λ has. (rest n).1 (elim ((joins n).0 has) [ inl here ↦ inl (subst (λ (l : List (List ℕ)). InOpenGroup done l n) (sym lists_more) (inl here)) | inr had ↦ inr had ]),
      λ h. elim ((rest n).0 h) [ inl stands ↦ (elim (subst (λ (l : List (List ℕ)). InOpenGroup done l n) lists_more stands) [ inl here ↦ (joins n).1 (inl here) | inr later ↦ absurd (out later.0) ]) | inr had ↦ (joins n).1 (inr had) ],
    )
