-- There is one first world.
use Rattle.std.proofs.Common.{◌≡◌, ℕ, List, [], ◌∷◌, Option, None, refl, sym, ap, ◌∙◌, subst, inl, inr}
use Rattle.std.specs.Prelude.{◌↔◌}
use Rattle.std.specs.List.{AllByRecursion}
use Rattle.std.specs.List.Sorted.{IsStrictlySortedBy}
use Rattle.std.specs.Ordering.{nat_cmp, ordering_reverse}
use Rattle.std.specs.Cmp.Lexicographic.{slice_cmp}
use Rattle.std.specs.declared.cmp.Ordering.TheVariants.{Less}
use Rattle.std.proofs.lemmas.Cmp.{nat_list_cmp_total}
use Rattle.mk_lines.proofs.NameTests.{Has-from_has_name, has_name-from_Has}
use Rattle.mk_graph.specs.Graph.{Graph}
use Rattle.mk_graph.specs.Membership.{Has}
use Rattle.mk_build.specs.Setting as model
use Rattle.mk_build.specs.World.{Disk, Idle, AreAscending, IsFirstDisk, numbered_disk}
use Rattle.mk_world.specs.First.{AreNamesOf, AreSorted}
use Rattle.mk_world.specs.OneRun.{FirstWorldIsOne}
use Rattle.mk_world.specs.Running.{Stage}
use Rattle.mk_world.specs.State.{Scene, State, MakeState, disk_of, setting, setting_of, world_in, world_of}

-- the one name stands before the other by their bytes
abbrev Below : List ℕ → List ℕ → Type 0
Below a b = slice_cmp nat_cmp a b ≡ Less

differ : Less ≡ ordering_reverse Less → ⊥
differ e = cc

not_both : (a b : List ℕ) → Below a b → Below b a → ⊥
not_both a b h j = differ (sym h ∙ (nat_list_cmp_total.antisymm a b ∙ ap ordering_reverse j))

-- a name stands below all others behind it
below_all : (a f : List ℕ) (names : List (List ℕ)) → AllByRecursion (λ b. Below a b) names → Has names f → Below a f
below_all a f [] all h = absurd h
below_all a f (b ∷ names) all h = elim h [ inl e ↦ subst (Below a) e all.0 | inr there ↦ below_all a f names all.1 there ]

-- of sorted names with the same members there is one list
module _ (x y : List ℕ) (xs ys : List (List ℕ)) (low : AllByRecursion (λ b. Below x b) xs) (also : AllByRecursion (λ b. Below y b) ys) (same : (f : List ℕ) → Has (x ∷ xs) f ↔ Has (y ∷ ys) f) where
  heads : x ≡ y
  heads = elim ((same x).0 (inl refl)) [
    | inl e ↦ sym e
    | inr there ↦ elim ((same y).1 (inl refl)) [
      | inl e ↦ e
      | inr here ↦ absurd (not_both x y (below_all x y xs low here) (below_all y x ys also there))
    ]
  ]

  behind : (f : List ℕ) → Has xs f → Has ys f
  behind f h = elim ((same f).0 (inr h)) [
    | inl e ↦ let here = subst (Below x) (sym e ∙ sym heads) (below_all x f xs low h) in absurd (not_both x x here here)
    | inr there ↦ there
  ]

pub one_sorted : (xs ys : List (List ℕ)) → AreSorted xs → AreSorted ys → ((f : List ℕ) → Has xs f ↔ Has ys f) → xs ≡ ys
unfolding IsStrictlySortedBy
one_sorted [] [] h j same = refl
one_sorted [] (y ∷ ys) h j same = absurd ((same y).1 (inl refl))
one_sorted (x ∷ xs) [] h j same = absurd ((same x).0 (inl refl))
one_sorted (x ∷ xs) (y ∷ ys) h j same =
    let first = heads x y xs ys h.0 j.0 same in
    let rest = one_sorted xs ys h.1 j.1 (λ f. (behind x y xs ys h.0 j.0 same f, behind y x ys xs j.0 h.0 (λ k. ((same k).1, (same k).0)) f)) in
    ap (λ (n : List ℕ). n ∷ xs) first ∙ ap (λ (l : List (List ℕ)). y ∷ l) rest

-- names that ascend are sorted
above : (a b : List ℕ) (names : List (List ℕ)) → Below a b → AllByRecursion (λ c. Below b c) names → AllByRecursion (λ c. Below a c) names
above a b [] h all = all
above a b (c ∷ names) h all = (nat_list_cmp_total.trans a b c h all.0, above a b names h all.1)

sorted : (names : List (List ℕ)) → AreAscending names → AreSorted names
unfolding IsStrictlySortedBy
sorted [] h = h
sorted (f ∷ []) h = (tt, tt)
sorted (f ∷ k ∷ names) h = let rest = sorted (k ∷ names) h.1 in ((h.0, above f k names h.0 rest.0), rest)

pub one_disk : (g : Graph) (s : model.Setting) (d e : Disk) → IsFirstDisk g s d → IsFirstDisk g s e → d ≡ e
one_disk g s d e h j =
    let same = one_sorted h.names j.names (sorted h.names h.ascending) (sorted j.names j.ascending) (λ f. (λ k. (j.given f).1 ((h.given f).0 k), λ k. (h.given f).1 ((j.given f).0 k))) in
    h.disk ∙ (ap numbered_disk same ∙ sym j.disk)

-- the names of a world are one list
one_list : (scene : Scene) (xs ys : List (List ℕ)) → AreNamesOf scene xs → AreNamesOf scene ys → xs ≡ ys
one_list scene xs ys h j = one_sorted xs ys h.sorted j.sorted (λ f. (λ k. Has-from_has_name ys f ((j.all f).1 ((h.all f).0 (has_name-from_Has xs f k))), λ k. Has-from_has_name xs f ((h.all f).1 ((j.all f).0 (has_name-from_Has ys f k)))))

no_make : (w : State) → w.make ≡ None → world_of w ≡ Idle (disk_of w.disk)
no_make w e = ap (λ (make : Option MakeState). world_in w.scene w.disk make) e

same_stage : (a b : Scene) (xs ys : List (List ℕ)) → a ≡ b → xs ≡ ys → (let one : Stage = record { graph = a.graph; setting = setting a; names = xs } in one ≡ record { graph = b.graph; setting = setting b; names = ys })
same_stage a b xs ys e k = rw (e, k) refl

pub one_first : FirstWorldIsOne
one_first g s one other h j =
    let scenes = h.scene ∙ sym j.scene in
    let names = one_list other.scene one.disk.names other.disk.names (subst (λ (k : Scene). AreNamesOf k one.disk.names) scenes h.names) j.names in (
      same_stage one.scene other.scene one.disk.names other.disk.names scenes names,
      no_make one h.idle ∙ (ap (λ (d : Disk). Idle d) (one_disk g (setting_of s) (disk_of one.disk) (disk_of other.disk) h.first j.first) ∙ sym (no_make other j.idle)),
    )
