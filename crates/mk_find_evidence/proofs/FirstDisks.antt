-- There is one first disk of a world.
use Rattle.std.proofs.Common.{◌≡◌, List, [], ◌∷◌, refl, sym, ap, ◌∙◌, subst, inl, inr}
use Rattle.std.specs.Prelude.{◌↔◌}
use Rattle.std.specs.declared.cmp.Ordering.TheVariants.{Less}
use Rattle.std.specs.Ordering.{nat_cmp}
use Rattle.std.specs.Cmp.Lexicographic.{slice_cmp}
use Rattle.std.proofs.lemmas.Cmp.{nat_list_cmp_total, tied_itself}
use Rattle.mk_graph.specs.Membership.{Has}
use Rattle.mk_graph.specs.Graph.{Graph}
use Rattle.mk_build.specs.Setting.{FileName, Setting}
use Rattle.mk_build.specs.World.{Disk, AreAscending, IsFirstDisk, numbered_disk}

rest_ascends : (f : FileName) (names : List FileName) → AreAscending (f ∷ names) → AreAscending names
rest_ascends f [] h = tt
rest_ascends f (k ∷ names) h = h.1

-- the first of ascending names is less than all others
first_is_least : (f : FileName) (names : List FileName) → AreAscending (f ∷ names) → (h : FileName) → Has names h → slice_cmp nat_cmp f h ≡ Less
first_is_least f [] up h none = absurd none
first_is_least f (k ∷ names) up h has = elim has [
  | inl is ↦ subst (λ (x : FileName). slice_cmp nat_cmp f x ≡ Less) is up.0
  | inr r ↦ nat_list_cmp_total.trans f k h up.0 (first_is_least k names up.1 h r)
]

not_less : (f : FileName) → slice_cmp nat_cmp f f ≡ Less → ⊥
not_less f e = let same = tied_itself nat_list_cmp_total f in cc

not_both : (f h : FileName) → slice_cmp nat_cmp f h ≡ Less → slice_cmp nat_cmp h f ≡ Less → ⊥
not_both f h a b = not_less f (nat_list_cmp_total.trans f h f a b)

-- ascending names with the same members are the same
pub same_names : (xs ys : List FileName) → AreAscending xs → AreAscending ys → ((f : FileName) → Has xs f ↔ Has ys f) → xs ≡ ys
same_names [] [] up on all = refl
same_names [] (y ∷ ys) up on all = absurd ((all y).1 (inl refl))
same_names (x ∷ xs) [] up on all = absurd ((all x).0 (inl refl))
same_names (x ∷ xs) (y ∷ ys) up on all =
    let first : x ≡ y = elim ((all x).0 (inl refl)) [
      | inl e ↦ sym e
      | inr among ↦ elim ((all y).1 (inl refl)) [
        | inl e ↦ e
        | inr there ↦ absurd (not_both x y (first_is_least x xs up y there) (first_is_least y ys on x among))
      ]
    ] in
    let forth : (f : FileName) → Has xs f → Has ys f = λ f h. elim ((all f).0 (inr h)) [
      | inl e ↦ absurd (not_less x (subst (λ (k : FileName). slice_cmp nat_cmp x k ≡ Less) (sym (first ∙ e)) (first_is_least x xs up f h)))
      | inr r ↦ r
    ] in
    let back : (f : FileName) → Has ys f → Has xs f = λ f h. elim ((all f).1 (inr h)) [
      | inl e ↦ absurd (not_less y (subst (λ (k : FileName). slice_cmp nat_cmp y k ≡ Less) (sym (sym first ∙ e)) (first_is_least y ys on f h)))
      | inr r ↦ r
    ] in
    let rest = same_names xs ys (rest_ascends x xs up) (rest_ascends y ys on) (λ f. (forth f, back f)) in
    λ i. first i ∷ rest i

-- two first disks of a world are one
pub one_first : (g : Graph) (s : Setting) (d e : Disk) → IsFirstDisk g s d → IsFirstDisk g s e → d ≡ e
one_first g s d e one other =
    let same = same_names one.names other.names one.ascending other.ascending (λ f. (λ h. (other.given f).1 ((one.given f).0 h), λ h. (one.given f).1 ((other.given f).0 h))) in
    one.disk ∙ (ap numbered_disk same ∙ sym other.disk)
