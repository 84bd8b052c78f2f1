-- What stands in appended, mapped and joined lists.
use Rattle.std.proofs.Common.{map, ⊎_elim, subst}
use Rattle.mk_lemmas.proofs.Members.{Has-cases, Has-flat_map, Has-from_flat_map, Has-from_map, Has-left, Has-map, Has-right}
use Rattle.mk_graph.specs.Membership.{Has, MembersOfAppended, MembersOfMapped, MembersOfJoined}

pub appended : (A : Type 0) → MembersOfAppended A
appended A xs ys x = (Has-cases xs ys x, λ h. ⊎_elim (Has-left xs ys x) (Has-right xs ys x) h)

pub mapped : (A B : Type 0) → MembersOfMapped A B
mapped A B f xs y = (Has-from_map f xs y, λ h. subst (λ (j : B). Has (map f xs) j) h.2 (Has-map f xs h.0 h.1))

pub joined : (A B : Type 0) → MembersOfJoined A B
joined A B f xs y = (Has-from_flat_map f xs y, λ h. Has-flat_map f xs h.0 y h.1 h.2)
