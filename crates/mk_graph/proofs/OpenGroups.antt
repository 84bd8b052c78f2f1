-- Groups of prerequisites that are open.
use Rattle.std.proofs.Common.{ℕ, List, [], ◌∷◌, inl, inr}
use Rattle.std.specs.List.{flat_map}
use Rattle.mk_lemmas.proofs.Members.{Has-left, Has-right}
use Rattle.mk_graph.specs.Membership.{Has}
use Rattle.mk_graph.specs.Schedules.{InOpenGroup}

-- What stands in an open group stands in some group.
pub InOpenGroup-Has : (done : List ℕ) (groups : List (List ℕ)) (n : ℕ) → InOpenGroup done groups n → Has (flat_map (λ group. group) groups) n
InOpenGroup-Has done [] n h = absurd h
InOpenGroup-Has done (group ∷ groups) n (inl here) = Has-left group (flat_map (λ group. group) groups) n here
InOpenGroup-Has done (group ∷ groups) n (inr there) = Has-right group (flat_map (λ group. group) groups) n (InOpenGroup-Has done groups n there.1)
