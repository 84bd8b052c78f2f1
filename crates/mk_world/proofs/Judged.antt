-- When a node is out of date.
use Rattle.std.proofs.Common.{◌≡◌, ℕ, ◌<◌, false, List, length, Option, Some, None, refl, sym, ap, ◌∙◌, inl, inr, get_or, subst, true≢false}
use Rattle.std.specs.Prelude.{option_map}
use Rattle.std.proofs.lemmas.List.{get_or_default}
use Rattle.mk_graph.specs.declared.node.Node.{Node}
use Rattle.mk_graph.specs.Membership.{Has}
use Rattle.mk_graph.specs.Graph.{Graph, node, no_node, prerequisites}
use Rattle.mk_build.specs.Setting.{name}
use Rattle.mk_build.specs.World.{Disk, File, HasStamp}
use Rattle.mk_build.specs.Steps.{MustRun}
use Rattle.mk_world.specs.Fits.{Forces}

-- the node at a number
pub node_is : (g : Graph) (nodes : List Node) (n : ℕ) (v : Node) → nodes ≡ g.nodes → n < length nodes → v ≡ get_or nodes n v → v ≡ node g n
node_is g nodes n v is lt e = e ∙ (get_or_default nodes n v no_node lt ∙ ap (λ (l : List Node). get_or l n no_node) is)

-- a prerequisite that forces makes it out of date
pub forced : (g : Graph) (d : Disk) (t p stamp : ℕ) → Has (prerequisites g t) p → HasStamp d (name g t) stamp → Forces (node g p) d stamp → MustRun g d t
forced g d t p stamp has is f = elim f [
  | inl phony ↦ inl (inr (p, has, phony))
  | inr newer ↦ inr (inr (p, stamp, newer.0, has, is, newer.1, newer.2))
]

-- where none does and the node is there and isn't phony, it isn't out of date
pub not_forced : (g : Graph) (d : Disk) (t stamp : ℕ) → (node g t).phony ≡ false → HasStamp d (name g t) stamp → ((p : ℕ) → Has (prerequisites g t) p → ¬ (Forces (node g p) d stamp)) → ¬ (MustRun g d t)
not_forced g d t stamp plain is none must = elim must [
  | inl always ↦ elim always [ inl own ↦ true≢false (sym own ∙ plain) | inr other ↦ none other.0 other.1 (inl other.2) ]
  | inr rest ↦ elim rest [ inl absent ↦ there (d.files (name g t)) is absent | inr older ↦ none older.0 older.3 (inr (older.2, older.5, subst (λ k. k < older.2) (same older.1 older.4) older.6)) ]
]
  where
    there : (o : Option File) → option_map (λ f. f.stamp) o ≡ Some stamp → o ≡ None → ⊥
    there None e a = absurd cc
    there (Some f) e a = absurd cc

    same : (other : ℕ) → HasStamp d (name g t) other → other ≡ stamp
    same other e = cc (is, e)

-- an absent node is out of date
pub absent : (g : Graph) (d : Disk) (t : ℕ) → option_map (λ f. f.stamp) (d.files (name g t)) ≡ None → d.files (name g t) ≡ None
absent g d t e = at (d.files (name g t)) e
  where
    at : (o : Option File) → option_map (λ f. f.stamp) o ≡ None → o ≡ None
    at None k = refl
    at (Some f) k = absurd cc

-- the stamp that was looked up
pub stamp_is : (d : Disk) (spelled f : List ℕ) (stamp : ℕ) (found : Option ℕ) → spelled ≡ f → found ≡ option_map (λ file. file.stamp) (d.files spelled) → found ≡ Some stamp → HasStamp d f stamp
stamp_is d spelled f stamp found same e is = ap (λ h. option_map (λ (file : File). file.stamp) (d.files h)) (sym same) ∙ (sym e ∙ is)
