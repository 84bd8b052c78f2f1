-- Past the last node there is nothing.
use Rattle.std.proofs.Common.{◌≡◌, ℕ, ◌≤◌, List, [], length, cond, ap, subst}
use Rattle.std.specs.List.{flat_map}
use Rattle.std.proofs.lemmas.List.{get_or_past}
use Rattle.mk_graph.specs.declared.node.Node.{Node}
use Rattle.mk_graph.specs.Graph.{Graph, node, no_node, prerequisites}
use Rattle.mk_graph.specs.Membership.{Has}
use Rattle.mk_build.specs.Setting.{FileName, Setting, reads, writes}
use Rattle.mk_build.specs.Ways.{Carries}

past_node : (g : Graph) (t : ℕ) → length g.nodes ≤ t → node g t ≡ no_node
past_node g t past = get_or_past g.nodes t no_node past

pub past_reads : (g : Graph) (s : Setting) (t : ℕ) → length g.nodes ≤ t → (f : FileName) → ¬ (Has (reads g s t) f)
past_reads g s t past f h = subst (λ (n : Node). Has (cond n.recipe (s.reads n.name) []) f) (past_node g t past) h

pub nothing_read : (g : Graph) (s : Setting) (t : ℕ) → length g.nodes ≤ t → reads g s t ≡ []
nothing_read g s t past = ap (λ (n : Node). cond n.recipe (s.reads n.name) []) (past_node g t past)

pub nothing_written : (g : Graph) (s : Setting) (t : ℕ) → length g.nodes ≤ t → writes g s t ≡ []
nothing_written g s t past = ap (λ (n : Node). cond n.recipe (s.writes n.name) []) (past_node g t past)

pub past_prerequisites : (g : Graph) (t : ℕ) → length g.nodes ≤ t → (p : ℕ) → ¬ (Has (prerequisites g t) p)
past_prerequisites g t past p h = subst (λ (n : Node). Has (flat_map (λ (group : List ℕ). group) n.groups) p) (past_node g t past) h

pub past_carries : (g : Graph) (s : Setting) (t : ℕ) → length g.nodes ≤ t → (o : ℕ) → ¬ (Carries g s t o)
past_carries g s t past o (p, needed, wrote) = past_prerequisites g t past p needed
