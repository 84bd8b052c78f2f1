-- Laws of the names of goals and of the nodes of their graph.
use Rattle.std.specs.Prelude.{◌≡◌, ℕ, true, List, Ok}
use Rattle.std.specs.List.{list_all}
use Rattle.mk_graph.specs.declared.node.Node.{Node}
use Rattle.mk_graph.specs.Graph.{Graph}
use Rattle.mk_lines.specs.Paths.{is_plain_path}
use Rattle.mk_read.specs.Reading.{Makefile}
use Rattle.mk_read.specs.RuleLaws.{is_well_named}
use Rattle.mk_infer.specs.Goals.{goal_names}
use Rattle.mk_infer.specs.Selection.{Selects}
use Rattle.mk_infer.specs.There.{Exists}

-- If the names in the rule lines of a makefile are well formed, its goals are plain paths.
abbrev pub GoalsArePlain : Type 0
GoalsArePlain =
    (m : Makefile) (words goals : List (List ℕ)) → list_all is_well_named m.rules ≡ true →
    goal_names m words ≡ Ok goals → list_all is_plain_path goals ≡ true

-- the names in the rule lines are well formed, and the present names are plain paths
pub record HavePlainNames (m : Makefile) (e : Exists) : Type 0 where
  pub rules : list_all is_well_named m.rules ≡ true
  pub sources : list_all is_plain_path e.sources ≡ true
  pub texts : list_all is_plain_path e.texts ≡ true
  pub more : list_all is_plain_path e.more ≡ true

-- Then the nodes of a graph have plain paths as names if its goals are plain paths.
abbrev pub NodesHavePlainNames : Type 0
NodesHavePlainNames =
    (m : Makefile) (e : Exists) (goals : List (List ℕ)) (g : Graph) → HavePlainNames m e →
    list_all is_plain_path goals ≡ true → Selects m e goals (Ok g) →
    list_all (λ (n : Node). is_plain_path n.name) g.nodes ≡ true
