-- The text of plans: one line for each step.
use Rattle.std.specs.Prelude.{ℕ, Bool, true, false, not, ◌&&◌, List, [], ◌∷◌, ◌++◌, codes, if◌then◌else◌}
use Rattle.std.specs.List.{flat_map, list_all, list_any}
use Rattle.std.specs.Str.{bytes_eq}
use Rattle.std.specs.Fmt.{decimal}
use Rattle.mk_lines.specs.Names.{has_name}
use Rattle.mk_graph.specs.declared.node.Node.{Node}
use Rattle.mk_graph.specs.Graph.{Graph}
use Rattle.mk_build.specs.Setting.{FileName, name}
use Rattle.mk_world.specs.NamedStep.{Step, Edit, Make, Begin, Look, Put, End, Break, Pass, Stop, EndMake}

-- Whether the node has this name and no recipe.
abbrev pub is_idle_at : FileName → Node → Bool
is_idle_at f n = not n.recipe && bytes_eq f n.name

-- Whether a node of the graph has this name and no recipe.
abbrev pub is_idle : Graph → FileName → Bool
is_idle g f = list_any (is_idle_at f) g.nodes

-- Whether each goal of the graph is among these names.
abbrev pub are_all_named : Graph → List FileName → Bool
are_all_named g goals = list_all (λ n. has_name goals (name g n)) g.goals

-- The names, each after a space.
abbrev pub names_text : List FileName → List ℕ
names_text names = flat_map (λ f. 32 ∷ f) names

-- The names of a make's goals, each after a space, or nothing if the make has all goals.
abbrev pub goals_text : Graph → List FileName → List ℕ
goals_text g goals = if are_all_named g goals then [] else names_text goals

-- The line `make N G..`.
abbrev pub make_line : Graph → (jobs : ℕ) → List FileName → List ℕ
make_line g jobs goals = codes "make " ++ (decimal jobs ++ (goals_text g goals ++ codes "\n"))

-- The line `pass T`, or nothing if it is left out.
abbrev pub pass_line : (is_left_out : Bool) → FileName → List ℕ
pass_line is_left_out t = if is_left_out then [] else (codes "pass " ++ (t ++ codes "\n"))

-- The line `break T` or `break T removed`.
abbrev pub break_line : FileName → (removed : Bool) → List ℕ
break_line t true = codes "break " ++ (t ++ codes " removed\n")
break_line t false = codes "break " ++ (t ++ codes "\n")

-- The line of a step, or nothing for the pass of a node without a recipe.
abbrev pub step_text : Graph → Step → List ℕ
step_text g (Edit f c) = codes "edit " ++ (f ++ 32 ∷ (decimal c ++ codes "\n"))
step_text g (Make jobs goals) = make_line g jobs goals
step_text g (Begin t) = codes "begin " ++ (t ++ codes "\n")
step_text g (Look t f) = codes "look " ++ (t ++ 32 ∷ (f ++ codes "\n"))
step_text g (Put t f c) = codes "put " ++ (t ++ 32 ∷ (f ++ 32 ∷ (decimal c ++ codes "\n")))
step_text g (End t) = codes "done " ++ (t ++ codes "\n")
step_text g (Break t removed) = break_line t removed
step_text g (Pass t) = pass_line (is_idle g t) t
step_text g Stop = codes "stop\n"
step_text g EndMake = codes "end\n"

-- The text of a plan of these steps.
abbrev pub plan_text : Graph → List Step → List ℕ
plan_text g steps = flat_map (step_text g) steps
