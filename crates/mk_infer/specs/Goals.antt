-- The goals of a request.
use Rattle.std.specs.Prelude.{◌≡◌, ℕ, ◌+◌, not, ◌&&◌, List, [], ◌∷◌, Bool, filter, find, codes, Option, None, Some, Result, Ok, Err, if◌then◌else◌}
use Rattle.std.specs.List.{flat_map, list_any}
use Rattle.mk_graph.specs.Membership.{IsDistinct}
use Rattle.mk_read.specs.declared.fault.Place.{Place}
use Rattle.mk_read.specs.Names.{has_name, is_bracket, is_make_name, once}
use Rattle.mk_read.specs.Needs.{is_wait}
use Rattle.mk_read.specs.Reading.{Makefile}
use Rattle.mk_read.specs.Special.{is_inference_name, is_special}
use Rattle.mk_read.specs.State.{RuleRead}
use Rattle.mk_infer.specs.declared.fault.InferFault.{InferFault}
use Rattle.mk_infer.specs.declared.fault.InferFault.TheVariants.{InferencePrerequisites, BadGoal, GoalIsMember, NoGoal}
use Rattle.mk_infer.specs.Steps.{◌>>=◌}

-- the place of a goal: the file is `goal`, the line is its number among the given goals
abbrev pub goal_place : ℕ → Place
goal_place number = record { file = codes "goal"; line = number }

-- `.WAIT` and `-` may be names elsewhere, but no goals
abbrev pub is_no_goal : List ℕ → Bool
is_no_goal word = has_name (codes ".WAIT" ∷ codes "-" ∷ []) word

-- the name of a goal: `.WAIT` and `-` are `BadGoal` (27), a word with a bracket is `GoalIsMember`
-- (28), another word that is no name is `BadGoal`
unfoldable pub goal_of : ℕ → List ℕ → Result (List ℕ) InferFault
goal_of number word =
    if is_no_goal word then Err (BadGoal (goal_place number))
    else (if list_any is_bracket word then Err (GoalIsMember (goal_place number))
    else (if is_make_name word then Ok word else Err (BadGoal (goal_place number))))

-- the names of the goals, which are counted from this number, or the first fault
unfoldable pub goals_from : ℕ → List (List ℕ) → Result (List (List ℕ)) InferFault
goals_from number [] = Ok []
goals_from number (word ∷ rest) = do
  name ← goal_of number word
  names ← goals_from (number + 1) rest
  Ok (name ∷ names)

-- the targets of the rule lines of the makefile, in order, without those of the default text
abbrev pub own_targets : List RuleRead → List (List ℕ)
own_targets rules =
    flat_map (λ (rule : RuleRead). rule.targets)
    (filter (λ (rule : RuleRead). not rule.default) rules)

-- the name is neither special nor an inference name
abbrev pub is_plain_target : List (List ℕ) → List ℕ → Bool
is_plain_target suffixes name = not (is_special name) && not (is_inference_name suffixes name)

-- the first target of the makefile that is neither special nor an inference name, which is the
-- default goal
abbrev pub first_target : Makefile → Option (List ℕ)
first_target m = find (is_plain_target m.suffixes) (own_targets m.rules)

-- the default goal, or `NoGoal` (44)
abbrev pub default_goal : Option (List ℕ) → Result (List (List ℕ)) InferFault
default_goal None = Err NoGoal
default_goal (Some target) = Ok (target ∷ [])

-- the given goals, each once, or the default goal if none was given
abbrev pub given_or_first : List (List ℕ) → Makefile → Result (List (List ℕ)) InferFault
given_or_first [] m = default_goal (first_target m)
given_or_first (name ∷ names) m = Ok (once (name ∷ names))

-- the rule line gives prerequisites to an inference name
abbrev pub gives_prerequisites : List (List ℕ) → RuleRead → Bool
gives_prerequisites suffixes rule =
    list_any (is_inference_name suffixes) rule.targets &&
    list_any (λ word. not (is_wait word)) rule.words

-- the rest, or `InferencePrerequisites` (45) if a rule line was found
abbrev pub unless_found : {A : Type 0} → Option RuleRead → Result A InferFault → Result A InferFault
unless_found None rest = rest
unless_found (Some rule) rest = Err (InferencePrerequisites rule.place)

-- the goals, or the first fault: of an inference name with prerequisites, then of the words in
-- order, then that there is no goal
unfoldable pub goal_names : Makefile → List (List ℕ) → Result (List (List ℕ)) InferFault
goal_names m goals =
    unless_found (find (gives_prerequisites m.suffixes) m.rules)
    (goals_from 1 goals >>= λ names. given_or_first names m)

-- The names are distinct, and some words give them as the goals of some makefile.
pub record AreGoals (names : List (List ℕ)) : Type 0 where
  pub differ : IsDistinct names
  pub are_named : (m : Makefile) × (words : List (List ℕ)) × (goal_names m words ≡ Ok names)
