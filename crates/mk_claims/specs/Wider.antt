-- The graph that has the names that lines add, too.
use Rattle.std.specs.Prelude.{◌≡◌, ℕ, Bool, false, ◌||◌, List, [], ◌++◌, filter, fold, map, option_to_list, Option, None, Some, Result, Ok, Err, if◌then◌else◌}
use Rattle.std.specs.List.{flat_map}
use Rattle.mk_lines.specs.Names.{has_name, with_name}
use Rattle.mk_graph.specs.Graph.{Graph}
use Rattle.mk_infer.specs.Goals.{goal_names}
use Rattle.mk_infer.specs.Inference.{choice}
use Rattle.mk_infer.specs.Laws.{with_more}
use Rattle.mk_infer.specs.Selection.{Selects}
use Rattle.mk_infer.specs.Steps.{is_out_of_memory}
use Rattle.mk_infer.specs.Targets.{is_target}
use Rattle.mk_infer.specs.There.{Exists}
use Rattle.mk_infer.specs.declared.fault.InferFault.{InferFault}
use Rattle.mk_infer.specs.declared.fault.InferFault.TheVariants.{Memory}
use Rattle.mk_read.specs.Reading.{Makefile}
use Rattle.mk_read.specs.Rules.{has_some}
use Rattle.mk_repair.specs.Word.{Word, needs, phony}
use Rattle.mk_subject.specs.FileInfo.{all_names}
use Rattle.mk_subject.specs.Subject.{Subject, name_of}
use Rattle.mk_claims.specs.Claims.{Claim}
use Rattle.mk_claims.specs.Offers.{Offer, Settles, offer_of, word_of_claim}

-- The prerequisite of a line that says this word, where the goals don't reach it.
abbrev pub unreached_in : Subject → Option Word → Option (List ℕ)
unreached_in x None = None
unreached_in x (Some (phony target)) = None
unreached_in x (Some (needs target prerequisite)) =
    if has_name (all_names x) prerequisite then None else Some prerequisite

-- The prerequisite of a line that mends the claim, as a list, where the goals don't reach it.
abbrev pub unreached_by : Subject → Claim → List (List ℕ)
unreached_by x c = option_to_list (unreached_in x (word_of_claim c))

-- The prerequisites in the lines of claims that the goals don't reach, each once.
abbrev pub unreached_names : Subject → List Claim → List (List ℕ)
unreached_names x claims = fold with_name [] (flat_map (unreached_by x) claims)

-- The target of a line that says this word.
abbrev pub target_in : Option Word → Option (List ℕ)
target_in None = None
target_in (Some (phony target)) = None
target_in (Some (needs target prerequisite)) = Some target

-- The target of a line that mends the claim, as a list.
abbrev pub target_by : Claim → List (List ℕ)
target_by c = option_to_list (target_in (word_of_claim c))

-- The targets in the lines of claims.
abbrev pub line_targets : List Claim → List (List ℕ)
line_targets claims = flat_map target_by claims

-- What is there once the lines of claims are added: their targets, too.
abbrev pub there_with : Subject → List Claim → Exists
there_with x claims = with_more x.there (line_targets claims)

-- A target rule or an inference rule makes the name.
abbrev pub is_made : Makefile → Exists → List ℕ → Bool
is_made m e name = is_target m name || has_some (choice m e name)

-- The prerequisites in the lines of claims which rules make, once the lines are added, and which
-- the goals don't reach.
abbrev pub far_names : Subject → List Claim → List (List ℕ)
far_names x claims = filter (is_made x.makefile (there_with x claims)) (unreached_names x claims)

-- The prerequisites in the lines of claims which are targets that the goals don't reach.
abbrev pub far_targets : Subject → List Claim → List (List ℕ)
far_targets x claims = filter (is_target x.makefile) (unreached_names x claims)

-- The goals, and then these names.
abbrev pub goals_with : Subject → (names : List (List ℕ)) → List (List ℕ)
goals_with x names = map (name_of x) x.graph.goals ++ names

-- The answer is the graph of these goals, or their first fault; or it is `Memory`, of which nothing
-- is said.
abbrev pub Leads : Makefile → Exists → Result (List (List ℕ)) InferFault →
    Result Graph InferFault → Type 0
Leads m e goals (Err Memory) = Unit {0}
Leads m e (Ok goals) answer = Selects m e goals answer
Leads m e (Err fault) answer = answer ≡ Err fault

-- The answer is the graph of the goals and these names, once the lines of claims are added, without
-- what these lines say of prerequisites; or its first fault; or it is `Memory`.
abbrev pub LeadsTo : Subject → List Claim → (names : List (List ℕ)) →
    Result Graph InferFault → Type 0
LeadsTo x claims names answer =
    Leads x.makefile (there_with x claims) (goal_names x.makefile (goals_with x names)) answer

-- The goals and these names lead to a fault that isn't out of memory.
abbrev pub LeadsNowhere : Subject → List Claim → (names : List (List ℕ)) → Type 0
LeadsNowhere x claims names =
    (fault : InferFault) × (is_out_of_memory fault ≡ false) × LeadsTo x claims names (Err fault)

-- The graph that has the names in the lines of claims, too, which rules make; where these lead to a
-- fault, the one that has the targets among them; else the graph of the goals.
pub data IsWidest (x : Subject) (claims : List Claim) : Graph → Type 0 where
  -- There are no such names.
  no_names : far_names x claims ≡ [] → IsWidest x claims x.graph
  -- They have a graph.
  with_names : (g : Graph) → LeadsTo x claims (far_names x claims) (Ok g) → IsWidest x claims g
  -- Only the targets among them have one.
  with_targets : (g : Graph) → LeadsNowhere x claims (far_names x claims) →
      LeadsTo x claims (far_targets x claims) (Ok g) → IsWidest x claims g
  -- The targets have none, either.
  alone : LeadsNowhere x claims (far_names x claims) →
      LeadsNowhere x claims (far_targets x claims) → IsWidest x claims x.graph

-- What claims come to, with their lines, but for those that would close a cycle with this graph and
-- the other lines.
abbrev pub AreOn : Graph → List Claim → List Offer → Type 0
AreOn g claims offers = Settles g (map offer_of claims) offers

-- What claims come to with the graph of the goals and these names.
abbrev pub AreOver : Subject → (names : List (List ℕ)) → List Claim → List Offer → Type 0
AreOver x names claims offers =
    (g : Graph) × LeadsTo x claims names (Ok g) × AreOn g claims offers

-- What claims come to.
abbrev pub AreOffers : Subject → List Claim → List Offer → Type 0
AreOffers x claims offers = (g : Graph) × IsWidest x claims g × AreOn g claims offers
