-- Goals differ.
use Rattle.std.proofs.Common.{◌≡◌, ℕ, List, [], ◌∷◌, Option, Some, None, Result, Ok, Err, ap, subst, ◌∙◌}
use Rattle.std.specs.Prelude.{find}
use Rattle.mk_lines.proofs.Once.{once-distinct}
use Rattle.mk_graph.specs.Membership.{IsDistinct}
use Rattle.mk_read.specs.Reading.{Makefile}
use Rattle.mk_read.specs.State.{RuleRead}
use Rattle.mk_infer.specs.declared.fault.InferFault.{InferFault}
use Rattle.mk_infer.specs.Goals.{AreGoals, default_goal, first_target, given_or_first, gives_prerequisites, goal_names, goals_from, unless_found}
use Rattle.mk_infer.specs.Steps.{◌>>=◌}

-- the names of a result, where there are any
names_in : Result (List (List ℕ)) InferFault → List (List ℕ)
names_in (Ok names) = names
names_in (Err fault) = []

given_differ : (words : List (List ℕ)) (m : Makefile) → IsDistinct (names_in (given_or_first words m))
unfolding names_in
given_differ [] m = by (first_target m)
  where
    by : (target : Option (List ℕ)) → IsDistinct (names_in (default_goal target))
    by None = tt
    by (Some target) = ((λ h. h), tt)
given_differ (word ∷ words) m = once-distinct (word ∷ words)

-- what is named as goals are goals
pub are_goals : (m : Makefile) (words given names : List (List ℕ)) → find (gives_prerequisites m.suffixes) m.rules ≡ None → goals_from 1 words ≡ Ok given → given_or_first given m ≡ Ok names → AreGoals names
unfolding goal_names names_in
are_goals m words given names none from is = record {
  differ = subst IsDistinct (ap names_in is) (given_differ given m);
  are_named = (m, words, ap (λ (o : Option RuleRead). unless_found o (goals_from 1 words >>= λ ns. given_or_first ns m)) none ∙ (ap (λ (r : Result (List (List ℕ)) InferFault). r >>= λ ns. given_or_first ns m) from ∙ is));
}
