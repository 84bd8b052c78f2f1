use Rattle.std.proofs.Common.{◌≡◌, List, ℕ, Ok, sym, ap, subst, ◌∙◌}
use Rattle.std.specs.Option.{option_copied}
use Rattle.mk_lemmas.proofs.Texts.{texts}
use Rattle.mk_infer.specs.Goals.{given_or_first}
use Rattle.mk_infer_select.proofs.GoalsDiffer.{are_goals}
use Rattle.mk_infer_select.proofs.goals.goal_names.Goals as goal

pub invariant_of-result : goal.invariant_of-result
invariant_of-result c =
    let m = c.args.table.now in
    are_goals m c.args.goals.now (texts c.in_ok-words.words.items) c.in_ok-names.names.items (sym c.first_with_prerequisites.ensures ∙ ap option_copied c.in_default.is) c.in_ok-words.ensures
    (subst (λ (ws : List (List ℕ)). given_or_first ws m ≡ Ok c.in_ok-names.names.items) (ap texts c.deref.ensures.value) c.in_ok-names.ensures)
