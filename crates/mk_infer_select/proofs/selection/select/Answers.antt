use Rattle.std.proofs.Common.{List, ℕ, ap, subst, ◌∙◌}
use Rattle.mk_lemmas.proofs.Texts.{texts}
use Rattle.mk_infer.specs.Selection.{Selects}
use Rattle.mk_infer_select.proofs.selection.select.Goals as goal

pub returns : goal.returns
returns c =
    subst (λ (gs : List (List ℕ)). Selects c.args.choices.now.makefile c.args.choices.now.exists gs c.of_walk.result) (ap texts c.deref-2.ensures.value ∙ c.in_ok-goals.ensures) c.of_walk.ensures
