use Rattle.std.proofs.Common.{◌≡◌, ◌∙◌, ◌∷◌, ◌++◌, [], ℕ, List, None, Some, ap, sym}
use Rattle.std.proofs.lemmas.Bool.{true≢false}
use Rattle.mk_find.specs.declared.finding.Finding.TheVariants.{Selection}
use Rattle.mk_subject.specs.Subject.{name_of}
use Rattle.mk_find.specs.Candidates.{selection}
use Rattle.mk_subject.specs.NodeRow.{NodeRow}
use Rattle.mk_find.proofs.Adding.{adds_nothing, adds_one, adds_none}
use Rattle.mk_find.proofs.Decided.{selection_is, other_choice, same_choice_stays, name_is}
use Rattle.mk_find.proofs.node_findings.note_selection.Goals as goal

pub returns-in_default : goal.returns-in_default
returns-in_default c = λ x is.
    let after : c.args.row.now.chosen_after ≡ None = ap (λ (e : NodeRow). e.chosen_after) (sym c.row.view_is) ∙ c.in_default.is in
    selection_is x c.args.row.now None c.args.found.now c.args.found.now is after (adds_nothing x c.args.found.now)

pub returns-then-is_choice : goal.returns-then-is_choice
returns-then-is_choice c = λ x is.
    let e = c.args.row.now in
    let after : e.chosen_after ≡ Some c.in-Some.after = ap (λ (k : NodeRow). k.chosen_after) (sym c.row.view_is) ∙ c.in-Some.is in
    let same : e.chosen ≡ Some c.in-Some.after = ap (λ (k : NodeRow). k.chosen) (sym c.row.view_is) ∙ c.is_choice.ensures.0 c.if-is_choice.true in
    selection_is x e (Some c.in-Some.after) c.args.found.now c.args.found.now is after (adds_none x (selection e.number c.in-Some.after) c.args.found.now (same_choice_stays x e c.in-Some.after is same))

pub returns : goal.returns
returns c = λ x is.
    let e = c.args.row.now in
    let old = c.args.found.now in
    let after : e.chosen_after ≡ Some c.in-Some.after = ap (λ (k : NodeRow). k.chosen_after) (sym c.row.view_is) ∙ c.in-Some.is in
    let differ : e.chosen ≡ Some c.in-Some.after → ⊥ = λ same. true≢false (sym (c.is_choice.ensures.1 (ap (λ (k : NodeRow). k.chosen) c.row.view_is ∙ same)) ∙ c.if-is_choice.false) in
    let chosen : c.in_ok-chosen.chosen ≡ c.in-Some.after = c.in_ok-chosen.ensures.cases in
    let named = ap (λ (k : List ℕ). old ++ Selection k c.in_ok-chosen.chosen ∷ []) (name_is x e c.in_ok-name.name is c.in_ok-name.ensures) in
    selection_is x e (Some c.in-Some.after) old c.push.new.self is after
    (adds_one x (selection e.number c.in-Some.after) old c.push.new.self (other_choice x e c.in-Some.after is after differ)
    (c.in_ok-push.ensures ∙ (named ∙ ap (λ (k : List ℕ). old ++ Selection (name_of x e.number) k ∷ []) chosen)))
