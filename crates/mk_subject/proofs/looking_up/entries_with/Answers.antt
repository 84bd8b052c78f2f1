use Rattle.std.proofs.Common.{◌≡◌, ◌<◌, ◌∙◌, ℕ, List, Option, None, ap, length, get_or, inl, inr, ⊎_elim, arith}
use Rattle.std.proofs.lemmas.List.{get_or-map, get_or_default, length-map}
use Rattle.std.proofs.lemmas.Result.{err_from_is_err_and}
use Rattle.mk_subject.specs.NodeRow.{choice_after}
use Rattle.mk_subject.specs.Subject.{subject_of}
use Rattle.mk_subject.proofs.Entries.{entry_more, first_fault}
use Rattle.mk_subject.proofs.looking_up.entries_with.Goals as goal

pub returns-in_err-entry_of-clause-fault : goal.returns-in_err-entry_of-clause-fault
returns-in_err-entry_of-clause-fault c =
    let x = subject_of c.args.choices.now.makefile c.args.choices.now.exists c.args.records.now.graph c.args.records.now.setting in
    let lt : c.loop-place.place < length c.args.order.now = omega arith in
    let p = err_from_is_err_and c.from_residual-in_err-entry_of.result c.from_residual-in_err-entry_of.ensures.1 in
    rw (p.1, p.2) (⊎_elim (λ h. inl h) (λ h. inr (first_fault x c.args.order.now c.loop-place.place c.loop-place.entries.items _ lt c.loop-place.invariant h)) c.in_err-entry_of.ensures.fault)

pub loop-place-preserved : goal.loop-place-preserved
loop-place-preserved c =
    let x = subject_of c.args.choices.now.makefile c.args.choices.now.exists c.args.records.now.graph c.args.records.now.setting in
    let order = c.args.order.now in
    let i = c.loop-place.place in
    let lt : i < length order = omega arith in
    let made = c.in_ok-entry_of.ensures in
    let told = c.index-after-place.result in
    let low : i < length c.args.after.now = omega (arith, lt, ap (λ (l : List (Option (List ℕ))). length l) c.requires.after, length-map order (choice_after x)) in
    let here : told ≡ choice_after x (get_or order i 0) = c.index-after-place.is ∙ (get_or_default c.args.after.now i told None low ∙ (ap (λ (l : List (Option (List ℕ))). get_or l i None) c.requires.after ∙ get_or-map (choice_after x) order i 0 None lt)) in
    entry_more x order i c.loop-place.entries.items c.push.new.self.items _ c.in_ok-push.ensures.items made.number lt (made.entry here) c.loop-place.invariant
