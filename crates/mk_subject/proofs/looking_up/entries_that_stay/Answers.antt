use Rattle.std.proofs.Common.{◌≡◌, ◌∙◌, ◌<◌, ℕ, List, [], true, Ok, inl, inr, ⊎_elim, ap, sym, subst, length, get_or, take, arith}
use Rattle.std.specs.List.{flat_map}
use Rattle.std.proofs.lemmas.List.{take_all}
use Rattle.std.proofs.lemmas.Result.{err_from_is_err_and}
use Rattle.mk_graph.specs.Membership.{Has}
use Rattle.mk_graph.specs.Serial.{serial_order}
use Rattle.mk_build.specs.Setting as build
use Rattle.mk_read.specs.Reading.{Makefile}
use Rattle.mk_infer.specs.There.{Exists, is_there}
use Rattle.mk_subject.specs.Subject.{all_writes, commands_of, footprints, name_of, subject_of, writes_of}
use Rattle.mk_subject.specs.NodeRow.{NodeRow, AreEntriesOf, IsRow, StaysChosen}
use Rattle.mk_subject.proofs.Stays.{in_lists, same_choice, same_there}
use Rattle.mk_subject.proofs.Staying.{AreStaying, all_stay, first_behind, none_yet, staying_more}
use Rattle.mk_subject.proofs.looking_up.entries_that_stay.Goals as goal

pub loop-number-init : goal.loop-number-init
loop-number-init c =
    let x = subject_of c.args.choices.now.makefile c.args.choices.now.exists c.args.records.now.graph c.args.records.now.setting in
    record {
      staying = subst (λ (es : List NodeRow). AreStaying x [] es) (sym c.in_ok-entries.ensures.items) (none_yet x);
      there = λ f h. absurd h;
    }

pub returns-in_err-entry_of-clause-fault : goal.returns-in_err-entry_of-clause-fault
returns-in_err-entry_of-clause-fault c =
    let lt : c.loop-number.number-index < length c.args.order.now = omega arith in
    let p = err_from_is_err_and c.from_residual-in_err-entry_of.result c.from_residual-in_err-entry_of.ensures.1 in
    rw (p.1, p.2) (⊎_elim (λ h. inl h) (λ h. inr (first_behind _ _ _ _ c.args.order.now c.loop-number.number-index c.loop-number.entries.items _ c.requires.order lt c.loop-number.invariant.staying h)) c.in_err-entry_of.ensures.fault)

pub loop-number-preserved : goal.loop-number-preserved
loop-number-preserved c =
    let g = c.args.records.now.graph in
    let s = c.args.records.now.setting in
    let x = subject_of c.args.choices.now.makefile c.args.choices.now.exists g s in
    let order = c.args.order.now in
    let i = c.loop-number.number-index in
    let lt : i < length order = omega arith in
    let e = c.in_ok-entry_of.field-0 in
    let made = c.in_ok-entry_of.ensures in
    let writes = build.writes g (footprints s) in
    let told : commands_of x e.number ≡ Ok e.commands = ap (commands_of x) made.number ∙ made.told in
    let right : StaysChosen x e.number → IsRow x e = λ stays. made.entry (subst (λ (n : ℕ). StaysChosen x n) made.number stays) in
    let is : (f : List ℕ) → is_there c.table.result.now c.exists.result.now f ≡ true → is_there c.args.choices.now.makefile c.args.choices.now.exists f ≡ true = λ f h. subst (λ (k : Exists). is_there c.args.choices.now.makefile k f ≡ true) c.exists.ensures (subst (λ (k : Makefile). is_there k c.exists.result.now f ≡ true) c.table.ensures h) in
    record {
      staying = staying_more x order i c.loop-number.entries.items c.push.new.self.items e c.in_ok-push.ensures.items made.number lt told right c.loop-number.invariant.staying;
      there = in_lists (λ (f : List ℕ). is_there c.args.choices.now.makefile c.args.choices.now.exists f ≡ true) writes order i 0 lt
          (λ f h. is f (c.are_there.ensures c.if-not-are_there.false f (subst (λ (l : List (List ℕ)). Has l f) (sym c.writes_of.ensures) h)))
          c.loop-number.invariant.there;
    }

pub returns-clause-entries : goal.returns-clause-entries
returns-clause-entries c =
    let m = c.args.choices.now.makefile in
    let e = c.args.choices.now.exists in
    let g = c.args.records.now.graph in
    let s = c.args.records.now.setting in
    let x = subject_of m e g s in
    let order = c.args.order.now in
    let i = c.loop-number.number-index in
    let all : take i order ≡ order = take_all i order (omega arith) in
    let serial : take i order ≡ serial_order g = all ∙ c.requires.order in
    let there : (f : List ℕ) → Has (all_writes x) f → is_there m e f ≡ true = λ f h. c.loop-number.invariant.there f (subst (λ (ns : List ℕ). Has (flat_map (writes_of x) ns) f) (sym serial) h) in
    let stay : (n : ℕ) → StaysChosen x n = λ n. same_choice m e (all_writes x) (name_of x n) (same_there m e (all_writes x) c.requires.nothing_more there) in
    subst (λ (ns : List ℕ). AreEntriesOf x ns c.loop-number.entries.items) serial (all_stay x (take i order) c.loop-number.entries.items stay c.loop-number.invariant.staying)
