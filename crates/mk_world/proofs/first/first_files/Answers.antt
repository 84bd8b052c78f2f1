use Rattle.std.proofs.Common.{◌+◌, ◌++◌, length, Bor, List, ℕ, sym, ap, ◌∙◌, arith}
use Rattle.std.proofs.lemmas.List.{append-nil}
use Rattle.mk_world.specs.First.{first_files, given_among}
use Rattle.mk_world.proofs.FirstDisk.{texts_left, files_pass, files_take, count_pass, count_take, nothing_left}
use Rattle.mk_world.proofs.first.first_files.Goals as goal

pub loop-name-preserved-then-not-is_given : goal.loop-name-preserved-then-not-is_given
loop-name-preserved-then-not-is_given c = record {
  few = omega (arith, c.loop-name.invariant.few);
  files = files_pass c.args.setting.now c.loop-name.clock _ _ _ c.loop-name.files.items c.push.new.self.items _ (texts_left c.as_slice-names.result.now c.loop-name.name-index _ c.loop-name-test.true) (sym c.if-not-is_given.ensures) c.in_ok-push.ensures.items c.loop-name.invariant.files;
  clock = count_pass c.args.setting.now c.loop-name.clock _ _ _ _ (texts_left c.as_slice-names.result.now c.loop-name.name-index _ c.loop-name-test.true) (sym c.if-not-is_given.ensures) c.loop-name.invariant.clock;
}

pub loop-name-preserved : goal.loop-name-preserved
loop-name-preserved c = record {
  few = omega (arith, c.loop-name.invariant.few);
  files = files_take c.args.setting.now c.loop-name.clock _ _ _ c.loop-name.files.items
      c.push-in-loop-name.new.self.items _ (texts_left c.as_slice-names.result.now c.loop-name.name-index _
      c.loop-name-test.true) (sym c.if-not-is_given.ensures) c.in_ok-push-2.ensures.items
      c.loop-name.invariant.files;
  clock = count_take c.args.setting.now c.loop-name.clock _ _ _ _ (texts_left c.as_slice-names.result.now c.loop-name.name-index _ c.loop-name-test.true) (sym c.if-not-is_given.ensures) c.loop-name.invariant.clock;
}

pub returns-clause-files : goal.returns-clause-files
returns-clause-files c =
    let none = sym (nothing_left (λ (t : Bor (List ℕ)). t.now) c.as_slice-names.result.now c.loop-name.name-index c.loop-name-test.false) in
    sym (append-nil c.loop-name.files.items) ∙ (ap (λ t. c.loop-name.files.items ++ first_files c.args.setting.now c.loop-name.clock t) none ∙ (c.loop-name.invariant.files ∙ ap (first_files c.args.setting.now 0) c.as_slice-names.ensures))

pub returns-clause-clock : goal.returns-clause-clock
returns-clause-clock c =
    let none = sym (nothing_left (λ (t : Bor (List ℕ)). t.now) c.as_slice-names.result.now c.loop-name.name-index c.loop-name-test.false) in
    let all = ap (λ t. c.loop-name.clock + length (given_among c.args.setting.now t)) none ∙ c.loop-name.invariant.clock in
    let same = ap (λ (l : List (List ℕ)). length (given_among c.args.setting.now l)) c.as_slice-names.ensures in
    omega (arith, all, same)
