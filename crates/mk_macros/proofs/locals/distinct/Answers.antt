use Rattle.std.proofs.Common.{◌<◌, ◌≤◌, ◌∙◌, ap, length, arith}
use Rattle.mk_lemmas.proofs.Texts.{texts}
use Rattle.mk_macros.proofs.Distinct.{and_new, next_into, none_there, all_there}
use Rattle.mk_macros.specs.Locals.{distinct}
use Rattle.mk_macros.proofs.locals.distinct.Goals as goal

pub loop-name-init : goal.loop-name-init
loop-name-init c = ap (λ keys. and_new (texts keys) (texts c.args.names.now)) c.new-set.ensures.empty ∙ none_there (texts c.args.names.now)

pub loop-name-preserved : goal.loop-name-preserved
loop-name-preserved c =
    let lt : c.loop-name.name-index < length c.args.names.now = omega arith in
    next_into c.loop-name.set.keys c.insert.new.self.keys c.args.names.now c.loop-name.name-index _ (distinct (texts c.args.names.now)) c.in_ok-insert.ensures.keys c.loop-name.invariant lt

pub returns : goal.returns
returns c =
    let le : length c.args.names.now ≤ c.loop-name.name-index = omega arith in
    all_there c.loop-name.set.keys c.args.names.now c.loop-name.name-index (distinct (texts c.args.names.now)) c.loop-name.invariant le
