use Rattle.std.specs.Str.{is_utf8}
use Rattle.mk_world_plan.proofs.CommandWords.{some_fails}
use Rattle.mk_world_plan.proofs.line_parser.texts_of.Goals as goal

pub returns-in-None : goal.returns-in-None
returns-in-None c = some_fails is_utf8 (λ word. word.now) c.args.words.now c.loop-word.word-index _ c.loop-word-test.true c.in-None.ensures
