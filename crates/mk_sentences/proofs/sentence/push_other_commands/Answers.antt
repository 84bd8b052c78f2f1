use Rattle.mk_sentences.proofs.Joined.{appended, joined}
use Rattle.mk_sentences.proofs.sentence.push_other_commands.Goals as goal

pub returns : goal.returns
returns c = appended c.write.result _ _ (joined c.in_ok-names.ensures c.by-were.ensures) c.write.ensures.bytes
