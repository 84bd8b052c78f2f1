use Rattle.mk_sentences.proofs.Joined.{appended, joined}
use Rattle.mk_sentences.proofs.sentence.push_no_record.Goals as goal

pub returns : goal.returns
returns c = appended c.write.result _ _ (joined c.in_ok-names.ensures c.by-lack.ensures) c.write.ensures.bytes
