use Rattle.mk_sentences.proofs.Joined.{appended, joined}
use Rattle.mk_sentences.proofs.sentence.push_race.Goals as goal

pub returns : goal.returns
returns c = appended c.write.result _ _ (joined c.in_ok-reads.ensures (joined c.by-lack.ensures c.by-effect.ensures)) c.write.ensures.bytes
