use Rattle.mk_sentences.proofs.Joined.{appended, joined}
use Rattle.mk_sentences.proofs.sentence.push_race_and_stale.Goals as goal

pub returns : goal.returns
returns c =
    let behind = joined c.by-lack.ensures (joined c.by-effect.ensures c.in_ok-both.ensures) in
    appended c.write.result _ _ (joined c.in_ok-reads.ensures behind) c.write.ensures.bytes
