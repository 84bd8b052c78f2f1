use Rattle.std.proofs.Common.{◌++◌, ap, codes}
use Rattle.mk_sentences.proofs.Joined.{appended, joined}
use Rattle.mk_sentences.proofs.sentence.push_output_race_and_stale.Goals as goal

pub returns : goal.returns
returns c =
    let writer = c.args.writer.now in
    let followed = ap (λ l. writer ++ (codes ": " ++ l)) c.in_ok-both.ensures in
    let written = ap (λ l. codes ", which the recipe of " ++ (writer ++ (codes " writes, but " ++ l))) (joined c.by-lack.ensures followed) in
    appended c.write.result _ _ (joined c.in_ok-reads.ensures written) c.write.ensures.bytes
