use Rattle.std.proofs.Common.{◌++◌, ap, codes}
use Rattle.mk_sentences.proofs.Joined.{appended, joined}
use Rattle.mk_sentences.proofs.advice.push_split_writer.Goals as goal

pub returns : goal.returns
returns c =
    let writers = ap (λ l. l ++ codes ": to depend on that would close a cycle") c.in_ok-writers.ensures in
    let rules = joined c.in_ok-names.ensures (joined c.by-rules.ensures writers) in
    appended c.write.result _ _ (ap (λ l. codes "give " ++ l) rules) c.write.ensures.bytes
