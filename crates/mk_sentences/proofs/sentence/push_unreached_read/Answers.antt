use Rattle.std.proofs.Common.{◌++◌, ap, codes}
use Rattle.mk_sentences.proofs.Joined.{appended, joined}
use Rattle.mk_sentences.proofs.sentence.push_unreached_read.Goals as goal

pub returns : goal.returns
returns c =
    let maker = c.args.maker.now in
    let lacks = ap (λ l. l ++ (maker ++ codes ", so these goals don't run that recipe")) c.by-lack.ensures in
    let made = ap (λ l. codes ", which the recipe of " ++ (maker ++ (codes " makes, but " ++ l))) lacks in
    appended c.write.result _ _ (joined c.in_ok-reads.ensures made) c.write.ensures.bytes
