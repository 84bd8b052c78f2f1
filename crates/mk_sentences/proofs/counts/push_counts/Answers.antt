use Rattle.std.proofs.Common.{◌++◌, ℕ, List, ap, codes}
use Rattle.std.specs.Fmt.{decimal}
use Rattle.mk_sentences.proofs.Joined.{appended, joined}
use Rattle.mk_sentences.proofs.counts.push_counts.Goals as goal

pub returns : goal.returns
returns c =
    let counts = c.args.counts.now in
    let last = ap (λ (l : List ℕ). l ++ codes "\n") c.in_ok-mending.ensures in
    let end = ap (λ (l : List ℕ). decimal counts.groups ++ l) (joined c.by_number-end.ensures last) in
    appended c.write.result _ _ (ap (λ (l : List ℕ). decimal counts.findings ++ l) (joined c.by_number-of.ensures end)) c.write.ensures.bytes
