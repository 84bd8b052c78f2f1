use Rattle.std.proofs.Common.{◌∙◌, ◌++◌, ℕ, List, ap}
use Rattle.std.specs.Fmt.{decimal}
use Rattle.std.proofs.lemmas.Result.{IfOk-weaker}
use Rattle.mk_sentences.specs.Counts.{some_mending}
use Rattle.mk_sentences.proofs.Joined.{joined}
use Rattle.mk_sentences.proofs.counts.some_mending.Goals as goal

pub returns : goal.returns
unfolding some_mending
returns c =
    IfOk-weaker c.format.result _ _
    (λ text is. is ∙ ap (λ (l : List ℕ). decimal c.args.counts.now.lines ++ l) (joined c.by_number-mend.ensures c.in_ok-whom.ensures)) c.format.ensures.ok
