use Rattle.std.proofs.Common.{ℕ, List, ap, sym, subst, ◌∙◌}
use Rattle.mk_since.specs.Doubts.{AreDoubted}
use Rattle.mk_since.specs.Parts.{doubts_among}
use Rattle.mk_since.proofs.doubts.doubted.Goals as goal

pub returns : goal.returns
returns c =
    let x = c.args.subject.now in
    let rows = c.entries.result.now in
    let same = c.in_ok-table.ensures ∙ (c.as_slice.ensures ∙ (c.in_ok-targets.ensures ∙ ap (λ (told : List (List ℕ)). (doubts_among told rows).targets) c.in_ok-about.ensures)) in
    λ none are. subst (AreDoubted x) (sym same) (c.doubts_are_these.ensures x c.args.found.now rows c.graph-graph.ensures.graph c.graph-graph.ensures.subject none are c.entries.ensures)
