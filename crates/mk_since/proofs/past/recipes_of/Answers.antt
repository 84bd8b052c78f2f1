use Rattle.std.proofs.Common.{◌≡◌, ◌∙◌, List, ap, map, take, arith}
use Rattle.std.specs.Prelude.{filter}
use Rattle.std.proofs.lemmas.List.{take_all}
use Rattle.mk_subject.specs.NodeRow.{NodeRow}
use Rattle.mk_since.specs.Parts.{recipe_in}
use Rattle.mk_since.proofs.Naming.{recipes_kept}
use Rattle.mk_since.proofs.past.recipes_of.Goals as goal

pub returns : goal.returns
returns c =
    let x = c.args.subject.now in
    let entries = c.entries-entry-items.result.now in
    let all : take c.loop-entry.entry-index entries ≡ entries = take_all c.loop-entry.entry-index entries (omega arith) in
    c.loop-entry.invariant ∙ (ap (λ (es : List NodeRow). map recipe_in (filter (λ (e : NodeRow). e.node.recipe) es)) all ∙ recipes_kept x entries c.entries-entry-items.ensures)
