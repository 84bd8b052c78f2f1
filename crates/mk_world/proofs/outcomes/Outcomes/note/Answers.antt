use Rattle.std.proofs.Common.{ap, ◌∙◌}
use Rattle.indexmap.specs.IndexMap.{insert_entry}
use Rattle.mk_world.specs.Known.{outcomes_of, is_same}
use Rattle.mk_world.proofs.Found.{inserted_last, comes_first, still_found, none_found}
use Rattle.mk_world.proofs.outcomes.Outcomes.note.Goals as goal

pub invariant_of-self-2 : goal.invariant_of-self-2
invariant_of-self-2 c =
    let new = rw (← c.self.view_is) at c.requires.new in
    let es = c.self.inside.table.entries in
    let before = c.in_ok-insert.ensures.entries ∙ ap (λ xs. insert_entry (λ a. is_same a.recipe a.seen.items) xs c.args.sight c.args.written) c.reserve.ensures.entries in
    rw (before ∙ inserted_last _ es c.args.sight c.args.written (none_found es c.args.sight c.self.invariant new)) (still_found es c.args.sight c.args.written c.self.invariant new)

pub returns-clause-noted : goal.returns-clause-noted
returns-clause-noted c =
    let new = rw (← c.self.view_is) at c.requires.new in
    let es = c.self.inside.table.entries in
    let before = c.in_ok-insert.ensures.entries ∙ ap (λ xs. insert_entry (λ a. is_same a.recipe a.seen.items) xs c.args.sight c.args.written) c.reserve.ensures.entries in
    rw (← c.self.view_is) (ap outcomes_of (before ∙ inserted_last _ es c.args.sight c.args.written (none_found es c.args.sight c.self.invariant new)) ∙ comes_first es c.args.sight c.args.written)
