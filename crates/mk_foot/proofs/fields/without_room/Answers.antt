use Rattle.std.proofs.lemmas.Result.{err_from_is_err_and}
use Rattle.mk_foot.proofs.fields.without_room.Goals as goal

pub returns-in_err-texts : goal.returns-in_err-texts
returns-in_err-texts c =
    let p = err_from_is_err_and c.from_residual.result c.from_residual.ensures.1 in
    λ defined given. rw (p.1, p.2) (rw c.in_err-texts.was at given)
