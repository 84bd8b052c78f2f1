use Rattle.std.proofs.Common.{sym, ◌∙◌}
use Rattle.std.proofs.lemmas.Bool.{false≢true}
use Rattle.mk_world.proofs.Keeping.{turn_from, turn_to}
use Rattle.mk_world.proofs.making.Making.is_ready.Goals as goal

pub returns-then-can_start : goal.returns-then-can_start
returns-then-can_start c = λ scene k.
    let m = c.args.self.now in
    let n = c.args.number in
    let may = turn_from scene c.can_start_stays.ensures m c.args.readiness.now k n (c.can_start.ensures.0 c.if-can_start.true) in
    let free = c.is_free.ensures in
    (λ e. (may, (free.0 e).0, (free.0 e).1), λ h. free.1 (h.1, h.2))

pub returns-else-can_start : goal.returns-else-can_start
returns-else-can_start c = λ scene k.
    let m = c.args.self.now in
    let n = c.args.number in
    (λ e. absurd (false≢true (sym c.if-can_start.false ∙ e)), λ h. c.can_start.ensures.1 (turn_to scene c.can_start_stays.ensures m c.args.readiness.now k n h.0))
