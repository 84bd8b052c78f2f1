use Rattle.std.proofs.Common.{reverse}
use Rattle.mk_graph.proofs.Parts.{HasAll-grows}
use Rattle.mk_world.proofs.making.Making.has_goals.Goals as goal

pub returns : goal.returns
returns c =
    let same = rw c.deref.ensures.value at c.has_all.ensures in
    rw (← c.self.view_is) (
      λ e. HasAll-grows c.self.inside.is_done (reverse c.self.inside.done.items)
          c.self.inside.goals.items (λ n h. (c.self.invariant n).0 h) (same.0 e),
      λ h. same.1
          (HasAll-grows (reverse c.self.inside.done.items) c.self.inside.is_done c.self.inside.goals.items
          (λ n h. (c.self.invariant n).1 h) h),
    )
