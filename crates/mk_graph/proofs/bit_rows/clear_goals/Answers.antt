use Rattle.std.proofs.Common.{ℕ, List, inl, inr, ⊎_elim, subst, sym}
use Rattle.mk_graph.specs.Membership.{Has}
use Rattle.mk_graph.proofs.RowBits.{zeros_lack}
use Rattle.mk_graph.proofs.bit_rows.clear_goals.Goals as goal

pub returns : goal.returns
returns c n o = (
  λ h. ⊎_elim (λ lacked. inl lacked) (λ both. inr (subst (λ (l : List ℕ). Has l n) c.goals.ensures.value both.0)) ((c.meet_rows.ensures n o).0 h),
  λ h. (c.meet_rows.ensures n o).1 (⊎_elim (λ lacked. inl lacked) (λ is_goal. inr (subst (λ (l : List ℕ). Has l n) (sym c.goals.ensures.value) is_goal, zeros_lack 64 c.args.stride o)) h),
)
