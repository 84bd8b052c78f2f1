use Rattle.std.proofs.Common.{◌≡◌, ℕ, true, not, eqb, inl, inr, ap, sym, ◌∙◌}
use Rattle.std.proofs.lemmas.Bool.{cases_Bool, true≢false, eq-eqb, eqb-true}
use Rattle.mk_graph_ready.proofs.Standing.{wanted_is}
use Rattle.mk_graph_ready.proofs.readiness.Readiness.is_wanted.Goals as goal

isnt : (x : ℕ) → ¬ (x ≡ 0) → not (eqb x 0) ≡ true
isnt x h = elim (cases_Bool (eqb x 0)) [ inl t ↦ absurd (h (eqb-true x 0 t)) | inr f ↦ ap (λ b. not b) f ]

pub returns : goal.returns
returns c =
    let g = c.self.inside.layout in
    let s = c.self.inside.state in
    let n = c.args.number in
    let x = c.at.result in
    rw (← c.self.view_is) (
      λ e. c.self.invariant.0.wanted n (λ z. true≢false (sym e ∙ ap (λ b. not b) (eq-eqb x 0 (c.at.ensures ∙ z)))),
      λ w. isnt x (λ z. wanted_is g s c.self.invariant.0 c.self.invariant.1 n w (sym c.at.ensures ∙ z)),
    )
