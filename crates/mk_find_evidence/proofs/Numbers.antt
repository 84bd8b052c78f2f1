-- Numbers in the steps of histories.
use Rattle.std.proofs.Common.{List, [], ◌∷◌, ◌++◌, inl, inr, subst}
use Rattle.mk_world.specs.NamedStep.{Step}
use Rattle.mk_find_evidence.specs.Numbers.{HasSmallNumbers, HaveSmallNumbers}

-- a step more
pub one_more : (steps : List Step) (last : Step) → HaveSmallNumbers steps → HasSmallNumbers last → HaveSmallNumbers (steps ++ last ∷ [])
one_more [] last all one other (inl e) = subst HasSmallNumbers e one
one_more [] last all one other (inr h) = absurd h
one_more (first ∷ steps) last all one other (inl e) = all other (inl e)
one_more (first ∷ steps) last all one other (inr h) = one_more steps last (λ k has. all k (inr has)) one other h
