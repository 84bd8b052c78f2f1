use Rattle.std.proofs.Common.{◌≡◌, ◌∷◌, ◌++◌, drop}
use Rattle.std.specs.List.{flat_map}
use Rattle.mk_core_repair.proofs.rendering.push_names.Given as goal

-- the text so far, with the names that are left
abbrev pub invariant-loop-name : goal.invariant-loop-name
invariant-loop-name l = l.out.items ++ flat_map (λ name. 32 ∷ name) (drop l.name-index l.names) ≡ l.fn.out.items ++ flat_map (λ name. 32 ∷ name) l.names
