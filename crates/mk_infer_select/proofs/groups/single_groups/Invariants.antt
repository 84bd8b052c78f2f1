use Rattle.std.proofs.Common.{◌≡◌, [], ◌∷◌, map, take}
use Rattle.mk_lemmas.proofs.Texts.{texts}
use Rattle.mk_lines.specs.Names.{number_of}
use Rattle.mk_infer_select.proofs.groups.single_groups.Given as goal

-- the groups of the names so far
abbrev pub invariant-loop-name : goal.invariant-loop-name
invariant-loop-name l = map (λ group. group.items) l.groups.items ≡ map (λ name. number_of l.met name ∷ []) (texts (take l.name-index l.names))
