use Rattle.std.proofs.Common.{◌≡◌, map, take, string_bytes}
use Rattle.mk_foot.specs.Parts.{SharedList}
use Rattle.mk_foot.proofs.reading.list_names.Given as goal

-- the names so far
abbrev pub invariant-loop-list : goal.invariant-loop-list
invariant-loop-list l = map string_bytes l.names.items ≡ map (λ (s : SharedList). s.name) (take l.list-index l.lists)
