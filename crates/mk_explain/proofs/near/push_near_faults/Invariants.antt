use Rattle.std.proofs.Common.{◌≡◌, map, drop}
use Rattle.std.specs.String.{string_bytes}
use Rattle.mk_explain.specs.Near.{with_nears}
use Rattle.mk_explain.proofs.near.push_near_faults.Given as goal

-- the text so far, with the words that are left
abbrev pub invariant-loop-name : goal.invariant-loop-name
invariant-loop-name l = with_nears l.what (string_bytes l.text) (map (λ row. row.1.now) (drop l.name-index l.faults)) ≡ with_nears l.what (string_bytes l.fn.text) (map (λ row. row.1.now) l.faults)
