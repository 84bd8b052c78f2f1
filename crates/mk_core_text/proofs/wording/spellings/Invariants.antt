use Rattle.std.proofs.Common.{◌≡◌, map, take}
use Rattle.mk_core_text.proofs.wording.spellings.Given as goal

-- what the names so far spell
abbrev pub invariant-loop-name : goal.invariant-loop-name
invariant-loop-name l = map (λ word. word.now) l.words.items ≡ take l.name-index l.names
