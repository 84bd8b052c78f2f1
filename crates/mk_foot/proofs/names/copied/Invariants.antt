use Rattle.std.proofs.Common.{◌≡◌, map, take, string_bytes}
use Rattle.mk_lemmas.proofs.Texts.{texts}
use Rattle.mk_foot.proofs.names.copied.Given as goal

-- the texts so far
abbrev pub invariant-loop-text : goal.invariant-loop-text
invariant-loop-text l = map string_bytes l.copies.items ≡ texts (take l.text-index l.texts)
