use Rattle.std.proofs.Common.{◌≡◌, ◌++◌, map, take, not}
use Rattle.std.specs.Prelude.{filter}
use Rattle.std.specs.String.{string_bytes}
use Rattle.mk_lemmas.proofs.Texts.{texts}
use Rattle.mk_read.specs.Needs.{is_wait}
use Rattle.mk_infer.proofs.rule_table.push_needs.Given as goal

-- those of the words so far
abbrev pub invariant-loop-word : goal.invariant-loop-word
invariant-loop-word l = texts l.names.items ≡ texts l.initial.names.items ++ filter (λ word. not (is_wait word)) (map string_bytes (take l.word-index l.words))
