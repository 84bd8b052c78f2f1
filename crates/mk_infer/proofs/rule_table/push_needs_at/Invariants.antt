use Rattle.std.proofs.Common.{◌≡◌, ◌++◌, drop, not}
use Rattle.std.specs.Prelude.{filter}
use Rattle.mk_lemmas.proofs.Texts.{texts}
use Rattle.mk_read.specs.Needs.{is_wait}
use Rattle.mk_infer.specs.Table.{lines_at, words_in}
use Rattle.mk_infer.proofs.rule_table.push_needs_at.Given as goal

-- those so far, and those of the rule lines that are left
abbrev pub invariant-loop-place : goal.invariant-loop-place
invariant-loop-place l = texts l.names.items ++ filter (λ word. not (is_wait word)) (words_in (lines_at l.rules (drop l.place-index l.places)))
    ≡ texts l.initial.names.items ++ filter (λ word. not (is_wait word)) (words_in (lines_at l.rules l.places))
