use Rattle.std.proofs.Common.{◌≡◌, not, map, drop}
use Rattle.std.specs.List.{list_any}
use Rattle.std.specs.String.{string_bytes}
use Rattle.mk_read.specs.Needs.{is_wait}
use Rattle.mk_infer_select.proofs.goals.has_prerequisites.Given as goal

-- the words that are left decide
abbrev pub invariant-loop-word : goal.invariant-loop-word
invariant-loop-word l = list_any (λ word. not (is_wait word)) (map string_bytes (drop l.word-index l.words)) ≡ list_any (λ word. not (is_wait word)) (map string_bytes l.words)
