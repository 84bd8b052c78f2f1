use Rattle.std.proofs.Common.{◌≡◌, ℕ, List, drop}
use Rattle.std.specs.Prelude.{find}
use Rattle.std.specs.Option.{option_or}
use Rattle.mk_sentences.specs.Places.{counts_for, rule_at}
use Rattle.mk_sentences.proofs.places.first_rules.Given as goal

-- what the table has so far, with the rule lines that are left
abbrev pub invariant-loop-rule : goal.invariant-loop-rule
invariant-loop-rule l = (name : List ℕ) → option_or (rule_at l.table name) (find (counts_for l.commanded name) (drop l.rule-index l.rules)) ≡ find (counts_for l.commanded name) l.rules
