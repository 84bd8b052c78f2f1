use Rattle.std.proofs.Common.{◌≡◌, ℕ, List, Some, None, cond, drop, map}
use Rattle.std.specs.Option.{option_or}
use Rattle.std.specs.String.{string_bytes}
use Rattle.mk_read.specs.Names.{has_name}
use Rattle.mk_sentences.specs.Places.{rule_at}
use Rattle.mk_sentences.proofs.places.add_targets.Given as goal

-- what the table has so far, with the targets that are left
abbrev pub invariant-loop-target : goal.invariant-loop-target
invariant-loop-target l = (name : List ℕ)
    → option_or (rule_at l.table name) (cond (has_name (map string_bytes (drop l.target-index l.targets)) name) (Some l.rule) None)
    ≡ option_or (rule_at l.initial.table name) (cond (has_name (map string_bytes l.targets) name) (Some l.rule) None)
