use Rattle.std.proofs.Common.{◌≡◌, ◌<◌, ℕ, List, [], ◌∷◌, ◌++◌, cond, length, map, take}
use Rattle.std.specs.String.{string_bytes}
use Rattle.mk_lines.specs.Names.{has_name, once}
use Rattle.mk_subject.specs.Writers.{numbers_at}
use Rattle.mk_subject.proofs.writers.add_files.Given as goal

-- the files so far are the set where there is one, and have the number, once
abbrev pub invariant-loop-place : goal.invariant-loop-place
invariant-loop-place l = record {
  seen : 4 < length l.files → l.seen ≡ once (take l.place (map string_bytes l.files));
  noted : (name : List ℕ) → numbers_at l.writers name ≡ cond (has_name (take l.place (map string_bytes l.files)) name) (numbers_at l.initial.writers name ++ l.number ∷ []) (numbers_at l.initial.writers name);
}
