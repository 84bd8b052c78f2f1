use Rattle.std.proofs.Common.{◌≡◌, ℕ, List, true, map, take}
use Rattle.std.specs.String.{string_bytes}
use Rattle.mk_graph.specs.Membership.{Has}
use Rattle.mk_infer.specs.There.{is_there}
use Rattle.mk_subject.proofs.looking_up.are_there.Given as goal

-- the files so far are there
abbrev pub invariant-loop-file : goal.invariant-loop-file
invariant-loop-file l = (f : List ℕ) → Has (map string_bytes (take l.file-index l.files)) f → is_there l.table l.exists f ≡ true
