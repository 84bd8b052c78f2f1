use Rattle.std.proofs.Common.{◌≡◌, ℕ, List, true, take}
use Rattle.std.specs.List.{flat_map}
use Rattle.mk_graph.specs.Membership.{Has}
use Rattle.mk_build.specs.Setting as build
use Rattle.mk_infer.specs.There.{is_there}
use Rattle.mk_subject.specs.Subject.{footprints, subject_of}
use Rattle.mk_subject.proofs.Staying.{AreStaying}
use Rattle.mk_subject.proofs.looking_up.entries_that_stay.Given as goal

-- the nodes so far, and what they write is there
abbrev pub invariant-loop-number : goal.invariant-loop-number
invariant-loop-number l = record {
  staying : AreStaying (subject_of l.choices.makefile l.choices.exists l.records.graph l.records.setting) (take l.number-index l.order) l.entries.items;
  there : (f : List ℕ) → Has (flat_map (build.writes l.records.graph (footprints l.records.setting)) (take l.number-index l.order)) f → is_there l.choices.makefile l.choices.exists f ≡ true;
}
