use Rattle.std.proofs.Common.{◌≡◌, ◌+◌, ◌≤◌, length, map}
use Rattle.mk_lemmas.proofs.Texts.{texts}
use Rattle.mk_infer.specs.Selection.{needs}
use Rattle.mk_infer_select.specs.Walked.{met_of}
use Rattle.mk_infer.specs.Ends.{needing, weight}
use Rattle.mk_infer_select.proofs.Walking.{Continues}
use Rattle.mk_infer_select.proofs.walk.walk_from.Given as goal

-- What the walk meets from here on, it meets in all. The names are as many as a graph may have, each with what makes
-- it.
abbrev pub invariant-loop-name : goal.invariant-loop-name
invariant-loop-name l = record {
  onward : Continues (needs l.choices.makefile l.choices.exists) l.names l.todo.items (texts l.fn.goals);
  few : length l.names ≤ 4096;
  made : l.met.items ≡ map (met_of l.choices.makefile l.choices.exists) l.names;
}

-- what names need that aren't met, and what is to do
abbrev pub decreases-loop-name : goal.decreases-loop-name
decreases-loop-name l = weight (needs l.choices.makefile l.choices.exists) l.names (needing l.choices.makefile l.choices.exists) + length l.todo.items
