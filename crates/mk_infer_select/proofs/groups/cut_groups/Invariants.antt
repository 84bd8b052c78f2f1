use Rattle.std.proofs.Common.{◌≡◌, false, map, drop}
use Rattle.mk_lemmas.proofs.Texts.{texts}
use Rattle.mk_read.specs.Needs.{groups}
use Rattle.mk_infer.specs.Selection.{in_node_numbers}
use Rattle.mk_infer_select.proofs.GroupLists.{with_left}
use Rattle.mk_infer_select.proofs.groups.cut_groups.Given as goal

-- the groups that are closed, and those of the words that are left
abbrev pub invariant-loop-word : goal.invariant-loop-word
invariant-loop-word l = with_left l.met (map (λ closed. closed.items) l.groups.items) l.group.items (texts (drop l.word-index l.words)) ≡ in_node_numbers l.met (groups false (texts l.words))
