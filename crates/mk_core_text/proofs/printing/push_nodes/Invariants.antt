use Rattle.std.proofs.Common.{◌≡◌, ℕ, List, ◌++◌, drop}
use Rattle.mk_core_text.specs.GraphText.{nodes_text, shown_lines}
use Rattle.mk_core_text.proofs.NodeTexts.{behind}
use Rattle.mk_core_text.proofs.printing.push_nodes.Given as goal

-- the nodes so far, and those that are left
abbrev pub invariant-loop-number : goal.invariant-loop-number
invariant-loop-number l = (done : List ℕ) × (l.out.items ≡ l.initial.out.items ++ done)
    × (behind done (nodes_text (shown_lines l.shown.asked l.shown.choices.now.makefile l.shown.choices.now.exists) l.shown.graph.now (drop l.number-index l.numbers)) ≡ nodes_text (shown_lines l.shown.asked l.shown.choices.now.makefile l.shown.choices.now.exists) l.shown.graph.now l.numbers)
