use Rattle.std.proofs.Common.{◌+◌, ◌*◌, length}
use Rattle.mk_macros.specs.Appending.{below, names_in, scope_view}
use Rattle.mk_macros.specs.Expansion.{expanded}
use Rattle.mk_macros.proofs.Continuing.{Continues}
use Rattle.mk_macros.proofs.appending.+append.Given as goal

-- the text so far, and what the rest gives behind it
abbrev pub invariant-append_text-forms : goal.invariant-append_text-forms
invariant-append_text-forms l = Continues (scope_view l.level.scope.now) (below l.level.deep (scope_view l.level.scope.now)) (names_in l.level.going.now) l.fn.into.items l.into.items l.used l.rest (expanded l.level.deep (scope_view l.level.scope.now) (names_in l.level.going.now) l.fn.references l.text)

abbrev pub decreases-append_text-forms : goal.decreases-append_text-forms
decreases-append_text-forms l = length l.rest

-- the levels left, and within a level the calls in their order
abbrev pub decreases-append_text : goal.decreases-append_text
decreases-append_text l = 8 * l.level.now.deep + 7

abbrev pub decreases-append_form : goal.decreases-append_form
decreases-append_form l = 8 * l.level.now.deep + 6

abbrev pub decreases-append_reference : goal.decreases-append_reference
decreases-append_reference l = 8 * l.level.now.deep + 5

abbrev pub decreases-append_named : goal.decreases-append_named
decreases-append_named l = 8 * l.level.now.deep + 4

abbrev pub decreases-append_replaced : goal.decreases-append_replaced
decreases-append_replaced l = 8 * l.level.now.deep + 4

abbrev pub decreases-append_value : goal.decreases-append_value
decreases-append_value l = 8 * l.level.now.deep + 3

abbrev pub decreases-append_macro : goal.decreases-append_macro
decreases-append_macro l = 8 * l.level.now.deep + 2

abbrev pub decreases-expanded_piece : goal.decreases-expanded_piece
decreases-expanded_piece l = 8 * l.level.now.deep + 1

abbrev pub decreases-append_deeper : goal.decreases-append_deeper
decreases-append_deeper l = 8 * l.level.now.deep
