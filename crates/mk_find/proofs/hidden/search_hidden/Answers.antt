-- The search is the one that begins at the recipe.
use Rattle.std.proofs.Common.{arith, ◌≡◌, ◌∙◌, ℕ, List, [], ap, sym, subst, length}
use Rattle.std.specs.List.{flat_map}
use Rattle.std.proofs.lemmas.List.{nil_from_length}
use Rattle.mk_graph_search.specs.Places.{SearchInput}
use Rattle.mk_subject.specs.NodeRow.{NodeRow}
use Rattle.mk_find.specs.Listed.{Adds}
use Rattle.mk_subject.specs.Subject.{reads_of}
use Rattle.mk_find.specs.Findings.{hidden_read}
use Rattle.mk_find.proofs.Adding.{adds_nothing}
use Rattle.mk_find.proofs.hidden.search_hidden.Goals as goal

pub note_hidden_reads-requires-clause-search : goal.note_hidden_reads-requires-clause-search
note_hidden_reads-requires-clause-search c =
    let from : ℕ → SearchInput = λ start. record { rows = c.args.tables.now.rows; start = start } in
    c.in_ok-search.ensures ∙ ap (λ (k : NodeRow). from k.number) c.row.view_is

pub returns-then-count_of_reads-eq0 : goal.returns-then-count_of_reads-eq0
returns-then-count_of_reads-eq0 c =
    let x = c.args.tables.now.subject.now in
    let t = c.args.row.now.number in
    let few : length (reads_of x c.row.inside.number) ≡ 0 = omega (arith, c.count_of_reads.ensures, c.if-count_of_reads-eq0.true) in
    let none : reads_of x t ≡ [] = nil_from_length (reads_of x t) (ap (λ (k : NodeRow). length (reads_of x k.number)) (sym c.row.view_is) ∙ few) in
    subst (λ (fs : List (List ℕ)). Adds x (flat_map (hidden_read x t) fs) c.args.found.now c.args.found.now) (sym none) (adds_nothing x c.args.found.now)
