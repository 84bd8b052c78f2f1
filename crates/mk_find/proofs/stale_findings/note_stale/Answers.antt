-- The finding names the recipe and the file.
use Rattle.std.proofs.Common.{◌∷◌, ◌++◌, [], ℕ, List, ap, ◌∙◌}
use Rattle.mk_graph.specs.declared.node.Node.{Node}
use Rattle.mk_find.specs.declared.finding.Finding.TheVariants.{Stale}
use Rattle.mk_find.specs.Candidates.{stale}
use Rattle.mk_subject.specs.Subject.{name_of}
use Rattle.mk_find.proofs.Adding.{adds_pushed}
use Rattle.mk_find.proofs.stale_findings.note_stale.Goals as goal

pub returns : goal.returns
returns c = λ x is stale_read.
    let f = c.args.file.now.file in
    let t = c.args.row.now.number in
    let old = c.args.found.now in
    let mid = c.name_of.new.self in
    let recipe = ap (λ (k : List ℕ). mid ++ Stale k c.in_ok-file.file ∷ []) (c.in_ok-recipe.ensures ∙ ap (λ (n : Node). n.name) is.same_node) in
    adds_pushed x (stale t f) old mid c.push.new.self c.in_ok-file.ensures.same stale_read (c.in_ok-push.ensures ∙ (recipe ∙ ap (λ (k : List ℕ). mid ++ Stale (name_of x t) k ∷ []) c.in_ok-file.ensures.name))
