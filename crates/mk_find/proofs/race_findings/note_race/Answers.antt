use Rattle.std.proofs.Common.{◌≡◌, ◌∙◌, ◌∷◌, ◌++◌, [], ℕ, List, ap, sym, subst}
use Rattle.std.proofs.lemmas.Bool.{true≢false}
use Rattle.mk_graph.specs.Graph.{Graph}
use Rattle.mk_graph.specs.Schedules.{Before}
use Rattle.mk_find.specs.declared.finding.Finding.TheVariants.{Race}
use Rattle.mk_subject.specs.Subject.{name_of}
use Rattle.mk_find.specs.Candidates.{race}
use Rattle.mk_subject.specs.NodeRow.{NodeRow}
use Rattle.mk_subject.specs.Target.{Target}
use Rattle.mk_find.proofs.Adding.{adds_pushed, adds_none}
use Rattle.mk_find.proofs.Decided.{name_is}
use Rattle.mk_subject.proofs.FileDecided.{writer_is_node}
use Rattle.mk_find.proofs.race_findings.note_race.Goals as goal

pub returns-then-other-row-clause-found : goal.returns-then-other-row-clause-found
returns-then-other-row-clause-found c =
    let e = c.args.read.now.row.now in
    let number : c.row.inside.number ≡ e.number = ap (λ (k : NodeRow). k.number) c.row.view_is in
    adds_none c.args.read.now.subject.now (race e.number c.args.other c.args.read.now.file.file) c.args.found.now (λ h. h.0 (c.if-other-row.true ∙ number))

pub returns-then-before-clause-found : goal.returns-then-before-clause-found
returns-then-before-clause-found c =
    let x = c.args.read.now.subject.now in
    let e = c.args.read.now.row.now in
    let at = c.args.earlier.now in
    adds_none x (race e.number c.args.other c.args.read.now.file.file) c.args.found.now
    (λ h. h.3 (subst (λ (g : Graph). Before g c.args.other e.number) c.requires.graph (subst (λ (n : ℕ). Before at.graph c.args.other n) c.requires.number (c.in_ok-before.ensures.before.0 c.if-before.true))))

pub file_of_node-requires : goal.file_of_node-requires
file_of_node-requires c = writer_is_node c.args.read.now.subject.now c.args.other _ c.requires.written

pub returns-clause-found : goal.returns-clause-found
returns-clause-found c =
    let x = c.args.read.now.subject.now in
    let e = c.args.read.now.row.now in
    let f = c.args.read.now.file.file in
    let at = c.args.earlier.now in
    let old = c.args.found.now in
    let mid = c.name_of-2.new.self in
    let number : c.row.inside.number ≡ e.number = ap (λ (k : NodeRow). k.number) c.row.view_is in
    let recipe = ap (λ (k : List ℕ). mid ++ Race k c.in_ok-writer.writer c.in_ok-file.file ∷ []) (name_is x e c.in_ok-recipe.recipe c.requires.read.row c.in_ok-recipe.ensures) in
    let writer = ap (λ (k : List ℕ). mid ++ Race (name_of x e.number) k c.in_ok-file.file ∷ []) (c.in_ok-writer.ensures.name ∙ ap (λ (t : Target). t.file) c.file_of_node.ensures) in
    adds_pushed x (race e.number c.args.other f) old mid c.push.new.self (c.in_ok-file.ensures.same ∙ c.in_ok-writer.ensures.same) (
      (λ same. c.if-other-row.false (same ∙ sym number)),
      c.requires.read.read,
      c.requires.written,
      λ before.
          true≢false (sym (c.in_ok-before.ensures.before.1 (subst
          (λ (g : Graph). Before g c.args.other at.number) (sym c.requires.graph)
          (subst (λ (n : ℕ). Before x.graph c.args.other n) (sym c.requires.number) before)))
          ∙ c.if-before.false),
    )
    (c.in_ok-push.ensures ∙ (recipe ∙ (writer ∙ ap (λ (k : List ℕ). mid ++ Race (name_of x e.number) (name_of x c.args.other) k ∷ []) c.in_ok-file.ensures.name)))
