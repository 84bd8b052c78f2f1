-- The file is one of those that the recipe writes, or it isn't.
use Rattle.std.proofs.Common.{◌∙◌, ◌∷◌, ◌++◌, [], ℕ, List, ap, sym}
use Rattle.std.proofs.lemmas.Bool.{true≢false}
use Rattle.mk_find.specs.declared.finding.Finding.TheVariants.{OwnRead}
use Rattle.mk_subject.specs.Subject.{name_of}
use Rattle.mk_find.specs.Candidates.{own_read}
use Rattle.mk_find.proofs.Adding.{adds_pushed, adds_none}
use Rattle.mk_find.proofs.Decided.{name_is}
use Rattle.mk_find.proofs.file_findings.note_own.Goals as goal

pub returns-then-not-branch-clause-added : goal.returns-then-not-branch-clause-added
returns-then-not-branch-clause-added c =
    adds_none c.args.subject.now (own_read c.args.row.now.number c.args.file.now.file) c.args.found.now (λ (read, wrote). true≢false (sym (c.in_ok-is_own.ensures.own.1 wrote) ∙ c.if-not-branch.true))

pub returns-clause-added : goal.returns-clause-added
returns-clause-added c =
    let x = c.args.subject.now in
    let e = c.args.row.now in
    let f = c.args.file.now.file in
    let old = c.args.found.now in
    let mid = c.name_of.new.self in
    let recipe = ap (λ (k : List ℕ). mid ++ OwnRead k c.in_ok-file.file ∷ []) (name_is x e c.in_ok-recipe.recipe c.requires.row c.in_ok-recipe.ensures) in
    adds_pushed x (own_read e.number f) old mid c.push.new.self c.in_ok-file.ensures.same (c.requires.read, c.in_ok-is_own.ensures.own.0 c.if-not-branch.false)
    (c.in_ok-push.ensures ∙ (recipe ∙ ap (λ (k : List ℕ). mid ++ OwnRead (name_of x e.number) k ∷ []) c.in_ok-file.ensures.name))
