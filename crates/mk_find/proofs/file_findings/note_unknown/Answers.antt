use Rattle.std.proofs.Common.{◌∙◌, ◌∷◌, ◌++◌, [], ℕ, List, ap, sym}
use Rattle.std.proofs.lemmas.Bool.{true≢false}
use Rattle.mk_find.specs.declared.finding.Finding.TheVariants.{UnknownRead}
use Rattle.mk_subject.specs.Subject.{name_of}
use Rattle.mk_find.specs.Candidates.{unknown_read}
use Rattle.mk_find.proofs.Adding.{adds_pushed, adds_none}
use Rattle.mk_find.proofs.Decided.{name_is}
use Rattle.mk_find.proofs.file_findings.note_unknown.Goals as goal

pub returns-then-not-is_unknown : goal.returns-then-not-is_unknown
returns-then-not-is_unknown c =
    adds_none c.args.subject.now (unknown_read c.args.row.now.number c.args.file.now.file) c.args.found.now (λ h. true≢false (sym (c.is_unknown.ensures.1 (h.1, h.2)) ∙ c.if-not-is_unknown.true))

pub returns : goal.returns
returns c =
    let x = c.args.subject.now in
    let e = c.args.row.now in
    let f = c.args.file.now.file in
    let old = c.args.found.now in
    let mid = c.name_of.new.self in
    let recipe = ap (λ (k : List ℕ). mid ++ UnknownRead k c.in_ok-file.file ∷ []) (name_is x e c.in_ok-recipe.recipe c.requires.row c.in_ok-recipe.ensures) in
    let unknown = c.is_unknown.ensures.0 c.if-not-is_unknown.false in
    adds_pushed x (unknown_read e.number f) old mid c.push.new.self c.in_ok-file.ensures.same (c.requires.read, unknown.0, unknown.1)
    (c.in_ok-push.ensures ∙ (recipe ∙ ap (λ (k : List ℕ). mid ++ UnknownRead (name_of x e.number) k ∷ []) c.in_ok-file.ensures.name))
