use Rattle.std.proofs.Common.{◌≡◌, ◌∙◌, ◌∷◌, ◌++◌, [], ℕ, List, ap, sym}
use Rattle.mk_find.specs.declared.finding.Finding.TheVariants.{GivenWritten}
use Rattle.mk_subject.specs.Subject.{name_of}
use Rattle.mk_find.specs.Candidates.{given_written}
use Rattle.mk_find.specs.FileTests.{is_taken}
use Rattle.mk_subject.specs.FileInfo.{FileInfo}
use Rattle.mk_subject.specs.Target.{Target}
use Rattle.mk_find.proofs.Adding.{adds_pushed, adds_none}
use Rattle.mk_find.proofs.Decided.{name_is}
use Rattle.mk_find.proofs.FileDecided.{taken_there, not_taken}
use Rattle.mk_find.proofs.file_findings.note_taken.Goals as goal

pub returns-then-not-known : goal.returns-then-not-known
returns-then-not-known c =
    let x = c.args.subject.now in
    let n = c.args.row.now.number in
    let f = c.args.file.now.file in
    let taken : c.known.inside.taken ≡ is_taken x f = ap (λ (k : FileInfo). k.taken) c.known.view_is ∙ ap (λ (t : Target). t.known.taken) (c.file.view_is ∙ c.requires.file) in
    adds_none x (given_written n f) c.args.found.now (not_taken x n f (sym taken ∙ c.if-not-known.true))

pub returns : goal.returns
returns c =
    let x = c.args.subject.now in
    let e = c.args.row.now in
    let f = c.args.file.now.file in
    let old = c.args.found.now in
    let mid = c.name_of.new.self in
    let taken : c.known.inside.taken ≡ is_taken x f = ap (λ (k : FileInfo). k.taken) c.known.view_is ∙ ap (λ (t : Target). t.known.taken) (c.file.view_is ∙ c.requires.file) in
    let recipe = ap (λ (k : List ℕ). mid ++ GivenWritten k c.in_ok-file.file ∷ []) (name_is x e c.in_ok-recipe.recipe c.requires.row c.in_ok-recipe.ensures) in
    adds_pushed x (given_written e.number f) old mid c.push.new.self c.in_ok-file.ensures.same (taken_there x e.number f c.requires.written (sym taken ∙ c.if-not-known.false))
    (c.in_ok-push.ensures ∙ (recipe ∙ ap (λ (k : List ℕ). mid ++ GivenWritten (name_of x e.number) k ∷ []) c.in_ok-file.ensures.name))
