use Rattle.std.proofs.Common.{◌∙◌, ◌∷◌, ◌++◌, [], ℕ, List, ap}
use Rattle.mk_find.specs.declared.finding.Finding.TheVariants.{TwoWriters}
use Rattle.mk_subject.specs.Subject.{name_of}
use Rattle.mk_find.specs.Candidates.{two_writers}
use Rattle.mk_subject.specs.Target.{Target}
use Rattle.mk_find.proofs.Adding.{adds_pushed}
use Rattle.mk_find.proofs.Decided.{name_is}
use Rattle.mk_subject.proofs.FileDecided.{writer_is_node}
use Rattle.mk_find.proofs.pairs.note_pair.Goals as goal

pub file_of_node-requires : goal.file_of_node-requires
file_of_node-requires c = writer_is_node c.args.subject.now c.args.other _ c.requires.written.2

pub returns : goal.returns
returns c =
    let x = c.args.subject.now in
    let e = c.args.row.now in
    let old = c.args.found.now in
    let mid = c.name_of-2.new.self in
    let first = ap (λ (k : List ℕ). mid ++ TwoWriters k c.in_ok-second.second c.in_ok-file.file ∷ []) (name_is x e c.in_ok-first.first c.requires.row c.in_ok-first.ensures) in
    let second = ap (λ (k : List ℕ). mid ++ TwoWriters (name_of x e.number) k c.in_ok-file.file ∷ []) (c.in_ok-second.ensures.name ∙ ap (λ (t : Target). t.file) c.file_of_node.ensures) in
    adds_pushed x (two_writers e.number c.args.other c.args.file.now.file) old mid c.push.new.self (c.in_ok-file.ensures.same ∙ c.in_ok-second.ensures.same) c.requires.written
    (c.in_ok-push.ensures ∙ (first ∙ (second ∙ ap (λ (k : List ℕ). mid ++ TwoWriters (name_of x e.number) (name_of x c.args.other) k ∷ []) c.in_ok-file.ensures.name)))
