use Rattle.std.proofs.Common.{◌∙◌, [], ℕ, List, ap, get_or, length}
use Rattle.mk_lemmas.proofs.Texts.{texts}
use Rattle.mk_subject.proofs.KnownFiles.{as_many}
use Rattle.mk_subject.proofs.TablesOf.{files_held}
use Rattle.mk_subject.specs.Subject.{reads_of}
use Rattle.mk_subject.proofs.subject.Subject.count_of_reads.Goals as goal

pub returns : goal.returns
returns c =
    let x = c.args.self.now in
    let t = c.self.inside.tables in
    ap (λ (l : List ℕ). length l) c.at.ensures ∙ as_many (texts t.files.names.keys) (get_or t.files.reads c.args.number []) (reads_of x c.args.number) ((files_held _ x t c.self.view_is c.self.invariant).reads_held c.args.number)
