use Rattle.std.proofs.Common.{Ok, Err, sym, subst}
use Rattle.std.specs.Option.{option_copied}
use Rattle.mk_read.specs.Files.{IfFits}
use Rattle.mk_read.specs.declared.fault.ReadFault.{ReadFault}
use Rattle.mk_read.specs.Following.{Answers, NotesFault}
use Rattle.mk_read.specs.Reading.{Makefile, makefile}
use Rattle.mk_read_parse.proofs.Answered.{answers_so, notes_so}
use Rattle.mk_read_parse.proofs.OperandLists.{texts_of}
use Rattle.mk_read_parse.proofs.OwnText.{answers_with, answers_not}
use Rattle.mk_read_parse.proofs.reading.read_makefile.Goals as goal

pub returns-in-Err-clause-answer : goal.returns-in-Err-clause-answer
returns-in-Err-clause-answer g c =
    subst (λ (f : ReadFault). IfFits (g.F.Files.fits c.read_all.new.files) (λ told. Answers {A = Makefile} told (λ reader. makefile reader (option_copied c.args.name) c.args.defaults (texts_of c.args.operands.now)) (Err f))) (sym c.answered.ensures)
    (answers_so c.in-Err.fault (g.F.Files.fits c.read_all.new.files) (λ reader. makefile reader (option_copied c.args.name) c.args.defaults (texts_of c.args.operands.now))
    (answers_not (option_copied c.args.name) c.args.defaults (texts_of c.args.operands.now) (g.F.Files.fits c.read_all.new.files) c.new-state.result c.in-Err.fault c.new-state.ensures c.in-Err.ensures.follows))

pub returns-in-Err-clause-noted : goal.returns-in-Err-clause-noted
returns-in-Err-clause-noted g c =
    subst (λ (f : ReadFault). NotesFault (g.F.Files.failed c.args.files.now) (g.F.Files.failed c.read_all.new.files) f) (sym c.answered.ensures)
    (notes_so (g.F.Files.failed c.args.files.now) (g.F.Files.failed c.read_all.new.files) c.in-Err.fault c.in-Err.ensures.noted)

pub returns-in_ok-makefile_of-in-Ok-clause-answer : goal.returns-in_ok-makefile_of-in-Ok-clause-answer
returns-in_ok-makefile_of-in-Ok-clause-answer g c =
    subst (λ (m : Makefile). IfFits (g.F.Files.fits c.read_all.new.files) (λ told. Answers told (λ reader. makefile reader (option_copied c.args.name) c.args.defaults (texts_of c.args.operands.now)) (Ok m))) (sym c.in_ok-makefile_of-in-Ok.ensures)
    (answers_with (option_copied c.args.name) c.args.defaults (texts_of c.args.operands.now) (g.F.Files.fits c.read_all.new.files) c.new-state.result c.read_all.new.state c.new-state.ensures c.in-Ok.ensures.follows)
