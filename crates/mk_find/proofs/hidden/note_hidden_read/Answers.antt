-- A read of another's file is judged.
use Rattle.std.proofs.Common.{sym}
use Rattle.mk_find.proofs.OwnReads.{other_adds, own_adds_none, writes_not}
use Rattle.mk_find.proofs.hidden.note_hidden_read.Goals as goal

pub returns-then-is_own-clause-found : goal.returns-then-is_own-clause-found
returns-then-is_own-clause-found c =
    own_adds_none c.args.read.now.subject.now c.args.read.now.row.now.number c.args.read.now.file.file c.args.found.now (sym c.if-is_own.ensures)

pub judge_read-requires-clause-out : goal.judge_read-requires-clause-out
judge_read-requires-clause-out c =
    writes_not c.args.read.now.subject.now c.args.read.now.row.now.number c.args.read.now.file.file (sym c.if-is_own.ensures)

pub returns-clause-found : goal.returns-clause-found
returns-clause-found c =
    other_adds c.args.read.now.subject.now c.args.read.now.row.now.number c.args.read.now.file.file c.args.found.now c.judge_read.new.found (sym c.if-is_own.ensures) c.in_ok-judge_read.ensures.found
