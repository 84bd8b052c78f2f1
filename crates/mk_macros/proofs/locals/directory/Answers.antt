use Rattle.std.proofs.Common.{◌-◌, ◌<◌, length, ap, arith}
use Rattle.mk_macros.proofs.LastSlash.{no_directory, root_directory, some_directory, file_shorter}
use Rattle.mk_macros.proofs.locals.directory.Goals as goal

pub overflow_sub-start : goal.overflow_sub-start
overflow_sub-start c = omega (arith, ap length c.file.ensures, file_shorter c.args.name.now)

pub returns-in-0 : goal.returns-in-0
returns-in-0 c = no_directory c.args.name.now (omega (arith, ap length c.file.ensures))

pub returns-in-1 : goal.returns-in-1
returns-in-1 c = root_directory c.args.name.now (omega (arith, ap length c.file.ensures))

pub returns-in_default : goal.returns-in_default
returns-in_default c =
    let start = length c.args.name.now - length c.file.result.now in
    let above : 1 < start = omega arith in
    some_directory c.args.name.now start (omega (arith, ap length c.file.ensures)) above
