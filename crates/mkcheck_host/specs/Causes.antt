-- Why the host doesn't read a file.
use Rattle.std.specs.Prelude.{ℕ, ◌==◌, Bool, true, false, if◌then◌else◌}
use Rattle.std.specs.declared.io.ErrorKind.{ErrorKind}
use Rattle.std.specs.declared.io.ErrorKind.TheVariants.{IsADirectory, NotSeekable, PermissionDenied}
use Rattle.mk_read_files.specs.declared.cause.Cause.{Cause}
use Rattle.mk_read_files.specs.declared.cause.Cause.TheVariants.{Folder, Permission, TooLarge, ReadBefore, Other}
use Rattle.mkcheck_host.specs.declared.source.Source.{Source}

-- What an error of this kind says of why a file was not read.
abbrev pub cause_of : ErrorKind → Cause
cause_of IsADirectory = Folder
cause_of PermissionDenied = Permission
cause_of NotSeekable = ReadBefore
cause_of kind = Other

-- Why a source that wasn't read to its end wasn't: a read failed, for this cause; no read is left;
-- or it is too large.
abbrev pub cause_in : {R : Type 0} → Source R → Cause
cause_in source =
    if source.failed then source.cause else if source.reads_left == 0 then Other else TooLarge
