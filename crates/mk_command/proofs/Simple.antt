-- The command line is one of those of which the port of clap says which words they take.
use Rattle.std.proofs.Common.{◌≡◌, true, refl}
use Rattle.clap.specs.Words.{is_simple, is_simple_and_free}
use Rattle.clap.proofs.OnLiterals.{clap_on_literals}
use Rattle.mk_command.specs.CommandLine.{command_line}

pub is_simple_line : is_simple_and_free command_line ≡ true
unfolding clap_on_literals
is_simple_line = refl

pub is_simple_command : is_simple command_line ≡ true
unfolding clap_on_literals
is_simple_command = refl
