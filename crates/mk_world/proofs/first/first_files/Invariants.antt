use Rattle.std.proofs.Common.{◌≡◌, ◌+◌, ◌≤◌, ◌++◌, length, drop}
use Rattle.mk_lemmas.proofs.Texts.{texts}
use Rattle.mk_world.specs.First.{first_files, given_among}
use Rattle.mk_world.proofs.first.first_files.Given as goal

-- the files and the clock so far, with those that are left
abbrev pub invariant-loop-name : goal.invariant-loop-name
invariant-loop-name l = record {
  few : l.clock ≤ l.name-index;
  files : l.files.items ++ first_files l.setting l.clock (texts (drop l.name-index l.names)) ≡ first_files l.setting 0 (texts l.names);
  clock : l.clock + length (given_among l.setting (texts (drop l.name-index l.names))) ≡ length (given_among l.setting (texts l.names));
}
