use Rattle.std.proofs.Common.{sym, subst, ◌≤◌, length}
use Rattle.mk_lemmas.proofs.Lists.{position-some, position_or_len-within}
use Rattle.mk_lines.specs.Bytes.{is_byte}
use Rattle.mk_infer.proofs.ListTests.{position_none}
use Rattle.mk_infer.proofs.suffix_set.first_dot.Goals as goal

pub returns-in-Some-clause-place : goal.returns-in-Some-clause-place
returns-in-Some-clause-place c = sym (position-some (is_byte 46) c.args.bytes.now c.in-Some.at (sym c.in-Some.ensures))

pub returns-in-Some-clause-within : goal.returns-in-Some-clause-within
returns-in-Some-clause-within c = subst (λ n. n ≤ length c.args.bytes.now) (position-some (is_byte 46) c.args.bytes.now c.in-Some.at (sym c.in-Some.ensures)) (position_or_len-within (is_byte 46) c.args.bytes.now)

pub returns-in-None-clause-place : goal.returns-in-None-clause-place
returns-in-None-clause-place c = sym (position_none (is_byte 46) c.args.bytes.now (sym c.in-None.ensures))
