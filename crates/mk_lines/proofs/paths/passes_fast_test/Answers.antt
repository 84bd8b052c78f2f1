use Rattle.std.proofs.Common.{◌≤◌, length, arith}
use Rattle.mk_lines.proofs.Hashes.{behind_first}
use Rattle.mk_lines.proofs.Tidy.{tidy_ends}
use Rattle.mk_lines.proofs.paths.passes_fast_test.Goals as goal

pub returns-clause-visible : goal.returns-clause-visible
returns-clause-visible c = λ last.
    let le : length (behind_first c.args.name.now) ≤ c.loop-byte.byte-index = omega arith in
    (tidy_ends c.args.name.now c.loop-byte.before c.loop-byte.byte-index c.in-len1-up.len_at_least c.if-before-le32.false c.if-before-eq127.false c.if-before-eq46.false c.loop-byte.invariant le last).0

pub returns-clause-components : goal.returns-clause-components
returns-clause-components c = λ last.
    let le : length (behind_first c.args.name.now) ≤ c.loop-byte.byte-index = omega arith in
    (tidy_ends c.args.name.now c.loop-byte.before c.loop-byte.byte-index c.in-len1-up.len_at_least c.if-before-le32.false c.if-before-eq127.false c.if-before-eq46.false c.loop-byte.invariant le last).1
