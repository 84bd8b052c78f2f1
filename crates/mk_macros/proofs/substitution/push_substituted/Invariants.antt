use Rattle.std.proofs.Common.{◌≡◌, ◌≤◌, ◌++◌, map, length}
use Rattle.std.specs.List.{join_with_byte}
use Rattle.mk_lines.specs.Words.{words}
use Rattle.mk_macros.specs.Substitution.{replaced}
use Rattle.mk_macros.proofs.WordByWord.{Goes}
use Rattle.mk_macros.proofs.substitution.push_substituted.Given as goal

-- the words so far, and what the rest gives behind them
abbrev pub invariant-parts : goal.invariant-parts
invariant-parts l =
    record {
      starts : l.start ≡ length l.fn.into.items;
      above : l.start ≤ length l.into.items;
      goes : Goes (replaced l.old_cut l.new_cut) (l.fn.into.items ++ join_with_byte 32 (map (replaced l.old_cut l.new_cut) (words l.value))) l.into.items l.is_first (words l.rest);
    }

abbrev pub decreases-parts : goal.decreases-parts
decreases-parts l = length l.rest
