use Rattle.mk_lines.proofs.LongestParts.{words_are_longest_parts}
use Rattle.mk_lines.proofs.laws.words_are_longest_parts.Goals as goal

pub returns : goal.returns
returns c = words_are_longest_parts
