use Rattle.std.proofs.Common.{map, string_bytes, ap}
use Rattle.mk_foot.proofs.Known.{known_plain, known_apart}
use Rattle.mk_foot.proofs.records.entry_of.Goals as goal

pub invariant_of-result : goal.invariant_of-result
invariant_of-result c = (
  known_plain _ _ _ _ _ c.deref.ensures (ap (map string_bytes) c.deref-2.ensures.value) (ap (map string_bytes) c.deref-3.ensures.value) c.are_plain-plain.ensures,
  λ apart.
      known_apart _ _ _ _ (ap (map string_bytes) c.deref-4.ensures.value) (ap (map string_bytes) c.deref-5.ensures.value) (c.in_ok-apart.ensures apart),
)
