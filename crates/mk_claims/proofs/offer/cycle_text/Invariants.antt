use Rattle.std.proofs.Common.{◌≡◌, take, string_bytes}
use Rattle.mk_claims.specs.Offers.{cycle_text}
use Rattle.mk_claims.proofs.offer.cycle_text.Given as goal

-- the text so far
abbrev pub invariant-loop-name : goal.invariant-loop-name
invariant-loop-name l = string_bytes l.text ≡ cycle_text (take l.name-index l.names)
