use Rattle.std.proofs.Common.{◌≡◌, [], drop}
use denote.Shadow.{shadow}
use denote.Text.{Utf8}
use Rattle.mk_claims.specs.Offers.{stand_after}
use Rattle.mk_claims.proofs.offer.stand_beside.Given as goal

-- the result depends on the names that are left, and the one before them
abbrev pub invariant-loop-name : goal.invariant-loop-name
invariant-loop-name l = record {
  rest : stand_after l.previous (drop l.name-index l.names) l.target l.prerequisite ≡ stand_after [] l.names l.target l.prerequisite;
  text : shadow (Utf8 l.previous);
}
