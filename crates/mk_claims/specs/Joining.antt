-- Claims of a race and a stale read of the same recipe and file as one.
use Rattle.std.specs.Prelude.{◌≡◌, Bool, false, true, ◌&&◌, List, [], ◌∷◌, ◌++◌, filter, map, not, if◌then◌else◌}
use Rattle.std.specs.List.{All, list_any}
use Rattle.std.specs.Str.{bytes_eq}
use Rattle.mk_claims.specs.Topics.{topic_eq}
use Rattle.mk_claims.specs.Claims.{Claim}
use Rattle.mk_claims.specs.declared.topic.Kind.{Kind}
use Rattle.mk_claims.specs.declared.topic.Kind.TheVariants.{OutputRace, OutputRaceAndStale, OutputStale, Race, RaceAndStale, Stale}

-- Whether two claims are equal.
abbrev pub claim_eq : Claim → Claim → Bool
claim_eq c d = topic_eq c.topic d.topic && (bytes_eq c.who d.who && bytes_eq c.what d.what)

-- The claim is among these.
abbrev pub has_claim : List Claim → Claim → Bool
has_claim claims c = list_any (λ d. claim_eq c d) claims

-- The claims with one more at the end, unless they have it already.
abbrev pub with_claim : List Claim → Claim → List Claim
with_claim claims c = if has_claim claims c then claims else claims ++ c ∷ []

-- The set has exactly the claims of the list.
abbrev pub HoldsClaims : (set claims : List Claim) → Type 0
HoldsClaims set claims = (c : Claim) → has_claim set c ≡ has_claim claims c

-- The kind of a stale read for that of a race, and the other way round; other kinds stay.
abbrev pub other_of : Kind → Kind
other_of Race = Stale
other_of Stale = Race
other_of OutputRace = OutputStale
other_of OutputStale = OutputRace
other_of kind = kind

-- The kind of a race together with a stale read; other kinds stay.
abbrev pub both_of : Kind → Kind
both_of Race = RaceAndStale
both_of Stale = RaceAndStale
both_of OutputRace = OutputRaceAndStale
both_of OutputStale = OutputRaceAndStale
both_of kind = kind

-- Claims of this kind are about a race or a stale read.
abbrev pub is_paired : Kind → Bool
is_paired Race = true
is_paired Stale = true
is_paired OutputRace = true
is_paired OutputStale = true
is_paired kind = false

-- Claims of this kind are about a race.
abbrev pub is_race : Kind → Bool
is_race Race = true
is_race OutputRace = true
is_race kind = false

-- The claim is about a race.
abbrev pub is_of_race : Claim → Bool
is_of_race c = is_race c.topic.kind

-- Claims of this kind are about a stale read.
abbrev pub is_stale : Kind → Bool
is_stale Stale = true
is_stale OutputStale = true
is_stale kind = false

-- The claim as one of another kind.
abbrev pub with_kind : Claim → Kind → Claim
with_kind c kind = record c { topic = record (c.topic) { kind = kind } }

-- The claim of a stale read for that of a race, and the other way round.
abbrev pub partner : Claim → Claim
partner c = with_kind c (other_of c.topic.kind)

-- The claim is about a race or a stale read, and the other one is among the claims.
abbrev pub is_joined : List Claim → Claim → Bool
is_joined claims c = is_paired c.topic.kind && has_claim claims (partner c)

-- The set tells of each of the claims whether it is joined.
abbrev pub JoinsAlike : (set claims : List Claim) → Type 0
JoinsAlike set claims = All (λ c. is_joined set c ≡ is_joined claims c) claims

-- The claim as it is grouped: of a race and a stale read together where the other one is among the
-- claims.
abbrev pub joined_claim : List Claim → Claim → Claim
joined_claim claims c = if is_joined claims c then with_kind c (both_of c.topic.kind) else c

-- The claim is of a stale read whose race is among the claims.
abbrev pub is_second : List Claim → Claim → Bool
is_second claims c = is_stale c.topic.kind && is_joined claims c

-- The claims as they are grouped: a race and a stale read of the same recipe and file are one, at
-- the place of the race.
abbrev pub joined : List Claim → List Claim
joined claims = map (joined_claim claims) (filter (λ c. not (is_second claims c)) claims)
