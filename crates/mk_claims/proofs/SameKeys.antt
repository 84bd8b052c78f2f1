-- Keys are equal by the code's tests where they are by the definitions.
use Rattle.std.proofs.Common.{◌≡◌, ℕ, ◌==◌, Bool, true, false, cond, ◌&&◌, List, map, refl, sym, ap, ◌∙◌, eq-eqb}
use Rattle.std.proofs.Math.Bool.{beq}
use Rattle.std.specs.Cmp.Lexicographic.{pointwise}
use Rattle.std.specs.Borrow.{Bor}
use Rattle.std.specs.Str.{bytes_eq}
use Rattle.std.proofs.lemmas.Bool.{eqb-true}
use Rattle.std.specs.declared.vec.Vec.{Vec}
use Rattle.std.specs.declared.alloc.Global.{Global}
use denote.Enum.Bare.{same_true, true_same}
use Rattle.mk_repair.specs.Gathering.{with_value}
use Rattle.mk_repair.specs.Rows.{names_view, table_rows}
use Rattle.mk_repair.proofs.Gathered.{names_seen, value_seen}
use Rattle.mk_claims.specs.contracts.topic.Kind.{the_type}
use Rattle.mk_claims.specs.contracts.topic.KindPartialEq.TheImpl as kinds
use Rattle.mk_claims.specs.contracts.topic.TopicPartialEq.TheImpl as topics
use Rattle.mk_claims.specs.contracts.grouping.RowKeyPartialEq.TheImpl as row_keys
use Rattle.mk_claims.specs.contracts.grouping.GroupKeyPartialEq.TheImpl as group_keys
use Rattle.mk_claims.specs.declared.topic.Kind.{Kind}
use Rattle.mk_claims.specs.declared.topic.Kind.TheVariants.{NoRecord, OtherCommands, VaryingCommands, NoTarget, TwoWriters, GivenWritten, OwnRead, UnknownRead, UnrecordedRead, UnreachedRead, Loose, OwnPrerequisite, Race, OutputRace, Stale, OutputStale, RaceAndStale, OutputRaceAndStale, Selection}
use Rattle.mk_claims.specs.declared.topic.Topic.{Topic}
use Rattle.mk_claims.specs.declared.grouping.RowKey.{RowKey}
use Rattle.mk_claims.specs.declared.grouping.GroupKey.{GroupKey}
use Rattle.mk_claims.specs.Topics.{kind_number, same_bool, topic_eq, topic_view}
use Rattle.mk_claims.specs.Grouping.{row_key_eq, group_key_eq}
use Rattle.mk_claims.specs.Tables.{row_key_view, group_key_view, rows_view, groups_view}

-- the kind with a number
kind_at : ℕ → Kind
kind_at n =
    cond (n == 1) NoRecord (cond (n == 2) OtherCommands (cond (n == 3) VaryingCommands (cond (n == 4) NoTarget (cond (n == 5) TwoWriters (cond (n == 6) GivenWritten
    (cond (n == 7) OwnRead (cond (n == 8) UnknownRead (cond (n == 9) Loose (cond (n == 10) Race (cond (n == 11) OutputRace (cond (n == 12) Stale (cond (n == 13) OutputStale (cond (n == 14) Selection (cond (n == 15) UnreachedRead (cond (n == 16) OwnPrerequisite (cond (n == 17) RaceAndStale (cond (n == 18) OutputRaceAndStale UnrecordedRead)))))))))))))))))

-- the number tells the kind
at_number : (k : Kind) → kind_at (kind_number k) ≡ k
unfolding kind_at
at_number NoRecord = refl
at_number OtherCommands = refl
at_number VaryingCommands = refl
at_number NoTarget = refl
at_number TwoWriters = refl
at_number GivenWritten = refl
at_number OwnRead = refl
at_number UnknownRead = refl
at_number UnrecordedRead = refl
at_number UnreachedRead = refl
at_number OwnPrerequisite = refl
at_number Loose = refl
at_number Race = refl
at_number OutputRace = refl
at_number Stale = refl
at_number OutputStale = refl
at_number RaceAndStale = refl
at_number OutputRaceAndStale = refl
at_number Selection = refl

-- kinds with one number are the same
pub one_number : (k l : Kind) → kind_number k ≡ kind_number l → k ≡ l
one_number k l e = sym (at_number k) ∙ (ap kind_at e ∙ at_number l)

-- kinds
pub same_kind : (k l : Kind) → kinds.eq-value.it k l ≡ (kind_number k == kind_number l)
same_kind k l = at (kinds.eq-value.it k l) (kind_number k == kind_number l) refl refl
  where
    at : (b c : Bool) → kinds.eq-value.it k l ≡ b → (kind_number k == kind_number l) ≡ c → b ≡ c
    at true true e d = refl
    at false false e d = refl
    at true false e d = sym (eq-eqb (kind_number k) (kind_number l) (ap kind_number (same_true the_type tt k l e))) ∙ d
    at false true e d = sym e ∙ true_same the_type k l (one_number k l (eqb-true (kind_number k) (kind_number l) d))

-- Booleans
bools_seen : (b c : Bool) → beq b c ≡ same_bool b c
bools_seen true true = refl
bools_seen true false = refl
bools_seen false true = refl
bools_seen false false = refl

-- topics
pub topics_seen : (t u : Topic) → topics.eq-value.it t u ≡ topic_eq (topic_view t) (topic_view u)
topics_seen t u =
    let names = bytes_eq t.first.now u.first.now && (bytes_eq t.second.now u.second.now && bytes_eq t.cycle.now u.cycle.now) in
    ap (λ b. b && (beq t.has_line u.has_line && names)) (same_kind t.kind u.kind)
    ∙ ap (λ b. (kind_number t.kind == kind_number u.kind) && (b && names)) (bools_seen t.has_line u.has_line)

-- keys of rows
pub row_keys_seen : (k l : RowKey) → row_keys.eq-value.it k l ≡ row_key_eq (row_key_view k) (row_key_view l)
row_keys_seen k l = ap (λ b. b && bytes_eq k.who.now l.who.now) (topics_seen k.topic l.topic)

-- keys of groups
pub group_keys_seen : (k l : GroupKey) → group_keys.eq-value.it k l ≡ group_key_eq (group_key_view k) (group_key_view l)
group_keys_seen k l =
    ap (λ b. b && pointwise (λ x y. bytes_eq x.now y.now) k.what.now l.what.now) (topics_seen k.topic l.topic)
    ∙ ap (λ b. topic_eq (topic_view k.topic) (topic_view l.topic) && b) (names_seen k.what.now l.what.now)

-- a file more in a row
pub row_added : (old new : List (RowKey × Vec (Bor (List ℕ)) Global)) (key : RowKey) (what : Bor (List ℕ)) → table_rows new ≡ with_value row_keys.eq-value.it (table_rows old) key what
    → rows_view new ≡ with_value row_key_eq (rows_view old) (row_key_view key) what.now
row_added old new key what e =
    ap (map (λ (row : RowKey × List (Bor (List ℕ))). (row_key_view row.0, names_view row.1))) e
    ∙ value_seen row_keys.eq-value.it row_key_eq row_key_view (λ (n : Bor (List ℕ)). n.now) row_keys_seen (table_rows old) key what

-- a name more in a group
pub group_added : (old new : List (GroupKey × Vec (Bor (List ℕ)) Global)) (key : GroupKey) (who : Bor (List ℕ)) → table_rows new ≡ with_value group_keys.eq-value.it (table_rows old) key who
    → groups_view new ≡ with_value group_key_eq (groups_view old) (group_key_view key) who.now
group_added old new key who e =
    ap (map (λ (row : GroupKey × List (Bor (List ℕ))). (group_key_view row.0, names_view row.1))) e
    ∙ value_seen group_keys.eq-value.it group_key_eq group_key_view (λ (n : Bor (List ℕ)). n.now) group_keys_seen (table_rows old) key who
