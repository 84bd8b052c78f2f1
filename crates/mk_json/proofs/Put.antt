-- Objects in which a member is put.
use Rattle.std.proofs.Common.{◌≡◌, ℕ, Bool, true, false, List, Some, Ordering, Less, Equal, Greater, is_eq, bytes_eq, ◌&&◌, nat_cmp, true≢false, refl, sym, ap, ◌∙◌}
use Rattle.std.specs.Prelude.{if◌then◌else◌}
use Rattle.std.specs.Cmp.Lexicographic.{slice_cmp}
use Rattle.std.specs.List.{list_all}
use Rattle.std.specs.Ordering.{match_ordering}
use Rattle.std.proofs.lemmas.Map.Text.{is_eq-slice_cmp}
use Rattle.std.proofs.lemmas.Slice.Eq.{bytes_eq-Decides}
use Rattle.mk_lines.specs.Names.{has_name}
use Rattle.serde_json.specs.Data.{Data, object, Members, no_members, member, put}
use Rattle.serde_json.specs.Find.{get, get_member}
use Rattle.serde_json.proofs.Views.{get_member-put, get_member-put_other}
use Rattle.mk_json.specs.Kinds.{pairs, has_only}
use Rattle.mk_json.specs.Laws.{LastValueCounts}

apart : (xs ys : List ℕ) → bytes_eq xs ys ≡ false → xs ≡ ys → ⊥
apart xs ys e same = true≢false (sym ((bytes_eq-Decides xs ys).1 same) ∙ e)

got_at : (b : Bool) (key other : List ℕ) (value : Data) (ms : Members) → bytes_eq key other ≡ b → get_member key (put other value ms) ≡ (if b then Some value else get_member key ms)
got_at true key other value ms e = let same : key ≡ other = (bytes_eq-Decides key other).0 e in rw (← same) (get_member-put key value ms)
got_at false key other value ms e = get_member-put_other key other value ms (apart key other e)

got : (key other : List ℕ) (value : Data) (ms : Members) → get key (object (put other value ms)) ≡ (if bytes_eq key other then Some value else get key (object ms))
got key other value ms = got_at _ key other value ms refl

-- a test of all names
abbrev all : (List ℕ → Bool) → Members → Bool
all p ms = list_all (λ (pair : List ℕ × Data). p pair.0) (pairs ms)

twice : (a b : Bool) → a && b ≡ a && (a && b)
twice true b = refl
twice false b = refl

turned : (a b c : Bool) → a && (b && c) ≡ b && (a && c)
turned true true c = refl
turned true false c = refl
turned false true c = refl
turned false false c = refl

put_at : (p : List ℕ → Bool) (o : Ordering) (k l : List ℕ) (d e : Data) (ms : Members) → slice_cmp nat_cmp k l ≡ o → all p (put k d ms) ≡ p k && all p ms
    → all p (match_ordering o (member k d (member l e ms)) (member l d ms) (member l e (put k d ms))) ≡ p k && all p (member l e ms)
put_at p Less k l d e ms is later = refl
put_at p Equal k l d e ms is later =
    let same : k ≡ l = (bytes_eq-Decides k l).0 (sym (is_eq-slice_cmp k l) ∙ ap is_eq is) in
    rw same (twice (p l) (all p ms))
put_at p Greater k l d e ms is later = ap (λ b. p l && b) later ∙ turned (p l) (p k) (all p ms)

all_put : (p : List ℕ → Bool) (k : List ℕ) (d : Data) (ms : Members) → all p (put k d ms) ≡ p k && all p ms
all_put p k d no_members = refl
all_put p k d (member l e ms) = put_at p (slice_cmp nat_cmp k l) k l d e ms refl (all_put p k d ms)

only : (known : List (List ℕ)) (key : List ℕ) (value : Data) (ms : Members) → has_only known (object (put key value ms)) ≡ (has_name known key && has_only known (object ms))
unfolding has_only
only known key value ms = all_put (has_name known) key value ms

pub last_value_counts : LastValueCounts
last_value_counts = record { value = got; keys = only }
