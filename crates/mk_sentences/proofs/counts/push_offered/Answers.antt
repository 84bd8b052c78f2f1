use Rattle.std.proofs.Common.{◌≡◌, ℕ, ◌+◌, ◌∙◌, ◌++◌, Bool, true, false, List, [], drop, map, ap, sym, refl, string_bytes, append_assoc}
use Rattle.std.specs.Borrow.{Bor}
use Rattle.std.specs.List.{flat_map}
use Rattle.mk_repair.specs.Lines.{line_text}
use Rattle.mk_repair.specs.Rows.{names_view}
use Rattle.mk_repair.proofs.Appending.{drop_at_get}
use Rattle.mk_sentences.specs.Adding.{lines_of}
use Rattle.mk_sentences.specs.Counts.{offered, offered_text}
use Rattle.mk_claims.specs.Grouping.{Group, group_of}
use Rattle.mk_claims.specs.Tables.{groups_view}
use Rattle.mk_claims.specs.Topics.{topic_view}
use Rattle.mk_sentences.proofs.counts.push_offered.Goals as goal

-- what a group offers, with a line and without one
none_offered : (g : Group) → g.topic.has_line ≡ false → offered g ≡ []
none_offered g e = rw e refl

all_offered : (g : Group) → g.topic.has_line ≡ true → offered g ≡ flat_map line_text (lines_of g.topic.kind g.topic.first g.who g.what)
all_offered g e = rw e refl

pub loop-place-preserved-then-not-key : goal.loop-place-preserved-then-not-key
loop-place-preserved-then-not-key c =
    let entries = c.args.groups.now.entries in
    let i = c.loop-place.place in
    let told : List _ → List ℕ = λ rest. offered_text (map group_of (groups_view rest)) in
    let here = ap told (drop_at_get entries i (c.in-Some.key.now, c.in-Some.who.now) c.in-Some.ensures.entry) in
    let g : Group = record { topic = topic_view c.in-Some.key.now.topic; what = names_view c.in-Some.key.now.what.now; who = names_view c.in-Some.who.now.items } in
    ap (λ (l : List ℕ). string_bytes c.loop-place.out ++ l) (sym (here ∙ ap (λ (l : List ℕ). l ++ told (drop (i + 1) entries)) (none_offered g c.if-not-key.true))) ∙ c.loop-place.invariant

pub loop-place-preserved : goal.loop-place-preserved
loop-place-preserved c =
    let entries = c.args.groups.now.entries in
    let i = c.loop-place.place in
    let told : List _ → List ℕ = λ rest. offered_text (map group_of (groups_view rest)) in
    let rest = told (drop (i + 1) entries) in
    let old = string_bytes c.loop-place.out in
    let here = ap told (drop_at_get entries i (c.in-Some.key.now, c.in-Some.who.now) c.in-Some.ensures.entry) in
    let topic = topic_view c.in-Some.key.now.topic in
    let what = names_view c.in-Some.key.now.what.now in
    let g : Group = record { topic = topic; what = what; who = names_view c.in-Some.who.now.items } in
    let lines : List (Bor (List ℕ)) → List ℕ = λ who. flat_map line_text (lines_of topic.kind topic.first (names_view who) what) in
    let new = c.in_ok-push_lines.ensures ∙ ap (λ (who : List (Bor (List ℕ))). old ++ lines who) c.deref.ensures.value in
    ap (λ (l : List ℕ). l ++ rest) new
    ∙ (append_assoc old (lines c.in-Some.who.now.items) rest
    ∙ (ap (λ (l : List ℕ). old ++ (l ++ rest)) (sym (all_offered g c.if-not-key.false))
    ∙ (ap (λ (l : List ℕ). old ++ l) (sym here) ∙ c.loop-place.invariant)))
