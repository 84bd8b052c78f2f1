-- Each file has its place in its turn, and those before keep theirs.
use Rattle.std.proofs.Common.{◌≡◌, ◌∙◌, ◌+◌, ◌<◌, ◌≤◌, ◌++◌, ◌∷◌, [], ℕ, List, ap, sym, subst, append_assoc, get_or, length, map, take}
use Rattle.std.specs.Borrow.{Bor}
use Rattle.std.specs.String.{string_bytes}
use Rattle.std.proofs.lemmas.List.{take_more, take_all, map_push}
use Rattle.mk_lemmas.proofs.Texts.{texts}
use Rattle.mk_subject.specs.FileInfo.{StandAt}
use Rattle.mk_subject.proofs.KnownFiles.{keys_more, stand_push}
use Rattle.mk_subject.proofs.files.places_for.Goals as goal

pub place_for-requires : goal.place_for-requires
place_for-requires c = c.loop-file.invariant.all

pub loop-file-preserved : goal.loop-file-preserved
loop-file-preserved c =
    let listed = c.args.listed.now in
    let i = c.loop-file.file-index in
    let lt : i < length listed = c.loop-file-test.true in
    let f = c.as_str.result.now in
    let before = map string_bytes (take i listed) in
    let after : map string_bytes (take (i + 1) listed) ≡ before ++ f
    ∷ [] = ap (map string_bytes) (take_more listed i c.file-item.result lt)
    ∙ (map_push string_bytes (take i listed) (get_or listed i c.file-item.result)
    ∙ ap (λ (g : List ℕ). before ++ g ∷ []) (ap string_bytes (sym c.file-item.is)
    ∙ sym c.as_str.ensures.value)) in
    let inv = c.loop-file.invariant in
    let keys = c.place_for.new.files.keys in
    let (rest, grown) = c.in_ok-place.ensures.more in
    let (first, begun) = inv.more in
    let here : StandAt (texts keys) c.loop-file.places.items before = keys_more c.loop-file.files.keys rest keys c.loop-file.places.items before grown inv.here in
    record {
      all = c.in_ok-place.ensures.all;
      more = (first ++ rest, grown ∙ (ap (λ (l : List (Bor (List ℕ))). l ++ rest) begun ∙ append_assoc c.args.files.now.keys first rest));
      here = stand_push (texts keys) c.loop-file.places.items c.push.new.self.items c.in_ok-place.place before (map string_bytes (take (i + 1) listed)) f c.in_ok-push.ensures.items after c.in_ok-place.ensures.here here;
    }

pub returns : goal.returns
returns c =
    let listed = c.args.listed.now in
    let past : length listed ≤ c.loop-file.file-index = c.loop-file-test.false in
    let inv = c.loop-file.invariant in
    let all : map string_bytes (take c.loop-file.file-index listed) ≡ map string_bytes listed = ap (map string_bytes) (take_all c.loop-file.file-index listed past) in
    record {
      all = inv.all;
      more = inv.more;
      here = subst (λ (l : List (List ℕ)). StandAt (texts c.loop-file.files.keys) c.loop-file.places.items l) all inv.here;
    }
