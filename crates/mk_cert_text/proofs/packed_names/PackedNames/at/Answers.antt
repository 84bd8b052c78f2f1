use Rattle.std.proofs.Common.{◌≡◌, ◌<◌, ◌∷◌, [], ℕ, List, string_bytes, length, get_or, sym, ap, subst, ◌∙◌, arith}
use Rattle.std.proofs.lemmas.List.{get_or_default}
use Rattle.mk_cert_text.specs.Packing.{cut_from}
use Rattle.mk_cert_text.proofs.Packed.{place_low, in_order, start_boundary, end_boundary, cut}
use Rattle.mk_cert_text.proofs.packed_names.PackedNames.at.Goals as goal

pub start_of-start-requires : goal.start_of-start-requires
start_of-start-requires c =
    let ends = c.self.inside.ends.items in
    let text = string_bytes c.self.inside.text in
    let place = c.args.place in
    let low : place < length (cut_from 0 ends text) = subst (λ (l : List (List ℕ)). place < length l) (sym c.self.view_is) c.requires in
    omega (arith, place_low ends text c.self.invariant place low, ap length c.deref.ensures.value)

pub index-requires : goal.index-requires
index-requires c =
    let ends = c.self.inside.ends.items in
    let text = string_bytes c.self.inside.text in
    let place = c.args.place in
    let low : place < length (cut_from 0 ends text) = subst (λ (l : List (List ℕ)). place < length l) (sym c.self.view_is) c.requires in
    omega (arith, place_low ends text c.self.invariant place low, c.self.inside.ends.ok.0)

pub range-requires-clause-start_le_end : goal.range-requires-clause-start_le_end
range-requires-clause-start_le_end c =
    let ends = c.self.inside.ends.items in
    let text = string_bytes c.self.inside.text in
    let place = c.args.place in
    let low : place < length (cut_from 0 ends text) = subst (λ (l : List (List ℕ)). place < length l) (sym c.self.view_is) c.requires in
    let start : c.start_of-start.result ≡ get_or (0 ∷ ends) place 0 = c.start_of-start.ensures ∙ ap (λ (l : List ℕ). get_or (0 ∷ l) place 0) c.deref.ensures.value in
    let end : c.index.result.now ≡ get_or ends place 0 = c.index.ensures ∙ get_or_default ends place c.index.result.now 0 (place_low ends text c.self.invariant place low) in
    rw (start, end) (in_order ends text c.self.invariant place low)

pub range-requires-clause-start_boundary : goal.range-requires-clause-start_boundary
range-requires-clause-start_boundary c =
    let ends = c.self.inside.ends.items in
    let text = string_bytes c.self.inside.text in
    let place = c.args.place in
    let low : place < length (cut_from 0 ends text) = subst (λ (l : List (List ℕ)). place < length l) (sym c.self.view_is) c.requires in
    let start : c.start_of-start.result ≡ get_or (0 ∷ ends) place 0 = c.start_of-start.ensures ∙ ap (λ (l : List ℕ). get_or (0 ∷ l) place 0) c.deref.ensures.value in
    λ _. rw (start, c.deref-2.ensures) (start_boundary ends text c.self.invariant place low)

pub range-requires-clause-end_boundary : goal.range-requires-clause-end_boundary
range-requires-clause-end_boundary c =
    let ends = c.self.inside.ends.items in
    let text = string_bytes c.self.inside.text in
    let place = c.args.place in
    let low : place < length (cut_from 0 ends text) = subst (λ (l : List (List ℕ)). place < length l) (sym c.self.view_is) c.requires in
    let end : c.index.result.now ≡ get_or ends place 0 = c.index.ensures ∙ get_or_default ends place c.index.result.now 0 (place_low ends text c.self.invariant place low) in
    rw (end, c.deref-2.ensures) (end_boundary ends text c.self.invariant place low)

pub returns : goal.returns
returns c =
    let ends = c.self.inside.ends.items in
    let text = string_bytes c.self.inside.text in
    let place = c.args.place in
    let low : place < length (cut_from 0 ends text) = subst (λ (l : List (List ℕ)). place < length l) (sym c.self.view_is) c.requires in
    let start : c.start_of-start.result ≡ get_or (0 ∷ ends) place 0 = c.start_of-start.ensures ∙ ap (λ (l : List ℕ). get_or (0 ∷ l) place 0) c.deref.ensures.value in
    let end : c.index.result.now ≡ get_or ends place 0 = c.index.ensures ∙ get_or_default ends place c.index.result.now 0 (place_low ends text c.self.invariant place low) in
    c.range.ensures.value ∙ (rw (start, end, c.deref-2.ensures) (cut ends text c.self.invariant place low) ∙ ap (λ (l : List (List ℕ)). get_or l place []) c.self.view_is)
