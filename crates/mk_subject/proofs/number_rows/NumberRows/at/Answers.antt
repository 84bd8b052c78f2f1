use Rattle.std.proofs.Common.{◌≡◌, ◌<◌, ◌≤◌, ◌∷◌, [], ℕ, List, length, get_or, sym, ap, ◌∙◌, arith, rules}
use Rattle.std.proofs.lemmas.List.{get_or_default}
use Rattle.mk_subject.proofs.NumberRows.{in_order, within, cut, past_last}
use Rattle.mk_subject.proofs.number_rows.NumberRows.at.Goals as goal

pub returns-then-place-len : goal.returns-then-place-len
returns-then-place-len c =
    let ends = c.self.inside.ends.items in
    let numbers = c.self.inside.numbers.items in
    let place = c.args.place in
    let high : length ends ≤ place = omega (arith, c.len.ensures, c.self.inside.ends.ok.0, c.if-place-len.true) in
    sym (past_last ends numbers c.self.invariant place high) ∙ ap (λ (l : List (List ℕ)). get_or l place []) c.self.view_is

pub offset_bounds-deref-start : goal.offset_bounds-deref-start
offset_bounds-deref-start c =
    let ends = c.self.inside.ends.items in
    let numbers = c.self.inside.numbers.items in
    let place = c.args.place in
    let low : place < length ends = omega (arith, c.len.ensures, c.self.inside.ends.ok.0, c.if-place-len.false) in
    let start : c.start_of-start.result ≡ get_or (0 ∷ ends) place 0 = c.start_of-start.ensures ∙ ap (λ (l : List ℕ). get_or (0 ∷ l) place 0) c.deref.ensures.value in
    let end : c.index.result.now ≡ get_or ends place 0 = c.index.ensures ∙ get_or_default ends place c.index.result.now 0 low in
    let in_order : c.start_of-start.result ≤ c.index.result.now = omega (arith, start, end, in_order ends numbers c.self.invariant place low) in
    let within : c.index.result.now ≤ length numbers = omega (arith, end, within ends numbers c.self.invariant place low) in
    search rules

pub slice_bounds-result-count : goal.slice_bounds-result-count
slice_bounds-result-count c =
    let ends = c.self.inside.ends.items in
    let numbers = c.self.inside.numbers.items in
    let place = c.args.place in
    let low : place < length ends = omega (arith, c.len.ensures, c.self.inside.ends.ok.0, c.if-place-len.false) in
    let start : c.start_of-start.result ≡ get_or (0 ∷ ends) place 0 = c.start_of-start.ensures ∙ ap (λ (l : List ℕ). get_or (0 ∷ l) place 0) c.deref.ensures.value in
    let end : c.index.result.now ≡ get_or ends place 0 = c.index.ensures ∙ get_or_default ends place c.index.result.now 0 low in
    let in_order : c.start_of-start.result ≤ c.index.result.now = omega (arith, start, end, in_order ends numbers c.self.invariant place low) in
    let within : c.index.result.now ≤ length numbers = omega (arith, end, within ends numbers c.self.invariant place low) in
    in_order

pub slice_bounds-result-start : goal.slice_bounds-result-start
slice_bounds-result-start c =
    let ends = c.self.inside.ends.items in
    let numbers = c.self.inside.numbers.items in
    let place = c.args.place in
    let low : place < length ends = omega (arith, c.len.ensures, c.self.inside.ends.ok.0, c.if-place-len.false) in
    let start : c.start_of-start.result ≡ get_or (0 ∷ ends) place 0 = c.start_of-start.ensures ∙ ap (λ (l : List ℕ). get_or (0 ∷ l) place 0) c.deref.ensures.value in
    let end : c.index.result.now ≡ get_or ends place 0 = c.index.ensures ∙ get_or_default ends place c.index.result.now 0 low in
    let in_order : c.start_of-start.result ≤ c.index.result.now = omega (arith, start, end, in_order ends numbers c.self.invariant place low) in
    let within : c.index.result.now ≤ length numbers = omega (arith, end, within ends numbers c.self.invariant place low) in
    search rules

pub slice_bounds-result-end-2 : goal.slice_bounds-result-end-2
slice_bounds-result-end-2 c =
    let ends = c.self.inside.ends.items in
    let numbers = c.self.inside.numbers.items in
    let place = c.args.place in
    let low : place < length ends = omega (arith, c.len.ensures, c.self.inside.ends.ok.0, c.if-place-len.false) in
    let start : c.start_of-start.result ≡ get_or (0 ∷ ends) place 0 = c.start_of-start.ensures ∙ ap (λ (l : List ℕ). get_or (0 ∷ l) place 0) c.deref.ensures.value in
    let end : c.index.result.now ≡ get_or ends place 0 = c.index.ensures ∙ get_or_default ends place c.index.result.now 0 low in
    let in_order : c.start_of-start.result ≤ c.index.result.now = omega (arith, start, end, in_order ends numbers c.self.invariant place low) in
    let within : c.index.result.now ≤ length numbers = omega (arith, end, within ends numbers c.self.invariant place low) in
    search rules

pub returns : goal.returns
returns c =
    let ends = c.self.inside.ends.items in
    let numbers = c.self.inside.numbers.items in
    let place = c.args.place in
    let low : place < length ends = omega (arith, c.len.ensures, c.self.inside.ends.ok.0, c.if-place-len.false) in
    let start : c.start_of-start.result ≡ get_or (0 ∷ ends) place 0 = c.start_of-start.ensures ∙ ap (λ (l : List ℕ). get_or (0 ∷ l) place 0) c.deref.ensures.value in
    let end : c.index.result.now ≡ get_or ends place 0 = c.index.ensures ∙ get_or_default ends place c.index.result.now 0 low in
    rw (start, end, c.deref-2.ensures.value) (cut ends numbers c.self.invariant place low) ∙ ap (λ (l : List (List ℕ)). get_or l place []) c.self.view_is
