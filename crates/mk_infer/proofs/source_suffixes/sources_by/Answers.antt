use Rattle.std.proofs.Common.{◌≡◌, ◌∙◌, ◌<◌, ◌++◌, List, ℕ, [], Option, Vec, append-nil, ap, sym, length, get_or, arith}
use Rattle.std.specs.Borrow.{Bor}
use Rattle.std.specs.declared.alloc.Global.{Global}
use Rattle.std.specs.Option.{option_map_or}
use Rattle.std.specs.String.{string_bytes}
use Rattle.mk_lemmas.proofs.Texts.{texts}
use Rattle.mk_infer.specs.Table.{given, texts_at}
use Rattle.mk_infer.proofs.Sources.{sources_more}
use Rattle.mk_infer.proofs.source_suffixes.sources_by.Goals as goal
use Rattle.mk_infer.proofs.source_suffixes.sources_by.Goals.{in-Some+in_ok-add_sources, in_default}

pub loop-suffix-preserved : goal.loop-suffix-preserved
loop-suffix-preserved c = λ name.
    let suffixes = c.args.suffixes.now in
    let i = c.loop-suffix.suffix-index in
    let item = c.suffix-item.result in
    let lt : i < length suffixes = omega arith in
    let is : string_bytes item ≡ string_bytes (get_or suffixes i item) = ap string_bytes c.suffix-item.is in
    let behind : Option (Vec (Bor (List ℕ)) Global) → List (List ℕ) = λ o. texts (option_map_or (λ found. found.items) o []) in
    elim c.match-get.branch [
      | in-Some+in_ok-add_sources w ↦
          let found : texts_at c.args.backs.now (string_bytes item) ≡ texts w.in-Some.endings.now.items = ap (texts_at c.args.backs.now) (sym c.as_str.ensures.value) ∙ ap behind (sym w.in-Some.ensures.value) in
          let added : texts_at c.match-get.sources name ≡ texts_at c.loop-suffix.sources name ++ given (string_bytes item) name (texts_at c.args.backs.now (string_bytes item)) =
          ap (λ t. texts_at t name) w.sources-is ∙ (w.in_ok-add_sources.ensures name
          ∙ (ap (λ (s : List ℕ). texts_at c.loop-suffix.sources name ++ given s name (texts w.deref.result.now)) w.deref-in-Some.ensures
          ∙ ap (λ (xs : List (List ℕ)). texts_at c.loop-suffix.sources name ++ given (string_bytes item) name xs) (ap texts w.deref.ensures.value ∙ sym found))) in
          sources_more string_bytes (texts_at c.args.backs.now) name suffixes i item _ _ (added ∙ ap (λ (s : List ℕ). texts_at c.loop-suffix.sources name ++ given s name (texts_at c.args.backs.now s)) is) (c.loop-suffix.invariant name) lt
      | in_default w ↦
          let found : texts_at c.args.backs.now (string_bytes item) ≡ [] = ap (texts_at c.args.backs.now) (sym c.as_str.ensures.value) ∙ ap behind (sym w.in_default.ensures.value) in
          let added : texts_at c.match-get.sources name ≡ texts_at c.loop-suffix.sources name ++ given (string_bytes item) name (texts_at c.args.backs.now (string_bytes item)) =
          ap (λ t. texts_at t name) w.sources-is ∙ (sym (append-nil (texts_at c.loop-suffix.sources name)) ∙ ap (λ (xs : List (List ℕ)). texts_at c.loop-suffix.sources name ++ given (string_bytes item) name xs) (sym found)) in
          sources_more string_bytes (texts_at c.args.backs.now) name suffixes i item _ _ (added ∙ ap (λ (s : List ℕ). texts_at c.loop-suffix.sources name ++ given s name (texts_at c.args.backs.now s)) is) (c.loop-suffix.invariant name) lt
    ]
