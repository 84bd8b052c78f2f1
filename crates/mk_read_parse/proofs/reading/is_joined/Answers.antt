use Rattle.std.proofs.Common.{◌≡◌, Bool, ◌||◌, true, false, sym, ap, ◌∙◌, map, drop, length, List, ℕ, string_bytes}
use Rattle.std.specs.Prelude.{◌==◌}
use Rattle.std.proofs.lemmas.List.{take_rest}
use Rattle.std.proofs.lemmas.Slice.Eq.{starts_is}
use Rattle.std.proofs.lemmas.Bool.Decides.{Decides-eqb}
use Rattle.mk_read.specs.Names.{has_name}
use Rattle.mk_read_parse.proofs.JoinedSuffixes.{with_front_suffix, without_front_suffix}
use Rattle.mk_read_parse.proofs.reading.is_joined.Goals as goal

pub returns-then-not-starts_with : goal.returns-then-not-starts_with
returns-then-not-starts_with c =
    let front = starts_is Decides-eqb c.args.name.now c.args.suffix.now c.starts_with.result c.starts_with.ensures.value in
    sym (without_front_suffix (map string_bytes c.args.suffixes.now) c.args.name.now c.args.suffix.now (λ rest e. both (front.1 rest e) c.if-not-starts_with.true))
  where
    both : {b : Bool} → b ≡ true → b ≡ false → ⊥
    both t f = absurd cc

pub returns-then-is_empty : goal.returns-then-is_empty
returns-then-is_empty c =
    let front = starts_is Decides-eqb c.args.name.now c.args.suffix.now c.starts_with.result c.starts_with.ensures.value in
    let rest = drop (length c.args.suffix.now) c.args.name.now in
    let is = with_front_suffix (map string_bytes c.args.suffixes.now) c.args.name.now c.args.suffix.now rest (front.0 c.if-not-starts_with.false) in
    let empty : (length rest == 0) ≡ true = ap (λ (xs : List ℕ). length xs == 0) (sym (take_rest c.args.name.now (length c.args.suffix.now))) ∙ sym c.if-is_empty.ensures in
    c.if-is_empty.true ∙ sym (is ∙ ap (λ b. b || has_name (map string_bytes c.args.suffixes.now) rest) empty)

pub returns-else-is_empty : goal.returns-else-is_empty
returns-else-is_empty c =
    let front = starts_is Decides-eqb c.args.name.now c.args.suffix.now c.starts_with.result c.starts_with.ensures.value in
    let rest = drop (length c.args.suffix.now) c.args.name.now in
    let is = with_front_suffix (map string_bytes c.args.suffixes.now) c.args.name.now c.args.suffix.now rest (front.0 c.if-not-starts_with.false) in
    let empty : (length rest == 0) ≡ false = ap (λ (xs : List ℕ). length xs == 0) (sym (take_rest c.args.name.now (length c.args.suffix.now))) ∙ sym c.if-is_empty.ensures in
    (c.has_suffix.ensures ∙ ap (has_name (map string_bytes c.args.suffixes.now)) (take_rest c.args.name.now (length c.args.suffix.now))) ∙ sym (is ∙ ap (λ b. b || has_name (map string_bytes c.args.suffixes.now) rest) empty)
