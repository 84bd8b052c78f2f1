use Rattle.std.proofs.Common.{◌≡◌, ◌∙◌, ◌<◌, [], List, ℕ, Option, Some, None, false, eqb, length, sym, subst, ap, arith}
use Rattle.std.proofs.lemmas.Bool.Decides.{nat_tests}
use Rattle.std.specs.Borrow.{Bor}
use Rattle.std.specs.Option.{option_map_or}
use Rattle.std.proofs.lemmas.Bool.{and_parts}
use Rattle.mk_lemmas.proofs.Texts.{texts}
use Rattle.mk_lines.proofs.NameTests.{Has-from_has_name}
use Rattle.mk_graph.specs.Membership.{Has}
use Rattle.mk_infer.specs.Table.{texts_at}
use Rattle.mk_infer.specs.Choosing.{IsLeast, Placed, chosen_by, fits_by}
use Rattle.mk_infer.proofs.Least.{is_found}
use Rattle.mk_infer.proofs.inference.fitting.Goals as goal

some_bytes : (text : List ℕ) → false ≡ eqb (length text) 0 → 0 < length text
some_bytes text h = grind (arith, nat_tests, h)

abbrev behind : Option (Bor (List (Bor (List ℕ)))) → List (List ℕ)
behind found = option_map_or (λ backs. texts backs.now) found []

pub returns-in_default : goal.returns-in_default
returns-in_default c =
    let some : 0 < length c.args.stem.now = some_bytes c.args.stem.now c.if-is_empty.ensures in
    let tried = texts_at c.args.lookup.now.backs.now c.args.stem.now in
    let none : tried ≡ [] = sym c.backs_of.ensures ∙ ap behind c.in_default.is in
    is_found (fits_by c.args.lookup.now.table.now c.args.lookup.now.exists.now c.args.stem.now c.args.ending.now) (chosen_by c.args.lookup.now.table.now c.args.stem.now c.args.ending.now) c.args.lookup.now.table.now.suffixes tried None
    (λ s known passes. Has-from_has_name tried s (c.requires.there c.args.stem.now s some known (and_parts _ _ passes).1))
    (λ s there known. absurd (subst (λ (names : List (List ℕ)). Has names s) none there))

pub returns-in-Some-2 : goal.returns-in-Some-2
returns-in-Some-2 c =
    let some : 0 < length c.args.stem.now = some_bytes c.args.stem.now c.if-is_empty.ensures in
    let tried = texts_at c.args.lookup.now.backs.now c.args.stem.now in
    let names : texts c.in-Some.found.now ≡ tried = ap behind (sym c.in-Some.is) ∙ c.backs_of.ensures in
    ap (λ (x : Placed). Some x.chosen) c.placed.view_is
    ∙ is_found (fits_by c.args.lookup.now.table.now c.args.lookup.now.exists.now c.args.stem.now c.args.ending.now) (chosen_by c.args.lookup.now.table.now c.args.stem.now c.args.ending.now) c.args.lookup.now.table.now.suffixes tried (Some c.in-Some-2.placed)
    (λ s known passes. Has-from_has_name tried s (c.requires.there c.args.stem.now s some known (and_parts _ _ passes).1))
    (subst (IsLeast (fits_by c.args.lookup.now.table.now c.args.lookup.now.exists.now c.args.stem.now c.args.ending.now)
    (chosen_by c.args.lookup.now.table.now c.args.stem.now c.args.ending.now) c.args.lookup.now.table.now.suffixes tried)
    c.in-Some-2.is (subst (λ (ns : List (List ℕ)). IsLeast
    (fits_by c.args.lookup.now.table.now c.args.lookup.now.exists.now c.args.stem.now c.args.ending.now)
    (chosen_by c.args.lookup.now.table.now c.args.stem.now c.args.ending.now) c.args.lookup.now.table.now.suffixes ns
    c.in_ok-placed.field-0) names c.in_ok-placed.ensures))

pub returns-in-None : goal.returns-in-None
returns-in-None c =
    let some : 0 < length c.args.stem.now = some_bytes c.args.stem.now c.if-is_empty.ensures in
    let tried = texts_at c.args.lookup.now.backs.now c.args.stem.now in
    let names : texts c.in-Some.found.now ≡ tried = ap behind (sym c.in-Some.is) ∙ c.backs_of.ensures in
    is_found (fits_by c.args.lookup.now.table.now c.args.lookup.now.exists.now c.args.stem.now c.args.ending.now) (chosen_by c.args.lookup.now.table.now c.args.stem.now c.args.ending.now) c.args.lookup.now.table.now.suffixes tried None
    (λ s known passes. Has-from_has_name tried s (c.requires.there c.args.stem.now s some known (and_parts _ _ passes).1))
    (subst (IsLeast (fits_by c.args.lookup.now.table.now c.args.lookup.now.exists.now c.args.stem.now c.args.ending.now)
    (chosen_by c.args.lookup.now.table.now c.args.stem.now c.args.ending.now) c.args.lookup.now.table.now.suffixes tried)
    c.in-None.is (subst (λ (ns : List (List ℕ)). IsLeast
    (fits_by c.args.lookup.now.table.now c.args.lookup.now.exists.now c.args.stem.now c.args.ending.now)
    (chosen_by c.args.lookup.now.table.now c.args.stem.now c.args.ending.now) c.args.lookup.now.table.now.suffixes ns
    c.in_ok-placed.field-0) names c.in_ok-placed.ensures))
