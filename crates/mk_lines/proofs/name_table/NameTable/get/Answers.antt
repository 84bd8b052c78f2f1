use Rattle.std.proofs.Common.{◌≡◌, ◌<◌, ◌∙◌, ℕ, List, [], length, get_or, sym, ap, string_bytes, arith}
use Rattle.std.specs.Prelude.{is_some}
use Rattle.std.proofs.lemmas.List.{get_or-map, length-map}
use Rattle.mk_lines.proofs.Places.{is_placed, named_at}
use Rattle.mk_lines.proofs.name_table.NameTable.get.Goals as goal

pub returns-in-Some : goal.returns-in-Some
returns-in-Some c =
    let names = c.args.self.now in
    let name = c.args.name.now in
    let place = c.in-Some.place in
    let at = sym c.in-Some.ensures.place in
    let there = sym (is_placed 0 names name) ∙ ap is_some at in
    let found = named_at names name place [] at in
    let lt : place < length c.as_slice.result.now = omega (arith, c.in-Some.ensures.within, length-map c.as_slice.result.now string_bytes, ap length c.as_slice.ensures) in
    let spelled : get_or names place [] ≡ c.as_str.result.now =
    ap (λ (ns : List (List ℕ)). get_or ns place []) (sym c.as_slice.ensures) ∙ (get_or-map string_bytes c.as_slice.result.now place c.index-as_slice-place.result [] lt ∙ (ap string_bytes (sym c.index-as_slice-place.is) ∙ sym c.as_str.ensures.value)) in
    (sym spelled ∙ found, there)

pub returns-in-None : goal.returns-in-None
returns-in-None c = sym (is_placed 0 c.args.self.now c.args.name.now) ∙ ap is_some (sym c.in-None.ensures.place)
