use Rattle.std.proofs.Common.{◌≡◌, ◌∙◌, ℕ, [], map, false, nat_lt, length, ap, sym, string_bytes}
use Rattle.std.specs.List.{flat_map}
use Rattle.std.proofs.lemmas.Bool.{cond-false, le-ltb}
use Rattle.std.proofs.lemmas.List.{length-map}
use Rattle.mk_lemmas.proofs.Lists.{flat_map-map}
use Rattle.mk_repair.specs.Lines.{pieces, spaced}
use Rattle.mk_repair.specs.Rows.{names_view}
use Rattle.mk_sentences.specs.Listing.{listed_line}
use Rattle.mk_sentences.proofs.Joined.{appended}
use Rattle.mk_sentences.proofs.listing.push_left_out.Goals as goal

pub returns : goal.returns
returns c =
    let names = names_view c.args.names.now in
    let cut = ap (map string_bytes) c.deref.ensures.value ∙ c.in_ok-pieces.ensures in
    let many : nat_lt (length names) 3 ≡ false = ap (λ (n : ℕ). nat_lt n 3) (length-map c.args.names.now (λ name. name.now)) ∙ le-ltb (length c.args.names.now) 3 c.if-names-lt3.false in
    appended c.push_listed.result (string_bytes c.push_listed.new.out) (string_bytes c.args.out.now)
    (flat_map-map (listed_line c.args.what.now) string_bytes c.deref.result.now ∙ (ap (flat_map (listed_line c.args.what.now)) cut ∙ sym (cond-false (nat_lt (length names) 3) [] (flat_map (listed_line c.args.what.now) (map spaced (pieces names))) many)))
    c.push_listed.ensures
