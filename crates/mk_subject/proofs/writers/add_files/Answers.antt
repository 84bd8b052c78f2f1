use Rattle.std.proofs.Common.{◌<◌, ◌≤◌, ◌∙◌, ◌++◌, ◌∷◌, [], List, ℕ, cond, ap, sym, map, length, arith}
use Rattle.std.specs.Str.{bytes_eq}
use Rattle.std.specs.String.{string_bytes}
use Rattle.std.proofs.lemmas.List.{length-map, take_all}
use Rattle.mk_lemmas.proofs.Texts.{string_bytes-at}
use Rattle.mk_lines.specs.Names.{has_name}
use Rattle.mk_subject.specs.Writers.{numbers_at}
use Rattle.mk_subject.proofs.Writing.{noted_same, noted_more}
use Rattle.mk_subject.proofs.writers.add_files.Goals as goal

pub loop-place-preserved : goal.loop-place-preserved
loop-place-preserved c =
    let files = map string_bytes c.args.files.now in
    let i = c.loop-place.place in
    let lt : i < length files = omega (arith, length-map c.args.files.now string_bytes) in
    let low : i < length c.args.files.now = omega arith in
    let here = c.as_str.ensures.value ∙ string_bytes-at c.args.files.now i c.index-files-place.result low c.index-files-place.is in
    record {
      seen = c.in_ok-is_repeated.ensures.seen;
      noted = λ name. noted_more files i name (numbers_at c.loop-place.writers name) (numbers_at c.add_writer.new.writers name) (numbers_at c.args.writers.now name) c.args.number lt (sym c.in_ok-is_repeated.ensures.repeated ∙ c.if-branch.false) (c.loop-place.invariant.noted name)
          (c.in_ok-add_writer.ensures name ∙ ap (λ (x : List ℕ). cond (bytes_eq name x) (numbers_at c.loop-place.writers name ++ c.args.number ∷ []) (numbers_at c.loop-place.writers name)) here);
    }

pub loop-place-preserved-then-branch : goal.loop-place-preserved-then-branch
loop-place-preserved-then-branch c =
    let files = map string_bytes c.args.files.now in
    let i = c.loop-place.place in
    let lt : i < length files = omega (arith, length-map c.args.files.now string_bytes) in
    record {
      seen = c.in_ok-is_repeated.ensures.seen;
      noted = λ name. noted_same files i name (numbers_at c.loop-place.writers name) (numbers_at c.args.writers.now name) c.args.number lt (sym c.in_ok-is_repeated.ensures.repeated ∙ c.if-branch.true) (c.loop-place.invariant.noted name);
    }

pub returns : goal.returns
returns c = λ name.
    let files = map string_bytes c.args.files.now in
    let le : length files ≤ c.loop-place.place = omega (arith, length-map c.args.files.now string_bytes) in
    c.loop-place.invariant.noted name ∙ ap (λ (names : List (List ℕ)). cond (has_name names name) (numbers_at c.args.writers.now name ++ c.args.number ∷ []) (numbers_at c.args.writers.now name)) (take_all c.loop-place.place files le)
