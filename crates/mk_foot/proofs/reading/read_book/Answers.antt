use Rattle.std.proofs.Common.{◌≡◌, ℕ, List, Option, None, Some, Result, inl, inr, refl, ap, ◌∙◌}
use Rattle.std.specs.Prelude.{ok_or}
use Rattle.std.proofs.lemmas.Result.{err_from_is_err_and}
use Rattle.serde_json.specs.Data.{Data}
use Rattle.mk_json.specs.Reading.{json_of}
use Rattle.mk_foot.specs.declared.fault.FootFault.{FootFault}
use Rattle.mk_foot.specs.declared.fault.FootFault.TheVariants.{NotJson}
use Rattle.mk_foot.specs.FootprintFile.{footprints_in}
use Rattle.mk_foot.specs.Parts.{FootprintFile}
use Rattle.mk_foot.specs.ReaderParts.{footprints_from, book_of_file}
use Rattle.mk_foot.specs.Reading.{book_in, book_from}
use Rattle.mk_foot.specs.Steps.{◌>>=◌}
use Rattle.mk_foot.proofs.Read.{moved}
use Rattle.mk_foot.proofs.Steps.{Fails}
use Rattle.mk_foot.proofs.reading.read_book.Goals as goal

-- the book, from the parts of the file
of_value : (goals : List (List ℕ)) (o : Option Data) → (ok_or o NotJson >>= book_in goals) ≡ ((ok_or o NotJson >>= footprints_in) >>= book_of_file goals)
unfolding book_in
of_value goals None = refl
of_value goals (Some value) = refl

of_parts : (goals : List (List ℕ)) (bytes : List ℕ) → book_from goals bytes ≡ (footprints_from bytes >>= book_of_file goals)
unfolding book_from footprints_from
of_parts goals bytes = of_value goals (json_of bytes)

stopped : (goals : List (List ℕ)) (bytes : List ℕ) (fault : FootFault) → Fails fault (footprints_from bytes) → Fails fault (book_from goals bytes)
stopped goals bytes fault (inl memory) = inl memory
stopped goals bytes fault (inr e) = inr (of_parts goals bytes ∙ ap (λ (r : Result FootprintFile FootFault). r >>= book_of_file goals) e)

pub returns-in_err-file : goal.returns-in_err-file
returns-in_err-file c =
    let p = err_from_is_err_and c.from_residual.result c.from_residual.ensures.1 in
    rw (p.1, p.2) (stopped c.args.goals.now c.args.bytes.now c.in_err-file.field-0.0 c.in_err-file.ensures)

pub returns : goal.returns
returns c = moved (λ book. book) c.book_of.result _ _ c.book_of.ensures (of_parts c.args.goals.now c.args.bytes.now ∙ ap (λ (r : Result FootprintFile FootFault). r >>= book_of_file c.args.goals.now) c.in_ok-file.ensures)
