use Rattle.std.proofs.Common.{◌∙◌, [], ◌∷◌, Err, refl, sym, ap, map}
use Rattle.std.specs.Option.{option_copied}
use Rattle.mk_core_sentences.proofs.EmptyMakefile.{tested_over}
use Rattle.mk_core_sentences.proofs.refused_line.is_accepted.Goals as goal

pub returns-else-is_out_of_memory : goal.returns-else-is_out_of_memory
returns-else-is_out_of_memory c =
    let request = c.args.request.now in
    let told = (c.read_makefile-read.new.files.name.now, []) ∷ [] in
    tested_over request.makefile request.defaults request.operands told (option_copied c.as_ref.result)
    (map (λ operand. operand.items) c.as_slice.result.now) (Err c.in-Err.fault)
    (c.in-Err.ensures.keeps told refl ∙ ap (λ name. (name, []) ∷ []) c.first_makefile.ensures)
    c.as_ref.ensures.value c.as_slice.ensures (c.in-Err.ensures.answer told refl)
    c.in-Err.ensures.noted (sym c.if-is_out_of_memory.ensures)
