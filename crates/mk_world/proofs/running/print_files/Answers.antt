use Rattle.std.proofs.Common.{◌++◌, ◌∙◌, sym, ap, string_bytes}
use Rattle.std.specs.List.{flat_map}
use Rattle.std.proofs.lemmas.List.{append-nil, drop_all}
use Rattle.mk_world.specs.Running.{file_text}
use Rattle.mk_world.proofs.Lines.{listing_text, text_more}
use Rattle.mk_world.proofs.running.print_files.Goals as goal

pub loop-file-preserved : goal.loop-file-preserved
loop-file-preserved c =
    let piece = c.deref.ensures ∙ (c.in_ok-file_text.ensures ∙ ap file_text c.file-item.is) in
    rw c.in_ok-push_str.ensures.bytes (text_more file_text (string_bytes c.loop-file.text) c.deref.result.now _ c.deref-file-items.result.now c.loop-file.file-index c.file-item.result c.loop-file-test.true piece c.loop-file.invariant)

pub returns : goal.returns
returns c =
    let items = c.deref-file-items.ensures.value ∙ c.in_ok-files.ensures.listed in
    let all = sym (append-nil (string_bytes c.loop-file.text)) ∙ (ap (λ l. string_bytes c.loop-file.text ++ flat_map file_text l) (sym (drop_all c.loop-file.file-index c.deref-file-items.result.now c.loop-file-test.false)) ∙ c.loop-file.invariant) in
    all ∙ (ap (λ l. string_bytes c.args.text.now ++ flat_map file_text l) items ∙ ap (λ t. string_bytes c.args.text.now ++ t) (listing_text c.args.world.now))
