use Rattle.std.proofs.Common.{List, ℕ, Option, Some, Vec, Global, ap, sym, ◌∙◌}
use Rattle.std.specs.Option.{option_map}
use Rattle.mk_core_repair.proofs.Readings.{seen_text}
use Rattle.mk_core_repair.proofs.known_files.KnownFiles.text.Goals as goal

pub returns-in-Some : goal.returns-in-Some
returns-in-Some c =
    ap (λ (text : List ℕ). Some text) c.as_slice.ensures.value
    ∙ (ap (λ (text : Option (Vec ℕ Global)). option_map (λ t. t.items) text) c.in-Some.ensures.value ∙ sym (seen_text c.args.self.now.files c.args.name.now))

pub returns-in-None : goal.returns-in-None
returns-in-None c =
    ap (λ (text : Option (Vec ℕ Global)). option_map (λ t. t.items) text) c.in-None.ensures.value ∙ sym (seen_text c.args.self.now.files c.args.name.now)
