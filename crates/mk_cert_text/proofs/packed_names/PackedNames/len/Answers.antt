use Rattle.std.proofs.Common.{string_bytes, length, ap, arith}
use Rattle.mk_cert_text.proofs.Packed.{counted}
use Rattle.mk_cert_text.proofs.packed_names.PackedNames.len.Goals as goal

pub returns : goal.returns
returns c =
    omega (arith, c.len.ensures, c.self.inside.ends.ok.0, counted c.self.inside.ends.items (string_bytes c.self.inside.text) c.self.invariant, ap length c.self.view_is)
