-- The components of a path.
use Rattle.std.proofs.Common.{◌≡◌, ℕ, List, [], ◌∷◌, length, ap, refl, ◌∙◌, arith}
use Rattle.std.specs.List.{slice_split, list_all}
use Rattle.std.proofs.lemmas.Bool.{ne_eqb}
use Rattle.std.proofs.lemmas.List.Splits.{length-slice_split}
use Rattle.mk_lines.specs.Bytes.{is_byte}
use Rattle.mk_lines.specs.Paths.{is_proper, are_components}

-- behind a leading slash each component is proper
pub absolute : (name rest : List ℕ) → slice_split (is_byte 47) name ≡ [] ∷ slice_split (is_byte 47) rest → are_components (slice_split (is_byte 47) name) ≡ list_all is_proper (slice_split (is_byte 47) rest)
absolute name rest e =
    let some = ne_eqb (length (slice_split (is_byte 47) rest)) 0 (λ z. absurd (omega (arith, length-slice_split (is_byte 47) rest))) in
    ap are_components e ∙ rw some refl
