-- Operands that are read one after another.
use Rattle.std.proofs.Common.{◌≡◌, ℕ, ◌+◌, ◌<◌, ◌≤◌, List, [], ◌∷◌, codes, drop, length, map, get_or, Vec, Result, Ok, inl, inr, refl, sym, ap, ◌∙◌}
use Rattle.std.specs.declared.alloc.Global.{Global}
use Rattle.std.proofs.lemmas.List.{drop_more, drop_all}
use Rattle.mk_macros.specs.Definitions.{with_operand}
use Rattle.mk_macros.specs.Table.{Macro}
use Rattle.mk_read.specs.declared.fault.ReadFault.{ReadFault}
use Rattle.mk_read.specs.Reading.{with_operands}
use Rattle.mk_read.specs.Steps.{◌>>=◌, Fails, at_place}
use Rattle.mk_read_parse.proofs.Stepping.{then_ok}

-- the first of the operands
first_operand : (number : ℕ) (operand : List ℕ) (operands : List (List ℕ)) (table : List Macro) → with_operands number (operand ∷ operands) table ≡ (at_place (record { file = codes "operand"; line = number }) (with_operand table operand) >>= with_operands (number + 1) operands)
unfolding with_operands
first_operand number operand operands table = refl

no_operand : (number : ℕ) (table : List Macro) → with_operands number [] table ≡ Ok table
unfolding with_operands
no_operand number table = refl

-- operands as the code has them, by their bytes
abbrev pub texts_of : List (Vec ℕ Global) → List (List ℕ)
texts_of operands = map (λ (operand : Vec ℕ Global). operand.items) operands

next_operand : (operands : List (Vec ℕ Global)) (i : ℕ) (d : Vec ℕ Global) (table : List Macro) → i < length operands
    → with_operands (i + 1) (texts_of (drop i operands)) table ≡ (at_place (record { file = codes "operand"; line = i + 1 }) (with_operand table (get_or operands i d).items) >>= with_operands (i + 1 + 1) (texts_of (drop (i + 1) operands)))
next_operand operands i d table lt = ap (λ ops. with_operands (i + 1) (texts_of ops) table) (drop_more operands i d lt) ∙ first_operand (i + 1) (get_or operands i d).items (texts_of (drop (i + 1) operands)) table

pub operand_done : (operands : List (Vec ℕ Global)) (i : ℕ) (d : Vec ℕ Global) (table next : List Macro) (whole : Result (List Macro) ReadFault) → at_place (record { file = codes "operand"; line = i + 1 }) (with_operand table (get_or operands i d).items) ≡ Ok next
    → with_operands (i + 1) (texts_of (drop i operands)) table ≡ whole → i < length operands → with_operands (i + 1 + 1) (texts_of (drop (i + 1) operands)) next ≡ whole
operand_done operands i d table next whole is so_far lt = sym (next_operand operands i d table lt ∙ then_ok _ (with_operands (i + 1 + 1) (texts_of (drop (i + 1) operands))) next is) ∙ so_far

pub operand_failed : (operands : List (Vec ℕ Global)) (i : ℕ) (d : Vec ℕ Global) (table : List Macro) (fault : ReadFault) (whole : Result (List Macro) ReadFault) → Fails fault (at_place (record { file = codes "operand"; line = i + 1 }) (with_operand table (get_or operands i d).items))
    → with_operands (i + 1) (texts_of (drop i operands)) table ≡ whole → i < length operands → Fails fault whole
operand_failed operands i d table fault whole (inl memory) so_far lt = inl memory
operand_failed operands i d table fault whole (inr e) so_far lt = inr (sym so_far ∙ (next_operand operands i d table lt ∙ ap (λ r. r >>= with_operands (i + 1 + 1) (texts_of (drop (i + 1) operands))) e))

pub operands_done : (operands : List (Vec ℕ Global)) (i : ℕ) (table : List Macro) (whole : Result (List Macro) ReadFault) → with_operands (i + 1) (texts_of (drop i operands)) table ≡ whole → length operands ≤ i → whole ≡ Ok table
operands_done operands i table whole so_far le = sym so_far ∙ (ap (λ ops. with_operands (i + 1) (texts_of ops) table) (drop_all i operands le) ∙ no_operand (i + 1) table)
