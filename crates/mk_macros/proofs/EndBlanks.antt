-- The blanks at the end of a text.
use Rattle.std.proofs.Common.{◌≡◌, ℕ, ◌+◌, ◌<◌, true, false, List, [], ◌∷◌, length, get_or, take, reverse, sym, ap, ◌∙◌, arith}
use Rattle.std.proofs.lemmas.List.{take_more, take_all, reverse-append, reverse-reverse}
use Rattle.mk_lines.proofs.Pieces.{trimmed_blank, trimmed_other}
use Rattle.mk_lines.specs.Bytes.{is_blank, trimmed}

-- the text without the blanks at its end
abbrev pub ended : List ℕ → List ℕ
ended text = reverse (trimmed (reverse text))

-- the text up to a byte, turned round
turned : (text : List ℕ) (before : ℕ) (d : ℕ) → before < length text → reverse (take (before + 1) text) ≡ get_or text before d ∷ reverse (take before text)
turned text before d lt = ap reverse (take_more text before d lt) ∙ reverse-append (take before text) (get_or text before d ∷ [])

-- a blank at the end
pub ended_blank : (text : List ℕ) (end before d : ℕ) → end ≡ before + 1 → before < length text → is_blank (get_or text before d) ≡ true → ended (take before text) ≡ ended (take end text)
ended_blank text end before d e lt h = sym (ap (λ n. ended (take n text)) e ∙ (ap (λ (t : List ℕ). reverse (trimmed t)) (turned text before d lt) ∙ ap reverse (trimmed_blank (get_or text before d) (reverse (take before text)) h)))

-- none at the end
pub ended_not : (text : List ℕ) (end before d : ℕ) → end ≡ before + 1 → before < length text → is_blank (get_or text before d) ≡ false → take end text ≡ ended (take end text)
ended_not text end before d e lt h =
    let at : take (before + 1) text ≡ ended (take (before + 1) text) =
    sym (ap (λ (t : List ℕ). reverse (trimmed t)) (turned text before d lt) ∙ (ap reverse (trimmed_other (get_or text before d) (reverse (take before text)) h) ∙ (ap reverse (sym (turned text before d lt)) ∙ reverse-reverse (take (before + 1) text)))) in
    ap (λ n. take n text) e ∙ (at ∙ ap (λ n. ended (take n text)) (sym e))

-- at the start all is left
pub ended_start : (text rest : List ℕ) (end : ℕ) → end ≡ length rest → rest ≡ trimmed text → ended (take end rest) ≡ ended (trimmed text)
ended_start text rest end e is = ap ended (take_all end rest (omega arith) ∙ is)
