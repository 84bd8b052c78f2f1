-- Laws about the explanations.
use Rattle.std.specs.Prelude.{◌≡◌, ℕ, ◌==◌, Bool, false, ◌&&◌, ◌||◌, List, Option, map, is_some}
use Rattle.std.specs.Fmt.{decimal}
use Rattle.std.specs.List.{list_all, list_any}
use Rattle.std.specs.Option.{option_map_or}
use Rattle.std.specs.Bool.{IsTrue}
use Rattle.std.specs.Str.{bytes_eq}
use Rattle.mk_explain.specs.Explain.{explained, fault_sentence, finding_sentences, is_called, number_named, spelled}
use Rattle.mk_explain.specs.Known.{fault_names, finding_words, term_words}
use Rattle.mk_explain.specs.Texts.{fault_text, finding_text, term_text}

-- It is this number.
abbrev pub is_number : ℕ → Option ℕ → Bool
is_number number found = option_map_or (λ given. given == number) found false

-- The number of each fault and its name lead to that number.
abbrev pub EachNameLeadsToItsNumber : Type 0
EachNameLeadsToItsNumber =
    IsTrue (list_all (λ fault. is_number fault.0 (number_named (decimal fault.0)) &&
    is_number fault.0 (number_named fault.1)) fault_names)

-- Each fault has a sentence and a text.
abbrev pub EachFaultIsExplained : Type 0
EachFaultIsExplained =
    IsTrue (list_all (λ fault. is_some (fault_sentence fault.0) && is_some (fault_text fault.0))
    fault_names)

-- The findings with a sentence are those that are known, and each has a text.
pub record EachFindingIsExplained : Type 0 where
  pub words : map (λ finding. finding.0) finding_sentences ≡ finding_words
  pub texts : IsTrue (list_all (λ word. is_some (finding_text word)) finding_words)

-- It is the first word of a finding, the name or the number of a fault, or another word that
-- answers begin with.
abbrev pub is_known : List ℕ → Bool
is_known what =
    list_any (λ word. bytes_eq word what) finding_words ||
    (list_any (λ fault. is_called fault what) fault_names ||
    is_some (term_text what))

-- Exactly what is known is explained, whatever the case of its letters.
abbrev pub KnownIsExplained : Type 0
KnownIsExplained = (what : List ℕ) → is_some (explained what) ≡ is_known (spelled what)

-- Each of the other words that answers begin with is explained by its own text.
abbrev pub EachTermIsExplained : Type 0
EachTermIsExplained = map explained term_words ≡ map term_text term_words
