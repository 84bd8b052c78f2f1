-- The explanation of a finding or a fault, and the overview of all.
use Rattle.std.specs.Prelude.{ℕ, ◌==◌, Bool, ◌||◌, List, [], ◌∷◌, ◌++◌, codes, Option, map, is_some, if◌then◌else◌}
use Rattle.std.specs.Fmt.{decimal}
use Rattle.std.specs.List.{find, flat_map}
use Rattle.std.specs.Option.{option_map, option_or, unwrap_or}
use Rattle.std.specs.Str.{bytes_eq, str_eq_ignore_ascii_case}
use Rattle.mk_explain.specs.declared.faults.TheConstants.{FAULTS}
use Rattle.mk_explain.specs.declared.findings.TheConstants.{FINDINGS}
use Rattle.mk_explain.specs.Known.{fault_names, finding_words}
use Rattle.mk_explain.specs.Texts.{fault_text, finding_text, term_text}

-- The findings, each by its first word and its sentence.
abbrev pub finding_sentences : List (List ℕ × List ℕ)
finding_sentences = map (λ row. (row.0.now, row.1.now)) FINDINGS

-- The sentences of faults, each with its number.
abbrev pub fault_sentences : List (ℕ × List ℕ)
fault_sentences = map (λ row. (row.0, row.2.now)) FAULTS

-- The sentences of faults, each with the fault's name.
abbrev pub named_sentences : List (List ℕ × List ℕ)
named_sentences = map (λ row. (row.1.now, row.2.now)) FAULTS

-- What the first entry with this number says.
abbrev pub lookup : ℕ → List (ℕ × List ℕ) → Option (List ℕ)
lookup number entries = option_map (λ entry. entry.1) (find (λ entry. entry.0 == number) entries)

-- What the first entry with this word says.
abbrev pub lookup_word : List ℕ → List (List ℕ × List ℕ) → Option (List ℕ)
lookup_word word entries =
    option_map (λ entry. entry.1) (find (λ entry. bytes_eq entry.0 word) entries)

-- The sentence of the finding with this first word.
unfoldable pub finding_sentence : List ℕ → Option (List ℕ)
finding_sentence word = lookup_word word finding_sentences

-- The name of the fault with this number.
unfoldable pub fault_name : ℕ → Option (List ℕ)
fault_name number = lookup number fault_names

-- The sentence of the fault with this number.
unfoldable pub fault_sentence : ℕ → Option (List ℕ)
fault_sentence number = lookup number fault_sentences

-- The sentence of the fault with this name.
unfoldable pub named_sentence : List ℕ → Option (List ℕ)
named_sentence name = lookup_word name named_sentences

-- The fault has this name or, in decimal, this number.
abbrev pub is_called : ℕ × List ℕ → List ℕ → Bool
is_called fault what = bytes_eq (decimal fault.0) what || bytes_eq fault.1 what

-- The number of the first of these faults that is called so.
abbrev pub number_in : List (ℕ × List ℕ) → List ℕ → Option ℕ
number_in faults what = option_map (λ fault. fault.0) (find (λ fault. is_called fault what) faults)

-- The number of the fault that has this name or this number.
unfoldable pub number_named : List ℕ → Option ℕ
number_named what = number_in fault_names what

-- The explanation of the finding with this first word and sentence.
abbrev pub finding_explanation : List ℕ → List ℕ → List ℕ
finding_explanation word sentence =
    word ++ (codes ": " ++ (sentence ++ (10 ∷ 10 ∷ unwrap_or (finding_text word) [])))

-- The explanation of the fault with this number: name, number, sentence and text.
abbrev pub fault_explanation : ℕ → List ℕ
fault_explanation number =
    unwrap_or (fault_name number) [] ++
    (codes " (" ++
    (decimal number ++
    (codes "): " ++
    (unwrap_or (fault_sentence number) [] ++
    (10 ∷ 10 ∷ unwrap_or (fault_text number) [])))))

-- The explanation of the finding, the fault or the other word that is spelled so.
abbrev pub explained_as_spelled : List ℕ → Option (List ℕ)
explained_as_spelled what =
    option_or (option_map (λ sentence. finding_explanation what sentence) (finding_sentence what))
    (option_or (option_map fault_explanation (number_named what)) (term_text what))

-- The first word of a finding that is this word but for the case of letters.
unfoldable pub finding_spelled : List ℕ → Option (List ℕ)
finding_spelled what = find (λ word. str_eq_ignore_ascii_case word what) finding_words

-- The name of a fault that is this word but for the case of letters.
unfoldable pub fault_spelled : List ℕ → Option (List ℕ)
fault_spelled what =
    find (λ name. str_eq_ignore_ascii_case name what) (map (λ fault. fault.1) fault_names)

-- The word as it is explained, whatever the case of its letters. A word that answers begin with is
-- no fault's name.
abbrev pub spelled : List ℕ → List ℕ
spelled what =
    unwrap_or (finding_spelled what)
    (if is_some (term_text what) then what else unwrap_or (fault_spelled what) what)

-- The explanation of what is called so, if anything is.
abbrev pub explained : List ℕ → Option (List ℕ)
explained what = explained_as_spelled (spelled what)

-- The line of a finding in the overview.
abbrev pub finding_line : List ℕ × List ℕ → List ℕ
finding_line finding = finding.0 ++ (codes ": " ++ (finding.1 ++ 10 ∷ []))

-- The line of a fault in the overview.
abbrev pub fault_line : ℕ × List ℕ × List ℕ → List ℕ
fault_line fault =
    decimal fault.0 ++ (32 ∷ (fault.1 ++ (codes ": " ++ (fault.2 ++ 10 ∷ []))))

-- The line of each finding.
unfoldable pub all_finding_lines : List ℕ
all_finding_lines = flat_map finding_line finding_sentences

-- The line of each fault.
unfoldable pub all_fault_lines : List ℕ
all_fault_lines =
    flat_map fault_line (map (λ row. (row.0, row.1.now, row.2.now)) FAULTS)

-- The overview: a line for each finding and then for each fault.
abbrev pub overview_text : List ℕ
overview_text = all_finding_lines ++ all_fault_lines
