use Rattle.std.proofs.Common.{◌≡◌, ◌∙◌, ap, ℕ, Bool, ◌||◌, List, Option}
use Rattle.std.specs.List.{find, list_any}
use Rattle.std.specs.Option.{is_some, option_map, option_or}
use Rattle.std.specs.Str.{bytes_eq}
use Rattle.mk_lemmas.proofs.Results.{is_some-map}
use Rattle.mk_explain.proofs.Lookup.{some_find, some_or}
use Rattle.mk_explain.specs.Explain.{fault_explanation, finding_explanation, finding_sentence, finding_sentences, is_called, number_named, spelled}
use Rattle.mk_explain.specs.Known.{fault_names, finding_words}
use Rattle.mk_explain.specs.Texts.{term_text}
use Rattle.mk_explain.proofs.laws.known_is_explained.Goals as goal

a_finding : (what : List ℕ) → is_some (finding_sentence what) ≡ list_any (λ (word : List ℕ). bytes_eq word what) finding_words
unfolding finding_sentence
a_finding what =
    is_some-map (λ (entry : List ℕ × List ℕ). entry.1) (find (λ (entry : List ℕ × List ℕ). bytes_eq entry.0 what) finding_sentences)
    ∙ some_find (λ (entry : List ℕ × List ℕ). bytes_eq entry.0 what) finding_sentences

a_fault : (what : List ℕ) → is_some (number_named what) ≡ list_any (λ (fault : ℕ × List ℕ). is_called fault what) fault_names
unfolding number_named
a_fault what =
    is_some-map (λ (fault : ℕ × List ℕ). fault.0) (find (λ (fault : ℕ × List ℕ). is_called fault what) fault_names)
    ∙ some_find (λ (fault : ℕ × List ℕ). is_called fault what) fault_names

pub returns : goal.returns
returns c any =
    let what : List ℕ = spelled any in
    let first : Option (List ℕ) = option_map (λ (sentence : List ℕ). finding_explanation what sentence) (finding_sentence what) in
    let second : Option (List ℕ) = option_map fault_explanation (number_named what) in
    let third : Option (List ℕ) = term_text what in
    some_or first (option_or second third)
    ∙ (ap (λ (b : Bool). b || is_some (option_or second third)) (is_some-map (λ (sentence : List ℕ). finding_explanation what sentence) (finding_sentence what) ∙ a_finding what)
    ∙ ap (λ (b : Bool). list_any (λ (word : List ℕ). bytes_eq word what) finding_words || b)
    (some_or second third ∙ ap (λ (b : Bool). b || is_some third) (is_some-map fault_explanation (number_named what) ∙ a_fault what)))
