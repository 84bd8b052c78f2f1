-- Texts that are read one after another.
use Rattle.std.proofs.Common.{◌≡◌, ◌⊎◌, ℕ, zero, suc, ◌<◌, ◌+◌, Bool, true, false, ◌||◌, cond, List, [], ◌∷◌, ◌++◌, length, map, take, get_or, true≢false, Option, Some, None, inl, inr, refl, sym, ap, subst, ◌∙◌, String, Global, Vec, string_bytes, arith}
use Rattle.std.proofs.lemmas.List.{append_assoc, take_more, map_push}
use Rattle.std.proofs.lemmas.Slice.Eq.{bytes_eq-Decides}
use Rattle.std.specs.HashMap.{HashMap, get_by_text}
use Rattle.std.specs.Map.{lookup}
use Rattle.std.specs.Option.{is_some, option_map, option_or}
use Rattle.std.specs.Str.{bytes_eq}
use Rattle.mk_lemmas.proofs.Texts.{bytes_eq-sym}
use Rattle.mk_lemmas.proofs.Results.{is_some-map}
use Rattle.mk_lines.proofs.NameTests.{has_name-push}
use Rattle.mk_lines.specs.Names.{has_name}
use Rattle.mk_foot.specs.Names.{Has}
use Rattle.mk_core_text.specs.declared.fault.Fault.{Fault}
use Rattle.mk_core_text.specs.declared.fault.Fault.TheVariants.{FileReadFailed, Memory}
use Rattle.mk_read.specs.Files.{Told, text_at}
use Rattle.mk_core_repair.specs.Amending.{IsCutTo, text_among}
use Rattle.mk_core_repair.specs.Known.{IsReadFault, or_if}
use Rattle.mk_core_repair.proofs.Cuts.{cut_at}

-- the map of a table of texts
abbrev pub texts_by : List (String Global × Vec ℕ Global) → Told
texts_by entries = map (λ entry. (string_bytes entry.0, entry.1.items)) entries

-- what a table keeps is what is seen of it
pub seen_text : {S : Type 0} (m : HashMap (String Global) (Vec ℕ Global) S) (name : List ℕ) → text_at (texts_by m.entries) name ≡ option_map (λ text. text.items) (get_by_text m name)
seen_text m name = all_seen m.entries
  where
    of_one : (b : Bool) (text : Vec ℕ Global) (o : Option (List ℕ)) (p : Option (Vec ℕ Global)) → o ≡ option_map (λ t. t.items) p → cond b (Some text.items) o ≡ option_map (λ t. t.items) (cond b (Some text) p)
    of_one true text o p e = refl
    of_one false text o p e = e

    all_seen : (entries : List (String Global × Vec ℕ Global)) → text_at (texts_by entries) name ≡ option_map (λ text. text.items) (lookup (λ key. bytes_eq name (string_bytes key)) entries)
    all_seen [] = refl
    all_seen (entry ∷ entries) =
        ap (λ b. cond b (Some entry.1.items) (text_at (texts_by entries) name)) (bytes_eq-sym (string_bytes entry.0) name)
        ∙ of_one (bytes_eq name (string_bytes entry.0)) entry.1 (text_at (texts_by entries) name) (lookup (λ key. bytes_eq name (string_bytes key)) entries) (all_seen entries)

-- what is added to a table is seen of it
pub text_added : {S : Type 0} (old new : HashMap (String Global) (Vec ℕ Global) S) (more : List ℕ) (text : Vec ℕ Global) (name : List ℕ) → get_by_text new name ≡ or_if (get_by_text old name) (bytes_eq name more) text
    → text_at (texts_by new.entries) name ≡ option_or (text_at (texts_by old.entries) name) (text_at ((more, text.items) ∷ []) name)
text_added old new more text name e =
    seen_text new name ∙ (ap (option_map (λ t. t.items)) e ∙ (by (get_by_text old name) (bytes_eq name more)
    ∙ (ap (λ b. option_or (option_map (λ t. t.items) (get_by_text old name)) (cond b (Some text.items) None)) (bytes_eq-sym name more)
    ∙ ap (λ o. option_or o (text_at ((more, text.items) ∷ []) name)) (sym (seen_text old name)))))
  where
    by : (o : Option (Vec ℕ Global)) (b : Bool) → option_map (λ t. t.items) (or_if o b text) ≡ option_or (option_map (λ t. t.items) o) (cond b (Some text.items) None)
    by (Some t) b = refl
    by None true = refl
    by None false = refl

-- ---- one more name

first_of_same : (text : List ℕ) (o : Option (List ℕ)) → Some text ≡ o → option_or o (Some text) ≡ o
first_of_same text (Some t) e = refl
first_of_same text None e = absurd cc

or_none : (o : Option (List ℕ)) → option_or o None ≡ o
or_none (Some t) = refl
or_none None = refl

or_assoc : (a b c : Bool) → (a || (b || c)) ≡ ((a || b) || c)
or_assoc true b c = refl
or_assoc false b c = refl

-- none is known before
pub cut_none : (files : Told) → IsCutTo [] files []
cut_none files name = refl

module _ (names : List (List ℕ)) (files cut : Told) (is : IsCutTo names files cut) (more : List ℕ) where
  -- a file that was read before
  pub cut_again : is_some (text_at cut more) ≡ true → IsCutTo (names ++ more ∷ []) files cut
  cut_again known name =
      is name ∙ (by (has_name names name) (bytes_eq name more) (λ e. ap (has_name names) ((bytes_eq-Decides name more).0 e) ∙ here) ∙ ap (λ b. cond b (text_at files name) None) (sym (has_name-push names more name)))
    where
      of_some : (b : Bool) (o : Option (List ℕ)) → is_some (cond b o None) ≡ true → b ≡ true
      of_some true o e = refl
      of_some false o e = absurd cc

      here : has_name names more ≡ true
      here = of_some (has_name names more) (text_at files more) (ap is_some (sym (is more)) ∙ known)

      by : (a b : Bool) → (b ≡ true → a ≡ true) → cond a (text_at files name) None ≡ cond (a || b) (text_at files name) None
      by true b h = refl
      by false true h = absurd (true≢false (sym (h refl)))
      by false false h = refl

  -- a file that doesn't exist
  pub cut_missing : None ≡ text_at files more → IsCutTo (names ++ more ∷ []) files cut
  cut_missing none name =
      is name ∙ (by (has_name names name) (bytes_eq name more) (λ e. none ∙ ap (text_at files) (sym ((bytes_eq-Decides name more).0 e))) ∙ ap (λ b. cond b (text_at files name) None) (sym (has_name-push names more name)))
    where
      by : (a b : Bool) → (b ≡ true → None ≡ text_at files name) → cond a (text_at files name) None ≡ cond (a || b) (text_at files name) None
      by true b h = refl
      by false true h = h refl
      by false false h = refl

  -- a file that exists
  pub cut_found : (text : List ℕ) (new : Told) → Some text ≡ text_at files more → ((name : List ℕ) → text_at new name ≡ option_or (text_at cut name) (text_at ((more, text) ∷ []) name))
      → IsCutTo (names ++ more ∷ []) files new
  cut_found text new found added name =
      added name ∙ (ap (λ o. option_or o (text_at ((more, text) ∷ []) name)) (is name)
      ∙ (ap (λ b. option_or (text_among names files name) (cond b (Some text) None)) (bytes_eq-sym more name)
      ∙ (by (has_name names name) (bytes_eq name more) (text_at files name) (λ e. found ∙ ap (text_at files) (sym ((bytes_eq-Decides name more).0 e))) ∙ ap (λ b. cond b (text_at files name) None) (sym (has_name-push names more name)))))
    where
      by : (a b : Bool) (o : Option (List ℕ)) → (b ≡ true → Some text ≡ o) → option_or (cond a o None) (cond b (Some text) None) ≡ cond (a || b) o None
      by true true o h = first_of_same text o (h refl)
      by true false o h = or_none o
      by false true o h = h refl
      by false false o h = refl

-- ---- the makefile that a request reads

-- the first known file has its text
pub own_known : (names others : List (List ℕ)) (files cut : Told) (name : List ℕ) → names ≡ name ∷ others → IsCutTo names files cut → text_at cut name ≡ text_at files name
own_known names others files cut name e is =
    cut_at names files cut name is (ap (λ known. has_name known name) e ∙ ap (λ b. b || has_name others name) ((bytes_eq-Decides name name).1 refl))

-- ---- lists of names

-- the names that are pushed one after another
pub all_names : (own : List ℕ) (first files last : List (List ℕ)) (none : List (String Global)) (one two three four : List (List ℕ)) (shown : List (List ℕ)) → none ≡ []
    → one ≡ map string_bytes none ++ own ∷ [] → two ≡ one ++ first → three ≡ two ++ shown → shown ≡ files → four ≡ three ++ last → four ≡ own ∷ (first ++ (files ++ last))
all_names own first files last none one two three four shown e0 e1 e2 e3 e4 e5 =
    let begun : one ≡ own ∷ [] = e1 ∙ ap (λ (l : List (String Global)). map string_bytes l ++ own ∷ []) e0 in
    let more : two ≡ own ∷ first = e2 ∙ ap (λ (l : List (List ℕ)). l ++ first) begun in
    let those : three ≡ own ∷ (first ++ files) = e3 ∙ (ap (λ (l : List (List ℕ)). two ++ l) e4 ∙ ap (λ (l : List (List ℕ)). l ++ files) more) in
    e5 ∙ (ap (λ (l : List (List ℕ)). l ++ last) those ∙ ap (λ (l : List (List ℕ)). own ∷ l) (append_assoc first files last))

-- one more of the names
pub one_more : (names : List (String Global)) (i : ℕ) (name : String Global) → i < length names → name ≡ get_or names i name
    → map string_bytes (take i names) ++ string_bytes name ∷ [] ≡ map string_bytes (take (i + 1) names)
one_more names i name low is =
    sym (ap (λ (l : List (String Global)). map string_bytes l) (take_more names i name low) ∙ (map_push string_bytes (take i names) (get_or names i name)
    ∙ ap (λ (s : String Global). map string_bytes (take i names) ++ string_bytes s ∷ []) (sym is)))

-- it is one of all names
pub is_among : (names : List (String Global)) (i : ℕ) (d : String Global) → i < length names → Has (map string_bytes names) (string_bytes (get_or names i d))
is_among [] i d low = absurd (omega arith)
is_among (name ∷ names) zero d low = inl refl
is_among (name ∷ names) (suc i) d low = inr (is_among names i d (omega arith))

-- what a table has is seen of it
pub has_text : {S : Type 0} (m : HashMap (String Global) (Vec ℕ Global) S) (name : List ℕ) → true ≡ is_some (get_by_text m name) → is_some (text_at (texts_by m.entries) name) ≡ true
has_text m name e = ap is_some (seen_text m name) ∙ (is_some-map (λ t. t.items) (get_by_text m name) ∙ sym e)

-- a failed read of one of the names
pub read_fails_among : (names : List (String Global)) (i : ℕ) (name : String Global) (shown : List ℕ) (fault : Fault) → i < length names → name ≡ get_or names i name → shown ≡ string_bytes name
    → (fault ≡ Memory) ⊎ (fault ≡ FileReadFailed shown) → IsReadFault (map string_bytes names) fault
read_fails_among names i name shown fault low is e (inl k) = inl k
read_fails_among names i name shown fault low is e (inr k) =
    inr (shown, subst (λ (n : List ℕ). Has (map string_bytes names) n) (sym (e ∙ ap string_bytes is)) (is_among names i name low), k)
