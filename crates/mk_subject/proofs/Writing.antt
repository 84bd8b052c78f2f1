-- Tables of who writes a file, as nodes and their files are added.
use Rattle.std.proofs.Common.{◌≡◌, ℕ, ◌+◌, ◌<◌, Bool, true, false, ◌||◌, cond, List, [], ◌∷◌, ◌++◌, length, get_or, map, take, refl, sym, ap, ◌∙◌, append-nil}
use Rattle.std.specs.Prelude.{filter}
use Rattle.std.specs.Str.{bytes_eq}
use Rattle.std.proofs.lemmas.List.{take_more, map-append}
use Rattle.std.proofs.lemmas.List.Elements.{filter_more}
use Rattle.mk_infer.proofs.TableLemmas.{at_name}
use Rattle.mk_lines.proofs.NameTests.{has_name-or_equal, has_name-push}
use Rattle.mk_lines.specs.Names.{has_name}
use Rattle.mk_subject.specs.NodeRow.{NodeRow, row_writes}

-- which files stand among those up to a place
stands_more : (files : List (List ℕ)) (i : ℕ) (name : List ℕ) → i < length files → has_name (take (i + 1) files) name ≡ (has_name (take i files) name || bytes_eq name (get_or files i []))
stands_more files i name lt = ap (λ ns. has_name ns name) (take_more files i [] lt) ∙ has_name-push (take i files) (get_or files i []) name

-- a file that stood before changes nothing
pub noted_same : (files : List (List ℕ)) (i : ℕ) (name : List ℕ) (numbers old : List ℕ) (number : ℕ) → i < length files → has_name (take i files) (get_or files i []) ≡ true
    → numbers ≡ cond (has_name (take i files) name) (old ++ number ∷ []) old → numbers ≡ cond (has_name (take (i + 1) files) name) (old ++ number ∷ []) old
noted_same files i name numbers old number lt there h =
    let x = get_or files i [] in
    let same : has_name (take i files) name ≡ has_name (take (i + 1) files) name = has_name-or_equal (take i files) x name there (bytes_eq name x) refl ∙ sym (stands_more files i name lt) in
    h ∙ ap (λ b. cond b (old ++ number ∷ []) old) same

pub noted_more : (files : List (List ℕ)) (i : ℕ) (name : List ℕ) (before after old : List ℕ) (number : ℕ) → i < length files → has_name (take i files) (get_or files i []) ≡ false
    → before ≡ cond (has_name (take i files) name) (old ++ number ∷ []) old → after ≡ cond (bytes_eq name (get_or files i [])) (before ++ number ∷ []) before → after ≡ cond (has_name (take (i + 1) files) name) (old ++ number ∷ []) old
noted_more files i name before after old number lt unseen h k =
    let x = get_or files i [] in
    k ∙ (at_name (take i files) x name old number before unseen h (bytes_eq name x) refl ∙ ap (λ b. cond b (old ++ number ∷ []) old) (sym (stands_more files i name lt)))

-- one node more
pub writing_more : (entries : List NodeRow) (i : ℕ) (d : NodeRow) (name : List ℕ) (before after : List ℕ) → after ≡ cond (has_name (row_writes (get_or entries i d)) name) (before ++ (get_or entries i d).number ∷ []) before
    → before ≡ map (λ (e : NodeRow). e.number) (filter (λ (e : NodeRow). has_name (row_writes e) name) (take i entries)) → i < length entries
    → after ≡ map (λ (e : NodeRow). e.number) (filter (λ (e : NodeRow). has_name (row_writes e) name) (take (i + 1) entries))
writing_more entries i d name before after e h lt =
    let test : NodeRow → Bool = λ entry. has_name (row_writes entry) name in
    let number : NodeRow → ℕ = λ entry. entry.number in
    let this = get_or entries i d in
    e ∙ (at (test this) ∙ (ap (λ ls. ls ++ map number (cond (test this) (this ∷ []) [])) h ∙ (sym (map-append number (filter test (take i entries)) (cond (test this) (this ∷ []) [])) ∙ ap (map number) (sym (filter_more test entries i d lt)))))
  where
    at : (b : Bool) → cond b (before ++ (get_or entries i d).number ∷ []) before ≡ before ++ map (λ (k : NodeRow). k.number) (cond b (get_or entries i d ∷ []) [])
    at true = refl
    at false = sym (append-nil before)
