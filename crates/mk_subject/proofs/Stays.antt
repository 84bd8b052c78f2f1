-- Where all that recipes write is there before a make, no choice changes.
use Rattle.std.proofs.Common.{◌≡◌, ◌∙◌, ℕ, ◌+◌, ◌<◌, length, get_or, map, take, append-nil, Bool, true, false, ◌||◌, ◌&&◌, cond, List, [], ◌++◌, ◌∷◌, Option, None, refl, sym, ap, subst, ⊎_elim}
use Rattle.std.specs.Prelude.{find}
use Rattle.std.specs.Option.{option_map}
use Rattle.std.specs.List.{flat_map}
use Rattle.std.proofs.lemmas.Bool.{cases_Bool}
use Rattle.std.proofs.lemmas.Grind.{flat_map-append}
use Rattle.std.proofs.lemmas.List.{map_push, take_more}
use Rattle.mk_lemmas.proofs.Members.{Has-cases}
use Rattle.mk_lines.specs.Names.{has_name}
use Rattle.mk_graph.specs.Membership.{Has}
use Rattle.mk_read.specs.Reading.{Makefile}
use Rattle.mk_read.specs.Rules.{has_some}
use Rattle.mk_infer.specs.Inference.{choice, commands_from, may_infer, stem}
use Rattle.mk_infer.specs.Laws.{with_more}
use Rattle.mk_infer.specs.Targets.{is_target}
use Rattle.mk_infer.specs.There.{Exists, is_there}
use Rattle.mk_subject.proofs.Decided.{has_decides}
use Rattle.mk_subject.proofs.Rows.{in_push}

last_is_true : (a b c : Bool) → (a || (b || (c || true))) ≡ true
last_is_true true b c = refl
last_is_true false true c = refl
last_is_true false false true = refl
last_is_true false false false = refl

-- as much is there with these names more, which are there already
pub same_there : (m : Makefile) (e : Exists) (names : List (List ℕ)) → e.more ≡ [] → ((f : List ℕ) → Has names f → is_there m e f ≡ true) → (f : List ℕ) → is_there m (with_more e names) f ≡ is_there m e f
same_there m e names none there f =
    let at : Bool → Bool = λ (b : Bool). has_name e.sources f || (has_name e.texts f || (is_target m f || b)) in
    ⊎_elim
    (λ t. ap at t ∙ (last_is_true (has_name e.sources f) (has_name e.texts f) (is_target m f) ∙ sym (there f ((has_decides names f).0 t))))
    (λ out. ap at out ∙ sym (ap (λ (more : List (List ℕ)). at (has_name more f)) none))
    (cases_Bool (has_name names f))

-- so the choice is the same
pub same_choice : (m : Makefile) (e : Exists) (names : List (List ℕ)) (name : List ℕ) → ((f : List ℕ) → is_there m (with_more e names) f ≡ is_there m e f) → choice m (with_more e names) name ≡ choice m e name
unfolding choice
same_choice m e names name same =
    let by : (List ℕ → Bool) → Option (List ℕ) = λ (there : List ℕ → Bool). option_map (λ suffix. stem m name ++ suffix) (cond (may_infer m e name) (find (λ suffix. has_some (commands_from m name suffix) && there (stem m name ++ suffix)) m.suffixes) None) in
    ap by (λ i f. same f i)

-- a target is there, and so is a source
pub target_there : (m : Makefile) (e : Exists) (f : List ℕ) → is_target m f ≡ true → is_there m e f ≡ true
target_there m e f t = ap (λ (b : Bool). has_name e.sources f || (has_name e.texts f || (b || has_name e.more f))) t ∙ either (has_name e.sources f) (has_name e.texts f)
  where
    either : (a b : Bool) → (a || (b || true)) ≡ true
    either true b = refl
    either false true = refl
    either false false = refl

pub source_there : (m : Makefile) (e : Exists) (f : List ℕ) → has_name e.sources f ≡ true → is_there m e f ≡ true
source_there m e f t = ap (λ (b : Bool). b || (has_name e.texts f || (is_target m f || has_name e.more f))) t

-- what stands among the first of a list and one more
module _ {A : Type 0} where
  pub in_more : (P : List ℕ → Type 0) (view : A → List ℕ) (files : List A) (i : ℕ) (d : A) (x : List ℕ) → i < length files → x ≡ view (get_or files i d) → P x → ((f : List ℕ) → Has (map view (take i files)) f → P f) → (f : List ℕ) → Has (map view (take (i + 1) files)) f → P f
  in_more P view files i d x lt same here before f h =
      let more : map view (take (i + 1) files) ≡ map view (take i files) ++ x ∷ [] = ap (map view) (take_more files i d lt) ∙ (map_push view (take i files) (get_or files i d) ∙ ap (λ (y : List ℕ). map view (take i files) ++ y ∷ []) (sym same)) in
      ⊎_elim (λ early. before f early) (λ now. subst P now here) (in_push (map view (take i files)) x f (subst (λ (l : List (List ℕ)). Has l f) more h))

-- and of lists one behind another
pub in_lists : (P : List ℕ → Type 0) (of : ℕ → List (List ℕ)) (ns : List ℕ) (i d : ℕ) → i < length ns → ((f : List ℕ) → Has (of (get_or ns i d)) f → P f) → ((f : List ℕ) → Has (flat_map of (take i ns)) f → P f) → (f : List ℕ) → Has (flat_map of (take (i + 1) ns)) f → P f
in_lists P of ns i d lt here before f h =
    let more : flat_map of (take (i + 1) ns) ≡ flat_map of (take i ns) ++ (of (get_or ns i d) ++ []) = ap (flat_map of) (take_more ns i d lt) ∙ flat_map-append of (take i ns) (get_or ns i d ∷ []) in
    ⊎_elim (λ early. before f early) (λ now. here f (subst (λ (l : List (List ℕ)). Has l f) (append-nil (of (get_or ns i d))) now)) (Has-cases (flat_map of (take i ns)) (of (get_or ns i d) ++ []) f (subst (λ (l : List (List ℕ)). Has l f) more h))
