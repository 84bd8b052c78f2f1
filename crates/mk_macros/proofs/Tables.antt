-- Macro tables, by the entries of the code's.
use Rattle.std.proofs.Common.{◌≡◌, ℕ, Bool, true, false, cond, List, [], ◌∷◌, ◌++◌, Option, Some, None, refl, sym, ap, ◌∙◌}
use Rattle.std.specs.Prelude.{Vec}
use Rattle.std.specs.Borrow.{Bor}
use Rattle.std.specs.Map.{lookup, set_value}
use Rattle.std.specs.List.{find}
use Rattle.std.specs.Option.{option_map, option_copied}
use Rattle.std.specs.Str.{bytes_eq}
use Rattle.std.specs.declared.alloc.Global.{Global}
use Rattle.std.proofs.lemmas.Slice.Eq.{bytes_eq-Decides}
use Rattle.indexmap.specs.IndexMap.{insert_entry}
use Rattle.mk_macros.specs.declared.table.Macro as code
use Rattle.mk_macros.specs.Table.{Macro, is_called, with_macro, with_text_behind, macro_named}
use Rattle.mk_macros.specs.Views.{macro_of, entry_view}
use Rattle.std.specs.Prelude.{map}

-- keys differ where their bytes differ
abbrev pub same_key : Vec ℕ Global → Vec ℕ Global → Bool
same_key a b = bytes_eq a.items b.items

-- what is found by a name
found : (name : List ℕ) (es : List (Vec ℕ Global × code.Macro)) → option_map (macro_of name) (lookup (λ (key : Vec ℕ Global). bytes_eq name key.items) es) ≡ find (is_called name) (map entry_view es)
found name [] = refl
found name (e ∷ es) = at (bytes_eq name e.0.items) refl (found name es)
  where
    at : (b : Bool) → bytes_eq name e.0.items ≡ b → option_map (macro_of name)
        (lookup (λ (key : Vec ℕ Global). bytes_eq name key.items) es)
        ≡ find (is_called name) (map entry_view es) → option_map (macro_of name)
        (cond b (Some e.1) (lookup (λ (key : Vec ℕ Global). bytes_eq name key.items) es))
        ≡ cond b (Some (entry_view e)) (find (is_called name) (map entry_view es))
    at true t h = ap (λ (n : List ℕ). Some (macro_of n e.1)) ((bytes_eq-Decides name e.0.items).0 t)
    at false f h = h

-- the same, of what a look-up lends
pub found_lent : (name : List ℕ) (es : List (Vec ℕ Global × code.Macro)) (r : Option (Bor code.Macro)) (table : List Macro) → option_copied r ≡ lookup (λ (key : Vec ℕ Global). bytes_eq name key.items) es → map entry_view es ≡ table
    → option_map (λ (lent : Bor code.Macro). macro_of name lent.now) r ≡ find (is_called name) table
found_lent name es r table e v = lent r ∙ (ap (option_map (macro_of name)) e ∙ (found name es ∙ ap (find (is_called name)) v))
  where
    lent : (o : Option (Bor code.Macro)) → option_map (λ (x : Bor code.Macro). macro_of name x.now) o ≡ option_map (macro_of name) (option_copied o)
    lent (Some x) = refl
    lent None = refl

-- a macro that is put
put : (key : Vec ℕ Global) (x : code.Macro) (es : List (Vec ℕ Global × code.Macro)) → map entry_view (insert_entry same_key es key x) ≡ with_macro (map entry_view es) (macro_of key.items x)
unfolding with_macro
put key x [] = refl
put key x (e ∷ es) = at (bytes_eq key.items e.0.items) refl (put key x es)
  where
    at : (b : Bool) → bytes_eq key.items e.0.items ≡ b → map entry_view (insert_entry same_key es key x)
        ≡ with_macro (map entry_view es) (macro_of key.items x)
        → map entry_view (cond b ((e.0, x) ∷ es) (e ∷ insert_entry same_key es key x))
        ≡ cond b (macro_of key.items x ∷ map entry_view es)
        (entry_view e ∷ with_macro (map entry_view es) (macro_of key.items x))
    at true t h = ap (λ (n : List ℕ). macro_of n x ∷ map entry_view es) (sym ((bytes_eq-Decides key.items e.0.items).0 t))
    at false f h = ap (λ (ms : List Macro). entry_view e ∷ ms) h

pub put_named : (name : List ℕ) (key : Vec ℕ Global) (x : code.Macro) (es after : List (Vec ℕ Global × code.Macro)) (table : List Macro) → key.items ≡ name → after ≡ insert_entry same_key es key x → map entry_view es ≡ table
    → map entry_view after ≡ with_macro table (macro_of name x)
put_named name key x es after table k e v = ap (map entry_view) e ∙ (put key x es ∙ (ap (λ (n : List ℕ). with_macro (map entry_view es) (macro_of n x)) k ∙ ap (λ (ms : List Macro). with_macro ms (macro_of name x)) v))

abbrev called : List ℕ → Vec ℕ Global → Bool
called name key = bytes_eq name key.items

-- a macro that is written where it was found
written : (name : List ℕ) (es : List (Vec ℕ Global × code.Macro)) (x w : code.Macro) → lookup (called name) es ≡ Some x → map entry_view (set_value (called name) es w) ≡ with_macro (map entry_view es) (macro_of name w)
unfolding with_macro
written name [] x w h = absurd cc
written name (e ∷ es) x w h = at (bytes_eq name e.0.items) refl h (written name es x w)
  where
    at : (b : Bool) → bytes_eq name e.0.items ≡ b → cond b (Some e.1) (lookup (called name) es) ≡ Some x → (lookup (called name) es ≡ Some x → map entry_view (set_value (called name) es w) ≡ with_macro (map entry_view es) (macro_of name w))
        → map entry_view (cond b ((e.0, w) ∷ es) (e ∷ set_value (called name) es w)) ≡ cond b (macro_of name w ∷ map entry_view es) (entry_view e ∷ with_macro (map entry_view es) (macro_of name w))
    at true t k ih = ap (λ (n : List ℕ). macro_of n w ∷ map entry_view es) (sym ((bytes_eq-Decides name e.0.items).0 t))
    at false f k ih = ap (λ (ms : List Macro). entry_view e ∷ ms) (ih k)

-- the same macro in its place changes nothing
with_same : (name : List ℕ) (table : List Macro) (macro : Macro) → macro.name ≡ name → find (is_called name) table ≡ Some macro → with_macro table macro ≡ table
unfolding with_macro
with_same name [] macro n h = absurd cc
with_same name (other ∷ table) macro n h = ap (λ (k : List ℕ). cond (is_called k other) (macro ∷ table) (other ∷ with_macro table macro)) n ∙ at (is_called name other) h (with_same name table macro n)
  where
    at : (b : Bool) → cond b (Some other) (find (is_called name) table) ≡ Some macro → (find (is_called name) table ≡ Some macro → with_macro table macro ≡ table) → cond b (macro ∷ table) (other ∷ with_macro table macro) ≡ other ∷ table
    at true k ih = let e : other ≡ macro = cc in ap (λ (m : Macro). m ∷ table) (sym e)
    at false k ih = ap (λ (ms : List Macro). other ∷ ms) (ih k)

-- a macro that was found, seen by name
found_as : (name : List ℕ) (es : List (Vec ℕ Global × code.Macro)) (x : code.Macro) (table : List Macro) → lookup (called name) es ≡ Some x → map entry_view es ≡ table → macro_named table name ≡ Some (macro_of name x)
found_as name es x table h v = sym (ap (option_map (macro_of name)) (sym h) ∙ (found name es ∙ ap (find (is_called name)) v))

-- a write that leaves the text
pub written_same : (name : List ℕ) (es after : List (Vec ℕ Global × code.Macro)) (x w : code.Macro) (table : List Macro) → after ≡ set_value (called name) es w → lookup (called name) es ≡ Some x → map entry_view es ≡ table
    → macro_of name w ≡ macro_of name x → map entry_view after ≡ table
written_same name es after x w table e h v same =
    ap (map entry_view) e ∙ (written name es x w h ∙ (ap (with_macro (map entry_view es)) same ∙ (ap (λ (ms : List Macro). with_macro ms (macro_of name x)) v ∙ with_same name table (macro_of name x) refl (found_as name es x table h v))))

-- a write that puts more text behind it
pub written_more : (name more : List ℕ) (es after : List (Vec ℕ Global × code.Macro)) (x w : code.Macro) (table : List Macro) → after ≡ set_value (called name) es w → lookup (called name) es ≡ Some x → map entry_view es ≡ table
    → macro_of name w ≡ record (macro_of name x) { text = x.text.items ++ 32 ∷ more } → map entry_view after ≡ with_text_behind table more (macro_named table name)
written_more name more es after x w table e h v grown =
    ap (map entry_view) e ∙ (written name es x w h ∙ (ap (with_macro (map entry_view es)) grown ∙ (ap (λ (ms : List Macro). with_macro ms (record (macro_of name x) { text = x.text.items ++ 32 ∷ more })) v ∙ ap (with_text_behind table more) (sym (found_as name es x table h v)))))

-- nothing is found, and nothing written
pub none_written : (name more : List ℕ) (es after : List (Vec ℕ Global × code.Macro)) (table : List Macro) → after ≡ es → lookup (called name) es ≡ None → map entry_view es ≡ table → map entry_view after ≡ with_text_behind table more (macro_named table name)
none_written name more es after table e h v =
    let none : macro_named table name ≡ None = sym (ap (option_map (macro_of name)) (sym h) ∙ (found name es ∙ ap (find (is_called name)) v)) in
    ap (map entry_view) e ∙ (v ∙ ap (with_text_behind table more) (sym none))

-- a macro with the same text
pub text_same : (name : List ℕ) (x w : code.Macro) → w.text.items ≡ x.text.items → macro_of name (record x { text = w.text }) ≡ macro_of name x
text_same name x w e = ap (λ (t : List ℕ). record (macro_of name x) { text = t }) e
