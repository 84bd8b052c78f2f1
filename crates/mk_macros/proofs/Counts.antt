-- No more than 65,536 references are counted.
use Rattle.std.proofs.Common.{◌≡◌, ℕ, zero, suc, ◌+◌, ◌<◌, ◌≤◌, Bool, true, false, cond, ltb, eqb, not, ◌||◌, List, [], ◌∷◌, Option, None, Some, Result, Ok, Err, refl, sym, ap, ◌∙◌, inl, inr, arith}
use Rattle.std.proofs.lemmas.Bool.{cases_Bool, cond-true, cond-false}
use Rattle.std.proofs.lemmas.Bool.Decides.{nat_tests}
use Rattle.mk_macros.specs.declared.fault.MacroFault.{MacroFault}
use Rattle.mk_macros.specs.declared.fault.MacroFault.TheVariants.{TooManyReferences, BadMacroName, Recursive, MemberMacro}
use Rattle.mk_macros.specs.declared.locals.Part.{Part}
use Rattle.mk_lines.specs.Names.{has_name}
use Rattle.mk_macros.specs.Names.{is_macro_name}
use Rattle.mk_macros.specs.Forms.{Form, Byte, Dollars, Reference, Endless, Lone, ReferenceParts, parse_reference, forms}
use Rattle.mk_macros.specs.Table.{Macro, macro_named}
use Rattle.mk_macros.specs.Locals.{internal_of, internal_value}
use Rattle.mk_macros.specs.Expansion.{Expanded, Scope, Deeper, ExpandedSubstitution, counted, macro_value, value_of, expand_substitution, apply_substitution, reference, given, joined, in_order, refused, expanded}
use Rattle.mk_macros.specs.Steps.{◌>>=◌}
use Rattle.mk_macros.proofs.InOrder.{expanded_is}
use Rattle.mk_macros.proofs.Splits.{err_not_ok, ok_same, step_of, follow_of}

-- an `if` that came to a value on its second branch
second : {A : Type 0} (b : Bool) (fault : MacroFault) (r : Result A MacroFault) (x : A) → cond b (Err fault) r ≡ Ok x → r ≡ Ok x
second true fault r x e = absurd (err_not_ok e)
second false fault r x e = e

counted_low : (references count : ℕ) → counted references ≡ Ok count → count ≤ 65536
counted_low references count e =
    elim (cases_Bool (ltb references 65536)) [
      | inl t ↦
          let s : references + 1 ≡ count = ok_same (sym (cond-true (ltb references 65536) (Ok (references + 1)) (Err TooManyReferences) t) ∙ e) in
          let lt = below_of references 65536 t in
          omega arith
      | inr f ↦ absurd (err_not_ok (sym (cond-false (ltb references 65536) (Ok (references + 1)) (Err TooManyReferences) f) ∙ e))
    ]
  where
    below_of : (m n : ℕ) → ltb m n ≡ true → m < n
    below_of m n e = grind (arith, nat_tests)

same_count : (count : ℕ) (made found : Expanded) → made.references ≡ count → count ≤ 65536 → ◌≡◌ {A = Result Expanded MacroFault} (Ok made) (Ok found) → found.references ≤ 65536
same_count count made found m h e = omega (arith, ap (λ (v : Expanded). v.references) (ok_same e))

module _ (scope : Scope) (deeper : Deeper) (going : List (List ℕ)) (low : (going : List (List ℕ)) (references : ℕ) (text : List ℕ) (found : Expanded) → references ≤ 65536 → deeper going references text ≡ Ok found → found.references ≤ 65536) where
  macro_low : (references : ℕ) (name : List ℕ) (macro : Option Macro) (found : Expanded) → references ≤ 65536 → macro_value deeper going references name macro ≡ Ok found → found.references ≤ 65536
  macro_low references name None found h e = same_count references _ found refl h e
  macro_low references name (Some macro) found h e = either macro.immediate e
    where
      either : (b : Bool) → cond b (Ok (record { text = macro.text; references = references; varying = false })) (deeper (name ∷ going) references macro.text) ≡ Ok found → found.references ≤ 65536
      either true e = same_count references _ found refl h e
      either false e = low (name ∷ going) references macro.text found h e

  value_low : (references : ℕ) (name : List ℕ) (internal : Option (ℕ × Part)) (found : Expanded) → value_of scope deeper going references name internal ≡ Ok found → found.references ≤ 65536
  value_low references name None found e =
      let s = second (not (is_macro_name name)) BadMacroName _ found e in
      let a = step_of (counted references) (λ count. cond (has_name going name) (Err (Recursive name)) (macro_value deeper going count name (macro_named scope.table name))) found s in
      macro_low a.0 name (macro_named scope.table name) found (counted_low references a.0 a.1) (second (has_name going name) (Recursive name) _ found a.2)
  value_low references name (Some internal) found e =
      let s = second (eqb internal.0 37) MemberMacro _ found e in
      let a = step_of (counted references) (λ count. Ok (record { text = internal_value scope.recipe internal.0 internal.1; references = count; varying = eqb internal.0 63 })) found s in
      same_count a.0 _ found refl (counted_low references a.0 a.1) a.2

  ends_low : (references : ℕ) (texts : Option (List ℕ × List ℕ)) (found : ExpandedSubstitution) → references ≤ 65536 → expand_substitution deeper going references texts ≡ Ok found → found.references ≤ 65536
  ends_low references None found h e = omega (arith, ap (λ (v : ExpandedSubstitution). v.references) (ok_same e))
  ends_low references (Some texts) found h e =
      let a = step_of (deeper going references texts.0) (λ old. deeper going old.references texts.1 >>= (λ new. Ok (record { texts = Some (old.text, new.text); references = new.references; varying = old.varying || new.varying }))) found e in
      let b = step_of (deeper going a.0.references texts.1) (λ new. Ok (record { texts = Some (a.0.text, new.text); references = new.references; varying = a.0.varying || new.varying })) found a.2 in
      let l = low going a.0.references texts.1 b.0 (low going references texts.0 a.0 h a.1) b.1 in
      omega (arith, ap (λ (v : ExpandedSubstitution). v.references) (ok_same b.2))

  reference_low : (references : ℕ) (parts : ReferenceParts) (found : Expanded) → references ≤ 65536 → reference scope deeper going references parts ≡ Ok found → found.references ≤ 65536
  unfolding reference
  reference_low references parts found h e =
      let a = step_of (deeper going references parts.name) (λ name. expand_substitution deeper going name.references parts.ends >>= (λ ends. value_of scope deeper going ends.references name.text (internal_of name.text)
      >>= (λ value. Ok (record { text = apply_substitution ends.texts value.text; references = value.references; varying = name.varying || (ends.varying || value.varying) })))) found e in
      let b = step_of (expand_substitution deeper going a.0.references parts.ends) (λ ends. value_of scope deeper going ends.references a.0.text (internal_of a.0.text)
      >>= (λ value. Ok (record { text = apply_substitution ends.texts value.text; references = value.references; varying = a.0.varying || (ends.varying || value.varying) }))) found a.2 in
      let d = step_of (value_of scope deeper going b.0.references a.0.text (internal_of a.0.text))
      (λ value. Ok (record { text = apply_substitution b.0.texts value.text; references = value.references; varying = a.0.varying || (b.0.varying || value.varying) })) found b.2 in
      same_count d.0.references _ found refl (value_low b.0.references a.0.text (internal_of a.0.text) d.0 d.1) d.2

  given_low : (references : ℕ) (form : Form) (found : Expanded) → references ≤ 65536 → given scope deeper going references form ≡ Ok found → found.references ≤ 65536
  given_low references (Byte b) found h e = same_count references _ found refl h e
  given_low references Dollars found h e = same_count references _ found refl h e
  given_low references Lone found h e = absurd (err_not_ok e)
  given_low references Endless found h e = absurd (err_not_ok e)
  given_low references (Reference inside) found h e =
      let a = step_of (parse_reference inside) (reference scope deeper going references) found e in
      reference_low references a.0 found h a.2

  order_low : (before found : Expanded) (rest : List Form) → before.references ≤ 65536 → in_order (given scope deeper going) before rest ≡ Ok found → found.references ≤ 65536
  unfolding in_order
  order_low before found [] h e = same_count before.references before found refl h e
  order_low before found (form ∷ rest) h e =
      let a = follow_of (given scope deeper going) before found form rest e in
      order_low (joined before a.0) found rest (given_low before.references form a.0 h a.1) a.3

pub counts_low : (levels : ℕ) (scope : Scope) (going : List (List ℕ)) (references : ℕ) (text : List ℕ) (found : Expanded) → references ≤ 65536 → expanded levels scope going references text ≡ Ok found → found.references ≤ 65536
counts_low zero scope going references text found h e =
    order_low scope refused going (λ going references text found h e. absurd (err_not_ok e)) (record { text = []; references = references; varying = false }) found (forms text) h (sym (expanded_is zero scope going references text) ∙ e)
counts_low (suc levels) scope going references text found h e =
    order_low scope (expanded levels scope) going (counts_low levels scope) (record { text = []; references = references; varying = false }) found (forms text) h (sym (expanded_is (suc levels) scope going references text) ∙ e)
