-- Commands that are expanded one after another.
use Rattle.std.proofs.Common.{◌≡◌, ℕ, ◌+◌, ◌<◌, ◌≤◌, Bool, true, false, ◌||◌, List, [], ◌∷◌, ◌++◌, length, get_or, drop, Option, Result, Ok, Err, inl, inr, refl, sym, ap, ◌∙◌, append-nil, append_assoc}
use Rattle.std.proofs.lemmas.List.{drop_more, drop_all}
use mathlib.Core.Bool.{or_assoc}
use Rattle.mk_macros.specs.Expansion.{Expanded, expansion, text_and_variation}
use Rattle.mk_macros.specs.Locals.{Recipe}
use Rattle.mk_macros.specs.Table.{Macro}
use Rattle.mk_macros.specs.declared.fault.MacroFault.{MacroFault}
use Rattle.mk_read.specs.State.{Command}
use Rattle.mk_infer.specs.declared.fault.InferFault.{InferFault}
use Rattle.mk_infer.specs.declared.fault.InferFault.TheVariants.{Macro as Unexpanded}
use Rattle.mk_infer.specs.Commands.{Commands, expanded}
use Rattle.mk_infer.specs.Steps.{◌>>=◌, Fails, at_place}

-- what was expanded before, and what is then
abbrev pub behind : List (List ℕ) → Bool → Result Commands InferFault → Result Commands InferFault
behind lines varying (Ok rest) = Ok (record { lines = lines ++ rest.lines; varying = varying || rest.varying })
behind lines varying (Err fault) = Err fault

-- the text and whether it varies
the_pair : Result (List ℕ × Bool) InferFault → List ℕ × Bool
the_pair (Ok pair) = pair
the_pair (Err fault) = ([], false)

module _ (macros : List Macro) (recipe : Option Recipe) where
  abbrev of_command : Command → Result (List ℕ × Bool) InferFault
  of_command command = at_place command.place (text_and_variation (expansion macros recipe command.text))

  -- the first command and the rest
  first_of : (lines : List (List ℕ)) (varying : Bool) (command : Command) (rest : List Command) (line : List ℕ) (varies : Bool) → of_command command ≡ Ok (line, varies)
      → behind lines varying (expanded macros recipe (command ∷ rest)) ≡ behind (lines ++ line ∷ []) (varying || varies) (expanded macros recipe rest)
  unfolding expanded the_pair
  first_of lines varying command rest line varies h = by (expansion macros recipe command.text) h (expanded macros recipe rest)
    where
      by : (r : Result Expanded MacroFault) → at_place command.place (text_and_variation r) ≡ Ok (line, varies) → (after : Result Commands InferFault)
          → behind lines varying (at_place command.place r >>= λ first. (after >>= λ more. Ok (record { lines = first.text ∷ more.lines; varying = first.varying || more.varying }))) ≡ behind (lines ++ line ∷ []) (varying || varies) after
      by (Ok found) k (Ok more) =
          let is_line : found.text ≡ line = ap (λ (r : Result (List ℕ × Bool) InferFault). (the_pair r).0) k in
          let is_varying : found.varying ≡ varies = ap (λ (r : Result (List ℕ × Bool) InferFault). (the_pair r).1) k in
          let all_lines : lines ++ found.text ∷ more.lines ≡ (lines ++ line ∷ []) ++ more.lines = ap (λ (x : List ℕ). lines ++ x ∷ more.lines) is_line ∙ sym (append_assoc lines (line ∷ []) more.lines) in
          let any : (varying || (found.varying || more.varying)) ≡ ((varying || varies) || more.varying) = ap (λ b. varying || (b || more.varying)) is_varying ∙ sym (or_assoc varying varies more.varying) in
          ap (λ (xs : List (List ℕ)). let c : Commands = record { lines = xs; varying = varying || (found.varying || more.varying) } in Ok c) all_lines
          ∙ ap (λ (b : Bool). let c : Commands = record { lines = (lines ++ line ∷ []) ++ more.lines; varying = b } in Ok c) any
      by (Ok found) k (Err fault) = refl
      by (Err fault) k after = absurd cc

  -- one command more
  pub commands_more : (lines : List (List ℕ)) (varying : Bool) (commands : List Command) (i : ℕ) (d : Command) (line : List ℕ) (varies : Bool) (whole : Result Commands InferFault) → of_command (get_or commands i d) ≡ Ok (line, varies)
      → behind lines varying (expanded macros recipe (drop i commands)) ≡ whole → i < length commands → behind (lines ++ line ∷ []) (varying || varies) (expanded macros recipe (drop (i + 1) commands)) ≡ whole
  commands_more lines varying commands i d line varies whole h so_far lt =
      sym (ap (λ cs. behind lines varying (expanded macros recipe cs)) (drop_more commands i d lt) ∙ first_of lines varying (get_or commands i d) (drop (i + 1) commands) line varies h) ∙ so_far

  -- a command that can't be expanded
  pub commands_fail : (lines : List (List ℕ)) (varying : Bool) (commands : List Command) (i : ℕ) (d : Command) (fault : InferFault) (whole : Result Commands InferFault) → Fails fault (of_command (get_or commands i d))
      → behind lines varying (expanded macros recipe (drop i commands)) ≡ whole → i < length commands → Fails fault whole
  unfolding expanded
  commands_fail lines varying commands i d fault whole (inl memory) so_far lt = inl memory
  commands_fail lines varying commands i d fault whole (inr h) so_far lt =
      inr (sym so_far ∙ (ap (λ cs. behind lines varying (expanded macros recipe cs)) (drop_more commands i d lt) ∙ by (expansion macros recipe (get_or commands i d).text) h))
    where
      by : (r : Result Expanded MacroFault) → at_place (get_or commands i d).place (text_and_variation r) ≡ Err fault
          → behind lines varying (at_place (get_or commands i d).place r >>= λ first. (expanded macros recipe (drop (i + 1) commands) >>= λ more. Ok (record { lines = first.text ∷ more.lines; varying = first.varying || more.varying }))) ≡ Err fault
      by (Ok found) k = absurd cc
      by (Err other) k = let same : Unexpanded (get_or commands i d).place other ≡ fault = cc in ap (λ (f : InferFault). Err f) same

  -- no command more
  pub commands_end : (lines : List (List ℕ)) (varying : Bool) (commands : List Command) (i : ℕ) (whole : Result Commands InferFault) → behind lines varying (expanded macros recipe (drop i commands)) ≡ whole → length commands ≤ i
      → whole ≡ Ok (record { lines = lines; varying = varying })
  unfolding expanded
  commands_end lines varying commands i whole so_far le =
      sym so_far ∙ (ap (λ cs. behind lines varying (expanded macros recipe cs)) (drop_all i commands le)
      ∙ (ap (λ (xs : List (List ℕ)). let c : Commands = record { lines = xs; varying = varying || false } in Ok c) (append-nil lines) ∙ ap (λ (b : Bool). let c : Commands = record { lines = lines; varying = b } in Ok c) (or_none varying)))
    where
      or_none : (b : Bool) → (b || false) ≡ b
      or_none true = refl
      or_none false = refl
