-- Nodes that are printed in sequence, each with its commands.
use Rattle.std.proofs.Common.{◌≡◌, ℕ, ◌+◌, ◌<◌, ◌≤◌, List, [], ◌∷◌, ◌++◌, length, get_or, drop, Result, Ok, Err, inl, inr, refl, sym, ap, ◌∙◌, append-nil, append_assoc}
use Rattle.std.proofs.lemmas.List.{drop_more, drop_all}
use Rattle.mk_graph.specs.Graph.{Graph}
use Rattle.mk_infer.specs.declared.fault.InferFault.{InferFault}
use Rattle.mk_core_text.specs.GraphText.{nodes_text, shown_node}
use Rattle.mk_infer.specs.Steps.{◌>>=◌, Fails}

-- what was printed before, and what is then
abbrev pub behind : List ℕ → Result (List ℕ) InferFault → Result (List ℕ) InferFault
behind done (Ok rest) = Ok (done ++ rest)
behind done (Err fault) = Err fault

-- nothing before
pub behind_none : (r : Result (List ℕ) InferFault) → behind [] r ≡ r
behind_none (Ok rest) = refl
behind_none (Err fault) = refl

the_text : Result (List ℕ) InferFault → List ℕ
the_text (Ok text) = text
the_text (Err fault) = []

module _ (lines_for : List ℕ → Result (List (List ℕ)) InferFault) (g : Graph) where
  abbrev shown : ℕ → Result (List ℕ) InferFault
  shown n = shown_node lines_for g n

  -- the first node and the rest
  first_of : (done : List ℕ) (n : ℕ) (rest : List ℕ) (text : List ℕ) → shown n ≡ Ok text → behind done (nodes_text lines_for g (n ∷ rest)) ≡ behind (done ++ text) (nodes_text lines_for g rest)
  unfolding nodes_text the_text
  first_of done n rest text h = by (shown n) h (nodes_text lines_for g rest)
    where
      by : (r : Result (List ℕ) InferFault) → r ≡ Ok text → (after : Result (List ℕ) InferFault) → behind done (r >>= λ first. (after >>= λ more. Ok (first ++ more))) ≡ behind (done ++ text) after
      by (Ok found) k (Ok more) =
          let is : found ≡ text = ap the_text k in
          ap (λ (xs : List ℕ). Ok xs) (ap (λ (xs : List ℕ). done ++ (xs ++ more)) is ∙ sym (append_assoc done text more))
      by (Ok found) k (Err fault) = refl
      by (Err fault) k after = absurd cc

  -- one node more
  pub nodes_more : (done : List ℕ) (ns : List ℕ) (i d : ℕ) (text : List ℕ) (whole : Result (List ℕ) InferFault) → shown (get_or ns i d) ≡ Ok text
      → behind done (nodes_text lines_for g (drop i ns)) ≡ whole → i < length ns → behind (done ++ text) (nodes_text lines_for g (drop (i + 1) ns)) ≡ whole
  nodes_more done ns i d text whole h so_far lt =
      sym (ap (λ rest. behind done (nodes_text lines_for g rest)) (drop_more ns i d lt) ∙ first_of done (get_or ns i d) (drop (i + 1) ns) text h) ∙ so_far

  -- a node whose commands can't be expanded
  pub nodes_fail : (done : List ℕ) (ns : List ℕ) (i d : ℕ) (fault : InferFault) (whole : Result (List ℕ) InferFault) → Fails fault (shown (get_or ns i d))
      → behind done (nodes_text lines_for g (drop i ns)) ≡ whole → i < length ns → Fails fault whole
  unfolding nodes_text
  nodes_fail done ns i d fault whole (inl memory) so_far lt = inl memory
  nodes_fail done ns i d fault whole (inr h) so_far lt =
      inr (sym so_far ∙ (ap (λ rest. behind done (nodes_text lines_for g rest)) (drop_more ns i d lt) ∙ by (shown (get_or ns i d)) h))
    where
      by : (r : Result (List ℕ) InferFault) → r ≡ Err fault → behind done (r >>= λ first. (nodes_text lines_for g (drop (i + 1) ns) >>= λ more. Ok (first ++ more))) ≡ Err fault
      by (Ok found) k = absurd cc
      by (Err other) k = let same : other ≡ fault = cc in ap (λ (f : InferFault). Err f) same

  -- no node more
  pub nodes_end : (done : List ℕ) (ns : List ℕ) (i : ℕ) (whole : Result (List ℕ) InferFault) → behind done (nodes_text lines_for g (drop i ns)) ≡ whole → length ns ≤ i → whole ≡ Ok done
  unfolding nodes_text
  nodes_end done ns i whole so_far le = sym so_far ∙ (ap (λ rest. behind done (nodes_text lines_for g rest)) (drop_all i ns le) ∙ ap (λ (xs : List ℕ). Ok xs) (append-nil done))
