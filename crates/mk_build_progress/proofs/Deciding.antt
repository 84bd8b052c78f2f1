-- A recipe must run, or it need not.
use Rattle.std.proofs.Common.{◌≡◌, ℕ, ◌<◌, List, [], ◌∷◌, Bool, true, Option, Some, None, ◌⊎◌, inl, inr, ⊎_elim, refl, sym, ◌∙◌, ap, subst, arith}
use Rattle.std.specs.Prelude.{ltb}
use Rattle.std.specs.Option.{option_map}
use Rattle.std.proofs.lemmas.Bool.{cases_Bool, true≢false}
use Rattle.std.proofs.lemmas.Bool.Decides.{Decides-ltb}
use Rattle.mk_graph.specs.Membership.{Has}
use Rattle.mk_graph.specs.Graph.{Graph, node, prerequisites}
use Rattle.mk_build.specs.Setting.{FileName, name, IsAlwaysMade}
use Rattle.mk_build.specs.World.{File, Disk, HasStamp}
use Rattle.mk_build.specs.Steps.{MustRun}
use Rattle.mk_build.proofs.Writing.{one_stamp}

-- it holds, or it doesn't
abbrev pub Decided : Type 0 → Type 0
Decided P = P ⊎ (¬ P)

-- a truth value is true or isn't
is_true : (b : Bool) → Decided (b ≡ true)
is_true b = ⊎_elim (λ yes. inl yes) (λ no. inr (λ yes. true≢false (sym yes ∙ no))) (cases_Bool b)

-- a number is less or isn't
is_less : (a b : ℕ) → Decided (a < b)
is_less a b = ⊎_elim (λ yes. inl ((Decides-ltb a b).0 yes)) (λ no. inr (λ less. true≢false (sym ((Decides-ltb a b).1 less) ∙ no))) (cases_Bool (ltb a b))

-- one of a list is so, or none is
one_or_none : (P : ℕ → Type 0) → ((n : ℕ) → Decided (P n)) → (ns : List ℕ) → ((p : ℕ) × Has ns p × P p) ⊎ ((p : ℕ) → Has ns p → ¬ (P p))
one_or_none P decide [] = inr (λ p h. absurd h)
one_or_none P decide (n ∷ ns) =
    ⊎_elim (λ yes. inl (n, inl refl, yes)) (λ no. ⊎_elim (λ one. inl (one.0, inr one.1, one.2)) (λ none. inr (λ p h. ⊎_elim (λ here. subst (λ (k : ℕ). ¬ (P k)) here no) (λ there. none p there) h)) (one_or_none P decide ns)) (decide n)

-- a file is later than a stamp
abbrev IsLater : Disk → ℕ → FileName → Type 0
IsLater d stamp f = (later : ℕ) × HasStamp d f later × (stamp < later)

-- it is later, or it isn't
is_later : (d : Disk) (stamp : ℕ) (f : FileName) → Decided (IsLater d stamp f)
is_later d stamp f = cases (d.files f) refl where
  cases : (o : Option File) → d.files f ≡ o → Decided (IsLater d stamp f)
  cases None e = inr (λ late. let both : Some late.0 ≡ None = sym late.1 ∙ ap (λ (o : Option File). option_map (λ (y : File). y.stamp) o) e in absurd (cc))
  cases (Some file) e =
      let has : HasStamp d f file.stamp = ap (λ (o : Option File). option_map (λ (y : File). y.stamp) o) e in
      ⊎_elim (λ less. inl (file.stamp, has, less)) (λ no. inr (λ late. no (let same = one_stamp d f late.0 file.stamp late.1 has in let less = late.2 in omega arith))) (is_less stamp file.stamp)

module _ (g : Graph) (d : Disk) (t : ℕ) where
  -- it is always made, or it isn't
  always_or_not : Decided (IsAlwaysMade g t)
  always_or_not =
      ⊎_elim (λ own. inl (inl own)) (λ no. ⊎_elim (λ one. inl (inr one)) (λ none. inr (λ always. ⊎_elim (λ own. no own) (λ one. none one.0 one.1 one.2) always)) (one_or_none (λ p. (node g p).phony ≡ true) (λ p. is_true (node g p).phony) (prerequisites g t))) (is_true (node g t).phony)

  -- it must run, or it need not
  pub must_or_not : Decided (MustRun g d t)
  must_or_not = ⊎_elim (λ always. inl (inl always)) (λ not_always. cases not_always (d.files (name g t)) refl) always_or_not where
    cases : ¬ (IsAlwaysMade g t) → (o : Option File) → d.files (name g t) ≡ o → Decided (MustRun g d t)
    cases not_always None e = inl (inr (inl e))
    cases not_always (Some file) e =
        let own : HasStamp d (name g t) file.stamp = ap (λ (o : Option File). option_map (λ (y : File). y.stamp) o) e in
        ⊎_elim (λ one. inl (inr (inr (one.0, file.stamp, one.2.0, one.1, own, one.2.1, one.2.2)))) (λ none. inr (λ must. ⊎_elim (λ always. not_always always) (λ rest. ⊎_elim (λ gone. let both : Some file ≡ None = sym e ∙ gone in absurd (cc)) (λ late. none late.0 late.3 (late.2, late.5, let same = one_stamp d (name g t) late.1 file.stamp late.4 own in let less = late.6 in omega arith)) rest) must)) (one_or_none (λ p. IsLater d file.stamp (name g p)) (λ p. is_later d file.stamp (name g p)) (prerequisites g t))
