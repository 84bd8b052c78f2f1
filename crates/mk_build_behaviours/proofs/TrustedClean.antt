-- A clean build in which recipes that aren't trusted write what is left agrees in all that trusted ones read and write.
use Rattle.std.proofs.Common.{◌≡◌, ℕ, List, [], ◌∷◌, true, false, Option, Some, map, ◌⊎◌, inl, inr, ⊎_elim, refl, sym, ◌∙◌, ap, subst}
use Rattle.std.proofs.lemmas.Bool.{cases_Bool, cond-true, cond-false, true≢false}
use Rattle.mk_graph.specs.Membership.{Has, IsWithin}
use Rattle.mk_graph.specs.Graph.{Graph, node}
use Rattle.mk_build.specs.Setting.{FileName, Setting, is_given, name, reads, writes}
use Rattle.mk_build.specs.Clean.{Contents, put_all}
use Rattle.mk_build.specs.Right.{AreSound}
use Rattle.mk_build_behaviours.specs.Behaviours.{Behaviour, Behaviours, behaviour, path, result}
use Rattle.mk_build_behaviours.specs.CleanBy.{run_by, make_by, make_all_by, ReadWithin}
use Rattle.mk_build_behaviours.specs.Trusting.{Trust, MayBeTrusted, with_left}
use Rattle.mk_build_behaviours.proofs.Paths.{same_walk}
use Rattle.mk_build_behaviours.proofs.Putting.{put_all_again, put_all_keeps}
use Rattle.mk_build_behaviours.proofs.Trusted.{trusting, trusted_reads, reader_is_trusted, trusted_behaves, other_writes, put_all_left}

module _ (g : Graph) (s : Setting) (trusted : Trust) where
  -- the file is given or a trusted recipe writes it
  abbrev pub IsTrusted : FileName → Type 0
  IsTrusted f = (is_given s f ≡ true) ⊎ ((o : ℕ) × Has (writes g s o) f × (trusted (name g o) ≡ true))

  -- the contents agree in such files
  abbrev pub AgreeTrusted : Contents → Contents → Type 0
  AgreeTrusted one other = (f : FileName) → IsTrusted f → one f ≡ other f

  module _ (sound : AreSound g s) (may : MayBeTrusted g s trusted) where
    -- what a trusted recipe reads is such a file
    pub trusted_read : (t : ℕ) (f : FileName) → Has (reads g (trusting s trusted) t) f → IsTrusted f
    trusted_read t f read =
        let reader = reader_is_trusted g s trusted t f read in
        ⊎_elim (λ given. inl given) (λ wrote. inr (wrote.0, wrote.1, may.closed t wrote.0 f reader.0 reader.1 wrote.1)) (sound.known t f reader.1)

    -- no other recipe writes it
    pub not_trusted : (n : ℕ) (f : FileName) → trusted (name g n) ≡ false → IsTrusted f → ¬ (Has (writes g s n) f)
    not_trusted n f other is wrote =
        ⊎_elim (λ given. true≢false (sym given ∙ sound.not_given n f wrote))
        (λ writer. true≢false (sym writer.2 ∙ subst (λ (k : ℕ). trusted (name g k) ≡ false) (sound.one_writer n writer.0 f wrote writer.1) other))
        is

    module _ (b : Behaviours) (left : FileName → ℕ) where
      -- the build in which others write what is left
      abbrev others : Behaviours
      others = with_left s b trusted left

      -- a node is made in both, and they agree after it
      abbrev AfterNode : ℕ → Contents → Contents → Type 0
      AfterNode n at next =
          ((node g n).recipe ≡ true → IsWithin (path (behaviour g others n) at) (reads g (trusting s trusted) n)) ×
          ((end : Contents) × (make_by g (trusting s trusted) others at n ≡ Some end) × AgreeTrusted next end)

      module _ (n : ℕ) (at alike next : Contents) (agree : AgreeTrusted at alike) where
        without_recipe : (node g n).recipe ≡ false → make_by g s b at n ≡ Some next → AfterNode n alike next
        without_recipe none made =
            let both : Some at ≡ Some next = sym (cond-false (node g n).recipe (run_by g s b at n) (Some at) none) ∙ made in
            let same : at ≡ next = cc in
            (λ recipe. absurd (true≢false (sym recipe ∙ none)), (alike, cond-false (node g n).recipe (run_by g (trusting s trusted) others alike n) (Some alike) none, subst (λ (k : Contents). AgreeTrusted k alike) same agree))

        module _ (recipe : (node g n).recipe ≡ true) (ran : put_all at (writes g s n) (result (behaviour g b n) at) ≡ Some next) where
          with_trusted : trusted (name g n) ≡ true → IsWithin (path (behaviour g b n) at) (reads g s n) → AfterNode n alike next
          with_trusted is inside =
              let behaves = trusted_behaves g s trusted b left n is in
              let reads_same = trusted_reads g s trusted n is in
              let same = same_walk (behaviour g b n) at alike (λ f on on_alike. agree f (trusted_read n f (subst (λ (l : List FileName). Has l f) (sym reads_same) (inside f on)))) in
              let put = put_all_again (writes g s n) (result (behaviour g b n) at) at next alike ran in
              let put_same : put_all alike (writes g s n) (result (behaviour g b n) alike) ≡ Some put.0 = subst (λ (l : List ℕ). put_all alike (writes g s n) l ≡ Some put.0) same.1 put.1 in
              let ran_too : run_by g (trusting s trusted) others alike n ≡ Some put.0 = subst (λ (k : Behaviour). put_all alike (writes g s n) (result k alike) ≡ Some put.0) (sym behaves) put_same in (
                λ e f on. subst (λ (l : List FileName). Has l f) (sym reads_same) (inside f (subst (λ (l : List FileName). Has l f) (sym same.0) (subst (λ (k : Behaviour). Has (path k alike) f) behaves on))),
                (put.0, cond-true (node g n).recipe (run_by g (trusting s trusted) others alike n) (Some alike) recipe ∙ ran_too, λ f is_such. put.2 f (inl (agree f is_such))),
              )

          with_other : trusted (name g n) ≡ false → AfterNode n alike next
          with_other other =
              let behaves = other_writes g s trusted b left n recipe other in
              let put = put_all_left left (writes g s n) alike in
              let ran_too : run_by g (trusting s trusted) others alike n ≡ Some put.0 = subst (λ (k : Behaviour). put_all alike (writes g s n) (result k alike) ≡ Some put.0) (sym behaves) put.1 in (
                λ e f on. absurd (subst (λ (k : Behaviour). Has (path k alike) f) behaves on),
                (
                  put.0,
                  cond-true (node g n).recipe (run_by g (trusting s trusted) others alike n) (Some alike) recipe ∙ ran_too,
                  λ f is_such. let out = not_trusted n f other is_such in
                      put_all_keeps (writes g s n) (result (behaviour g b n) at) at next ran f out ∙ (agree f is_such ∙ sym (put_all_keeps (writes g s n) (map left (writes g s n)) alike put.0 put.1 f out)),
                ),
              )

        one_node : ((node g n).recipe ≡ true → IsWithin (path (behaviour g b n) at) (reads g s n)) → make_by g s b at n ≡ Some next → AfterNode n alike next
        one_node inside made =
            ⊎_elim (λ recipe. let ran : run_by g s b at n ≡ Some next = sym (cond-true (node g n).recipe (run_by g s b at n) (Some at) recipe) ∙ made in
            ⊎_elim (λ is. with_trusted recipe ran is (inside recipe)) (λ other. with_other recipe ran other) (cases_Bool (trusted (name g n))))
            (λ none. without_recipe none made)
            (cases_Bool (node g n).recipe)

      -- so are nodes in order
      pub both_builds : (ns : List ℕ) (at alike : Contents) → AgreeTrusted at alike → ReadWithin g s b at ns → ReadWithin g (trusting s trusted) others alike ns × ((end last : Contents) × (make_all_by g s b (Some at) ns ≡ Some end) × (make_all_by g (trusting s trusted) others (Some alike) ns ≡ Some last) × AgreeTrusted end last)
      both_builds [] at alike agree within = (tt, (at, alike, refl, refl, agree))
      both_builds (n ∷ ns) at alike agree (inside, (next, made, rest)) =
          let after = one_node n at alike next agree inside made in
          let more = both_builds ns next after.1.0 after.1.2 rest in (
            (after.0, (after.1.0, after.1.1, more.0)),
            (
              more.1.0,
              more.1.1,
              ap (λ (o : Option Contents). make_all_by g s b o ns) made ∙ more.1.2,
              ap (λ (o : Option Contents). make_all_by g (trusting s trusted) others o ns) after.1.1 ∙ more.1.3,
              more.1.4,
            ),
          )
