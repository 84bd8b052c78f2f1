-- The file stands at its place among those that were met, and so does what is known of it.
use Rattle.std.proofs.Common.{◌≡◌, ◌∙◌, ◌++◌, ◌∷◌, [], ℕ, List, Bool, true, false, not, cond, map, ap, sym, append-nil}
use Rattle.std.specs.Borrow.{Bor}
use Rattle.std.proofs.lemmas.List.{map_push}
use Rattle.mk_subject.specs.FileInfo.{FileInfo, known_by}
use Rattle.mk_subject.specs.Writers.{numbers_at}
use Rattle.mk_subject.proofs.KnownFiles.{met}
use Rattle.mk_subject.proofs.files.place_for.Goals as goal

-- what is there is put nowhere
kept_keys : {A : Type 0} (b : Bool) (keys more new : List A) (added : Bool) → added ≡ not b → added ≡ false → new ≡ cond b keys more → new ≡ keys
kept_keys true keys more new added a f e = e
kept_keys false keys more new added a f e = absurd (cc)

-- what is new comes last
put_last : {A : Type 0} (b : Bool) (keys more new : List A) (added : Bool) → added ≡ not b → added ≡ true → new ≡ cond b keys more → new ≡ more
put_last true keys more new added a t e = absurd (cc)
put_last false keys more new added a t e = e

pub returns-in_ok-push : goal.returns-in_ok-push
returns-in_ok-push c =
    let by : List ℕ → FileInfo = known_by c.args.sources.now.table.now c.args.sources.now.setting.now (numbers_at c.args.sources.now.writers.now) c.args.sources.now.names.now in
    let so : Bor (List ℕ) → FileInfo = λ (g : Bor (List ℕ)). by g.now in
    let (k, at, same) = c.in_ok-place.ensures.stored in
    let keys = c.args.files.now.keys in
    let last = put_last _ keys (keys ++ c.args.file ∷ []) c.insert_full.new.self.keys c.in_ok-place.is_new c.in_ok-place.ensures.added c.if-is_new.true c.in_ok-place.ensures.keys in
    record {
      all = c.in_ok-push.ensures.items ∙ (ap (λ (l : List FileInfo). l ++ c.in_ok-known_of.field-0 ∷ []) c.requires ∙ (ap (λ (v : FileInfo). map so keys ++ v ∷ []) c.in_ok-known_of.ensures ∙ (sym (map_push so keys c.args.file) ∙ ap (map so) (sym last))));
      more = (c.args.file ∷ [], last);
      here = met c.insert_full.new.self.keys c.in_ok-place.place c.args.file.now k at same;
    }

pub returns-else-is_new : goal.returns-else-is_new
returns-else-is_new c =
    let by : List ℕ → FileInfo = known_by c.args.sources.now.table.now c.args.sources.now.setting.now (numbers_at c.args.sources.now.writers.now) c.args.sources.now.names.now in
    let so : Bor (List ℕ) → FileInfo = λ (g : Bor (List ℕ)). by g.now in
    let (k, at, same) = c.in_ok-place.ensures.stored in
    let keys = c.args.files.now.keys in
    let kept = kept_keys _ keys (keys ++ c.args.file ∷ []) c.insert_full.new.self.keys c.in_ok-place.is_new c.in_ok-place.ensures.added c.if-is_new.false c.in_ok-place.ensures.keys in
    record {
      all = c.requires ∙ ap (map so) (sym kept);
      more = ([], kept ∙ sym (append-nil keys));
      here = met c.insert_full.new.self.keys c.in_ok-place.place c.args.file.now k at same;
    }
