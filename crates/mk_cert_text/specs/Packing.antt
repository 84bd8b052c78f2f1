-- Names that are stored one after another in one text, and ways by the places of their names.
use Rattle.std.specs.Prelude.{◌≡◌, ◌≤◌, ℕ, ◌+◌, true, List, [], ◌∷◌, length, slice_index_or, slice_range}
use Rattle.std.specs.List.{concat, list_all}
use Rattle.std.specs.Str.{is_utf8}
use Rattle.mk_cert_text.specs.Certificate.{Way}
use Rattle.mk_cert_text.specs.declared.ways.WayPlace.{WayPlace}

-- the names in a text from `start` on, by the places where they end
abbrev pub cut_from : ℕ → List ℕ → List ℕ → List (List ℕ)
cut_from start [] text = []
cut_from start (end ∷ ends) text = slice_range text start end ∷ cut_from end ends text

-- the places where these names end if the first one begins at `start`
abbrev pub ends_from : ℕ → List (List ℕ) → List ℕ
ends_from start [] = []
ends_from start (name ∷ names) =
    (start + length name) ∷ ends_from (start + length name) names

-- the names cut at these ends make up the whole text, end there, and are UTF-8
pub record IsPacked (ends text : List ℕ) : Type 0 where
  pub whole : concat (cut_from 0 ends text) ≡ text
  pub places : ends_from 0 (cut_from 0 ends text) ≡ ends
  pub texts : list_all is_utf8 (cut_from 0 ends text) ≡ true

-- the way at a place among names: first its recipe, then its file, then its path
abbrev pub way_at : List (List ℕ) → WayPlace → Way
way_at names place =
    record {
      recipe = slice_index_or names place.start [];
      file = slice_index_or names (place.start + 1) [];
      path = slice_range names (place.start + 2) place.end;
      finish = place.finish;
    }

-- the place has room for a recipe and a file, and ends within `count` names
abbrev pub IsWithin : ℕ → WayPlace → Type 0
IsWithin count place = (place.start + 2 ≤ place.end) × (place.end ≤ count)
