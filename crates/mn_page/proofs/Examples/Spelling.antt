-- Worked examples: spellings of pages, entries and a node's front; which pages serve which version.
use Rattle.std.proofs.Common.{◌≡◌, ℕ, List, Bool, true, false, Option, Some, [], ◌∷◌, replicate, take, None, refl}
use Rattle.std.specs.Prelude.{count_by}
use Rattle.mn_base.specs.declared.ids.Addr.{Addr}
use Rattle.mn_base.specs.declared.ids.VersionNo.{VersionNo}
use Rattle.mn_page.specs.declared.entry.CatEntry.{CatEntry}
use Rattle.mn_page.specs.Holds.{page_covers}
use Rattle.mn_page.specs.declared.page.Page.{Page}
use Rattle.mn_page.specs.declared.page.Body.TheVariants.{Leaf, Inner}
use Rattle.mn_page.specs.Grammar.{page_bytes, entry_bytes}
use Rattle.mn_page.specs.Forest.{Forest, children_of, main_entry, empty_leaf, base_forest, laid_of, front_laid}
use Rattle.mn_page.proofs.Counted.{height_in, serving_pages}

abbrev pub at : ℕ → ℕ → Addr
at node slot = record { node = record { 0 = node }; slot = slot }

-- the root after the first split
abbrev pub split_root : Page
split_root = record {
  seq = 10;
  made = record { 0 = 0 };
  copied = 0;
  low = [];
  high = None;
  body = Inner 1 (at 1 0) (record { separator = 107 ∷ 53 ∷ []; addr = at 0 1 } ∷ []);
}

root_example : page_bytes split_root
    ≡ 0 ∷ 0 ∷ 0 ∷ 0 ∷ 0 ∷ 0 ∷ 0 ∷ 10 ∷ 2 ∷ 0 ∷ 1 ∷ 0 ∷ 0 ∷ 0 ∷ 0 ∷ 0 ∷ 0 ∷ 0 ∷ 0 ∷ 0 ∷ 0 ∷ 0 ∷ 2 ∷ 1 ∷ 0 ∷ 0 ∷ 2 ∷ 107 ∷ 53 ∷ 0 ∷ 0 ∷ 1 ∷ replicate 992 0
root_example = refl

-- a leaf that was copied for versions 1 and 2 begins so
copied_example : take 24 (page_bytes (record { seq = 3; made = record { 0 = 0 }; copied = 6; low = 107 ∷ 53 ∷ []; high = None; body = Leaf (replicate 5 (record { key = []; value = [] })) }))
    ≡ 0 ∷ 0 ∷ 0 ∷ 0 ∷ 0 ∷ 0 ∷ 0 ∷ 3 ∷ 1 ∷ 0 ∷ 0 ∷ 0 ∷ 0 ∷ 0 ∷ 0 ∷ 0 ∷ 0 ∷ 0 ∷ 0 ∷ 6 ∷ 2 ∷ 107 ∷ 53 ∷ 0 ∷ []
copied_example = refl

entry_example : take 19 (entry_bytes main_entry) ≡ 0 ∷ 0 ∷ 0 ∷ 0 ∷ 0 ∷ 0 ∷ 0 ∷ 1 ∷ 1 ∷ 255 ∷ 0 ∷ 0 ∷ 0 ∷ 4 ∷ 109 ∷ 97 ∷ 105 ∷ 110 ∷ 0 ∷ []
entry_example = refl

leaf_example : page_bytes empty_leaf ≡ 0 ∷ 0 ∷ 0 ∷ 0 ∷ 0 ∷ 0 ∷ 0 ∷ 1 ∷ 1 ∷ replicate 1015 0
leaf_example = refl

front_example : take 25 (front_laid (laid_of (base_forest 2)) 0) ≡ 77 ∷ 73 ∷ 78 ∷ 85 ∷ 69 ∷ 84 ∷ 1 ∷ 2 ∷ 0 ∷ 0 ∷ 0 ∷ 0 ∷ 0 ∷ 0 ∷ 0 ∷ 0 ∷ 0 ∷ 0 ∷ 0 ∷ 0 ∷ 0 ∷ 0 ∷ 0 ∷ 1 ∷ 0 ∷ []
front_example = refl

-- main is frozen, m2 and x are its children; each has copied the root and the right leaf
abbrev head : List ℕ → Option VersionNo → Bool → Addr → CatEntry
head name parent frozen root = record { seq = 1; frozen = frozen; parent = parent; root = root; name = name }

abbrev k5 : List ℕ
k5 = 107 ∷ 53 ∷ []

abbrev inner : ℕ → ℕ → Addr → Page
inner made copied right = record { seq = 1; made = record { 0 = made }; copied = copied; low = []; high = None; body = Inner 1 (at 1 0) (record { separator = k5; addr = right } ∷ []) }

abbrev left : Page
left = record { seq = 1; made = record { 0 = 0 }; copied = 0; low = []; high = Some k5; body = Leaf [] }

abbrev right : ℕ → ℕ → Page
right made copied = record { seq = 1; made = record { 0 = made }; copied = copied; low = k5; high = None; body = Leaf [] }

abbrev three_versions : Forest
three_versions = record {
  entries = head (109 ∷ []) None true (at 0 0) ∷ head (110 ∷ []) (Some (record { 0 = 0 })) false (at 1 1) ∷ head (120 ∷ []) (Some (record { 0 = 0 })) false (at 0 2) ∷ [];
  pages = (inner 0 6 (at 0 1) ∷ right 0 6 ∷ inner 2 0 (at 0 3) ∷ right 2 0 ∷ []) ∷ (left ∷ inner 1 0 (at 1 2) ∷ right 1 0 ∷ []) ∷ [];
}

-- the leaves of each version: its own right leaf and the left one that all share
leaves_example : serving_pages three_versions 0 0 ∷ serving_pages three_versions 1 0 ∷ serving_pages three_versions 2 0 ∷ []
    ≡ (right 0 6 ∷ left ∷ []) ∷ (left ∷ right 1 0 ∷ []) ∷ (right 2 0 ∷ left ∷ []) ∷ []
leaves_example = refl

roots_example : serving_pages three_versions 0 1 ∷ serving_pages three_versions 1 1 ∷ serving_pages three_versions 2 1 ∷ []
    ≡ (inner 0 6 (at 0 1) ∷ []) ∷ (inner 1 0 (at 1 2) ∷ []) ∷ (inner 2 0 (at 0 3) ∷ []) ∷ []
roots_example = refl

covered_example : count_by (page_covers (107 ∷ 49 ∷ [])) (serving_pages three_versions 1 0) ∷ count_by (page_covers k5) (serving_pages three_versions 1 0) ∷ height_in three_versions 2 ∷ [] ≡ 1 ∷ 1 ∷ 1 ∷ []
covered_example = refl

-- each child's range is the page's
children_example : children_of (inner 1 0 (at 1 2)) ≡ record { addr = at 1 0; low = []; high = Some k5 } ∷ record { addr = at 1 2; low = k5; high = None } ∷ []
children_example = refl
