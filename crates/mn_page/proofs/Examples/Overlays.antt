-- Worked examples of the plain model of the tree: a split, a copy, a Check that isn't met.
use Rattle.std.proofs.Common.{◌≡◌, ◌+◌, ℕ, List, [], ◌∷◌, Some, None, refl}
use Rattle.std.specs.Option.{option_map}
use Rattle.mn_base.specs.declared.ids.VersionNo.{VersionNo}
use Rattle.mn_base.specs.declared.reply.Pair.{Pair}
use Rattle.mn_base.specs.declared.op.Step.TheVariants.{Put, Check, Get}
use Rattle.mn_page.specs.declared.page.Page.{Page}
use Rattle.mn_page.specs.declared.page.Body.TheVariants.{Leaf, Inner}
use Rattle.mn_page.specs.Overlay.{Held, overlay_of, steps_on, placed_pages, slots_for}
use Rattle.mn_page.proofs.Examples.Spelling.{at, split_root}

abbrev k : ℕ → Pair
k n = record { key = 107 ∷ (48 + n) ∷ []; value = 118 ∷ [] }

abbrev first : Page
first = record { seq = 9; made = record { 0 = 0 }; copied = 0; low = []; high = None; body = Leaf (k 1 ∷ k 2 ∷ k 3 ∷ k 4 ∷ k 5 ∷ k 6 ∷ k 7 ∷ k 8 ∷ []) }

abbrev read : List Held
read = record { addr = at 0 0; page = first } ∷ []

abbrev main : VersionNo
main = record { 0 = 0 }

-- the ninth pair splits the root, which keeps its slot
split_example : option_map (λ o. placed_pages (slots_for (1 ∷ 0 ∷ []) o.fresh) o) (steps_on main (at 0 0) (overlay_of read) (overlay_of read) (Put (107 ∷ 57 ∷ []) (118 ∷ []) ∷ []))
    ≡ Some (
    record { addr = at 0 0; page = split_root }
    ∷ record { addr = at 1 0; page = record { seq = 1; made = main; copied = 0; low = []; high = Some (107 ∷ 53 ∷ []); body = Leaf (k 1 ∷ k 2 ∷ k 3 ∷ k 4 ∷ []) } }
    ∷ record { addr = at 0 1; page = record { seq = 1; made = main; copied = 0; low = 107 ∷ 53 ∷ []; high = None; body = Leaf (k 5 ∷ k 6 ∷ k 7 ∷ k 8 ∷ k 9 ∷ []) } }
    ∷ []
    )
split_example = refl

-- the root of m2 (made in 1), whose leaves are main's: a Put copies the leaf
abbrev m2_root : Page
m2_root = record { seq = 1; made = record { 0 = 1 }; copied = 0; low = []; high = None; body = Inner 1 (at 1 0) (record { separator = 107 ∷ 53 ∷ []; addr = at 0 1 } ∷ []) }

abbrev right : Page
right = record { seq = 1; made = main; copied = 0; low = 107 ∷ 53 ∷ []; high = None; body = Leaf (k 5 ∷ k 6 ∷ []) }

abbrev read_m2 : List Held
read_m2 = record { addr = at 1 1; page = m2_root } ∷ record { addr = at 0 1; page = right } ∷ []

copy_example : option_map (λ o. placed_pages (slots_for (3 ∷ 2 ∷ []) o.fresh) o) (steps_on (record { 0 = 1 }) (at 1 1) (overlay_of read_m2) (overlay_of read_m2) (Put (107 ∷ 53 ∷ []) (97 ∷ []) ∷ []))
    ≡ Some (
    record { addr = at 0 1; page = record { seq = 2; made = main; copied = 2; low = 107 ∷ 53 ∷ []; high = None; body = Leaf (k 5 ∷ k 6 ∷ []) } }
    ∷ record { addr = at 1 1; page = record { seq = 2; made = record { 0 = 1 }; copied = 0; low = []; high = None; body = Inner 1 (at 1 0) (record { separator = 107 ∷ 53 ∷ []; addr = at 1 2 } ∷ []) } }
    ∷ record { addr = at 1 2; page = record { seq = 1; made = record { 0 = 1 }; copied = 0; low = 107 ∷ 53 ∷ []; high = None; body = Leaf (record { key = 107 ∷ 53 ∷ []; value = 97 ∷ [] } ∷ k 6 ∷ []) } }
    ∷ []
    )
copy_example = refl

-- a Check that isn't met brings the old pages back, and a path with a page that wasn't read has no
-- answer
unmet_example : steps_on main (at 0 0) (overlay_of read) (overlay_of read) (Put (107 ∷ 57 ∷ []) (118 ∷ []) ∷ Check (107 ∷ 49 ∷ []) None ∷ []) ≡ Some (overlay_of read)
unmet_example = refl

unread_example : steps_on main (at 0 1) (overlay_of read) (overlay_of read) (Get (107 ∷ 57 ∷ []) ∷ []) ≡ None
unread_example = refl
