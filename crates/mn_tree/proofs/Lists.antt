-- Pages that are held, as a search goes past them.
use Rattle.std.proofs.Common.{◌≡◌, ◌<◌, ◌+◌, ℕ, Bool, true, false, if◌then◌else◌, List, [], ◌∷◌, ◌++◌, length, take, drop, Some, None, refl, sym, ap, ◌∙◌, slice_index_or}
use Rattle.std.proofs.lemmas.List.{take_more, drop_more, map-append}
use Rattle.mn_base.specs.Ids.{addr_same}
use Rattle.mn_base.specs.declared.ids.Addr.{Addr}
use Rattle.mn_page.specs.declared.page.Page.{Page}
use Rattle.mn_page.specs.Overlay.{Held, held_at, held_with}
use Rattle.mn_tree.specs.declared.held.HeldPage.{HeldPage}
use Rattle.mn_tree.specs.Walk.{held, held_of, helds}
use Rattle.mn_tree.proofs.Trees.Puts.{nothing}

-- the first one stands at the address, or it doesn't
pub stands : (h : HeldPage) (hs : List Held) (addr : Addr) (page : Page) → addr_same h.addr addr ≡ true → held_with (held_of h ∷ hs) addr page ≡ held addr page ∷ hs
stands h hs addr page is = ap (λ (b : Bool). if b then held addr page ∷ hs else held_of h ∷ held_with hs addr page) is

pub passes : (h : HeldPage) (hs : List Held) (addr : Addr) (page : Page) → addr_same h.addr addr ≡ false → held_with (held_of h ∷ hs) addr page ≡ held_of h ∷ held_with hs addr page
passes h hs addr page other = ap (λ (b : Bool). if b then held addr page ∷ hs else held_of h ∷ held_with hs addr page) other

-- the one at a place begins the rest, and ends those so far with it
pub rest_from : (pages : List HeldPage) (at : ℕ) (h : HeldPage) → at < length pages → h ≡ slice_index_or pages at h → drop at pages ≡ h ∷ drop (at + 1) pages
rest_from pages at h less is = drop_more pages at h less ∙ ap (λ (x : HeldPage). x ∷ drop (at + 1) pages) (sym is)

pub front_to : (pages : List HeldPage) (at : ℕ) (h : HeldPage) → at < length pages → h ≡ slice_index_or pages at h → helds (take (at + 1) pages) ≡ helds (take at pages) ++ held_of h ∷ []
front_to pages at h less is =
    ap helds (take_more pages at h less ∙ ap (λ (x : HeldPage). take at pages ++ x ∷ []) (sym is)) ∙ map-append held_of (take at pages) (h ∷ [])

-- one that is held nowhere yet stands behind all
behind_one : (p : HeldPage) (pages : List HeldPage) (h : HeldPage) (same : Bool) → addr_same p.addr h.addr ≡ same → held_at (held_of p ∷ helds pages) h.addr ≡ None
    → (held_at (helds pages) h.addr ≡ None → helds (pages ++ h ∷ []) ≡ held_with (helds pages) h.addr h.page)
    → held_of p ∷ helds (pages ++ h ∷ []) ≡ held_with (held_of p ∷ helds pages) h.addr h.page
behind_one p pages h true e absent rest = absurd (nothing p.page (held_at (held_of p ∷ helds pages) h.addr) absent (ap (λ b. if b then Some p.page else held_at (helds pages) h.addr) e))
behind_one p pages h false e absent rest =
    ap (λ l. held_of p ∷ l) (rest (ap (λ b. if b then Some p.page else held_at (helds pages) h.addr) (sym e) ∙ absent))
    ∙ sym (passes p (helds pages) h.addr h.page e)

pub stands_behind : (pages : List HeldPage) (h : HeldPage) → held_at (helds pages) h.addr ≡ None → helds (pages ++ h ∷ []) ≡ held_with (helds pages) h.addr h.page
stands_behind [] h absent = refl
stands_behind (p ∷ pages) h absent = behind_one p pages h (addr_same p.addr h.addr) refl absent (stands_behind pages h)
