-- What a step writes: its changes of pages one by one, from the leaf upwards.
use Rattle.std.specs.Prelude.{ℕ, ◌+◌, ◌||◌, nat_eq, List, [], ◌∷◌, ◌++◌, length, Option, Some, None}
use Rattle.std.specs.Prelude.{is_some, if◌then◌else◌}
use Rattle.std.specs.List.{list_any, flat_map}
use Rattle.std.specs.Option.{option_to_list}
use Rattle.mn_base.specs.Ids.{addr_same}
use Rattle.mn_base.specs.Store.{value_at, pairs_with, pairs_without}
use Rattle.mn_base.specs.declared.ids.Addr.{Addr}
use Rattle.mn_base.specs.declared.ids.VersionNo.{VersionNo}
use Rattle.mn_base.specs.declared.op.Step.{Step}
use Rattle.mn_base.specs.declared.op.Step.TheVariants.{Get, Put, Del, Check}
use Rattle.mn_page.specs.declared.page.Page.{Page}
use Rattle.mn_page.specs.declared.page.Body.{Body}
use Rattle.mn_page.specs.declared.page.Body.TheVariants.{Leaf, Inner}
use Rattle.mn_page.specs.declared.page.Child.{Child}
use Rattle.mn_page.specs.Grammar.{height_of}
use Rattle.mn_page.specs.Holds.{pairs_in}
use Rattle.mn_page.specs.Overlay.{Held, Overlay, Halves, Asked, Nothing, Child_is, held_with}
use Rattle.mn_page.specs.Overlay.{is_new, new_addr, halves_of, page_with, new_page, copied_for}
use Rattle.mn_page.specs.Overlay.{child_at, body_with, placed_addr}
use Rattle.mn_tree.specs.declared.write.Write.{Write}

-- an old page, or a new one of before, as it is changed
abbrev pub change : Addr → Page → Write
change addr page = record { addr = addr; page = page; origin = None }

-- the n-th new page, which was made of the one that was read at origin
abbrev pub creation : ℕ → Page → Addr → Write
creation n page origin = record { addr = new_addr n; page = page; origin = Some origin }

-- Changes of one page

-- of a page that was made in the version
abbrev pub own_writes : VersionNo → ℕ → Addr → Held → Body → Option Halves → List Write
own_writes v n origin h body None =
    change h.addr (page_with h.page h.page.low h.page.high body) ∷ []
own_writes v n origin h body (Some halves) =
    creation n (new_page v halves.separator h.page.high halves.right) origin
    ∷ change h.addr (page_with h.page h.page.low (Some halves.separator) halves.left) ∷ []

abbrev pub own_asks : ℕ → Held → Option Halves → Asked
own_asks n h None = Nothing
own_asks n h (Some halves) = Child_is h.addr (Some (child_at halves.separator (new_addr n)))

-- of one that was not, which is copied
abbrev pub other_writes : VersionNo → ℕ → Addr → Held → Body → Option Halves → List Write
other_writes v n origin h body None =
    creation n (new_page v h.page.low h.page.high body) origin ∷ change h.addr (copied_for v h.page)
    ∷ []
other_writes v n origin h body (Some halves) =
    creation n (new_page v h.page.low (Some halves.separator) halves.left) origin
    ∷ creation (n + 1) (new_page v halves.separator h.page.high halves.right) origin
    ∷ change h.addr (copied_for v h.page) ∷ []

abbrev pub other_asks : ℕ → Option Halves → Asked
other_asks n None = Child_is (new_addr n) None
other_asks n (Some halves) =
    Child_is (new_addr n) (Some (child_at halves.separator (new_addr (n + 1))))

-- of the root
abbrev pub root_writes : VersionNo → ℕ → Addr → Held → Body → Option Halves → List Write
root_writes v n origin h body None =
    change h.addr (page_with h.page h.page.low h.page.high body) ∷ []
root_writes v n origin h body (Some halves) =
    creation n (new_page v h.page.low (Some halves.separator) halves.left) origin
    ∷ creation (n + 1) (new_page v halves.separator h.page.high halves.right) origin
    ∷ change h.addr (page_with h.page h.page.low h.page.high
    (Inner (height_of body + 1) (new_addr n) (child_at halves.separator (new_addr (n + 1)) ∷ [])))
    ∷ []

abbrev pub page_writes : VersionNo → ℕ → Addr → Held → Body → List Write
page_writes v n origin h body =
    if nat_eq h.page.made.0 v.0 then own_writes v n origin h body (halves_of body)
    else other_writes v n origin h body (halves_of body)

abbrev pub page_asks : VersionNo → ℕ → Held → Body → Asked
page_asks v n h body =
    if nat_eq h.page.made.0 v.0 then own_asks n h (halves_of body)
    else other_asks n (halves_of body)

-- Changes up a path

-- where the pages that writes make were read
abbrev pub origins_in : List Write → List Addr
origins_in ws = flat_map (λ w. option_to_list w.origin) ws

abbrev pub writes_if : Asked → (Addr → Option Child → List Write) → List Write
writes_if Nothing more = []
writes_if (Child_is now child) more = more now child

-- a page of a path has this body now; behind it stands the path above, up to the root. There were n
-- new pages before
abbrev pub writes_up : VersionNo → ℕ → List Addr → Held → List Held → Body → List Write
writes_up v n origins h [] body =
    root_writes v n (placed_addr origins h.addr) h body (halves_of body)
writes_up v n origins h (parent ∷ above) body =
    let ws = page_writes v n (placed_addr origins h.addr) h body in
    ws ++ writes_if (page_asks v n h body)
    (λ now more. writes_up v (n + length (origins_in ws)) origins parent above
    (body_with parent.page.body h.addr now more))

-- what a step makes of the pages of its path, where the leaf stands first
abbrev pub step_writes : VersionNo → ℕ → List Addr → Step → List Held → List Write
step_writes v n origins step [] = []
step_writes v n origins (Put key value) (h ∷ above) =
    writes_up v n origins h above (Leaf (pairs_with (pairs_in h.page.body) key value))
step_writes v n origins (Del key) (h ∷ above) =
    if is_some (value_at (pairs_in h.page.body) key)
    then writes_up v n origins h above (Leaf (pairs_without (pairs_in h.page.body) key)) else []
step_writes v n origins (Get key) (h ∷ above) = []
step_writes v n origins (Check key want) (h ∷ above) = []

-- Writes in their turn

-- a list of old pages with this one, where it isn't there
abbrev pub joined : List Addr → Addr → List Addr
joined addrs addr =
    if is_new addr || list_any (λ a. addr_same a addr) addrs then addrs else addrs ++ addr ∷ []

abbrev pub written : Overlay → Write → Overlay
written o w = record {
  pages = held_with o.pages w.addr w.page;
  changed = if is_some w.origin then o.changed else joined o.changed w.addr;
  fresh = if is_some w.origin then o.fresh + 1 else o.fresh;
}

abbrev pub all_written : Overlay → List Write → Overlay
all_written o [] = o
all_written o (w ∷ ws) = all_written (written o w) ws

abbrev pub all_joined : List Addr → List Write → List Addr
all_joined addrs [] = addrs
all_joined addrs (w ∷ ws) = all_joined (joined addrs w.addr) ws
