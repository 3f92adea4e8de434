-- The plain model of the tree: what the steps of a transaction make of the pages of their paths,
-- and which new slots that takes.
use Rattle.std.specs.Prelude.{ℕ, zero, suc, ◌+◌, ◌-◌, ◌*◌, ◌^◌, Bool, ◌||◌, nat_lt, nat_le, nat_eq}
use Rattle.std.specs.Prelude.{List, [], ◌∷◌, ◌++◌, length, map, sum, Option, Some, None}
use Rattle.std.specs.Prelude.{if◌then◌else◌, slice_index_or, slice_set, bit_or}
use Rattle.std.specs.List.{list_any, flat_map, range_with_len}
use Rattle.std.specs.Option.{is_some, option_map, option_and_then, option_to_list}
use Rattle.mn_base.specs.Ids.{addr_same}
use Rattle.mn_base.specs.Order.{covers_key}
use Rattle.mn_base.specs.Store.{value_at, pairs_with, pairs_without, is_unmet, step_key}
use Rattle.mn_base.specs.declared.ids.Addr.{Addr}
use Rattle.mn_base.specs.declared.ids.VersionNo.{VersionNo}
use Rattle.mn_base.specs.declared.reply.Pair.{Pair}
use Rattle.mn_base.specs.declared.op.Step.{Step}
use Rattle.mn_base.specs.declared.op.Step.TheVariants.{Get, Put, Del, Check}
use Rattle.mn_base.specs.declared.op.Op.{Op}
use Rattle.mn_base.specs.declared.op.Op.TheVariants.{Tx, Snapshot, Branch, Scan, Versions}
use Rattle.mn_page.specs.declared.page.Page.{Page}
use Rattle.mn_page.specs.declared.page.Body.{Body}
use Rattle.mn_page.specs.declared.page.Body.TheVariants.{Leaf, Inner}
use Rattle.mn_page.specs.declared.page.Child.{Child}
use Rattle.mn_page.specs.Grammar.{height_of}
use Rattle.mn_page.specs.Forest.{ChildRange, children_of}
use Rattle.mn_page.specs.Holds.{pairs_in}

-- Pages by address

-- a page at its address
pub record Held : Type 0 where
  pub addr : Addr
  pub page : Page

-- the n-th new page has no slot yet: it goes by its number, on a node that there is not
abbrev pub new_addr : ℕ → Addr
new_addr n = record { node = record { 0 = 8 }; slot = n }

abbrev pub held_at : List Held → Addr → Option Page
held_at [] addr = None
held_at (h ∷ hs) addr = if addr_same h.addr addr then Some h.page else held_at hs addr

-- the pages with this one in its place, or behind them
abbrev pub held_with : List Held → Addr → Page → List Held
held_with [] addr page = record { addr = addr; page = page } ∷ []
held_with (h ∷ hs) addr page =
    if addr_same h.addr addr then record { addr = addr; page = page } ∷ hs
    else h ∷ held_with hs addr page

-- the pages as the steps left them, the old ones that were changed as they were first changed, and
-- how many new ones there are
pub record Overlay : Type 0 where
  pub pages : List Held
  pub changed : List Addr
  pub fresh : ℕ

abbrev pub overlay_of : List Held → Overlay
overlay_of pages = record { pages = pages; changed = []; fresh = 0 }

abbrev pub is_new : Addr → Bool
is_new addr = nat_eq addr.node.0 8

-- a page changed in its place
abbrev pub with_changed : Overlay → Addr → Page → Overlay
with_changed o addr page = record {
  pages = held_with o.pages addr page;
  changed =
      if is_new addr || list_any (λ a. addr_same a addr) o.changed then o.changed
      else o.changed ++ addr ∷ [];
  fresh = o.fresh;
}

-- a new page, which goes by the number of new ones before it
abbrev pub with_new : Overlay → Page → Overlay
with_new o page =
    record {
      pages = held_with o.pages (new_addr o.fresh) page;
      changed = o.changed;
      fresh = o.fresh + 1;
    }

-- Splits

-- a body in two parts, and the first key or lower fence of the right one
pub record Halves : Type 0 where
  pub left : Body
  pub separator : List ℕ
  pub right : Body

-- the first four stay
abbrev pub leaf_halves : List Pair → Option Halves
leaf_halves (a ∷ (b ∷ (c ∷ (d ∷ (e ∷ rest))))) =
    Some (record { left = Leaf (a ∷ b ∷ c ∷ d ∷ []); separator = e.key; right = Leaf (e ∷ rest) })
leaf_halves pairs = None

abbrev pub inner_halves : ℕ → Addr → List Child → Option Halves
inner_halves height first (b ∷ (c ∷ (d ∷ (e ∷ rest)))) =
    Some (record {
      left = Inner height first (b ∷ c ∷ d ∷ []);
      separator = e.separator;
      right = Inner height e.addr rest;
    })
inner_halves height first rest = None

-- a ninth pair or child splits a page
abbrev pub halves_of : Body → Option Halves
halves_of (Leaf pairs) = if nat_le (length pairs) 8 then None else leaf_halves pairs
halves_of (Inner height first rest) =
    if nat_le (length rest + 1) 8 then None else inner_halves height first rest

-- Changes up a path

abbrev pub page_with : Page → List ℕ → Option (List ℕ) → Body → Page
page_with p low high body =
    record { seq = p.seq; made = p.made; copied = p.copied; low = low; high = high; body = body }

abbrev pub new_page : VersionNo → List ℕ → Option (List ℕ) → Body → Page
new_page v low high body =
    record { seq = 1; made = v; copied = 0; low = low; high = high; body = body }

-- the old page of a copy
abbrev pub copied_for : VersionNo → Page → Page
copied_for v p =
    record {
      seq = p.seq;
      made = p.made;
      copied = bit_or p.copied (2 ^ v.0);
      low = p.low;
      high = p.high;
      body = p.body;
    }

-- the children with the one at addr now at another address, and perhaps a further one after it
abbrev pub rest_with : List Child → Addr → Addr → Option Child → List Child
rest_with [] addr now more = []
rest_with (c ∷ cs) addr now more =
    if addr_same c.addr addr then record { separator = c.separator; addr = now }
    ∷ option_to_list more ++ cs else c ∷ rest_with cs addr now more

abbrev pub body_with : Body → Addr → Addr → Option Child → Body
body_with (Leaf pairs) addr now more = Leaf pairs
body_with (Inner height first rest) addr now more =
    if addr_same first addr then Inner height now (option_to_list more ++ rest)
    else Inner height first (rest_with rest addr now more)

-- what a page's change asks of its parent: nothing, or another child in its place, and perhaps a
-- further one after it
pub data Asked : Type 0 where
  Nothing : Asked
  Child_is : (now : Addr) → (more : Option Child) → Asked

-- the overlay after a change of one page
pub record Changed : Type 0 where
  pub overlay : Overlay
  pub asked : Asked

abbrev pub child_at : List ℕ → Addr → Child
child_at separator addr = record { separator = separator; addr = addr }

-- the root keeps its slot; its halves are new
abbrev pub root_changed : VersionNo → Overlay → Held → Body → Option Halves → Overlay
root_changed v o h body None = with_changed o h.addr (page_with h.page h.page.low h.page.high body)
root_changed v o h body (Some halves) =
    with_changed
    (with_new (with_new o (new_page v h.page.low (Some halves.separator) halves.left))
    (new_page v halves.separator h.page.high halves.right)) h.addr
    (page_with h.page h.page.low h.page.high
    (Inner (height_of body + 1) (new_addr o.fresh)
    (child_at halves.separator (new_addr (o.fresh + 1)) ∷ [])))

-- a page that was made in the version
abbrev pub own_changed : VersionNo → Overlay → Held → Body → Option Halves → Changed
own_changed v o h body None =
    record {
      overlay = with_changed o h.addr (page_with h.page h.page.low h.page.high body);
      asked = Nothing;
    }
own_changed v o h body (Some halves) = record {
  overlay =
      with_changed (with_new o (new_page v halves.separator h.page.high halves.right)) h.addr
      (page_with h.page h.page.low (Some halves.separator) halves.left);
  asked = Child_is h.addr (Some (child_at halves.separator (new_addr o.fresh)));
}

-- a page that was not is copied first
abbrev pub other_changed : VersionNo → Overlay → Held → Body → Option Halves → Changed
other_changed v o h body None = record {
  overlay =
      with_changed (with_new o (new_page v h.page.low h.page.high body)) h.addr
      (copied_for v h.page);
  asked = Child_is (new_addr o.fresh) None;
}
other_changed v o h body (Some halves) = record {
  overlay =
      with_changed (with_new (with_new o
      (new_page v h.page.low (Some halves.separator) halves.left))
      (new_page v halves.separator h.page.high halves.right)) h.addr (copied_for v h.page);
  asked = Child_is (new_addr o.fresh) (Some (child_at halves.separator (new_addr (o.fresh + 1))));
}

abbrev pub page_changed : VersionNo → Overlay → Held → Body → Changed
page_changed v o h body =
    if nat_eq h.page.made.0 v.0 then own_changed v o h body (halves_of body)
    else other_changed v o h body (halves_of body)

abbrev pub when_asked : Overlay → Asked → (Addr → Option Child → Overlay) → Overlay
when_asked o Nothing more = o
when_asked o (Child_is now child) more = more now child

-- a page of a path has this body now; behind it stands the path above, up to the root
abbrev pub raised : VersionNo → Overlay → Held → List Held → Body → Overlay
raised v o h [] body = root_changed v o h body (halves_of body)
raised v o h (parent ∷ above) body =
    let c = page_changed v o h body in
    when_asked c.overlay c.asked (λ now more.
    raised v c.overlay parent above (body_with parent.page.body h.addr now more))

-- Paths

abbrev pub child_for : List ChildRange → List ℕ → Option Addr
child_for [] key = None
child_for (c ∷ cs) key = if covers_key c.low c.high key then Some c.addr else child_for cs key

-- how many pages a path has at most
abbrev pub max_path : ℕ
max_path = 31

-- the path of a key from this address down, the leaf first; none where a page of it isn't there
abbrev pub path_to : ℕ → List Held → Addr → List ℕ → List Held → Option (List Held)
path_to zero pages addr key above = None
path_to (suc fuel) pages addr key above =
    option_and_then
    (λ page. if nat_eq (height_of page.body) 0
    then Some (record { addr = addr; page = page } ∷ above)
    else option_and_then (λ next.
    path_to fuel pages next key (record { addr = addr; page = page } ∷ above))
    (child_for (children_of page) key))
    (held_at pages addr)

-- Steps

-- what a step makes of the pages of its path; the leaf stands first
abbrev pub step_on : VersionNo → Overlay → Step → List Held → Overlay
step_on v o step [] = o
step_on v o (Put key value) (h ∷ above) =
    raised v o h above (Leaf (pairs_with (pairs_in h.page.body) key value))
step_on v o (Del key) (h ∷ above) =
    if is_some (value_at (pairs_in h.page.body) key)
    then raised v o h above (Leaf (pairs_without (pairs_in h.page.body) key)) else o
step_on v o (Get key) (h ∷ above) = o
step_on v o (Check key want) (h ∷ above) = o

-- the pairs of the leaf of a path
abbrev pub path_pairs : List Held → List Pair
path_pairs [] = []
path_pairs (h ∷ above) = pairs_in h.page.body

-- the steps of a transaction on the version with this root; none where a page of a path isn't
-- there. A Check that isn't met brings the old pages back
abbrev pub steps_on : VersionNo → Addr → Overlay → Overlay → List Step → Option Overlay
steps_on v root old o [] = Some o
steps_on v root old o (step ∷ steps) =
    option_and_then (λ path. if is_unmet (path_pairs path) step then Some old
    else steps_on v root old (step_on v o step path) steps)
    (path_to max_path o.pages root (step_key step) [])

-- how many new slots an operation takes, on the pages that it read
abbrev pub needed_slots : VersionNo → Addr → List Held → Op → Option ℕ
needed_slots v root pages (Tx version steps) =
    option_map (λ o. o.fresh) (steps_on v root (overlay_of pages) (overlay_of pages) steps)
needed_slots v root pages (Snapshot version child) = Some 1
needed_slots v root pages (Branch version child) = Some 1
needed_slots v root pages (Scan version low high limit) = Some 0
needed_slots v root pages Versions = Some 0

-- the old pages that an operation writes
abbrev pub changed_pages : VersionNo → Addr → List Held → Op → Option (List Addr)
changed_pages v root pages (Tx version steps) =
    option_map (λ o. o.changed) (steps_on v root (overlay_of pages) (overlay_of pages) steps)
changed_pages v root pages (Snapshot version child) = Some (root ∷ [])
changed_pages v root pages (Branch version child) = Some (root ∷ [])
changed_pages v root pages (Scan version low high limit) = Some []
changed_pages v root pages Versions = Some []

-- Slots

-- the least count's node from the i-th on, where the best so far has this count
abbrev pub least_from : ℕ → ℕ → ℕ → List ℕ → ℕ
least_from i best count [] = best
least_from i best count (c ∷ cs) =
    if nat_lt c count then least_from (i + 1) i c cs else least_from (i + 1) best count cs

-- the node with the fewest slots given out, among equals the least
abbrev pub least_node : List ℕ → ℕ
least_node [] = 0
least_node (c ∷ cs) = least_from 1 0 c cs

-- so many new slots, one after another
abbrev pub slots_for : List ℕ → ℕ → List Addr
slots_for counts zero = []
slots_for counts (suc need) =
    let n = least_node counts in
    let count = slice_index_or counts n 0 in
    record { node = record { 0 = n }; slot = count }
    ∷ slots_for (slice_set counts n (count + 1)) need

abbrev pub free_slots : List ℕ → ℕ
free_slots counts = 4096 * length counts - sum counts

-- Pages in their slots

abbrev pub placed_addr : List Addr → Addr → Addr
placed_addr slots addr = if is_new addr then slice_index_or slots addr.slot addr else addr

abbrev pub placed_body : List Addr → Body → Body
placed_body slots (Leaf pairs) = Leaf pairs
placed_body slots (Inner height first rest) =
    Inner height (placed_addr slots first)
    (map (λ c. child_at c.separator (placed_addr slots c.addr)) rest)

-- the last number stays, so that the plan is Worn
abbrev pub next_number : ℕ → ℕ
next_number seq = if nat_eq seq (2 ^ 64 - 1) then seq else seq + 1

abbrev pub placed_page : List Addr → ℕ → Page → Page
placed_page slots seq p =
    record {
      seq = seq;
      made = p.made;
      copied = p.copied;
      low = p.low;
      high = p.high;
      body = placed_body slots p.body;
    }

abbrev pub placed_old : List Addr → List Held → Addr → List Held
placed_old slots pages addr =
    option_to_list (option_map (λ p.
    record { addr = addr; page = placed_page slots (next_number p.seq) p }) (held_at pages addr))

abbrev pub placed_new : List Addr → List Held → ℕ → List Held
placed_new slots pages n =
    option_to_list (option_map (λ p.
    record { addr = placed_addr slots (new_addr n); page = placed_page slots p.seq p })
    (held_at pages (new_addr n)))

-- what a plan writes into slots: the changed pages as they joined, then the new ones as they were
-- asked for
abbrev pub placed_pages : List Addr → Overlay → List Held
placed_pages slots o =
    flat_map (placed_old slots o.pages) o.changed
    ++ flat_map (placed_new slots o.pages) (range_with_len 0 o.fresh)
