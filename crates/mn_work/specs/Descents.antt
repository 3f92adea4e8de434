-- How a lone Get goes on.
use Rattle.std.specs.Prelude.{ℕ, ◌≡◌, ◌<◌, ◌≤◌, ◌⊎◌, ◌&&◌, Bool, true, false, not, nat_eq, List, []}
use Rattle.std.specs.Prelude.{◌∷◌, Option, Some, Result, IfOk, ⊤}
use Rattle.std.specs.Option.{option_map_or}
use Rattle.mn_base.specs.Store.{value_at}
use Rattle.mn_base.specs.Tree.{parents_of}
use Rattle.mn_base.specs.declared.ids.Addr.{Addr}
use Rattle.mn_base.specs.declared.answer.Busy.{Busy}
use Rattle.mn_base.specs.declared.answer.Busy.TheVariants.{Path}
use Rattle.mn_base.specs.declared.error.NoMemory.{NoMemory}
use Rattle.mn_base.specs.declared.reply.Reply.{Reply}
use Rattle.mn_base.specs.declared.reply.Reply.TheVariants.{Values}
use Rattle.mn_page.specs.declared.page.Page.{Page}
use Rattle.mn_page.specs.declared.page.Body.{Body}
use Rattle.mn_page.specs.declared.page.Body.TheVariants.{Leaf, Inner}
use Rattle.mn_page.specs.declared.entry.CatEntry.{CatEntry}
use Rattle.mn_page.specs.Forest.{heads_in}
use Rattle.mn_page.specs.Grammar.{SpellsPage, height_of}
use Rattle.mn_page.specs.Holds.{pairs_in}
use Rattle.mn_path.specs.Walk.{FrontState, child_from, front_of, is_on_path}
use Rattle.mn_work.specs.declared.get.Descent.{Descent}
use Rattle.mn_work.specs.declared.next.Next.{Next}
use Rattle.mn_work.specs.declared.next.Taken.{Taken}
use Rattle.mn_work.specs.Seen.{SpellsNone}

-- a leaf may stand at the root, and below a page of height 1
abbrev pub may_be_leaf : Option ℕ → Bool
may_be_leaf above = option_map_or (λ a. nat_eq a 1) above true

-- it goes on below an inner page
abbrev pub gone_below : Descent → Body → List ℕ → Descent
gone_below d (Leaf pairs) key = d
gone_below d (Inner height first rest) key = record {
  version = d.version;
  addr = child_from first rest key;
  above = Some height;
}

-- its walk goes on at the page
abbrev pub is_on_way : List CatEntry → Descent → List ℕ → FrontState → Bool
is_on_way entries d key front =
    is_on_path (parents_of (heads_in entries)) d.version.0 key d.above front

-- by the kept catalog
abbrev pub goes_by_kept : Option (List CatEntry) → Descent → List ℕ → FrontState → Bool
goes_by_kept catalog d key front =
    option_map_or (λ entries. is_on_way entries d key front) catalog false

-- it wants the page at its address, on one of so many nodes: by a Peek where that can't be the
-- leaf, in a first try
abbrev pub WantsPage : ℕ → Bool → Descent → Next → Type 0
WantsPage nodes later d (Next.Page addr peek) =
    (addr ≡ d.addr) × (addr.node.0 < nodes) × (peek ≡ (not later && not (may_be_leaf d.above)))
WantsPage nodes later d (Next.Fails cause) = ⊤
WantsPage nodes later d next = ⊥

-- what it wants: the page that it needs
abbrev pub wanted : Bool → Descent → Next
wanted later d = Next.Page d.addr (not later && not (may_be_leaf d.above))

-- the address is on a node that there is not
abbrev pub IsOffNodes : ℕ → Addr → Option Busy → Type 0
IsOffNodes nodes addr cause = (nodes ≤ addr.node.0) × (cause ≡ Some (Path addr 0))

-- it fails only so
abbrev pub FailsOff : ℕ → Addr → Next → Type 0
FailsOff nodes addr (Next.Fails cause) = IsOffNodes nodes addr cause
FailsOff nodes addr next = ⊤

-- the reply that a leaf shows
abbrev pub values_at : Page → List ℕ → Reply
values_at page key = Values (value_at (pairs_in page.body) key ∷ [])

-- the page is at fault for it
abbrev pub IsFault : List CatEntry → Descent → List ℕ → Page → Option Busy → Type 0
IsFault entries d key page cause =
    (is_on_way entries d key (front_of page) ≡ false) × (cause ≡ Some (Path d.addr page.seq))

-- what an inner page made of it
abbrev pub TakesInner : List CatEntry → Descent → List ℕ → Page → Descent → Taken → Type 0
TakesInner entries d key page after Taken.GoesOn =
    (is_on_way entries d key (front_of page) ≡ true) × (after ≡ gone_below d page.body key)
TakesInner entries d key page after (Taken.Fails cause) = IsFault entries d key page cause
TakesInner entries d key page after taken = ⊥

-- the page is the leaf that shows the reply
abbrev pub TakesLeaf : List CatEntry → Descent → List ℕ → Page → Taken → Type 0
TakesLeaf entries d key page (Taken.Replies reply) =
    (is_on_way entries d key (front_of page) ≡ true)
    × (reply ≡ values_at page key)
TakesLeaf entries d key page (Taken.Fails cause) = IsFault entries d key page cause
TakesLeaf entries d key page taken = ⊥

-- what a page made of it
abbrev pub TakesPage : List CatEntry → Descent → List ℕ → Page → Descent → Taken → Type 0
TakesPage entries d key page after taken =
    ((1 ≤ height_of page.body) × TakesInner entries d key page after taken)
    ⊎ ((height_of page.body ≡ 0) × TakesLeaf entries d key page taken)

-- what the bytes of the page that it needed made of it
abbrev pub DescentTakes : List CatEntry → Descent → List ℕ → List ℕ → Descent → Taken → Type 0
DescentTakes entries d key bytes after taken =
    (SpellsNone bytes × (taken ≡ Taken.Fails (Some (Path d.addr 0))))
    ⊎ ((page : Page) × SpellsPage bytes page × TakesPage entries d key page after taken)

-- the same by the kept catalog, where there was memory for it
abbrev pub DescentGoesOn : Option (List CatEntry) → Descent → List ℕ → List ℕ → Descent
    → Result Taken NoMemory → Type 0
DescentGoesOn catalog d key bytes after result =
    (entries : List CatEntry) → catalog ≡ Some entries
    → IfOk result (DescentTakes entries d key bytes after)

abbrev pub TakesPageBy : Option (List CatEntry) → Descent → List ℕ → Page → Descent
    → Result Taken NoMemory → Type 0
TakesPageBy catalog d key page after result =
    (entries : List CatEntry) → catalog ≡ Some entries
    → IfOk result (TakesInner entries d key page after)
