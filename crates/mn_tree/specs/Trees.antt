-- Trees whose pages a transaction changes in memory: the pages that it holds, over those of the
-- memory.
use Rattle.std.specs.Prelude.{◌≡◌, ℕ, ◌≤◌, nat_lt, false, IsTrue, List, [], ◌∷◌, Option, Some, None}
use Rattle.std.specs.Prelude.{slice_get, Bool, true}
use Rattle.std.specs.List.{list_all, list_any}
use Rattle.std.specs.Option.{option_or}
use Rattle.mn_base.specs.Ids.{addr_same}
use Rattle.mn_base.specs.Order.{key_lt, below_bound}
use Rattle.mn_base.specs.Store.{Store}
use Rattle.mn_base.specs.Tree.{versions_in}
use Rattle.mn_base.specs.declared.ids.Addr.{Addr}
use Rattle.mn_page.specs.declared.entry.CatEntry.{CatEntry}
use Rattle.mn_page.specs.declared.page.Page.{Page}
use Rattle.mn_page.specs.declared.page.Body.{Body}
use Rattle.mn_page.specs.declared.page.Body.TheVariants.{Leaf, Inner}
use Rattle.mn_page.specs.declared.page.Child.{Child}
use Rattle.mn_page.specs.Holds.{PagesAt, IsTree, ShowsStore}
use Rattle.mn_page.specs.Overlay.{Held, Overlay, held_at, is_new, new_addr}

-- the pages that a transaction holds, and under them those of the memory
abbrev pub laid_over : List Held → PagesAt → PagesAt
laid_over pages at addr = option_or (held_at pages addr) (at addr)

-- a low fence, the separators behind it and the high fence ascend
abbrev pub AreRising : List ℕ → List Child → Option (List ℕ) → Type 0
AreRising low [] high = IsTrue (below_bound low high)
AreRising low (c ∷ cs) high = IsTrue (key_lt low c.separator) × AreRising c.separator cs high

abbrev pub children_after : Body → List Child
children_after (Leaf pairs) = []
children_after (Inner height first rest) = rest

-- what the grammar asks of a page's order: its fences and separators ascend, and it was copied for
-- later versions alone
pub record IsOrdered (p : Page) : Type 0 where
  pub rising : AreRising p.low (children_after p.body) p.high
  pub copied_above : IsTrue (list_all (nat_lt p.made.0) (versions_in p.copied))

-- the pages are a tree, in order, and show the store
pub record ShowsTree (entries : List CatEntry) (at : PagesAt) (store : Store) : Type 0 where
  pub tree : IsTree entries at
  pub ordered : (addr : Addr) (p : Page) → at addr ≡ Some p → IsOrdered p
  pub shows : ShowsStore entries at store

-- the version is one of the entries', and isn't frozen
pub record IsWritable (entries : List CatEntry) (v : ℕ) : Type 0 where
  pub entry : CatEntry
  pub there : slice_get entries v ≡ Some entry
  pub writable : entry.frozen ≡ false

-- the address is among these
abbrev pub is_noted : List Addr → Addr → Bool
is_noted addrs x = list_any (λ a. addr_same a x) addrs

-- an old page that was changed: the memory has it, and the transaction holds it
pub record IsChanged (at : PagesAt) (o : Overlay) (x : Addr) : Type 0 where
  pub old : is_new x ≡ false
  pub was : Page
  pub there : at x ≡ Some was
  pub now : Page
  pub held : held_at o.pages x ≡ Some now

-- the pages of a transaction, with those of the memory under them, show the store
pub record IsDraft (entries : List CatEntry) (at : PagesAt) (store : Store) (o : Overlay)
    : Type 0 where
  pub shown : ShowsTree entries (laid_over o.pages at) store
  -- the memory has no page at the address of a new one, and there is none yet at those to come
  pub none_new : (n : ℕ) → at (new_addr n) ≡ None
  pub fresh : (n : ℕ) → o.fresh ≤ n → laid_over o.pages at (new_addr n) ≡ None
  -- old pages are as they were, but for those noted as changed
  pub same : (x : Addr) → is_new x ≡ false → is_noted o.changed x ≡ false
      → laid_over o.pages at x ≡ at x
  pub changed : (x : Addr) → is_noted o.changed x ≡ true → IsChanged at o x
