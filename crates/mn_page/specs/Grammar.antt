-- The bytes of pages and catalog entries. Each has one spelling: its fields in order, then zeros.
use Rattle.std.specs.Prelude.{◌≡◌, ℕ, ◌+◌, ◌-◌, ◌^◌, ◌<◌, ◌≤◌, Bool, true, false, ◌&&◌, nat_lt}
use Rattle.std.specs.Prelude.{IsTrue, List, [], ◌∷◌, ◌++◌, length, replicate, Option, Some, None, ⊤}
use Rattle.std.specs.List.{flat_map, list_all, AllByRecursion}
use Rattle.byteorder.specs.Endian.{big_bytes}
use Rattle.mn_base.specs.Name.{IsName}
use Rattle.mn_base.specs.Order.{key_lt, below_bound, covers_key}
use Rattle.mn_base.specs.Store.{is_ascending}
use Rattle.mn_base.specs.Tree.{versions_in}
use Rattle.mn_base.specs.declared.ids.Addr.{Addr}
use Rattle.mn_base.specs.declared.ids.VersionNo.{VersionNo}
use Rattle.mn_base.specs.declared.reply.Pair.{Pair}
use Rattle.mn_page.specs.declared.page.Page.{Page}
use Rattle.mn_page.specs.declared.page.Body.{Body}
use Rattle.mn_page.specs.declared.page.Body.TheVariants.{Leaf, Inner}
use Rattle.mn_page.specs.declared.page.Child.{Child}
use Rattle.mn_page.specs.declared.entry.CatEntry.{CatEntry}
use Rattle.mn_page.specs.Space.{entry_size, slot_size, max_slots}

-- bytes, then zeros up to n bytes
abbrev pub padded : ℕ → List ℕ → List ℕ
padded n bytes = bytes ++ replicate (n - length bytes) 0

-- the length in one byte, then the bytes
abbrev pub counted : List ℕ → List ℕ
counted bytes = length bytes ∷ bytes

-- the node in one byte, the slot in two
abbrev pub addr_bytes : Addr → List ℕ
addr_bytes addr = addr.node.0 ∷ big_bytes 2 addr.slot

-- Spelling of a page

abbrev pub high_bytes : Option (List ℕ) → List ℕ
high_bytes None = 0 ∷ []
high_bytes (Some high) = 1 ∷ counted high

abbrev pub pair_bytes : Pair → List ℕ
pair_bytes p = counted p.key ++ counted p.value

abbrev pub child_bytes : Child → List ℕ
child_bytes c = counted c.separator ++ addr_bytes c.addr

-- 1 leaf, 2 inner
abbrev pub kind_of : Body → ℕ
kind_of (Leaf pairs) = 1
kind_of (Inner height first rest) = 2

abbrev pub height_of : Body → ℕ
height_of (Leaf pairs) = 0
height_of (Inner height first rest) = height

-- how many pairs, or how many children
abbrev pub count_in : Body → ℕ
count_in (Leaf pairs) = length pairs
count_in (Inner height first rest) = length rest + 1

abbrev pub body_bytes : Body → List ℕ
body_bytes (Leaf pairs) = flat_map pair_bytes pairs
body_bytes (Inner height first rest) = addr_bytes first ++ flat_map child_bytes rest

abbrev pub page_bytes : Page → List ℕ
page_bytes p =
    padded slot_size (
    big_bytes 8 p.seq ++ kind_of p.body ∷ [] ++ big_bytes 2 (height_of p.body) ++ p.made.0 ∷ []
    ++ big_bytes 8 p.copied
    ++ counted p.low ++ high_bytes p.high ++ count_in p.body ∷ [] ++ body_bytes p.body
    )

-- Rules of a page

abbrev pub IsKey : List ℕ → Type 0
IsKey key = (1 ≤ length key) × (length key ≤ 32) × IsTrue (list_all (λ b. nat_lt b 256) key)

abbrev pub IsValue : List ℕ → Type 0
IsValue value = (length value ≤ 64) × IsTrue (list_all (λ b. nat_lt b 256) value)

-- none or a key
abbrev pub IsBound : Option (List ℕ) → Type 0
IsBound None = ⊤
IsBound (Some key) = IsKey key

abbrev pub IsAddr : Addr → Type 0
IsAddr addr = (addr.node.0 < 8) × (addr.slot < max_slots)

-- the separators ascend
abbrev pub are_ascending : List Child → Bool
are_ascending [] = true
are_ascending (c ∷ []) = true
are_ascending (c ∷ (d ∷ cs)) = key_lt c.separator d.separator && are_ascending (d ∷ cs)

-- what the fences low and high allow a page to hold
abbrev pub IsBody : List ℕ → Option (List ℕ) → Body → Type 0
IsBody low high (Leaf pairs) =
    (length pairs ≤ 8) × IsTrue (is_ascending pairs)
    × AllByRecursion (λ p. IsKey p.key × IsValue p.value × IsTrue (covers_key low high p.key)) pairs
IsBody low high (Inner height first rest) =
    (1 ≤ height) × (height < 2 ^ 16) × (1 ≤ length rest) × (length rest ≤ 7) × IsAddr first
    × IsTrue (are_ascending rest)
    × AllByRecursion (λ c. IsKey c.separator × IsAddr c.addr × IsTrue (key_lt low c.separator)
    × IsTrue (below_bound c.separator high)) rest

pub record IsPage (p : Page) : Type 0 where
  pub seq_low : 1 ≤ p.seq
  pub seq_high : p.seq < 2 ^ 64
  pub made : p.made.0 < 64
  pub copied : p.copied < 2 ^ 64
  pub copied_above : IsTrue (list_all (nat_lt p.made.0) (versions_in p.copied))
  pub low : (length p.low ≤ 32) × IsTrue (list_all (λ b. nat_lt b 256) p.low)
  pub high : IsBound p.high
  pub fences : IsTrue (below_bound p.low p.high)
  pub body : IsBody p.low p.high p.body

-- the bytes of a slot spell this page
abbrev pub SpellsPage : List ℕ → Page → Type 0
SpellsPage bytes p = IsPage p × (bytes ≡ page_bytes p)

-- a free slot is zeros
abbrev pub IsFree : List ℕ → Type 0
IsFree bytes = bytes ≡ replicate slot_size 0

-- the bytes of a slot are neither those of a free one nor a page's
abbrev pub SpellsNoPage : List ℕ → Type 0
SpellsNoPage bytes = (IsFree bytes → ⊥) × ((p : Page) → SpellsPage bytes p → ⊥)

-- Entries

-- 1 writable, 2 frozen
abbrev pub state_byte : Bool → ℕ
state_byte false = 1
state_byte true = 2

abbrev pub parent_byte : Option VersionNo → ℕ
parent_byte None = 255
parent_byte (Some v) = v.0

abbrev pub entry_bytes : CatEntry → List ℕ
entry_bytes e =
    padded entry_size (big_bytes 8 e.seq ++ state_byte e.frozen ∷ [] ++ parent_byte e.parent ∷ []
    ++ addr_bytes e.root ++ counted e.name)

abbrev pub IsParent : Option VersionNo → Type 0
IsParent None = ⊤
IsParent (Some v) = v.0 < 64

pub record IsEntry (e : CatEntry) : Type 0 where
  pub seq_low : 1 ≤ e.seq
  pub seq_high : e.seq < 2 ^ 64
  pub parent : IsParent e.parent
  pub root : IsAddr e.root
  pub name : IsName e.name

-- the bytes of a place of the catalog spell this entry
abbrev pub SpellsEntry : List ℕ → CatEntry → Type 0
SpellsEntry bytes e = IsEntry e × (bytes ≡ entry_bytes e)

-- an unused place is zeros
abbrev pub IsUnused : List ℕ → Type 0
IsUnused bytes = bytes ≡ replicate entry_size 0

-- the bytes of a place are neither those of an unused one nor an entry's
abbrev pub SpellsNoEntry : List ℕ → Type 0
SpellsNoEntry bytes = (IsUnused bytes → ⊥) × ((e : CatEntry) → SpellsEntry bytes e → ⊥)
