-- What is read from the front of bytes.
use Rattle.std.specs.Prelude.{◌≡◌, ℕ, ◌^◌, ◌<◌, ◌≤◌, Bool, true, ◌&&◌, nat_lt, nat_eq, IsTrue}
use Rattle.std.specs.Prelude.{List, [], ◌∷◌, ◌++◌, map, take, length, Option, if◌then◌else◌, ⊤}
use Rattle.std.specs.List.{flat_map, list_all, AllByRecursion}
use Rattle.std.specs.Option.{option_map}
use Rattle.byteorder.specs.Endian.{big_bytes}
use Rattle.mn_base.specs.Order.{key_lt, key_le, below_bound, covers_key}
use Rattle.mn_base.specs.Store.{is_ascending}
use Rattle.mn_base.specs.Tree.{versions_in}
use Rattle.mn_base.specs.declared.ids.Addr.{Addr}
use Rattle.mn_base.specs.declared.reply.Pair.{Pair}
use Rattle.mn_page.specs.declared.error.PageError.{PageError}
use Rattle.mn_page.specs.declared.error.PageError.TheVariants.{BadPage, NoMemory}
use Rattle.mn_page.specs.declared.page.Page.{Page}
use Rattle.mn_page.specs.declared.page.Body.{Body}
use Rattle.mn_page.specs.declared.page.Body.TheVariants.{Leaf, Inner}
use Rattle.mn_page.specs.declared.page.Child.{Child}
use Rattle.mn_page.specs.declared.entry.CatEntry.{CatEntry}
use Rattle.mn_page.specs.declared.entry_read.EntryRef.{EntryRef}
use Rattle.mn_page.specs.declared.page_ref.Head.{Head}
use Rattle.mn_page.specs.declared.page_ref.PairRef.{PairRef}
use Rattle.mn_page.specs.declared.page_ref.ChildRef.{ChildRef}
use Rattle.mn_page.specs.declared.page_ref.BodyRef.{BodyRef}
use Rattle.mn_page.specs.declared.page_ref.Frame.{Frame}
use Rattle.mn_page.specs.Grammar.{state_byte, parent_byte, IsParent, IsKey, IsValue, IsAddr}
use Rattle.mn_page.specs.Grammar.{IsBound, counted, high_bytes, addr_bytes, child_bytes, count_in}
use Rattle.mn_page.specs.Grammar.{body_bytes, height_of, are_ascending, IsBody}

-- Values as they are lent

abbrev pub pair_seen : PairRef → Pair
pair_seen p = record { key = p.key.now; value = p.value.now }

abbrev pub child_seen : ChildRef → Child
child_seen c = record { separator = c.separator.now; addr = c.addr }

abbrev pub pairs_seen : ℕ → List PairRef → List Pair
pairs_seen count pairs = map pair_seen (take count pairs)

abbrev pub children_seen : ℕ → List ChildRef → List Child
children_seen count children = map child_seen (take count children)

abbrev pub body_seen : BodyRef → Body
body_seen b =
    if nat_eq b.height 0 then Leaf (pairs_seen b.count b.pairs)
    else Inner b.height b.first (children_seen b.count b.rest)

-- Reading

-- a value that may stand there is spelled at the front, and this follows
pub record Begins {X : Type 0} (Is : X → Type 0) (spelling : X → List ℕ) (bytes : List ℕ)
    (value : X) (rest : List ℕ) : Type 0 where
  pub may : Is value
  pub spelled : bytes ≡ spelling value ++ rest

-- bytes of a length within bounds
abbrev pub HasLength : ℕ → ℕ → List ℕ → Type 0
HasLength least most text =
    (least ≤ length text) × (length text ≤ most) × IsTrue (list_all (λ b. nat_lt b 256) text)

-- bytes as they stand
abbrev pub as_they_stand : List ℕ → List ℕ
as_they_stand bytes = bytes

-- the kind of a page of this height
abbrev pub kind_at : ℕ → ℕ
kind_at height = if nat_eq height 0 then 1 else 2

-- a number in eight bytes, the highest first
unfoldable pub eight : ℕ → List ℕ
eight n = big_bytes 8 n

-- each version of the set is above this one
unfoldable pub are_above : ℕ → ℕ → Bool
are_above made copied = list_all (nat_lt made) (versions_in copied)

-- the first field: how often the slot was written
abbrev pub IsSeq : ℕ → Type 0
IsSeq seq = (1 ≤ seq) × (seq < 2 ^ 64)

-- the kind and the height
abbrev pub height_text : ℕ → List ℕ
height_text height = kind_at height ∷ big_bytes 2 height

-- the made version and the set of those that the page was copied for
abbrev pub versions_text : ℕ × ℕ → List ℕ
versions_text v = v.0 ∷ eight v.1

abbrev pub AreVersions : ℕ × ℕ → Type 0
AreVersions v = (v.0 < 64) × (v.1 < 2 ^ 64) × IsTrue (are_above v.0 v.1)

-- what stands before the fences
abbrev pub head_text : Head → List ℕ
head_text h = eight h.seq ++ (height_text h.height ++ versions_text (h.made.0, h.copied))

pub record IsHead (h : Head) : Type 0 where
  pub seq : IsSeq h.seq
  pub height : h.height < 2 ^ 16
  pub versions : AreVersions (h.made.0, h.copied)

-- a pair and a child that the fences allow
abbrev pub IsPairWithin : List ℕ → Option (List ℕ) → Pair → Type 0
IsPairWithin low high p = IsKey p.key × IsValue p.value × IsTrue (covers_key low high p.key)

abbrev pub IsChildWithin : List ℕ → Option (List ℕ) → Child → Type 0
IsChildWithin low high c =
    IsKey c.separator × IsAddr c.addr × IsTrue (key_lt low c.separator)
    × IsTrue (below_bound c.separator high)

-- a pair and a child of a page with any fences
abbrev pub IsPair : Pair → Type 0
IsPair p = IsKey p.key × IsValue p.value

abbrev pub IsChild : Child → Type 0
IsChild c = IsKey c.separator × IsAddr c.addr

-- so many of them
abbrev pub AreMany : {X : Type 0} → (X → Type 0) → ℕ → List X → Type 0
AreMany Is count xs = (length xs ≡ count) × AllByRecursion Is xs

-- a body of a page of this height
abbrev pub IsBodyAt : ℕ → List ℕ → Option (List ℕ) → Body → Type 0
IsBodyAt height low high body = (height ≡ height_of body) × IsBody low high body

abbrev pub body_text : Body → List ℕ
body_text body = count_in body ∷ body_bytes body

-- the pairs of a leaf, so many; the first child of an inner page and the others, so many
abbrev pub ArePairsOf : List ℕ → Option (List ℕ) → ℕ → List Pair → Type 0
ArePairsOf low high count pairs =
    (length pairs ≡ count) × (count ≤ 8) × IsTrue (is_ascending pairs)
    × AllByRecursion (IsPairWithin low high) pairs

abbrev pub AreChildrenOf : List ℕ → Option (List ℕ) → ℕ → Addr × List Child → Type 0
AreChildrenOf low high count children =
    (length children.1 ≡ count) × (1 ≤ count) × (count ≤ 7) × IsAddr children.0
    × IsTrue (are_ascending children.1) × AllByRecursion (IsChildWithin low high) children.1

abbrev pub children_text : Addr × List Child → List ℕ
children_text children = addr_bytes children.0 ++ flat_map child_bytes children.1

-- the key and those behind it ascend, and the last is below the bound
abbrev pub ascends_to : List ℕ → List (List ℕ) → Option (List ℕ) → Bool
ascends_to key [] high = below_bound key high
ascends_to key (next ∷ keys) high = key_lt key next && ascends_to next keys high

-- the pairs ascend from the low fence to the high one
abbrev pub pairs_fit : List ℕ → Option (List ℕ) → List Pair → Bool
pairs_fit low high [] = true
pairs_fit low high (p ∷ ps) = key_le low p.key && ascends_to p.key (map (λ q. q.key) ps) high

-- how many places the arrays have
abbrev pub HasSizes : BodyRef → Type 0
HasSizes b = (length b.pairs ≡ 8) × (length b.rest ≡ 7)

-- the arrays have what is counted
pub record HasCounted (b : BodyRef) : Type 0 where
  pub pairs : b.count ≤ 8
  pub rest : 1 ≤ b.height → b.count ≤ 7
  pub sizes : HasSizes b

-- a page by its parts
abbrev pub page_seen : Head → List ℕ → Option (List ℕ) → Body → Page
page_seen head low high body =
    record {
      seq = head.seq;
      made = head.made;
      copied = head.copied;
      low = low;
      high = high;
      body = body;
    }

-- a page by what stands in front of its body, and by that
abbrev pub framed : Frame → BodyRef → Page
framed frame body =
    page_seen frame.head frame.low.now (option_map (λ h. h.now) frame.high) (body_seen body)

abbrev pub head_of : Page → Head
head_of p = record { seq = p.seq; height = height_of p.body; made = p.made; copied = p.copied }

-- the low fence and the high one
abbrev pub fences_text : List ℕ × Option (List ℕ) → List ℕ
fences_text fences = counted fences.0 ++ high_bytes fences.1

abbrev pub AreFences : List ℕ × Option (List ℕ) → Type 0
AreFences fences =
    HasLength 0 32 fences.0 × IsBound fences.1 × IsTrue (below_bound fences.0 fences.1)

-- its fields in order, without the zeros behind them
abbrev pub page_text : Page → List ℕ
page_text p = head_text (head_of p) ++ (fences_text (p.low, p.high) ++ body_text p.body)

-- What a page tells

-- the keys of a leaf, or the separators of an inner page
abbrev pub keys_in : Body → List (List ℕ)
keys_in (Leaf pairs) = map (λ p. p.key) pairs
keys_in (Inner height first rest) = map (λ c. c.separator) rest

-- the values of a leaf
abbrev pub values_in : Body → List (List ℕ)
values_in (Leaf pairs) = map (λ p. p.value) pairs
values_in (Inner height first rest) = []

-- where the children of an inner page stand
abbrev pub addrs_in : Body → List Addr
addrs_in (Leaf pairs) = []
addrs_in (Inner height first rest) = first ∷ map (λ c. c.addr) rest

-- the refusal is for want of memory
abbrev pub IsWantOfMemory : PageError → Type 0
IsWantOfMemory e = e ≡ NoMemory

-- Entries

abbrev pub entry_seen : EntryRef → CatEntry
entry_seen e =
    record { seq = e.seq; frozen = e.frozen; parent = e.parent; root = e.root; name = e.name.now }

-- its fields in order, without the zeros behind them
abbrev pub entry_text : CatEntry → List ℕ
entry_text e =
    eight e.seq ++ (state_byte e.frozen
    ∷ (parent_byte e.parent ∷ (addr_bytes e.root ++ counted e.name)))

-- an entry, but for the rules on the bytes of its name
pub record IsNamed (e : CatEntry) : Type 0 where
  pub seq : IsSeq e.seq
  pub parent : IsParent e.parent
  pub root : IsAddr e.root
  pub name : HasLength 1 16 e.name

-- the place that is named, if one is, is at most so much
abbrev pub IsPlaceWithin : ℕ → PageError → Type 0
IsPlaceWithin most (BadPage at) = at ≤ most
IsPlaceWithin most NoMemory = ⊤
