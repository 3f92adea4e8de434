-- What a try has read, as its client's own list shows it. Of a first try nothing need be shown:
-- what it uses may have been kept, or peeked at.
use Rattle.std.specs.Prelude.{ℕ, zero, suc, ◌≡◌, ◌-◌, ◌≤◌, Bool, nat_lt, List, Option, Some, None}
use Rattle.std.specs.Prelude.{⊤}
use Rattle.std.specs.Prelude.{Contains, slice_get, MatchOption}
use Rattle.std.specs.Option.{option_map}
use Rattle.mn_base.specs.Store.{number_named, op_version, refusal}
use Rattle.mn_base.specs.declared.ids.Addr.{Addr}
use Rattle.mn_base.specs.declared.ids.VersionNo.{VersionNo}
use Rattle.mn_base.specs.declared.op.Op.{Op}
use Rattle.mn_base.specs.declared.answer.Busy.{Busy}
use Rattle.mn_page.specs.declared.entry.CatEntry.{CatEntry}
use Rattle.mn_page.specs.Forest.{heads_in}
use Rattle.mn_law.specs.Places.{page_place}
use Rattle.mn_runs.specs.Seen.{Seen}
use Rattle.mn_law.specs.Answers.{MeetsFault, ReachesAddr}

-- asked of a later try alone, of which so many failed before
abbrev pub IfLater : ℕ → Type 0 → Type 0
IfLater zero told = ⊤
IfLater (suc n) told = told

-- a read brought the bytes of the page's place
abbrev pub seen_page : Addr → List ℕ → Seen
seen_page addr bytes = record { place = page_place addr; bytes = bytes }

abbrev pub IsReadBy : ℕ → List Seen → Addr → List ℕ → Type 0
IsReadBy failed seens addr bytes = IfLater failed (Contains seens (seen_page addr bytes))

-- a catalog admits the operation, and gives the number of its version
pub record Admits (entries : List CatEntry) (op : Op) (version : VersionNo) (root : Addr)
    : Type 0 where
  pub entry : CatEntry
  pub admitted : refusal (heads_in entries) op ≡ None
  pub named : number_named (heads_in entries) (op_version op) ≡ Some version.0
  pub there : slice_get entries version.0 ≡ Some entry
  pub root_is : entry.root ≡ root

-- the height of the page below one of this height; the root has none above
abbrev pub height_below : Option ℕ → Option ℕ
height_below above = option_map (λ a. a - 1) above

-- pages that name others are at least 1 high
abbrev pub IsAbove : Option ℕ → Type 0
IsAbove above = MatchOption above ⊤ (λ a. 1 ≤ a)

-- a walk for the key has come to this address, named by a page of that height
abbrev pub WalkComesTo : ℕ → List Seen → Op → List CatEntry → List ℕ → Addr → Option ℕ → Type 0
WalkComesTo failed seens op entries key addr above =
    IsAbove above × IfLater failed (ReachesAddr seens op entries key addr (height_below above))

-- the reads met a fault on the way of this key
abbrev pub MeetsFor : ℕ → List Seen → Op → List ℕ → Busy → Type 0
MeetsFor nodes seens op key busy = MeetsFault nodes seens op (λ other. other ≡ key) busy

-- why a try failed: of a later one a cause is shown, on the way of one of these keys, if one is
-- told
abbrev pub FailsBy : ℕ → ℕ → List Seen → Op → (List ℕ → Type 0) → Option Busy → Type 0
FailsBy nodes failed seens op IsKey cause =
    MatchOption cause ⊤ (λ busy. IfLater failed (MeetsFault nodes seens op IsKey busy))

-- a later try, by how many failed before it
abbrev pub is_later : ℕ → Bool
is_later failed = nat_lt 0 failed
