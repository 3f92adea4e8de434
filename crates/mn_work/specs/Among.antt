-- Walks among the pages that a try has read.
use Rattle.std.specs.Prelude.{ℕ, ◌≡◌, ◌≤◌, List, [], ◌∷◌, Option, Some, None, IfSome, Contains, ⊤}
use Rattle.std.specs.List.{AllByRecursion}
use Rattle.mn_base.specs.Store.{number_named, op_version}
use Rattle.mn_base.specs.declared.ids.Addr.{Addr}
use Rattle.mn_base.specs.declared.ids.VersionNo.{VersionNo}
use Rattle.mn_base.specs.declared.op.Op.{Op}
use Rattle.mn_base.specs.declared.answer.Busy.{Busy}
use Rattle.mn_page.specs.declared.entry.CatEntry.{CatEntry}
use Rattle.mn_page.specs.Forest.{heads_in}
use Rattle.mn_runs.specs.Seen.{Seen}
use Rattle.mn_law.specs.Answers.{ReachesAddr}
use Rattle.mn_txn.specs.declared.seen.SeenPage.{SeenPage}
use Rattle.mn_work.specs.declared.causes.Met.{Met}
use Rattle.mn_work.specs.declared.causes.Met.TheVariants as met
use Rattle.mn_work.specs.Walks.{MeetsFor, height_below, seen_page}

-- reads brought the pages
abbrev pub AreBrought : List Seen → List SeenPage → Type 0
AreBrought seens pages = AllByRecursion (λ p. Contains seens (seen_page p.addr p.bytes)) pages

-- the reads give the version its number, and one key leads to this address
abbrev pub WalksAmong : List Seen → Op → List CatEntry → VersionNo → List ℕ → Addr → Option ℕ
    → Type 0
WalksAmong seens op entries version key addr above =
    (number_named (heads_in entries) (op_version op) ≡ Some version.0)
    × ReachesAddr seens op entries key addr (height_below above)

-- an inner page is at least 1 high
abbrev pub IsHigh : Met → Type 0
IsHigh (met.Below addr height) = 1 ≤ height
IsHigh other = ⊤

-- a fault is one of the reads, on the way of the key; and below an inner page the key leads on
abbrev pub IsMet : ℕ → List Seen → Op → List CatEntry → List ℕ → Met → Type 0
IsMet nodes seens op entries key (met.Fault busy) = MeetsFor nodes seens op key busy
IsMet nodes seens op entries key met.End = ⊤
IsMet nodes seens op entries key (met.Below addr height) =
    ReachesAddr seens op entries key addr (height_below (Some height))

-- how the walk goes on at a page that was read
abbrev pub MeetsAt : ℕ → List CatEntry → VersionNo → List ℕ → Option ℕ → SeenPage → Met → Type 0
MeetsAt nodes entries version key above seen met =
    (seens : List Seen) (op : Op) → WalksAmong seens op entries version key seen.addr above
    → AreBrought seens (seen ∷ []) → IsMet nodes seens op entries key met

-- and at an address, among the pages that were read
abbrev pub MeetsAmong : ℕ → List CatEntry → VersionNo → List ℕ → Addr → Option ℕ → List SeenPage
    → Met → Type 0
MeetsAmong nodes entries version key addr above pages met =
    (seens : List Seen) (op : Op) → WalksAmong seens op entries version key addr above
    → AreBrought seens pages → IsMet nodes seens op entries key met

-- a fault that is found is one of the reads, where the key leads from the root
abbrev pub FaultIsMet : ℕ → List CatEntry → VersionNo → List ℕ → Addr → List SeenPage
    → Option Busy → Type 0
FaultIsMet nodes entries version key root pages found =
    (seens : List Seen) (op : Op) → WalksAmong seens op entries version key root None
    → AreBrought seens pages → IfSome found (MeetsFor nodes seens op key)
