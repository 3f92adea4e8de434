-- How a scan stands once it has taken a page.
use Rattle.std.proofs.Common.{◌≡◌, ℕ, ◌≤◌, Bool, true, false, List, Option, refl, arith}
use Rattle.std.specs.Prelude.{if◌then◌else◌}
use Rattle.mn_page.specs.declared.page.Body.{Body}
use Rattle.mn_page.specs.declared.page.Body.TheVariants.{Leaf, Inner}
use Rattle.mn_page.specs.declared.page.Page.{Page}
use Rattle.mn_page.specs.Grammar.{IsBody, IsPage, height_of}
use Rattle.mn_scan.specs.Scan.{IsNeeded, ScanState, fed, fed_body, may_be_leaf, step_of}
use Rattle.mn_scan.specs.declared.step.ScanStep.TheVariants.{Need, Ended}
use Rattle.mn_base.specs.declared.ids.Addr.{Addr}
use Rattle.mn_page.specs.declared.entry.CatEntry.{CatEntry}
use Rattle.mn_work.specs.declared.next.Taken.{Taken}
use Rattle.mn_work.specs.declared.next.Taken.TheVariants.{GoesOn, Leaf as TheLeaf, Replies, Fails}
use Rattle.mn_work.specs.declared.scan.Passage.TheVariants.{Missing}
use Rattle.mn_work.specs.Scans.{StaysBefore, TakesPage, WalksAlike, passage_of}
use Rattle.mn_work.specs.Walks.{IsAbove}

above_in : (s : ScanState) (fence : Option (List ℕ)) (low : List ℕ) (b : Body) → IsBody low fence b
    → IsAbove (fed_body s fence b).above
above_in s fence low (Leaf pairs) is = tt
above_in s fence low (Inner level first rest) is = is.0

-- the page above the next one is at least 1 high
pub fed_above : (s : ScanState) (p : Page) → IsPage p → IsAbove (fed s p).above
fed_above s p is = above_in s p.high p.low p.body is.body

alike_in : (s : ScanState) (fence : Option (List ℕ)) (b : Body) → 1 ≤ height_of b
    → WalksAlike s (fed_body s fence b)
alike_in s fence (Leaf pairs) high = absurd (omega arith)
alike_in s fence (Inner level first rest) high = refl

-- behind an inner page it walks to the same leaf
pub fed_alike : (s : ScanState) (p : Page) → 1 ≤ height_of p.body → WalksAlike s (fed s p)
fed_alike s p high = alike_in s p.high p.body high

-- a page that is no leaf leaves it before the same one
pub stays_alike : (catalog : Option (List CatEntry)) (name : List ℕ) (before after : ScanState)
    (addr : Addr) (page : Page) (taken : Taken) → 1 ≤ height_of page.body
    → TakesPage catalog name before addr page after taken → StaysBefore before after taken
    → WalksAlike before after
stays_alike catalog name before after addr page GoesOn high takes stays = stays
stays_alike catalog name before after addr page TheLeaf high takes stays =
    let low = takes.2 in absurd (omega arith)
stays_alike catalog name before after addr page (Replies reply) high takes stays = stays
stays_alike catalog name before after addr page (Fails cause) high takes stays = stays

-- the page that it needs stands where it tells
pub needs_at : (s : ScanState) (addr : Addr) (leaf : Bool) → Need addr leaf ≡ step_of s → IsNeeded s addr
needs_at s addr leaf needs = by s.ended refl needs
  where
    by : (ended : Bool) → s.ended ≡ ended → Need addr leaf ≡ (if ended then Ended else Need s.needed (may_be_leaf s.above)) → IsNeeded s addr
    by true is e = absurd cc
    by false is e = (is, (let same : s.needed ≡ addr = cc in same))

-- it isn't missing
pub not_missing : (taken : Taken) → passage_of taken ≡ Missing → ⊥
not_missing GoesOn e = cc
not_missing TheLeaf e = cc
not_missing (Replies reply) e = cc
not_missing (Fails cause) e = cc
