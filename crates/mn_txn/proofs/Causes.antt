-- What a try read shows why it is answered as full or worn.
use Rattle.std.proofs.Common.{◌≡◌, inl, ℕ, ◌-◌, ◌^◌, ◌≤◌, List, take, drop, Contains}
use Rattle.std.proofs.Common.{refl, sym, ap, ◌∙◌, arith}
use Rattle.byteorder.specs.Endian.{big_bytes}
use Rattle.mn_page.specs.declared.entry.CatEntry.{CatEntry}
use Rattle.mn_page.specs.Overlay.{Held, held_at}
use Rattle.mn_tree.specs.Plain.{TriesShowNeeds}
use Rattle.mn_runs.specs.Seen.{Place, Seen}
use Rattle.mn_law.specs.Places.{page_place}
use Rattle.mn_law.specs.Shown.{SeesPage, ServesNamed}
use Rattle.mn_txn.specs.Tries.{TriesShowCauses, WornPagesShow}
use Rattle.mn_txn.proofs.Known.{came_of}

pub tries_show_causes : TriesShowNeeds → TriesShowCauses
tries_show_causes tries_show_needs seens name done r parents moves d found come few =
    let needs = tries_show_needs parents r.version r.entry.root moves d r.pages done found name come few in
    ((r, needs.0), λ addr changed. (r, inl (d.overlay.changed, addr, needs.1, changed, refl)))

-- a read brought the page at its address, which serves the version of this name
abbrev IsSeen : List Seen → List CatEntry → List ℕ → Held → Type 0
IsSeen seens entries name h =
    (seen : Seen) × Contains seens seen × SeesPage seen h.addr h.page × ServesNamed entries name h.page

pub worn_pages_show : TriesShowNeeds → WornPagesShow
worn_pages_show tries_show_needs seens a r parents found node start come few worn = (
  page_place worn.addr,
  worn.node_is,
  worn.start_is,
  (tries_show_causes tries_show_needs seens a.name a.steps r parents a.moves a.draft found come few).1 worn.addr worn.changed,
  shown seen.0 seen.1 seen.2,
)
  where
    seen : IsSeen seens r.entries a.name (record { addr = worn.addr; page = worn.page })
    seen = came_of (IsSeen seens r.entries a.name) r.pages worn.addr worn.page r.read (ap (λ (hs : List Held). held_at hs worn.addr) (sym come.pages) ∙ worn.came)

    shown : (s : Seen) → Contains seens s → SeesPage s worn.addr worn.page
        → (x : Seen) × Contains seens x × (x.place.node ≡ node) × (x.place.start ≤ start)
        × (take 8 (drop (start - x.place.start) x.bytes) ≡ big_bytes 8 (2 ^ 64 - 1))
    shown s has sees =
        let at : s.place.start ≡ start = ap (λ (p : Place). p.start) sees.0 ∙ worn.start_is in
        let none : start - s.place.start ≡ 0 = omega (arith, at) in (
          s,
          has,
          ap (λ (p : Place). p.node) sees.0 ∙ worn.node_is,
          omega (arith, at),
          ap (λ n. take 8 (drop n s.bytes)) none ∙ (ap (take 8) (sees.1).1 ∙ worn.number),
        )
