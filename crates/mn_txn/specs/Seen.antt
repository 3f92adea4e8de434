-- Pages as a try has seen them.
use Rattle.std.specs.Prelude.{List, [], ◌∷◌, Option, Some, None, nat_eq, if◌then◌else◌}
use Rattle.mn_base.specs.Ids.{addr_same}
use Rattle.mn_base.specs.declared.ids.Addr.{Addr}
use Rattle.mn_page.specs.Grammar.{height_of, page_bytes}
use Rattle.mn_page.specs.Overlay.{Held}
use Rattle.mn_txn.specs.declared.seen.SeenPage.{SeenPage}

-- the first one at the address
abbrev pub seen_at : List SeenPage → Addr → Option SeenPage
seen_at [] addr = None
seen_at (p ∷ pages) addr = if addr_same p.addr addr then Some p else seen_at pages addr

-- a page that came in, as it was seen
abbrev pub seen_as : Held → SeenPage
seen_as h = record {
  addr = h.addr;
  bytes = page_bytes h.page;
  leaf = nat_eq (height_of h.page.body) 0;
}
