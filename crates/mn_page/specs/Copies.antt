-- A page that is copied for a version: what becomes of it, and its copy.
use Rattle.std.specs.Prelude.{◌<◌}
use Rattle.mn_base.specs.Store.{max_versions}
use Rattle.mn_base.specs.declared.ids.VersionNo.{VersionNo}
use Rattle.mn_page.specs.declared.page.Page.{Page}
use Rattle.mn_page.specs.Grammar.{IsPage}
use Rattle.mn_page.specs.Overlay.{copied_for, new_page, next_number}

-- the old page as it is written again: with the version in its copied set and the next sequence
-- number, where the last one stays
abbrev pub marked_for : VersionNo → Page → Page
marked_for v p = record (copied_for v p) { seq = next_number p.seq }

-- its copy: made in the version, copied for none, with the first sequence number, and else the same
abbrev pub copy_for : VersionNo → Page → Page
copy_for v p = new_page v p.low p.high p.body

-- for a later version both are pages
abbrev pub CopiesArePages : Type 0
CopiesArePages =
    (v : VersionNo) (p : Page) → IsPage p → p.made.0 < v.0 → v.0 < max_versions
    → IsPage (marked_for v p) × IsPage (copy_for v p)
