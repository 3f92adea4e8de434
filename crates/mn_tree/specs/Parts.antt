-- A body in the parts that pages can hold.
use Rattle.std.specs.Prelude.{◌≡◌, Option, Some, None}
use Rattle.mn_page.specs.declared.page.Body.{Body}
use Rattle.mn_page.specs.Overlay.{Halves}
use Rattle.mn_tree.specs.declared.body.Parts.{Parts}
use Rattle.mn_tree.specs.declared.body.Parts.TheVariants as parts

-- these are the halves
abbrev pub AreHalves : Option Halves → Parts → Type 0
AreHalves halves (parts.Whole body) = ⊥
AreHalves halves (parts.Halves left separator right) =
    halves ≡ Some (record { left = left; separator = separator; right = right })

-- the body as it is, where it has no halves, or else its halves
abbrev pub AreParts : Body → Option Halves → Parts → Type 0
AreParts body halves (parts.Whole whole) = (halves ≡ None) × (whole ≡ body)
AreParts body halves (parts.Halves left separator right) =
    halves ≡ Some (record { left = left; separator = separator; right = right })
