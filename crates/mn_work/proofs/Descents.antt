-- A descent goes on below pages that are at least 1 high.
use Rattle.std.proofs.Common.{◌≡◌, ℕ, List, Option, refl}
use Rattle.mn_page.specs.declared.page.Body.{Body}
use Rattle.mn_page.specs.declared.page.Body.TheVariants.{Leaf, Inner}
use Rattle.mn_page.specs.declared.page.Page.{Page}
use Rattle.mn_page.specs.Grammar.{IsBody, IsPage}
use Rattle.mn_work.specs.declared.get.Descent.{Descent}
use Rattle.mn_work.specs.Descents.{gone_below}
use Rattle.mn_work.specs.Walks.{IsAbove}

above_in : (d : Descent) (low : List ℕ) (high : Option (List ℕ)) (b : Body) (key : List ℕ)
    → IsBody low high b → IsAbove d.above → IsAbove (gone_below d b key).above
above_in d low high (Leaf pairs) key is above = above
above_in d low high (Inner level first rest) key is above = is.0

pub gone_above : (d : Descent) (p : Page) (key : List ℕ) → IsPage p → IsAbove d.above
    → IsAbove (gone_below d p.body key).above
gone_above d p key is above = above_in d p.low p.high p.body key is.body above

version_in : (d : Descent) (b : Body) (key : List ℕ) → (gone_below d b key).version ≡ d.version
version_in d (Leaf pairs) key = refl
version_in d (Inner level first rest) key = refl

pub gone_version : (d : Descent) (p : Page) (key : List ℕ)
    → (gone_below d p.body key).version ≡ d.version
gone_version d p key = version_in d p.body key
