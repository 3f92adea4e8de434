-- Which versions a page and its copy serve.
use Rattle.std.specs.Prelude.{◌≡◌, ℕ, not, ◌&&◌, List, Option}
use Rattle.mn_base.specs.Tree.{is_ancestor, serves}
use Rattle.mn_page.specs.declared.page.Page.{Page}

-- the old page serves what it served, but for the version and its descendants
abbrev pub ServesOthers : ℕ → Page → Page → Type 0
ServesOthers version page old =
    (parents : List (Option ℕ)) (w : ℕ)
    → serves parents old.made.0 old.copied w
    ≡ (serves parents page.made.0 page.copied w && not (is_ancestor parents version w))

-- the copy serves just these
abbrev pub ServesItsOwn : ℕ → Page → Type 0
ServesItsOwn version copy =
    (parents : List (Option ℕ)) (w : ℕ)
    → serves parents copy.made.0 copy.copied w ≡ is_ancestor parents version w
