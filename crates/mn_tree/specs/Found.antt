-- What the code's walk finds, in the words of the walk over lists.
use Rattle.std.specs.Prelude.{◌≡◌, ℕ, ◌<◌, true, false, List, [], ◌∷◌, Option, Some}
use Rattle.std.specs.Prelude.{None}
use Rattle.std.specs.Option.{option_map_or}
use Rattle.mn_base.specs.declared.ids.Addr.{Addr}
use Rattle.mn_page.specs.declared.page.Page.{Page}
use Rattle.mn_page.specs.Grammar.{height_of}
use Rattle.mn_page.specs.Overlay.{Held, held_at}
use Rattle.mn_tree.specs.declared.held.HeldPage.{HeldPage}
use Rattle.mn_tree.specs.declared.walk.Found.{Found}
use Rattle.mn_tree.specs.declared.walk.Found.TheVariants as found
use Rattle.mn_tree.specs.declared.walk.Walked.{Walked}
use Rattle.mn_tree.specs.declared.walk.Walked.TheVariants as end
use Rattle.mn_tree.specs.declared.way.Way.{Way}
use Rattle.mn_tree.specs.Walk.{held, Walk, Missing, Wrong, Reached}
use Rattle.mn_tree.specs.Way.{may_follow}

-- a page is held where the way of the key goes on, and the walk goes on at it
pub record IsMet (parents : List (Option ℕ)) (v : ℕ) (pages : List Held) (key : List ℕ) (way : Way)
    (h : HeldPage) : Type 0 where
  pub addr : h.addr ≡ way.next
  pub there : held_at pages way.next ≡ Some h.page
  pub follows : may_follow parents v key way.above h.page ≡ true

-- what a walk finds where its way goes on
abbrev pub IsFound : List (Option ℕ) → ℕ → List Held → List ℕ → Way → Found → Type 0
IsFound parents v pages key way found.Missing = held_at pages way.next ≡ None
IsFound parents v pages key way found.Wrong =
    (p : Page) × (held_at pages way.next ≡ Some p)
    × (may_follow parents v key way.above p ≡ false)
IsFound parents v pages key way (found.Leaf h) =
    IsMet parents v pages key way h.now × (height_of h.now.page.body ≡ 0)
IsFound parents v pages key way (found.Inner h) =
    IsMet parents v pages key way h.now × (0 < height_of h.now.page.body)

-- those that are held at these addresses; where none is, the one before it stands again
abbrev pub those_at : List Held → Held → List Addr → List Held
those_at pages at [] = []
those_at pages at (addr ∷ addrs) =
    let next = option_map_or (held addr) (held_at pages addr) at in next ∷ those_at pages next addrs

-- the page at which a way goes on, with those that it passed
abbrev pub path_at : List Held → Way → Page → List Held
path_at pages way p = let h = held way.next p in h ∷ those_at pages h way.passed.items

-- where a walk ended whose way came this far
abbrev pub Ended : List Held → Way → Walk → Walked → Type 0
Ended pages way walk end.Missing =
    (held_at pages way.next ≡ None) × (walk ≡ Missing way.next way.above)
Ended pages way walk end.Wrong = walk ≡ Wrong way.next
Ended pages way walk end.Reached =
    (p : Page) × (held_at pages way.next ≡ Some p) × (walk ≡ Reached (path_at pages way p))
