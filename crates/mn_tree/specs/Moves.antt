-- How a transaction comes to its pages: a page comes in where a step asks for it, and steps are
-- done on the pages of their paths.
use Rattle.std.specs.Prelude.{ℕ, ◌≡◌, ◌+◌, ◌≤◌, ◌⊎◌, ◌||◌, Bool, true, false, nat_eq, List, [], ◌∷◌}
use Rattle.std.specs.Prelude.{◌++◌, filter, Option, None}
use Rattle.std.specs.Option.{option_map_or}
use Rattle.mn_base.specs.Store.{value_at, is_unmet, step_key, pairs_after_step, noted_by}
use Rattle.mn_base.specs.declared.ids.Addr.{Addr}
use Rattle.mn_base.specs.declared.ids.VersionNo.{VersionNo}
use Rattle.mn_base.specs.declared.op.Step.{Step}
use Rattle.mn_base.specs.declared.reply.Pair.{Pair}
use Rattle.mn_base.specs.declared.reply.Reply.{Reply}
use Rattle.mn_base.specs.declared.reply.Reply.TheVariants.{Values, Unmet}
use Rattle.mn_page.specs.declared.page.Page.{Page}
use Rattle.mn_page.specs.Grammar.{IsPage, IsAddr, height_of}
use Rattle.mn_page.specs.Overlay.{Held, Overlay, held_at, is_new, path_pairs}
use Rattle.mn_path.specs.Walk.{max_height}
use Rattle.mn_tree.specs.Walk.{Reached, is_live, walk}
use Rattle.mn_tree.specs.State.{Drafted, drafted_with, drafted_after}
use Rattle.mn_tree.specs.Trees.{is_noted}

-- a page that comes in, or a step that is done
pub data Move : Type 0 where
  Comes : (held : Held) → Move
  Does : (step : Step) → Move

-- a page that may come in: it is in its grammar, serves the version, isn't too high, and isn't held
-- yet
pub record MayCome (parents : List (Option ℕ)) (v : VersionNo) (d : Drafted) (h : Held)
    : Type 0 where
  pub page : IsPage h.page
  pub addr : IsAddr h.addr
  pub live : is_live parents v.0 h.page ≡ true
  pub height : height_of h.page.body ≤ max_height
  pub absent : held_at d.overlay.pages h.addr ≡ None

-- the moves lead from one draft to the other, where these are the parents of the versions; each
-- step reaches the leaf of its key
abbrev pub LeadsTo : List (Option ℕ) → VersionNo → Addr → Drafted → List Move → Drafted → Type 0
LeadsTo parents v root d [] after = d ≡ after
LeadsTo parents v root d (Comes h ∷ moves) after =
    MayCome parents v d h × LeadsTo parents v root (drafted_with d h.addr h.page) moves after
LeadsTo parents v root d (Does step ∷ moves) after =
    (path : List Held) × (walk parents v.0 d.overlay.pages root (step_key step) ≡ Reached path)
    × LeadsTo parents v root (drafted_after v d step path) moves after

-- the pages that come in, and the steps that are done
abbrev pub comes_in : List Move → List Held
comes_in [] = []
comes_in (Comes h ∷ moves) = h ∷ comes_in moves
comes_in (Does step ∷ moves) = comes_in moves

abbrev pub done_in : List Move → List Step
done_in [] = []
done_in (Comes h ∷ moves) = done_in moves
done_in (Does step ∷ moves) = step ∷ done_in moves

-- these steps are run one after another, up to the first Check that isn't met, and this is what
-- they find: the first is the n-th, and this was found before
abbrev pub AreAnswered : List (Option ℕ) → VersionNo → Addr → Drafted → List Move → ℕ
    → List (Option (List ℕ)) → List Step → Reply → Type 0
AreAnswered parents v root d [] n found steps reply = (steps ≡ []) × (reply ≡ Values found)
AreAnswered parents v root d (Comes h ∷ moves) n found steps reply =
    AreAnswered parents v root (drafted_with d h.addr h.page) moves n found steps reply
AreAnswered parents v root d (Does step ∷ moves) n found [] reply = ⊥
AreAnswered parents v root d (Does step ∷ moves) n found (next ∷ steps) reply =
    (step ≡ next)
    × ((path : List Held) → walk parents v.0 d.overlay.pages root (step_key step) ≡ Reached path
    → ((is_unmet (path_pairs path) step ≡ true) × (moves ≡ [])
    × (reply ≡ Unmet n (value_at (path_pairs path) (step_key step))))
    ⊎ ((is_unmet (path_pairs path) step ≡ false)
    × AreAnswered parents v root (drafted_after v d step path) moves (n + 1)
    (found ++ noted_by (path_pairs path) step) steps reply))

-- a page as it came in
abbrev pub came_at : List Move → Addr → Option Page
came_at moves addr = held_at (comes_in moves) addr

-- the addresses at which a leaf came in
abbrev pub is_leaf_at : List Move → Addr → Bool
is_leaf_at moves addr = option_map_or (λ p. nat_eq (height_of p.body) 0) (came_at moves addr) false

abbrev pub leaves_at : List Move → List Addr → List Addr
leaves_at moves addrs = filter (is_leaf_at moves) addrs

-- the pages of a draft that stand at these addresses, and the new ones
abbrev pub only_at : List Addr → Overlay → Overlay
only_at addrs o =
    record {
      pages = filter (λ h. is_new h.addr || is_noted addrs h.addr) o.pages;
      changed = o.changed;
      fresh = o.fresh;
    }

-- the pairs after steps
abbrev pub pairs_after : List Pair → List Step → List Pair
pairs_after ps [] = ps
pairs_after ps (step ∷ steps) = pairs_after (pairs_after_step ps step) steps
