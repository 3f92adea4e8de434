-- The base memory: a space for each node, and the store that it holds.
use Rattle.std.proofs.Common.{◌≡◌, ℕ, zero, suc, ◌<◌, ◌≤◌, List, [], ◌∷◌, map, replicate, sym, ◌∙◌, arith}
use Rattle.std.specs.List.{range_with_len}
use Rattle.std.proofs.lemmas.List.{length-map, length-set, length-replicate}
use Rattle.std.proofs.lemmas.List.FromFn.{fill_by_all, get_or-map-range_with_len, length-range_with_len}
use Rattle.mn_base.specs.Store.{empty_store}
use Rattle.mn_page.specs.declared.page.Page.{Page}
use Rattle.mn_page.specs.Forest.{empty_leaf, node_count, base_forest, base_space}
use Rattle.mn_page.specs.Holds.{Holds}
use Rattle.mn_page.specs.Base.{base_of}
use Rattle.mn_page.proofs.Base as pages
use Rattle.mn_page.proofs.BaseSpace.{base_laid}
use Rattle.mn_forest.specs.Base.{base_memory}

so_many : (nodes : ℕ) → node_count (base_forest nodes) ≡ nodes
so_many nodes = let none : List Page = [] in length-set (replicate nodes none) 0 (empty_leaf ∷ []) ∙ length-replicate nodes none

-- the base spaces are the base memory
pub spaces_are : (nodes : ℕ) → map (base_of nodes) (range_with_len 0 nodes) ≡ base_memory nodes
spaces_are nodes =
    sym (fill_by_all (base_of nodes) (base_memory nodes) nodes []
    (length-map (range_with_len 0 (node_count (base_forest nodes))) (base_space nodes) ∙ length-range_with_len 0 (node_count (base_forest nodes)) ∙ so_many nodes)
    (λ k low. get_or-map-range_with_len (base_space nodes) 0 (node_count (base_forest nodes)) k k [] (let count = so_many nodes in omega arith) (omega arith) ∙ sym (base_laid nodes k low)))

pub base_holds : (nodes : ℕ) → 0 < nodes → nodes ≤ 8 → Holds (base_memory nodes) empty_store
base_holds zero some few = absurd (omega arith)
base_holds (suc k) some few = pages.base_holds k (omega arith)
