-- In a memory that holds a store an entry stands alike on each node.
use Rattle.std.proofs.Common.{◌≡◌, ℕ, ◌+◌, ◌*◌, ◌<◌, List, length, subst, sym, ap, ◌∙◌, arith}
use Rattle.mn_base.specs.Store.{Store}
use Rattle.mn_base.specs.declared.ids.NodeNo.{NodeNo}
use Rattle.mn_mini.specs.Flat.{bytes_in, space_in}
use Rattle.mn_page.specs.Grammar.{padded}
use Rattle.mn_page.specs.Forest.{node_count}
use Rattle.mn_page.specs.Holds.{Holds}
use Rattle.mn_page.proofs.Counted.{counted}
use Rattle.mn_law.specs.Places.{entry_place, catalog_node, content_in}
use Rattle.mn_plans.proofs.Spaces.{catalog_at, catalog_bytes, memory_by_pages, memory_length}
use Rattle.mn_plans.proofs.Laying.{laid_is}

pub entries_alike : (memory : List (List ℕ)) (store : Store) → Holds memory store → (n : NodeNo) (v : ℕ) → n.0 < length memory → v < 64 → content_in (space_in memory n) (entry_place n v) ≡ content_in (space_in memory catalog_node) (entry_place catalog_node v)
entries_alike memory store holds n v in' few =
    let sound = counted holds.forest holds.sound in
    let spelled : memory ≡ memory_by_pages holds.forest = holds.spelled ∙ laid_is holds.forest in
    let nodes : length memory ≡ node_count holds.forest = ap (λ (m : List (List ℕ)). length m) spelled ∙ memory_length holds.forest in
    let at : (k : NodeNo) → k.0 < node_count holds.forest → bytes_in (space_in memory k) (64 + 64 * v) 64 ≡ bytes_in (padded 4096 (catalog_bytes holds.forest)) (64 * v) 64 =
    λ k low. ap (λ (m : List (List ℕ)). bytes_in (space_in m k) (64 + 64 * v) 64) spelled ∙ catalog_at holds.forest sound k (64 * v) 64 low (omega arith) in
    at n (subst (λ k. n.0 < k) nodes in') ∙ sym (at catalog_node sound.nodes.0)
