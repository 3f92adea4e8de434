-- The order of the items of a plan.
use Rattle.std.specs.Prelude.{Bool, nat_eq, List, [], ◌∷◌, if◌then◌else◌}
use Rattle.std.specs.declared.cmp.Ordering.{Ordering}
use Rattle.std.specs.Ordering.{ordering_then, nat_cmp, is_lt}
use Rattle.mn_law.specs.Planned.{place_rank}
use Rattle.mn_txn.specs.declared.image.Image.{Image}
use Rattle.mn_txn.specs.declared.image.Turn.{Turn}

-- pages come first and are alike; then come entries by node and then by place, and then counts by
-- node
abbrev pub turn_of : Image → Turn
turn_of i =
    if nat_eq (place_rank i.start) 0 then record { rank = 0; node = 0; start = 0 }
    else record { rank = place_rank i.start; node = i.node.0; start = i.start }

-- by rank, then by node, then by start
abbrev pub turn_cmp : Turn → Turn → Ordering
turn_cmp a b =
    ordering_then (nat_cmp a.rank b.rank)
    (ordering_then (nat_cmp a.node b.node) (nat_cmp a.start b.start))

abbrev pub stands_before : Image → Image → Bool
stands_before a b = is_lt (turn_cmp (turn_of a) (turn_of b))

-- behind those that stand before it
abbrev pub placed : Image → List Image → List Image
placed i [] = i ∷ []
placed i (x ∷ xs) = if stands_before x i then x ∷ placed i xs else i ∷ x ∷ xs

-- by their turns; those that are alike in the order given
abbrev pub in_item_order : List Image → List Image
in_item_order [] = []
in_item_order (i ∷ is) = placed i (in_item_order is)
