-- The entries that the plan of a child writes on each node: their places and their order.
use Rattle.std.proofs.Common.{◌≡◌, ℕ, zero, suc, ◌+◌, ◌*◌, ◌<◌, ◌≤◌, List, [], ◌∷◌, length, refl, ap, ◌∙◌, arith, length-append}
use Rattle.std.specs.Prelude.{⊤, false}
use Rattle.std.specs.List.{AllByRecursion, flat_map, range_with_len}
use Rattle.std.specs.Ordering.{is_lt}
use Rattle.std.proofs.lemmas.Bool.Decides.{nat_tests}
use Rattle.std.proofs.lemmas.List.{length-map}
use Rattle.mn_base.proofs.Lists.{all_append, weaker}
use Rattle.mn_catalog.specs.Versions.{Numbered}
use Rattle.mn_plans.specs.Growth.{node_no}
use Rattle.mn_txn.specs.declared.image.Image.{Image}
use Rattle.mn_txn.specs.State.{State, is_at, ImagesAreApart}
use Rattle.mn_txn.specs.Order.{turn_of, turn_cmp}
use Rattle.mn_txn.specs.Children.{entry_image, entries_on}
use Rattle.mn_txn.specs.ChildPlan.{with_entries, with_writes}
use Rattle.mn_txn.proofs.Apart.{apart_append, nodes_differ, starts_differ}
use Rattle.mn_txn.proofs.AttemptTxn.{images_on}
use Rattle.mn_txn.proofs.Late.{AreLate, entry_is, entry_turn, late, late_each, up_append}
use Rattle.mn_txn.proofs.Lists.{all_mapped}
use Rattle.mn_txn.proofs.Turns.{IsUp}

-- entries by rising number
abbrev pub AreNumbered : List Numbered → Type 0
AreNumbered [] = ⊤
AreNumbered (e ∷ es) = (e.0.0 < 64) × AllByRecursion (λ d. e.0.0 < d.0.0) es × AreNumbered es

-- those on so many nodes from one on
abbrev pub on_nodes : List Numbered → ℕ → ℕ → List Image
on_nodes es a k = flat_map (entries_on es) (range_with_len a k)

-- what holds of each
pub all_on_nodes : (P : Image → Type 0) (es : List Numbered) (a k : ℕ)
    → ((n : ℕ) → a ≤ n → n < a + k → AllByRecursion (λ e. P (entry_image (node_no n) e.0 e.1)) es)
    → AllByRecursion P (on_nodes es a k)
all_on_nodes P es a zero each = tt
all_on_nodes P es a (suc k) each =
    all_append P (entries_on es a) (on_nodes es (a + 1) k) (all_mapped P (λ (e : Numbered). entry_image (node_no a) e.0 e.1) es (each a (omega arith) (omega arith)))
    (all_on_nodes P es (a + 1) k (λ n low high. each n (omega arith) (omega (arith, high))))

-- how many they are
pub few_on_nodes : (es : List Numbered) (a k : ℕ) → length es ≤ 2 → length (on_nodes es a k) ≤ 2 * k
few_on_nodes es a zero few = omega arith
few_on_nodes es a (suc k) few =
    let here = length-map es (λ (e : Numbered). entry_image (node_no a) e.0 e.1) in
    let both = length-append (entries_on es a) (on_nodes es (a + 1) k) in
    let rest = few_on_nodes es (a + 1) k few in omega (arith, here, both, rest, few)

-- The order of items

same_node : (n v w : ℕ) → v < w → is_lt (turn_cmp (entry_turn n w) (entry_turn n v)) ≡ false
same_node n v w low = starts (64 + 64 * v) (64 + 64 * w) (omega arith)
  where
    starts : (s t : ℕ) → s < t → is_lt (turn_cmp (record { rank = 1; node = n; start = t }) (record { rank = 1; node = n; start = s })) ≡ false
    starts s t h = grind (arith, nat_tests)

later_node : (n m s t : ℕ) → n < m → is_lt (turn_cmp (record { rank = 1; node = m; start = t }) (record { rank = 1; node = n; start = s })) ≡ false
later_node n m s t h = grind (arith, nat_tests)

-- an entry on a node
abbrev IsOn : ℕ → Image → Type 0
IsOn n i = (v : ℕ) × (turn_of i ≡ entry_turn n v)

-- or on a node from one on
abbrev pub IsFrom : ℕ → Image → Type 0
IsFrom n i = (m : ℕ) × (n ≤ m) × IsOn m i

on_node : (n : ℕ) (es : List Numbered) → AreNumbered es → AllByRecursion (λ e. IsOn n (entry_image (node_no n) e.0 e.1)) es
on_node n [] numbered = tt
on_node n (e ∷ es) numbered = ((e.0.0, entry_is e.0.0 (entry_image (node_no n) e.0 e.1) refl numbered.0), on_node n es numbered.2)

pub from_node : (b : ℕ) (es : List Numbered) (a k : ℕ) → AreNumbered es → b ≤ a → AllByRecursion (IsFrom b) (on_nodes es a k)
from_node b es a k numbered low =
    all_on_nodes (IsFrom b) es a k (λ n more less. weaker (λ e. IsOn n (entry_image (node_no n) e.0 e.1)) (λ e. IsFrom b (entry_image (node_no n) e.0 e.1)) (λ e on. (n, omega arith, on)) es (on_node n es numbered))

node_up : (n : ℕ) (es : List Numbered) → AreNumbered es → IsUp (entries_on es n)
node_up n [] numbered = tt
node_up n (e ∷ es) numbered = (behind es numbered.1 numbered.2, node_up n es numbered.2)
  where
    behind : (ds : List Numbered) → AllByRecursion (λ d. e.0.0 < d.0.0) ds → AreNumbered ds → AreLate (entries_on ds n) (entry_image (node_no n) e.0 e.1)
    behind [] above few = tt
    behind (d ∷ ds) above few = (
      late (entry_image (node_no n) e.0 e.1) (entry_image (node_no n) d.0 d.1) (entry_turn n e.0.0) (entry_turn n d.0.0)
          (entry_is e.0.0 (entry_image (node_no n) e.0 e.1) refl numbered.0) (entry_is d.0.0 (entry_image (node_no n) d.0 d.1) refl few.0) (same_node n e.0.0 d.0.0 above.0),
      behind ds above.1 few.2,
    )

behind_node : (n : ℕ) (x : Image) → IsOn n x → (ys : List Image) → AllByRecursion (IsFrom (n + 1)) ys → AreLate ys x
behind_node n x on [] all = tt
behind_node n x on (y ∷ ys) all =
    let from = all.0 in (
      late x y (entry_turn n on.0) (entry_turn from.0 from.2.0) on.1 from.2.1 (later_node n from.0 (64 + 64 * on.0) (64 + 64 * from.2.0) (let more = from.1 in omega arith)),
      behind_node n x on ys all.1,
    )

pub nodes_up : (es : List Numbered) (a k : ℕ) → AreNumbered es → IsUp (on_nodes es a k)
nodes_up es a zero numbered = tt
nodes_up es a (suc k) numbered =
    up_append (entries_on es a) (on_nodes es (a + 1) k) (node_up a es numbered) (nodes_up es (a + 1) k numbered)
    (late_each (IsOn a) (on_nodes es (a + 1) k) (λ x on. behind_node a x on (on_nodes es (a + 1) k) (from_node (a + 1) es (a + 1) k numbered (omega arith))) (entries_on es a)
    (all_mapped (IsOn a) (λ (e : Numbered). entry_image (node_no a) e.0 e.1) es (on_node a es numbered)))

-- Places

node_apart : (n : ℕ) (es : List Numbered) → AreNumbered es → ImagesAreApart (entries_on es n)
node_apart n [] numbered = tt
node_apart n (e ∷ es) numbered = (off es numbered.1, node_apart n es numbered.2)
  where
    off : (ds : List Numbered) → AllByRecursion (λ d. e.0.0 < d.0.0) ds → AllByRecursion (λ y. is_at (node_no n) (64 + 64 * e.0.0) y ≡ false) (entries_on ds n)
    off [] above = tt
    off (d ∷ ds) above = (
      starts_differ (entry_image (node_no n) e.0 e.1) (entry_image (node_no n) d.0 d.1) (λ s. let low = above.0 in absurd (omega (arith, s, low))),
      off ds above.1,
    )

-- they stand between the counts and the slots
pub starts_on_nodes : (es : List Numbered) (a k : ℕ) → AreNumbered es → AllByRecursion (λ y. (64 ≤ y.start) × (y.start < 20480)) (on_nodes es a k)
starts_on_nodes es a k numbered = all_on_nodes (λ y. (64 ≤ y.start) × (y.start < 20480)) es a k (λ n low high. each es numbered)
  where
    each : (ds : List Numbered) → AreNumbered ds → AllByRecursion (λ e. (64 ≤ 64 + 64 * e.0.0) × (64 + 64 * e.0.0 < 20480)) ds
    each [] few = tt
    each (d ∷ ds) few = (let low = few.0 in (omega arith, omega (arith, low)), each ds few.2)

pub nodes_apart : (es : List Numbered) (a k : ℕ) → AreNumbered es → ImagesAreApart (on_nodes es a k)
nodes_apart es a zero numbered = tt
nodes_apart es a (suc k) numbered =
    apart_append (entries_on es a) (on_nodes es (a + 1) k) (node_apart a es numbered) (nodes_apart es (a + 1) k numbered)
    (weaker (λ x. x.node.0 ≡ a) (λ x. AllByRecursion (λ y. is_at x.node x.start y ≡ false) (on_nodes es (a + 1) k))
    (λ x here. weaker (λ y. a + 1 ≤ y.node.0) (λ y. is_at x.node x.start y ≡ false) (λ y more. nodes_differ x y (λ same. absurd (omega (arith, here, more, same)))) (on_nodes es (a + 1) k) behind)
    (entries_on es a) (all_mapped (λ x. x.node.0 ≡ a) (λ (e : Numbered). entry_image (node_no a) e.0 e.1) es (each (λ e. refl) es)))
  where
    each : {P : Numbered → Type 0} → ((e : Numbered) → P e) → (ds : List Numbered) → AllByRecursion P ds
    each one [] = tt
    each one (d ∷ ds) = (one d, each one ds)

    behind : AllByRecursion (λ y. a + 1 ≤ y.node.0) (on_nodes es (a + 1) k)
    behind = all_on_nodes (λ y. a + 1 ≤ y.node.0) es (a + 1) k (λ n more less. each (λ e. more) es)

-- A transaction

-- node after node they are all written
pub entries_done : (t : State) (es : List Numbered) (ns : List ℕ)
    → with_entries t es ns ≡ with_writes t (flat_map (entries_on es) ns)
entries_done t es [] = refl
entries_done t es (n ∷ ns) =
    entries_done (with_writes t (entries_on es n)) es ns
    ∙ ap (λ (l : List Image). let u : State = record { nodes = t.nodes; dirty = t.dirty; reads = t.reads; writes = l } in u) (images_on t.writes (entries_on es n) (flat_map (entries_on es) ns))
