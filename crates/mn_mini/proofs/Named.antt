-- The table of the nodes that some item is at.
use Rattle.std.proofs.Common.{◌≡◌, ℕ, ◌+◌, ◌<◌, Bool, true, false, ◌||◌, List, [], length, take, replicate, arith, Some, refl, sym, ap, ◌∙◌, nat_eq, slice_get, slice_set}
use Rattle.std.proofs.Math.ListN.{get_or}
use Rattle.std.proofs.lemmas.Bool.Decides.{nat_tests}
use Rattle.std.proofs.lemmas.List.{get_or-replicate}
use Rattle.std.proofs.lemmas.Option.{slice_get-get_or}
use Rattle.std.proofs.lemmas.List.Folds.{list_any_more}
use Rattle.mn_base.specs.Ids.{node_same}
use Rattle.mn_base.specs.declared.ids.NodeNo.{NodeNo}
use Rattle.mn_base.proofs.Lists.{set_at, set_beside}
use Rattle.mn_mini.specs.declared.item.Item.{Item}
use Rattle.mn_mini.specs.Mini.{is_named, item_node}

-- by number of a node, whether some item is at it
abbrev pub IsTable : List Item → List Bool → Type 0
IsTable items named = (node : NodeNo) → node.0 < 256 → slice_get named node.0 ≡ Some (is_named items node)

or_true : (b : Bool) → b || true ≡ true
or_true true = refl
or_true false = refl

or_false : (b : Bool) → b || false ≡ b
or_false true = refl
or_false false = refl

pub table_more : (items : List Item) (i : ℕ) (named : List Bool) (item : Item) (k : ℕ) → i < length items → item ≡ get_or items i item → k ≡ (item_node item).0 → IsTable (take i items) named → IsTable (take (i + 1) items) (slice_set named k true)
table_more items i named item k within is at table node small =
    let before = is_named (take i items) node in
    let more = list_any_more (λ x. node_same (item_node x) node) items i item within ∙ ap (λ x. before || node_same (item_node x) node) (sym is) in
    elim (nat_eq (item_node item).0 node.0) as (λ b. nat_eq (item_node item).0 node.0 ≡ b → slice_get (slice_set named k true) node.0 ≡ Some (is_named (take (i + 1) items) node)) [
      | true ↦ λ e.
          (let here : k ≡ node.0 = grind (arith, nat_tests) in
          ap (λ n. slice_get (slice_set named n true) node.0) here ∙ set_at named node.0 before true (table node small) ∙ ap Some (sym (more ∙ ap (λ b. before || b) e ∙ or_true before)))
      | false ↦ λ e.
          (let there : node.0 ≡ k → ⊥ = λ h. grind (arith, nat_tests) in
          set_beside named k true node.0 there ∙ table node small ∙ ap Some (sym (more ∙ ap (λ b. before || b) e ∙ or_false before)))
    ] refl

pub no_table : IsTable [] (replicate 256 false)
no_table node small = slice_get-get_or (replicate 256 false) node.0 false small ∙ ap Some (get_or-replicate 256 node.0 false false small)
