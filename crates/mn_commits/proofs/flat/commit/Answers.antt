use Rattle.std.proofs.Common.{ℕ, List, sym, ap, ◌∙◌}
use Rattle.std.specs.List.{list_all}
use Rattle.mn_mini.specs.declared.item.Item.{Item}
use Rattle.mn_mini.specs.Flat.{memory_after}
use Rattle.mn_commits.specs.Standing.{item_holds}
use Rattle.mn_commits.proofs.Computed.Outcome.{takes_effect, has_no_effect}
use Rattle.mn_commits.proofs.flat.commit.Goals as goal

pub returns-then-all_hold : goal.returns-then-all_hold
returns-then-all_hold c =
    c.write_all.ensures
    ∙ (ap (λ (items : List Item). memory_after c.args.memory.now.items items) c.items-then-all_hold.ensures.items
    ∙ takes_effect c.args.memory.now.items c.args.mini.now (ap (λ (m : List (List ℕ)). list_all (item_holds m) c.args.mini.now.items) (sym c.deref.ensures.value)
    ∙ (ap (λ (items : List Item). list_all (item_holds c.deref.result.now) items) (sym c.items.ensures.items) ∙ (sym c.all_hold.ensures ∙ c.if-all_hold.true))))

pub returns-else-all_hold : goal.returns-else-all_hold
returns-else-all_hold c =
    has_no_effect c.args.memory.now.items c.args.mini.now (ap (λ (m : List (List ℕ)). list_all (item_holds m) c.args.mini.now.items) (sym c.deref.ensures.value)
    ∙ (ap (λ (items : List Item). list_all (item_holds c.deref.result.now) items) (sym c.items.ensures.items) ∙ (sym c.all_hold.ensures ∙ c.if-all_hold.false)))
