use Rattle.std.proofs.Common.{◌+◌, ◌++◌, ◌∷◌, [], subst, sym, ℕ, List, arith}
use Rattle.mn_mini.specs.declared.part.PartItem.{PartItem}
use Rattle.mn_mini.proofs.ItemLists.{Progress, progress_none, progress_more, progress_ends, counted_all}
use Rattle.mn_mini.proofs.record_read.first_items.Goals as goal

pub loop-init : goal.loop-init
loop-init c = subst (λ (items : List PartItem). Progress c.args.bytes.now c.args.count 0 1 items c.args.bytes.now) (sym c.new-items.ensures.items) (progress_none c.args.bytes.now c.args.count)

pub loop-preserved : goal.loop-preserved
loop-preserved c =
    let told = rw c.in-Some.is at c.in_ok-item.ensures in
    let more = progress_more c.args.bytes.now c.args.count c.loop.counter c.loop.kind c.loop.items.items c.loop.rest.now c.in-Some.item c.in-Some.behind.now c.loop.invariant c.loop-test.true told in
    let kinded = subst (λ (kind : ℕ). Progress c.args.bytes.now c.args.count (c.loop.counter + 1) kind (c.loop.items.items ++ c.in-Some.item ∷ []) c.in-Some.behind.now) (sym c.kind_number-kind.ensures) more in
    subst (λ (items : List PartItem). Progress c.args.bytes.now c.args.count (c.loop.counter + 1) c.kind_number-kind.result items c.in-Some.behind.now) (sym c.in_ok-push.ensures.items) kinded

pub returns-in_default : goal.returns-in_default
returns-in_default c =
    let told = rw c.in_default.is at c.in_ok-item.ensures in
    progress_ends c.args.bytes.now c.args.count c.loop.counter c.loop.kind c.loop.items.items c.loop.rest.now c.loop.invariant c.loop-test.true told

pub returns : goal.returns
returns c = counted_all c.args.bytes.now c.args.count c.loop.counter c.loop.kind c.loop.items.items c.loop.rest.now (omega (arith, c.loop-test.false, c.loop.auto.counter-end)) c.loop.invariant
