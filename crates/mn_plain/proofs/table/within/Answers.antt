use Rattle.std.proofs.Common.{◌≡◌, ◌∙◌, ◌++◌, ap, sym, subst, ℕ, List, [], arith}
use Rattle.std.specs.declared.ops.Bound.{Bound}
use Rattle.std.specs.Bound.{IsForward}
use Rattle.std.specs.BTreeMap.Range.{entries_between, IsLeBy, IsLtBy}
use Rattle.mn_base.specs.declared.reply.Pair.{Pair}
use Rattle.mn_base.specs.Order.{key_cmp}
use Rattle.mn_base.specs.Store.{pairs_within}
use Rattle.mn_plain.specs.Table.{shown, from_low}
use Rattle.mn_plain.proofs.TableLemmas.{turned_within, take_none, forward, between_shown}
use Rattle.mn_plain.proofs.table.within.Goals as goal

pub returns-then-are_turned : goal.returns-then-are_turned
returns-then-are_turned c =
    let ps = pairs_within (shown c.args.table.now.entries) c.args.low.now c.args.high.now in
    let none : ps ≡ [] = turned_within (shown c.args.table.now.entries) c.args.low.now c.args.high.now (sym c.are_turned.ensures ∙ c.if-are_turned.true) in
    c.new-found.ensures.items ∙ sym (take_none c.args.limit ps none ∙ none)

pub range-key-items-requires : goal.range-key-items-requires
range-key-items-requires c =
    let runs = forward c.args.low.now c.args.high.now (sym c.are_turned.ensures ∙ c.if-are_turned.false) in
    subst (λ (b : Bound (List ℕ)). IsForward (IsLeBy key_cmp) (IsLtBy key_cmp) b c.in_ok-to_high.field-0) (sym c.in_ok-from_low.ensures)
    (subst (λ (b : Bound (List ℕ)). IsForward (IsLeBy key_cmp) (IsLtBy key_cmp) (from_low c.args.low.now) b) (sym c.in_ok-to_high.ensures) runs)

pub loop-key-init : goal.loop-key-init
loop-key-init c =
    let es = c.args.table.now.entries in
    record {
      found = ap (λ (l : List Pair). l ++ shown c.into_iter-key-iterator.result) c.new-found.ensures.items
          ∙ ap shown (c.into_iter-key-iterator.ensures.into_iter_gives ∙ c.range-key-items.ensures.between tt ∙ ap (λ (b : Bound (List ℕ)). entries_between key_cmp b c.in_ok-to_high.field-0 es) c.in_ok-from_low.ensures
          ∙ ap (λ (b : Bound (List ℕ)). entries_between key_cmp (from_low c.args.low.now) b es) c.in_ok-to_high.ensures)
          ∙ between_shown es c.args.low.now c.args.high.now;
      few = let len = c.new-found.ensures.len in omega arith;
    }
