use Rattle.std.proofs.Common.{rules}
use Rattle.std.proofs.lemmas.List.Sorted.{answers_always}
use Rattle.mn_txn.specs.Order.{turn_of}
use Rattle.mn_txn.proofs.Turns.{sorted_is}
use Rattle.mn_txn.proofs.txn.put_in_order.Goals as goal

pub returns : goal.returns
returns c =
    sorted_is c.args.images.now.items c.sort_by_key.new.self.items
    (c.in_ok-sort_by_key.ensures.sorted turn_of (answers_always _ _ _ (λ f a r g h. search rules)))
    (c.sort_by_key.ensures.stable turn_of (answers_always _ _ _ (λ f a r g h. search rules)))
