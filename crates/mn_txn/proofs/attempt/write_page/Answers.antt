use Rattle.std.proofs.Common.{◌≡◌, ◌+◌, ◌*◌, [], ◌∷◌, refl}
use Rattle.std.proofs.lemmas.Result.{on_ok_weaker}
use Rattle.mn_page.specs.Grammar.{page_bytes}
use Rattle.mn_txn.specs.Attempt.{page_image}
use Rattle.mn_txn.specs.ChildPlan.{with_writes}
use Rattle.mn_txn.proofs.ChildTxn.{written_in, written_on}
use Rattle.mn_txn.proofs.attempt.write_page.Goals as goal

pub returns : goal.returns
returns c =
    let t = c.args.txn.now in
    let a = c.args.addr in
    let p = c.args.page.now in
    on_ok_weaker {P = c.write.new.self ≡ written_in t a.node c.slot_start.result c.in_ok-bytes.bytes}
    {Q = c.write.new.self ≡ with_writes t (page_image a p ∷ [])} c.write.result
    (λ kept. written_on c.write.new.self t t a.node c.slot_start.result (20480 + 1024 * a.slot) c.in_ok-bytes.bytes (page_bytes p) kept refl c.slot_start.ensures c.in_ok-bytes.ensures) c.write.ensures.kept
