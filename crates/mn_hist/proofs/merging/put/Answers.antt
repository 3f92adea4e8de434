use Rattle.std.proofs.Common.{Option, None, List, [], ◌∷◌, ◌++◌, sym, subst, ◌≡◌, ℕ, ◌+◌, ◌∙◌, length, map, ◌<◌, ◌≤◌, arith}
use Rattle.std.specs.Prelude.{slice_set}
use Rattle.mn_runs.specs.declared.entry.Entry.{Entry}
use Rattle.mn_runs.specs.declared.log.Spot.{Spot}
use Rattle.mn_runs.specs.Log.{entry_at, log_of}
use Rattle.mn_hist.specs.Merging.{Hold, put_at}
use Rattle.mn_hist.proofs.Placing.{as_long, hold_empty, hold_more, hold_put, put_empty}
use Rattle.mn_hist.proofs.Spots.{log_long, log_more, log_set}
use Rattle.mn_hist.proofs.merging.put.Goals as goal

from_zero : (n m : ℕ) → n ≡ m → m ≡ 0 + n
from_zero n m is = omega (arith, is)

pub loop-order-preserved : goal.loop-order-preserved
loop-order-preserved c = λ filled hold.
    let lists : List (List (ℕ × Entry)) = map (λ list. list.items) c.args.lists.now in
    let order : List Spot = c.loop-order.order.items in
    let was = c.loop-order.invariant filled hold in
    let short : length was.0 ≤ c.args.at = omega (arith, as_long 0 (log_of lists order) was.0 was.1, log_long lists order) in (
      was.0 ++ None ∷ [],
      subst (λ (s : List Spot). Hold 0 (log_of lists s) (was.0 ++ None ∷ [])) (sym {A = List Spot} c.in_ok-push.ensures.items)
          (subst (λ (l : List (ℕ × Entry)). Hold 0 l (was.0 ++ None ∷ [])) (sym (log_more lists order _)) (hold_empty 0 (log_of lists order) was.0 _ was.1)),
      λ e. put_empty c.args.at e was.0 short ∙ was.2 e,
    )

pub returns-then-len-at : goal.returns-then-len-at
returns-then-len-at c = λ filled hold.
    let lists : List (List (ℕ × Entry)) = map (λ list. list.items) c.args.lists.now in
    let order : List Spot = c.loop-order.order.items in
    let e : ℕ × Entry = entry_at lists c.args.spot in
    let was = c.loop-order.invariant filled hold in
    let long : length (log_of lists order) ≡ c.args.at = omega (arith, log_long lists order) in
    subst (λ (s : List Spot). Hold 0 (log_of lists s) (put_at c.args.at e.1 filled)) (sym {A = List Spot} c.in_ok-push-2.ensures.items)
    (subst (λ (l : List (ℕ × Entry)). Hold 0 l (put_at c.args.at e.1 filled)) (sym (log_more lists order c.args.spot))
    (subst (λ (f : List (Option Entry)). Hold 0 (log_of lists order ++ e ∷ []) f) (was.2 e.1)
    (hold_more 0 c.args.at e (log_of lists order) was.0 was.1 long (from_zero c.args.at e.0 c.requires))))

pub returns : goal.returns
returns c = λ filled hold.
    let lists : List (List (ℕ × Entry)) = map (λ list. list.items) c.args.lists.now in
    let order : List Spot = c.loop-order.order.items in
    let e : ℕ × Entry = entry_at lists c.args.spot in
    let was = c.loop-order.invariant filled hold in
    let there : c.args.at < length order = omega arith in
    subst (λ (l : List (ℕ × Entry)). Hold 0 l (put_at c.args.at e.1 filled)) (sym (log_set lists order c.args.at c.args.spot))
    (subst (λ (f : List (Option Entry)). Hold 0 (slice_set (log_of lists order) c.args.at e) f) (was.2 e.1)
    (hold_put 0 c.args.at e (log_of lists order) was.0 was.1 (omega (arith, there, log_long lists order)) (from_zero c.args.at e.0 c.requires)))
