use Rattle.std.proofs.Common.{ℕ, ◌<◌, List, [], length, map, get_or, ap, sym, ◌∙◌, arith}
use Rattle.mn_runs.specs.declared.entry.Entry.{Entry}
use Rattle.mn_hist.specs.Merging.{put_list, put_lists}
use Rattle.mn_hist.proofs.Spots.{drop_at, lists_long}
use Rattle.mn_hist.proofs.merging.put_all.Goals as goal

pub loop-list-preserved : goal.loop-list-preserved
loop-list-preserved c =
    let lists : List (List (ℕ × Entry)) = map (λ list. list.items) c.args.lists.now in
    let n : ℕ = c.loop-list.list in
    let was = c.loop-list.invariant in
    let below : n < length lists = omega (arith, c.loop-list-test.true, lists_long c.args.lists.now) in (
      put_list (get_or lists n []) was.0,
      c.in_ok-put_entries.ensures was.0 was.1,
      sym (ap (λ (ls : List (List (ℕ × Entry))). put_lists ls was.0) (drop_at lists n [] below)) ∙ was.2,
    )
