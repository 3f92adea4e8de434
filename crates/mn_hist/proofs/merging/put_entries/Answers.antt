use Rattle.std.proofs.Common.{◌≡◌, ℕ, List, Option, [], ◌∷◌, length, map, drop, get_or, ap, subst, sym, ◌∙◌, arith}
use Rattle.std.proofs.lemmas.List.{drop_all}
use Rattle.mn_runs.specs.declared.entry.Entry.{Entry}
use Rattle.mn_runs.specs.Log.{log_of, nobody}
use Rattle.mn_hist.specs.Merging.{Hold, put_list}
use Rattle.mn_hist.proofs.Spots.{drop_at, list_at}
use Rattle.mn_hist.proofs.merging.put_entries.Goals as goal

pub loop-index-preserved : goal.loop-index-preserved
loop-index-preserved c = λ filled hold.
    let lists : List (List (ℕ × Entry)) = map (λ list. list.items) c.args.lists.now in
    let l : List (ℕ × Entry) = get_or lists c.args.list [] in
    let i : ℕ = c.loop-index.index in
    let x : ℕ × Entry = get_or l i nobody in
    let was = c.loop-index.invariant filled hold in (
      put_list (x ∷ []) was.0,
      c.in_ok-put_entry.ensures was.0 was.1,
      sym (ap (λ (m : List (ℕ × Entry)). put_list m was.0) (drop_at l i nobody (omega (arith, c.loop-index-test.true, c.len-index-end.ensures, ap length (list_at c.args.lists.now c.args.list c.index-lists-list.result c.requires c.index-lists-list.is)))))
          ∙ was.2,
    )

pub returns : goal.returns
returns c = λ filled hold.
    let lists : List (List (ℕ × Entry)) = map (λ list. list.items) c.args.lists.now in
    let l : List (ℕ × Entry) = get_or lists c.args.list [] in
    let was = c.loop-index.invariant filled hold in
    let none : drop c.loop-index.index l ≡ [] = drop_all c.loop-index.index l (omega (arith, c.loop-index-test.false, c.len-index-end.ensures, ap length (list_at c.args.lists.now c.args.list c.index-lists-list.result c.requires c.index-lists-list.is))) in
    subst (λ (f : List (Option Entry)). Hold 0 (log_of lists c.loop-index.order.items) f)
    (sym (ap (λ (m : List (ℕ × Entry)). put_list m was.0) none) ∙ was.2) was.1
