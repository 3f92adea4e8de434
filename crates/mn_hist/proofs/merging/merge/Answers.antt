use Rattle.std.proofs.Common.{◌≡◌, ℕ, List, [], Vec, Global, length, map, get_or, ap, subst, ◌∙◌, arith}
use Rattle.mn_cell.specs.Runs.{placed_from}
use Rattle.mn_runs.specs.declared.entry.Entry.{Entry}
use Rattle.mn_runs.specs.declared.log.Spot.{Spot}
use Rattle.mn_runs.specs.Lists.{ClientState}
use Rattle.mn_runs.specs.Log.{AreSpots, log_of, nobody}
use Rattle.mn_hist.specs.Merging.{AreOneLog, HaveCallers, Hold, put_lists}
use Rattle.mn_hist.proofs.Placing.{as_placed, is_nobodys, merged_whole, none_nobodys}
use Rattle.mn_hist.proofs.Spots.{log_long, spots_there}
use Rattle.mn_hist.proofs.merging.merge.Goals as goal

module _ (nodes : List (List (ℕ × Entry))) (clients : List ClientState) (clock : ℕ) (one : AreOneLog nodes clients clock) (callers : HaveCallers nodes) (lists : List (List (ℕ × Entry))) (order : List Spot)
    (are : lists ≡ map (λ (l : ClientState). l.entries) clients) (hold : Hold 0 (log_of lists order) (put_lists lists [])) where
  -- the order is that of the log
  whole : log_of lists order ≡ placed_from 0 one.log
  whole = merged_whole nodes clients clock one callers (log_of lists order) (subst (λ (ls : List (List (ℕ × Entry))). Hold 0 (log_of lists order) (put_lists ls [])) are hold)

  spots : AreSpots lists order
  spots = spots_there lists order (λ k lt. ap (λ (l : List (ℕ × Entry)). is_nobodys (get_or l k nobody).1) whole
      ∙ none_nobodys nodes clients clock one k (omega (arith, lt, log_long lists order, ap length whole, as_placed 0 one.log)))

pub of_lists-requires : goal.of_lists-requires
of_lists-requires c =
    let lists : List (List (ℕ × Entry)) = map (λ (list : Vec (ℕ × Entry) Global). list.items) c.in_ok-all.all.items in
    spots c.requires.0 c.args.lists c.requires.1 c.requires.2 c.requires.3 lists c.put_all.new.order.items c.in_ok-all.ensures
    (subst (λ (l : List (Vec (ℕ × Entry) Global)). Hold 0 (log_of (map (λ list. list.items) l) c.put_all.new.order.items) (put_lists (map (λ list. list.items) l) [])) c.deref-2.ensures.value c.in_ok-put_all.ensures)

pub returns : goal.returns
returns c = λ nodes clock one callers.
    let lists : List (List (ℕ × Entry)) = map (λ (list : Vec (ℕ × Entry) Global). list.items) c.in_ok-all.all.items in
    c.of_lists.ensures ∙ whole nodes c.args.lists clock one callers lists c.put_all.new.order.items c.in_ok-all.ensures
    (subst (λ (l : List (Vec (ℕ × Entry) Global)). Hold 0 (log_of (map (λ list. list.items) l) c.put_all.new.order.items) (put_lists (map (λ list. list.items) l) [])) c.deref-2.ensures.value c.in_ok-put_all.ensures)
