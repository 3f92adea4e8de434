-- Whatever a stop leaves of the disks of a run is opened, with all that was replied to.
use Rattle.std.proofs.Common.{◌≡◌, ◌<◌, ◌≤◌, ◌+◌, ◌++◌, ◌∙◌, ℕ, zero, suc, List, [], ◌∷◌, Bool, true, false, length, reverse, refl, ap, sym, subst, arith, inl, inr, Option, Some, None, if◌then◌else◌, add-one, below_more}
use Rattle.std.specs.Prelude.{◌⊎◌, slice_get, IsSome}
use Rattle.std.specs.List.{AllByRecursion}
use Rattle.std.proofs.lemmas.Bool.{ne_eqb}
use Rattle.std.proofs.lemmas.List.{reverse-append, reverse-reverse}
use Rattle.mn_base.specs.History.{store_after}
use Rattle.mn_base.specs.Store.{Store}
use Rattle.mn_base.specs.declared.ids.NodeNo.{NodeNo}
use Rattle.mn_cell.specs.Calls.{numbered}
use Rattle.mn_io.specs.DiskModel.{DiskState}
use Rattle.mn_mini.specs.declared.record.Record.{Record}
use Rattle.mn_mini.proofs.Parts.{same_self}
use Rattle.mn_mini.specs.Node.{with_added}
use Rattle.mn_mini.specs.RecordGrammar.{IsRecord}
use Rattle.mn_node.specs.Node.{StandsUpTo, added_to}
use Rattle.mn_node.proofs.Built.{all-reverse}
use Rattle.mn_node.proofs.Found.{first_sound, pending_sound}
use Rattle.mn_runs.specs.declared.entry.Entry.{Entry}
use Rattle.mn_runs.specs.declared.entry.What.TheVariants.{Restarted}
use Rattle.mn_runs.specs.Calls.{node_entries}
use Rattle.mn_serial.specs.History.{pasts_of}
use Rattle.mn_serial.specs.Meaning.{IsStop, StopsLeaveOpened}
use Rattle.mn_serial.specs.OneHistory.{RunsAreOneHistory}
use Rattle.mn_runs.specs.Nodes.{NodeAllows, added_by, is_down, node_records, stopped_request}
use Rattle.mn_runs.specs.Protocol.{FollowsProtocol, Start, base_at, records_of, start_nodes, start_of, start_records}
use Rattle.mn_law.specs.Opened.{IsOpened}
use Rattle.mn_law.specs.Run.{IsRun, RunsFollowProtocol}
use Rattle.mn_top.specs.Crashes.{AnyStopLeaves, HoldStore, IsStopped, bases}
use Rattle.mn_top.specs.Opening.{IsOpenedAs, Show}
use Rattle.mn_top.specs.Replayed.{IsLeft, left_behind}
use Rattle.mn_top.proofs.Gets.{one_at, there_at, within}

-- What the laws say of runs

pub record Laws : Type 0 where
  pub follow : RunsFollowProtocol
  pub leave : StopsLeaveOpened
  pub one : RunsAreOneHistory

-- A node that comes back with the record of the request in which it stopped

abbrev back : ℕ → Entry
back m = record { node = Some (numbered m); client = None; what = Restarted true }

at_it : (m : ℕ) (es : List Entry) → node_entries (numbered m) (back m ∷ es) ≡ back m ∷ node_entries (numbered m) es
at_it m es = ap (λ (b : Bool). if b then back m ∷ node_entries (numbered m) es else node_entries (numbered m) es) (same_self (numbered m))

beside : (m : ℕ) (n : NodeNo) (es : List Entry) → (n.0 ≡ m → ⊥) → node_entries n (back m ∷ es) ≡ node_entries n es
beside m n es other = ap (λ (b : Bool). if b then back m ∷ node_entries n es else node_entries n es) (ne_eqb n.0 m other)

module _ (start : Start) (past : List Entry) (images : List (List ℕ)) where
  -- some of the first nodes have come back, so that each image of theirs is that of its records
  pub record Chosen (m : ℕ) : Type 0 where
    pub stops : List Entry
    pub are : AllByRecursion (λ e. IsStop e.what) stops
    pub follow : FollowsProtocol start (stops ++ past)
    pub others : (n : NodeNo) → m ≤ n.0 → node_entries n (stops ++ past) ≡ node_entries n past
    pub sound : (k : ℕ) → k < m → AllByRecursion IsRecord (records_of start (stops ++ past) (numbered k))
    pub stand : (k : ℕ) (image : List ℕ) → k < m → slice_get images k ≡ Some image
        → StandsUpTo k (start_nodes start) image ((reverse (records_of start (stops ++ past) (numbered k))))

  none_yet : FollowsProtocol start past → Chosen 0
  none_yet follow = record { stops = []; are = tt; follow = follow; others = λ n le. refl; sound = λ k low. absurd (omega (arith, low)); stand = λ k image low is. absurd (omega (arith, low)) }

  abbrev LeftSound : ℕ → Type 0
  LeftSound m = AllByRecursion IsRecord (added_to (reverse (records_of start past (numbered m))) (left_behind start past (numbered m)))

  module _ (m : ℕ) (among : m < start_nodes start) (before : Chosen m) (left : LeftSound m) where
    here : node_entries (numbered m) (before.stops ++ past) ≡ node_entries (numbered m) past
    here = before.others (numbered m) (omega arith)

    abbrev recs : List Entry → List Record
    recs es = node_records (base_at start (numbered m)) (start_records start (numbered m)) es

    sound_here : AllByRecursion IsRecord (recs (node_entries (numbered m) past))
    sound_here =
        subst (AllByRecursion IsRecord) (reverse-reverse (records_of start past (numbered m)))
        (all-reverse IsRecord (reverse (records_of start past (numbered m))) (first_sound (reverse (records_of start past (numbered m))) (left_behind start past (numbered m)) left))

    -- it has its records already
    stays : (image : List ℕ) → slice_get images m ≡ Some image → StandsUpTo m (start_nodes start) image ((reverse (recs (node_entries (numbered m) past)))) → Chosen (m + 1)
    stays image at stands = record {
      stops = before.stops;
      are = before.are;
      follow = before.follow;
      others = λ n le. before.others n (omega (arith, le));
      sound = below_more (λ j. AllByRecursion IsRecord (records_of start (before.stops ++ past) (numbered j))) m before.sound (subst (λ (es : List Entry). AllByRecursion IsRecord (recs es)) (sym here) sound_here);
      stand = λ k other low is.
          below_more (λ j. (c : List ℕ) → slice_get images j ≡ Some c → StandsUpTo j (start_nodes start) c ((reverse (records_of start (before.stops ++ past) (numbered j))))) m
          (λ j lower c there. before.stand j c lower there)
          (λ c there.
          subst (λ (d : List ℕ). StandsUpTo m (start_nodes start) d ((reverse (records_of start (before.stops ++ past) (numbered m))))) (one_at images m image c at there)
          (subst (λ (es : List Entry). StandsUpTo m (start_nodes start) image ((reverse (recs es)))) (sym here) stands))
          k low other is;
    }

    -- it comes back with one more
    module _ (image : List ℕ) (r : Record) (at : slice_get images m ≡ Some image) (down : is_down (node_entries (numbered m) past) ≡ true)
        (added : added_by (base_at start (numbered m)) (recs (node_entries (numbered m) past)) (stopped_request (node_entries (numbered m) past)) ≡ Some r) (one : IsRecord r)
        (stands : StandsUpTo m (start_nodes start) image ((reverse (recs (node_entries (numbered m) past)) ++ r ∷ []))) where
      allowed : NodeAllows (base_at start (numbered m)) (start_records start (numbered m)) (node_entries (numbered m) (before.stops ++ past)) (Restarted true)
      allowed = subst (λ (es : List Entry). NodeAllows (base_at start (numbered m)) (start_records start (numbered m)) es (Restarted true)) (sym here) (down, subst (λ (o : Option Record). IsSome o) (sym added) refl)

      records_are : recs (node_entries (numbered m) (back m ∷ (before.stops ++ past))) ≡ r ∷ recs (node_entries (numbered m) past)
      records_are =
          ap recs (at_it m (before.stops ++ past) ∙ ap (λ (es : List Entry). back m ∷ es) here)
          ∙ ap (λ (o : Option Record). with_added o (recs (node_entries (numbered m) past))) added

      comes_here : StandsUpTo m (start_nodes start) image ((reverse (recs (node_entries (numbered m) (back m ∷ (before.stops ++ past))))))
      comes_here =
          subst (λ (l : List Record). StandsUpTo m (start_nodes start) image (l))
          (sym (ap (λ (l : List Record). reverse l) records_are ∙ reverse-append (r ∷ []) (recs (node_entries (numbered m) past)))) stands

      comes : Chosen (m + 1)
      comes = record {
        stops = back m ∷ before.stops;
        are = (tt, before.are);
        follow = (before.follow, record { actor = tt; at_node = (among, allowed); by_client = tt; of_run = tt });
        others = λ n le. beside m n (before.stops ++ past) (λ e. omega (arith, le, e)) ∙ before.others n (omega (arith, le));
        sound = below_more (λ j. AllByRecursion IsRecord (records_of start (back m ∷ (before.stops ++ past)) (numbered j))) m
            (λ j lower.
            subst (λ (es : List Entry). AllByRecursion IsRecord (node_records (base_at start (numbered j)) (start_records start (numbered j)) es))
            (sym (beside m (numbered j) (before.stops ++ past) (λ e. omega (arith, lower, e)))) (before.sound j lower))
            (subst (AllByRecursion IsRecord) (sym records_are) (one, sound_here));
        stand = λ k other low is.
            below_more (λ j. (c : List ℕ) → slice_get images j ≡ Some c → StandsUpTo j (start_nodes start) c ((reverse (records_of start (back m ∷ (before.stops ++ past)) (numbered j))))) m
            (λ j lower c there.
            subst (λ (es : List Entry). StandsUpTo j (start_nodes start) c ((reverse (node_records (base_at start (numbered j)) (start_records start (numbered j)) es))))
            (sym (beside m (numbered j) (before.stops ++ past) (λ e. omega (arith, lower, e)))) (before.stand j c lower there))
            (λ c there. subst (λ (d : List ℕ). StandsUpTo m (start_nodes start) d ((reverse (records_of start (back m ∷ (before.stops ++ past)) (numbered m))))) (one_at images m image c at there) comes_here)
            k low other is;
      }

    -- as its image says
    by_down : (image : List ℕ) → slice_get images m ≡ Some image → (down : Bool) (added : Option Record) → is_down (node_entries (numbered m) past) ≡ down
        → added_by (base_at start (numbered m)) (recs (node_entries (numbered m) past)) (stopped_request (node_entries (numbered m) past)) ≡ added
        → AllByRecursion IsRecord (added_to (reverse (recs (node_entries (numbered m) past))) (if down then added else None))
        → StandsUpTo m (start_nodes start) image ((added_to (reverse (recs (node_entries (numbered m) past))) (if down then added else None))) → Chosen (m + 1)
    by_down image at true (Some r) down added sound stands = comes image r at down added (pending_sound (reverse (recs (node_entries (numbered m) past))) (Some r) r refl sound) stands
    by_down image at true None down added sound stands = stays image at stands
    by_down image at false added down is sound stands = stays image at stands

    chosen_by : (image : List ℕ) → slice_get images m ≡ Some image → StandsUpTo m (start_nodes start) image ((reverse (records_of start past (numbered m))))
        ⊎ StandsUpTo m (start_nodes start) image ((added_to (reverse (records_of start past (numbered m))) (left_behind start past (numbered m)))) → Chosen (m + 1)
    chosen_by image at (inl stands) = stays image at stands
    chosen_by image at (inr stands) =
        by_down image at (is_down (node_entries (numbered m) past)) (added_by (base_at start (numbered m)) (recs (node_entries (numbered m) past)) (stopped_request (node_entries (numbered m) past))) refl refl left stands

  -- all of them
  chosen : FollowsProtocol start past → ((k : ℕ) → k < start_nodes start → LeftSound k) → length images ≡ start_nodes start
      → ((k : ℕ) (image : List ℕ) → slice_get images k ≡ Some image → StandsUpTo k (start_nodes start) image ((reverse (records_of start past (numbered k))))
      ⊎ StandsUpTo k (start_nodes start) image ((added_to (reverse (records_of start past (numbered k))) (left_behind start past (numbered k))))) → (m : ℕ) → m ≤ start_nodes start → Chosen m
  chosen follow left count each zero le = none_yet follow
  chosen follow left count each (suc m) le =
      let before = chosen follow left count each m (omega (arith, le)) in
      let there = there_at images m (omega (arith, le, count)) in
      subst Chosen (add-one m) (chosen_by m (omega (arith, le)) before (left m (omega (arith, le))) there.0 there.1 (each m there.0 there.1))

  pub stopped : Laws → IsRun start past → ((k : ℕ) → k < start_nodes start → LeftSound k) → (store : Store) → IsOpenedAs start store → length images ≡ start_nodes start
      → ((k : ℕ) (image : List ℕ) → slice_get images k ≡ Some image → StandsUpTo k (start_nodes start) image ((reverse (records_of start past (numbered k))))
      ⊎ StandsUpTo k (start_nodes start) image ((added_to (reverse (records_of start past (numbered k))) (left_behind start past (numbered k))))) → IsStopped start store past images
  stopped laws run left store opened count each =
      let all = chosen (laws.follow start past run) left count each (start_nodes start) (omega arith) in
      let so = laws.leave start store past all.stops (record { opened = opened; run = run }) all.are all.follow in
      record {
        stops = all.stops;
        are = all.are;
        follow = all.follow;
        sound = λ n low. all.sound n.0 low;
        stand = λ k image is. all.stand k image (let low = within images k image is in omega (arith, low, count)) is;
        placed = so.0;
        run = so.1;
        one = laws.one start store (all.stops ++ past) so.0 so.1;
        opened = so.2;
      }

-- such images hold a store
abbrev pub hold : (start : Start) (store : Store) (past : List Entry) (images : List (List ℕ)) → length images ≡ start_nodes start → IsStopped start store past images → HoldStore images
hold start store past images count stopped = record {
  lists = records_of start (stopped.stops ++ past);
  store = store_after store (pasts_of stopped.placed);
  sound = λ n low. stopped.sound n (omega (arith, low, count));
  stand = λ k image is.
      subst (λ (n : ℕ). StandsUpTo k n image ((reverse (records_of start (stopped.stops ++ past) (numbered k))))) (sym count) (stopped.stand k image is);
  opened = subst (λ (n : ℕ). IsOpened n (bases n) (records_of start (stopped.stops ++ past)) (store_after store (pasts_of stopped.placed))) (sym count) stopped.opened;
}

-- Disks

pub any_stop : Laws → {D : Type 0} (state : D → DiskState) (faults : D → ℕ) (given left : List D) → length left ≡ length given → (records : List (List Record)) → Show state given records → (store : Store) → IsOpenedAs (start_of records) store
    → (past : List Entry) → IsRun (start_of records) past
    → ((k : ℕ) (old new : D) → slice_get given k ≡ Some old → slice_get left k ≡ Some new → IsLeft state faults (start_of records) past (numbered k) old new) → AnyStopLeaves state given left (start_of records) store past
any_stop laws state faults given left count records shown store opened past run disks honest images are =
    stopped (start_of records) past images laws run
    (λ k low.
    let old = there_at given k (let same = shown.count in omega (arith, low, same)) in
    let new = there_at left k (let same = shown.count in omega (arith, low, same, count)) in
    (disks k old.0 new.0 old.1 new.1).sound)
    store opened (are.count ∙ count ∙ sym shown.count)
    (λ k image is.
    let new = there_at left k (let low = within images k image is in omega (arith, low, are.count)) in
    let old = there_at given k (let low = within left k new.0 new.1 in omega (arith, low, count)) in
    (disks k old.0 new.0 old.1 new.1).stands (honest k old.0 old.1) image (are.each k new.0 image new.1 is))
