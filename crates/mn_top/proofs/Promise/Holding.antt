-- How the bytes of disks hold stores: one at most; new disks the empty one; and disks behind a run,
-- or a stop, the store of its history.
use Rattle.std.proofs.Common.{◌≡◌, ◌<◌, ◌≤◌, ◌∙◌, ℕ, zero, suc, List, [], ◌++◌, length, take, drop, replicate, reverse, refl, ap, sym, subst, arith, inl, Bool, true, false, ltb, ltb-true, ltb-false, Some}
use Rattle.std.specs.Prelude.{slice_get}
use Rattle.std.specs.List.{AllByRecursion}
use Rattle.std.proofs.lemmas.List.{get_or_past, length-map, length-replicate, reverse-reverse, take-append-drop}
use Rattle.std.proofs.lemmas.Option.{get_or_from_slice_get}
use Rattle.mn_base.specs.History.{store_after}
use Rattle.mn_base.specs.Store.{Store, empty_store}
use Rattle.mn_base.specs.declared.ids.NodeNo.{NodeNo}
use Rattle.mn_callers.proofs.Handing as handing
use Rattle.mn_cell.specs.Calls.{numbered}
use Rattle.mn_io.specs.DiskModel.{DiskState}
use Rattle.mn_law.specs.Opened.{IsOpened}
use Rattle.mn_mini.specs.Laws.{ShortKeepsGrammar}
use Rattle.mn_mini.specs.RecordGrammar.{IsRecord}
use Rattle.mn_mini.specs.declared.record.Record.{Record}
use Rattle.mn_node.proofs.Built.{all-reverse}
use Rattle.mn_node.proofs.Listed.{listed_sound}
use Rattle.mn_node.specs.Node.{StandsUpTo, bodies_of, listed}
use Rattle.mn_page.specs.Holds.{HoldsOne}
use Rattle.mn_promise.specs.Promise.{IsMeaning}
use Rattle.mn_redo.specs.Grammar.{Stands}
use Rattle.mn_runs.specs.Nodes.{node_records}
use Rattle.mn_runs.specs.Protocol.{FollowsProtocol, Start, base_at, records_of, start_nodes, start_of, start_records}
use Rattle.mn_runs.specs.declared.entry.Entry.{Entry}
use Rattle.mn_serial.specs.History.{Placed, pasts_of}
use Rattle.mn_serial.specs.Meaning.{EndsOpened, HistoryRun, IsShortenedFrom, ShortenedStaysOpened}
use Rattle.mn_top.proofs.Again.{AreOneList}
use Rattle.mn_top.proofs.Fresh.{fresh_opens, have_none, no_record}
use Rattle.mn_top.proofs.Gets.{map_at, there_at, within}
use Rattle.mn_top.proofs.OnLogs.{bodies_once}
use Rattle.mn_top.proofs.Stopped.{hold}
use Rattle.mn_top.specs.Crashes.{AreHonest, HoldStore, IsStopped, bases}
use Rattle.mn_top.specs.Opening.{IsOpenedAs, Show}
use Rattle.mn_top.specs.Promise.{HoldsStore, contents_of}

-- One store at most

module _ (keeps : ShortKeepsGrammar) (shorter : ShortenedStaysOpened) (once : AreOneList) (one : HoldsOne) where
  module _ (images : List (List ℕ)) where
    -- how many of the first records of a node its image has shortened
    abbrev cut_by : HoldStore images → (n : NodeNo) (b : Bool) → ltb n.0 (length images) ≡ b → ℕ
    cut_by h n true is = let image = there_at images n.0 (ltb-true n.0 (length images) is) in (h.stand n.0 image.0 image.1).cut
    cut_by h n false is = 0

    abbrev shown_by : HoldStore images → (n : NodeNo) (b : Bool) → ltb n.0 (length images) ≡ b → List Record
    shown_by h n b is = reverse (listed (cut_by h n b is) (reverse (h.lists n)))

    -- the records as the images have them
    abbrev shown : HoldStore images → NodeNo → List Record
    shown h n = shown_by h n (ltb n.0 (length images)) refl

    shortened : (h : HoldStore images) (n : NodeNo) → IsShortenedFrom (h.lists n) (shown h n)
    shortened h n =
        let cut = cut_by h n (ltb n.0 (length images)) refl in
        let all : List Record = reverse (h.lists n) in
        record {
          first = take cut all;
          rest = drop cut all;
          whole_is = sym (ap (λ (l : List Record). reverse l) (take-append-drop cut all) ∙ reverse-reverse (h.lists n));
          shorter_is = refl;
        }

    -- the images have one list for each node
    same_by : (h g : HoldStore images) → ((n : NodeNo) → length images ≤ n.0 → h.lists n ≡ []) → ((n : NodeNo) → length images ≤ n.0 → g.lists n ≡ [])
        → (n : NodeNo) (b : Bool) (is : ltb n.0 (length images) ≡ b) → shown_by h n b is ≡ shown_by g n b is
    same_by h g none none' n true is = ap (λ (l : List Record). reverse l) (bodies_once _ _ (sound h) (sound g) (once n.0 (length images) image.0 _ _ (h.stand n.0 image.0 image.1).stands (g.stand n.0 image.0 image.1).stands))
      where
        low : n.0 < length images
        low = ltb-true n.0 (length images) is

        image : (i : List ℕ) × (slice_get images n.0 ≡ Some i)
        image = there_at images n.0 low

        sound : (f : HoldStore images) → AllByRecursion IsRecord (listed (f.stand n.0 image.0 image.1).cut (reverse (f.lists n)))
        sound f = listed_sound keeps (f.stand n.0 image.0 image.1).cut (reverse (f.lists n)) (all-reverse IsRecord (f.lists n) (f.sound n low))
    same_by h g none none' n false is =
        let above = ltb-false n.0 (length images) is in
        ap (λ (l : List Record). reverse (listed 0 (reverse l))) (none n above ∙ sym (none' n above))

    one_store : (s t : Store) → HoldsStore images s → HoldsStore images t → s ≡ t
    one_store s t h g =
        let same = λ (n : NodeNo). same_by h.held g.held h.none_beyond g.none_beyond n (ltb n.0 (length images)) refl in
        let first : IsOpened (length images) (bases (length images)) (shown h.held) h.held.store = shorter (length images) (bases (length images)) h.held.lists (shown h.held) h.held.store (shortened h.held) h.held.opened in
        let second : IsOpened (length images) (bases (length images)) (shown h.held) g.held.store =
        shorter (length images) (bases (length images)) g.held.lists (shown h.held) g.held.store (λ n. subst (IsShortenedFrom (g.held.lists n)) (sym (same n)) (shortened g.held n)) g.held.opened in
        sym h.store_is ∙ (one _ h.held.store g.held.store first.holds second.holds ∙ g.store_is)

  -- New disks

  nothing_at : {X : Type 0} (nodes k : ℕ) (x : List X) → slice_get (replicate nodes []) k ≡ Some x → x ≡ []
  nothing_at zero k x is = absurd cc
  nothing_at (suc nodes) zero x is = cc
  nothing_at (suc nodes) (suc k) x is = nothing_at nodes k x is

  none_of : (nodes : ℕ) → have_none (replicate nodes []) ≡ true
  none_of zero = refl
  none_of (suc nodes) = none_of nodes

  new_holds : (nodes : ℕ) → 1 ≤ nodes → nodes ≤ 8 → HoldsStore (replicate nodes []) empty_store
  new_holds nodes some few = record {
    held = record {
      lists = lists;
      store = empty_store;
      sound = λ n low. subst (AllByRecursion IsRecord) (sym (no_record records (none_of nodes) n)) tt;
      stand = λ k image is. record { cut = 0; within = omega arith; stands = inl (inl (fresh image (nothing_at nodes k image is)), ap (λ (l : List Record). bodies_of (listed 0 (reverse l))) (no_record records (none_of nodes) (numbered k))) };
      opened = subst (λ (k : ℕ). IsOpened k (bases k) lists empty_store) (many ∙ sym (length-replicate nodes none))
          (fresh_opens records (none_of nodes) (subst (λ (k : ℕ). 0 < k) (sym many) (omega (arith, some))) (subst (λ (k : ℕ). k ≤ 8) (sym many) few));
    };
    none_beyond = λ n above. no_record records (none_of nodes) n;
    store_is = refl;
  }
    where
      none : List ℕ
      none = []

      no_records : List Record
      no_records = []

      records : List (List Record)
      records = replicate nodes no_records

      lists : NodeNo → List Record
      lists = start_records (start_of records)

      many : length records ≡ nodes
      many = length-replicate nodes no_records

      fresh : (image : List ℕ) → image ≡ [] → length image < 81
      fresh image is = let short : length image ≡ 0 = ap (λ (l : List ℕ). length l) is in omega (arith, short)

  pub meaning : IsMeaning HoldsStore
  meaning = record { one = one_store; new = new_holds }

-- What the disks show

module _ {D : Type 0} (state : D → DiskState) (given : List D) (honest : AreHonest state given) (records : List (List Record)) (shows : Show state given records) (store : Store) (opened : IsOpenedAs (start_of records) store) where
  abbrev lists_shown : NodeNo → List Record
  lists_shown n = start_records (start_of records) n

  many_contents : length (contents_of state given) ≡ length given
  many_contents = length-map given (λ d. (state d).content)

  list_at : (k : ℕ) (list : List Record) → slice_get records k ≡ Some list → lists_shown (numbered k) ≡ reverse list
  list_at k list is = ap (λ (l : List Record). reverse l) (get_or_from_slice_get records k list [] is)

  sound_shown : (n : NodeNo) → n.0 < length (contents_of state given) → AllByRecursion IsRecord (lists_shown n)
  sound_shown n low =
      let disk = there_at given n.0 (omega (arith, low, many_contents)) in
      let list = there_at records n.0 (let count = shows.count in omega (arith, low, many_contents, count)) in
      subst (AllByRecursion IsRecord) (sym (list_at n.0 list.0 list.1)) (all-reverse IsRecord list.0 (shows.read n.0 disk.0 list.0 disk.1 list.1).sound)

  stand_shown : (k : ℕ) (image : List ℕ) → slice_get (contents_of state given) k ≡ Some image → StandsUpTo k (length (contents_of state given)) image (reverse (lists_shown (numbered k)))
  stand_shown k image is = record {
    cut = 0;
    within = omega arith;
    stands =
        let disk = map_at (λ d. (state d).content) given k image is in
        let low = within given k disk.0 disk.1 in
        let list = there_at records k (let count = shows.count in omega (arith, low, count)) in
        let turned : reverse (lists_shown (numbered k)) ≡ list.0 = ap (λ (l : List Record). reverse l) (list_at k list.0 list.1) ∙ reverse-reverse list.0 in
        subst (λ (n : ℕ). Stands k n image (bodies_of (listed 0 (reverse (lists_shown (numbered k)))))) (sym many_contents)
        (subst (λ (l : List Record). Stands k (length given) image (bodies_of l)) (sym turned)
        (subst (λ (c : List ℕ). Stands k (length given) c (bodies_of list.0)) disk.2 ((shows.read k disk.0 list.0 disk.1 list.1).stands (honest k disk.0 disk.1))));
  }

  pub shown_holds : HoldsStore (contents_of state given) store
  shown_holds = record {
    held = record {
      lists = lists_shown;
      store = store;
      sound = sound_shown;
      stand = stand_shown;
      opened = subst (λ (n : ℕ). IsOpened n (bases n) lists_shown store) (shows.count ∙ sym many_contents) opened;
    };
    none_beyond = λ n above. ap (λ (l : List Record). reverse l) (get_or_past records n.0 [] (let count = shows.count in omega (arith, above, many_contents, count)));
    store_is = refl;
  }

-- Behind a run

-- nodes that are none of the run's have no records
no_records_beyond : (start : Start) (past : List Entry) → FollowsProtocol start past → (n : NodeNo) → start_nodes start ≤ n.0 → records_of start past n ≡ []
no_records_beyond start past follow n above =
    ap (λ (es : List Entry). node_records (base_at start n) (start_records start n) es) (handing.none_beyond start n above past follow)
    ∙ ap (λ (l : List Record). reverse l) (get_or_past start.records n.0 [] above)

module _ (start : Start) (store : Store) (past : List Entry) (images : List (List ℕ)) (count : length images ≡ start_nodes start) where
  -- images that stand for a run's records hold the store of its history
  pub run_holds : EndsOpened → (placed : List Placed) → HistoryRun start store past placed → FollowsProtocol start past → ((n : NodeNo) → n.0 < start_nodes start → AllByRecursion IsRecord (records_of start past n))
      → ((k : ℕ) (image : List ℕ) → slice_get images k ≡ Some image → StandsUpTo k (start_nodes start) image (reverse (records_of start past (numbered k)))) → HoldsStore images (store_after store (pasts_of placed))
  run_holds ends placed run follow sound stand = record {
    held = record {
      lists = records_of start past;
      store = store_after store (pasts_of placed);
      sound = λ n low. sound n (omega (arith, low, count));
      stand = λ k image is. subst (λ (n : ℕ). StandsUpTo k n image (reverse (records_of start past (numbered k)))) (sym count) (stand k image is);
      opened = subst (λ (n : ℕ). IsOpened n (bases n) (records_of start past) (store_after store (pasts_of placed))) (sym count) (ends start store past placed run);
    };
    none_beyond = λ n above. no_records_beyond start past follow n (omega (arith, above, count));
    store_is = refl;
  }

  -- so do those that a stop leaves
  pub stop_holds : (stopped : IsStopped start store past images) → HoldsStore images (store_after store (pasts_of stopped.placed))
  stop_holds stopped = record {
    held = hold start store past images count stopped;
    none_beyond = λ n above. no_records_beyond start (stopped.stops ++ past) stopped.follow n (omega (arith, above, count));
    store_is = refl;
  }
