-- The lists that a run leaves are one log, which is a run, and has each node's list.
use Rattle.std.proofs.Common.{◌≡◌, ℕ, suc, ◌+◌, ◌<◌, ◌≤◌, Bool, true, false, Option, Some, None, List, [], ◌∷◌, ◌++◌, length, map, reverse, refl, sym, ap, ◌∙◌, subst, if◌then◌else◌, Result, Ok, Err, IfErr, IfOk, OnOk}
use Rattle.std.specs.Prelude.{filter, slice_get}
use Rattle.std.specs.List.{AllByRecursion}
use Rattle.std.specs.Option.{option_map_or}
use Rattle.std.proofs.lemmas.List.{append-nil, length-map, reverse-append}
use Rattle.std.proofs.lemmas.List.Elements.{filter-append}
use Rattle.std.proofs.lemmas.Option.{slice_get_within}
use Rattle.mn_actors.specs.declared.actor.Actor.{Actor}
use Rattle.mn_actors.specs.declared.actor.Actor.TheVariants.{Client, Node}
use Rattle.mn_actors.specs.declared.clock.View.{View}
use Rattle.mn_actors.specs.Lines.{IsActor, Line, is_node, stands_in}
use Rattle.mn_actors.specs.Lists.{OwnsAll, held}
use Rattle.mn_actors.specs.Log.{IsManned, IsOneLog, entries_from}
use Rattle.mn_base.specs.Ids.{node_same}
use Rattle.mn_base.specs.declared.ids.ClientNo.{ClientNo}
use Rattle.mn_base.specs.declared.ids.NodeNo.{NodeNo}
use Rattle.mn_cell.specs.Calls.{IsLegalLine, numbered}
use Rattle.mn_cell.specs.Runs.{ArePartsOfRun, IsIssueOf, PartsMakeRun, placed_from}
use Rattle.mn_cell.specs.declared.trace.RunCause.{RunCause}
use Rattle.mn_cell.specs.Station.{StationState}
use Rattle.mn_hist.specs.Merging.{AreOneLog, actor_list}
use Rattle.mn_io.specs.DiskModel.{DiskState}
use Rattle.mn_node.specs.State.{NodeState}
use Rattle.mn_script.specs.Script.{Script}
use Rattle.mn_runs.specs.declared.entry.Entry.{Entry}
use Rattle.mn_runs.specs.Calls.{client_entries, is_at, is_by, node_entries}
use Rattle.mn_runs.specs.Protocol.{NodeListAllowed, Start, start_nodes, entries_of}
use Rattle.mn_runs.specs.Lists.{ClientState}
use Rattle.mn_callers.specs.declared.callers.Callers.{Callers}
use Rattle.mn_callers.specs.Causes.{IsCaused}
use Rattle.mn_callers.specs.Ended.{AllHaveMade, AreLists, HoldsNodes, IsEnded}
use Rattle.mn_callers.specs.Failed.{IsDamage}
use Rattle.mn_callers.specs.Plays.{AreCallers, HasTrail, list_by}
use Rattle.mn_callers.specs.Settled.{AreUpAndFree}
use Rattle.mn_callers.specs.Trace.{HaveSoundRecords}
use Rattle.mn_callers.specs.Turn.{AreStations, callers_count, past_in, trail_at, trail_by}
use Rattle.mn_callers.proofs.Handing.{mapped_at, maps_at, some_same, within_at}
use Rattle.mn_callers.proofs.OfScript.{client_from, log_of_script, none_from}
use Rattle.mn_callers.proofs.OneTrail.{IsMannedBy, trail_is_past}

-- A node's entries

each_all : {X : Type 0} (P : X → Type 0) (xs : List X) → ((k : ℕ) (x : X) → slice_get xs k ≡ Some x → P x) → AllByRecursion P xs
each_all P [] each = tt
each_all P (x ∷ xs) each = (each 0 x refl, each_all P xs (λ k y at. each (suc k) y at))

filter_turned : {X : Type 0} (f : X → Bool) (xs : List X) → filter f (reverse xs) ≡ reverse (filter f xs)
filter_turned f [] = refl
filter_turned {X} f (x ∷ xs) =
    ap (filter f) (reverse-append (x ∷ []) xs)
    ∙ (filter-append f (reverse xs) (x ∷ [])
    ∙ (ap (λ (l : List X). l ++ filter f (x ∷ [])) (filter_turned f xs) ∙ by (f x)))
  where
    by : (b : Bool) → reverse (filter f xs) ++ (if b then x ∷ [] else []) ≡ reverse (if b then x ∷ filter f xs else filter f xs)
    by true = sym (reverse-append (x ∷ []) (filter f xs))
    by false = append-nil (reverse (filter f xs))

abbrev entry_in : ℕ × Entry → Entry
entry_in p = p.1

node_from : (n : NodeNo) (p : ℕ) (log : List (Line Entry)) → AllByRecursion (λ x. x.entry.node ≡ x.node) log
    → filter (is_at n) (map entry_in (placed_from p log)) ≡ map entry_in (entries_from p (Node n) log)
node_from n p [] named = refl
node_from n p (x ∷ log) named = by (is_at n x.entry) (stands_in (Node n) x) same _ _ (node_from n (p + 1) log named.1)
  where
    told : (o : Option NodeNo) → option_map_or (node_same n) o false ≡ is_node o n
    told None = refl
    told (Some m) = refl

    same : is_at n x.entry ≡ stands_in (Node n) x
    same = ap (λ (o : Option NodeNo). option_map_or (node_same n) o false) named.0 ∙ told x.node

    by : (a b : Bool) → a ≡ b → (es : List Entry) (l : List (ℕ × Entry)) → es ≡ map entry_in l → (if a then x.entry ∷ es else es) ≡ map entry_in (if b then (p, x.entry) ∷ l else l)
    by true true e es l is = ap (λ (k : List Entry). x.entry ∷ k) is
    by false false e es l is = is
    by true false e es l is = absurd cc
    by false true e es l is = absurd cc

node_list : (n : NodeNo) (log : List (Line Entry)) → AllByRecursion (λ x. x.entry.node ≡ x.node) log → node_entries n (entries_of (placed_from 0 log)) ≡ entries_of (entries_from 0 (Node n) log)
node_list n log named = filter_turned (is_at n) (map entry_in (placed_from 0 log)) ∙ ap reverse (node_from n 0 log named)

client_list : (c : ClientNo) (log : List (Line Entry)) → AllByRecursion (λ x. x.entry.client ≡ x.client) log → client_entries c (entries_of (placed_from 0 log)) ≡ entries_of (entries_from 0 (Client c) log)
client_list c log called = filter_turned (is_by c) (map entry_in (placed_from 0 log)) ∙ ap reverse (client_from c 0 log called)

-- The pass owns all

module _ (callers : Callers) (node_lists : List (List (ℕ × Entry))) (v : View Entry) (holds : HoldsNodes v node_lists)
    (owns : (c : ClientNo) → c.0 < callers_count → held v (Client c) ≡ Some (list_by callers c)) (nodes clients : ℕ) (count : nodes ≡ length node_lists) (all : clients ≡ callers_count) where
  pub owns_all : OwnsAll nodes clients v
  owns_all (Node n) on = let found = within_at node_lists n.0 (subst (λ (k : ℕ). n.0 < k) count on) in (found.0, holds n ∙ found.1)
  owns_all (Client c) on = (list_by callers c, owns c (subst (λ (k : ℕ). c.0 < k) all on))

  pub one_log : (client_lists : List ClientState) (clock : ℕ) → AreLists callers client_lists → IsOneLog IsLegalLine nodes clients (held v) clock → AreOneLog node_lists client_lists clock
  one_log client_lists clock lists one =
      let there = subst (λ (k : ℕ). IsOneLog IsLegalLine k (length client_lists) (held v) clock) count (subst (λ (k : ℕ). IsOneLog IsLegalLine nodes k (held v) clock) (all ∙ sym lists.count) one) in
      record {
        log = there.log;
        clock_is = there.clock_is;
        lists = λ a on. same a on ∙ there.lists a on;
        ascending = there.ascending;
        manned = there.manned;
        legal_then = there.legal_then;
        once = there.once;
      }
    where
      same : (a : Actor) → IsActor (length node_lists) (length client_lists) a → actor_list node_lists client_lists a ≡ held v a
      same (Node n) on = sym (holds n)
      same (Client c) on = let below = subst (λ (k : ℕ). c.0 < k) lists.count on in lists.each c below ∙ sym (owns c below)

-- The run

module _ {D : Type 0} (state : D → DiskState) (faults : D → ℕ) (start : Start) (counts : ℕ → ℕ) (honest : ℕ → Type 0) (stations : List (StationState D)) (callers : Callers)
    (nodes : List (NodeState D)) (node_lists : List (List (ℕ × Entry))) (client_lists : List ClientState) (are : AreStations (start_nodes start) stations)
    (nodes_are : nodes ≡ map (λ (s : StationState D). s.node) stations) (lists_are : node_lists ≡ map (λ (s : StationState D). s.list) stations)
    (made : AllHaveMade state faults start counts honest stations) (lists : AreLists callers client_lists)
    (of_run : (c : ClientNo) → c.0 < callers_count → AllByRecursion (IsIssueOf start) (entries_of (list_by callers c)))
    (played : Result (Unit {0}) RunCause) (settled : OnOk played (AreUpAndFree (start_nodes start) stations)) (caused : IfErr played (IsCaused faults counts honest stations)) where
  long : length node_lists ≡ start_nodes start
  long = ap length lists_are ∙ (length-map stations (λ (s : StationState D). s.list) ∙ are.count)

  parts : ArePartsOfRun start (length node_lists) (length client_lists) (actor_list node_lists client_lists)
  parts = record {
    all = long;
    allowed = λ n list below at.
        let found = mapped_at (λ (s : StationState D). s.list) stations n.0 list (ap (λ (l : List (List (ℕ × Entry))). slice_get l n.0) (sym lists_are) ∙ at) in
        subst (λ (l : List (ℕ × Entry)). NodeListAllowed start n (entries_of l)) found.2
        (subst (λ (m : NodeNo). NodeListAllowed start m (entries_of found.0.list)) (are.in_order n.0 found.0 found.1) (made n.0 found.0 found.1).allowed);
    of_run = λ c list below at.
        let known = subst (λ (k : ℕ). c.0 < k) lists.count below in
        subst (λ (l : List (ℕ × Entry)). AllByRecursion (IsIssueOf start) (entries_of l)) (some_same (list_by callers c) list (sym (lists.each c known) ∙ at)) (of_run c known);
  }

  module _ (law : PartsMakeRun) (clock : ℕ) (one : AreOneLog node_lists client_lists clock) where
    abbrev log : List (ℕ × Entry)
    log = placed_from 0 one.log

    named : AllByRecursion (λ (x : Line Entry). x.entry.node ≡ x.node) one.log
    named = each_all (λ (x : Line Entry). x.entry.node ≡ x.node) one.log (λ k x at. (one.legal_then k x at).0)

    called : AllByRecursion (λ (x : Line Entry). x.entry.client ≡ x.client) one.log
    called = each_all (λ (x : Line Entry). x.entry.client ≡ x.client) one.log (λ k x at. (one.legal_then k x at).1)

    own : (k : ℕ) (s : StationState D) → slice_get stations k ≡ Some s → entries_of s.list ≡ node_entries (numbered k) (entries_of log)
    own k s at =
        let there : slice_get node_lists k ≡ Some s.list = ap (λ (l : List (List (ℕ × Entry))). slice_get l k) lists_are ∙ maps_at (λ (s : StationState D). s.list) stations k s at in
        let below : k < length node_lists = slice_get_within node_lists k s.list there in
        let list : s.list ≡ entries_from 0 (Node (numbered k)) one.log = some_same s.list (entries_from 0 (Node (numbered k)) one.log) (sym there ∙ one.lists (Node (numbered k)) below) in
        ap (λ (l : List (ℕ × Entry)). entries_of l) list ∙ sym (node_list (numbered k) one.log named)

    -- a client's entries in the log are its list, and no other has any
    by_caller : (c : ClientNo) → c.0 < callers_count → client_entries c (entries_of log) ≡ entries_of (list_by callers c)
    by_caller c below =
        let on = subst (λ (k : ℕ). c.0 < k) (sym lists.count) below in
        let list : list_by callers c ≡ entries_from 0 (Client c) one.log = some_same (list_by callers c) (entries_from 0 (Client c) one.log) (sym (lists.each c below) ∙ one.lists (Client c) on) in
        client_list c one.log called ∙ ap (λ (l : List (ℕ × Entry)). entries_of l) (sym list)

    by_no_other : (c : ClientNo) → callers_count ≤ c.0 → client_entries c (entries_of log) ≡ []
    by_no_other c above =
        client_list c one.log called
        ∙ ap (λ (l : List (ℕ × Entry)). entries_of l)
        (none_from (length node_lists) (length client_lists) 0 c one.log (subst (λ (k : ℕ). k ≤ c.0) (sym lists.count) above) (each_all (IsManned (length node_lists) (length client_lists)) one.log one.manned))

    pub ends : (script : Script) → AreCallers start script callers → HaveSoundRecords nodes → {E : Type 0} (merged : Result (List (ℕ × Entry)) E) → IfOk merged (λ l. l ≡ log)
        → (past : List (ℕ × Entry)) × IsEnded state faults start counts honest script nodes played past × IfOk merged (λ l. l ≡ past)
    ends script are' sound merged told = (
      log,
      record {
        stations = stations;
        count = are.count;
        nodes_are = nodes_are;
        sound = sound;
        of_script = log_of_script start script callers are' (entries_of log) by_caller by_no_other;
        run = law start (length node_lists) (length client_lists) clock (actor_list node_lists client_lists) one parts;
        numbers = are.in_order;
        made = made;
        lists = own;
        settled = settled;
        caused = caused;
      },
      told,
    )

    -- a trail of the play is that log
    pub log_told : (known : ℕ) (h : HasTrail stations known callers) → entries_of log ≡ past_in h.trail
    log_told known h = trail_is_past (length node_lists) (length client_lists) clock (actor_list node_lists client_lists) one known h.trail h.is.falling at by
        (subst (λ (k : ℕ). AllByRecursion (IsMannedBy k) h.trail) (sym lists.count) h.manned)
      where
        at : (n : NodeNo) → n.0 < length node_lists → actor_list node_lists client_lists (Node n) ≡ Some (trail_at n.0 h.trail)
        at n below =
            let found = within_at stations n.0 (subst (λ (k : ℕ). n.0 < k) (ap length lists_are ∙ length-map stations (λ (s : StationState D). s.list)) below) in
            ap (λ (l : List (List (ℕ × Entry))). slice_get l n.0) lists_are
            ∙ (maps_at (λ (s : StationState D). s.list) stations n.0 found.0 found.1
            ∙ ap (λ (l : List (ℕ × Entry)). Some l) (h.is.at_nodes n.0 found.0 found.1))

        by : (c : ClientNo) → c.0 < length client_lists → actor_list node_lists client_lists (Client c) ≡ Some (trail_by c h.trail)
        by c below =
            let known = subst (λ (k : ℕ). c.0 < k) lists.count below in
            lists.each c known ∙ ap (λ (l : List (ℕ × Entry)). Some l) (h.by c known)

    -- and so is the one that was merged
    log_is : {E : Type 0} (merged : Result (List (ℕ × Entry)) E) (told : List (ℕ × Entry)) (known : ℕ) → IfOk merged (λ l. l ≡ log) → merged ≡ Ok told
        → (past : List Entry) (h : HasTrail stations known callers) → past ≡ past_in h.trail → entries_of told ≡ past
    log_is {E} merged told known so is past h past_is =
        let same : told ≡ log = subst (λ (r : Result (List (ℕ × Entry)) E). IfOk r (λ l. l ≡ log)) is so in
        ap (λ (l : List (ℕ × Entry)). entries_of l) same ∙ (log_told known h ∙ sym past_is)

    -- also where the run failed by damage
    pub log_failed : {X E F : Type 0} (cause_in : F → RunCause) (log_in : F → List (ℕ × Entry)) (result : Result X F) (merged : Result (List (ℕ × Entry)) E) (known : ℕ) → IfOk merged (λ l. l ≡ log)
        → IfErr result (λ f. IsDamage (cause_in f) → (played ≡ Err (cause_in f)) × (merged ≡ Ok (log_in f)))
        → IfErr result (λ f. IsDamage (cause_in f) → (played ≡ Err (cause_in f)) × ((past : List Entry) (h : HasTrail stations known callers) → past ≡ past_in h.trail → entries_of (log_in f) ≡ past))
    log_failed cause_in log_in (Ok x) merged known told is = tt
    log_failed cause_in log_in (Err f) merged known told is = λ damage. let both = is damage in (both.0, λ past h past_is. log_is merged (log_in f) known told both.1 past h past_is)

    pub log_merged : {X E F : Type 0} (log_in : X → List (ℕ × Entry)) (result : Result X F) (merged : Result (List (ℕ × Entry)) E) (known : ℕ) → IfOk merged (λ l. l ≡ log) → IfOk result (λ t. merged ≡ Ok (log_in t))
        → IfOk result (λ t. (past : List Entry) (h : HasTrail stations known callers) → past ≡ past_in h.trail → entries_of (log_in t) ≡ past)
    log_merged log_in (Err e) merged known told is = tt
    log_merged log_in (Ok t) merged known told is = λ past h past_is. log_is merged (log_in t) known told is past h past_is
