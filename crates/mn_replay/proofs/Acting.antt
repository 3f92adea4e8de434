-- The turns of recovery coordinators.
use Rattle.std.proofs.Common.{◌≡◌, ℕ, zero, suc, ◌+◌, ◌-◌, ◌<◌, Result, Ok, Err, is_err, OnOk, Bool, false, Option, Some, None, List, [], ◌∷◌, ◌++◌, map, refl, sym, ap, ◌∙◌, subst, arith, nat_eq}
use Rattle.std.specs.Prelude.{slice_get, slice_index_or, slice_set}
use Rattle.std.specs.List.{AllByRecursion}
use Rattle.std.specs.Option.{option_map_or}
use Rattle.std.proofs.lemmas.Bool.{le-ltb, ne_eqb}
use Rattle.std.proofs.lemmas.Option.{slice_get_within}
use Rattle.atomic_table.specs.Seated.{TableId}
use Rattle.mn_actors.specs.declared.actor.Actor.TheVariants.{Client as Calls}
use Rattle.mn_actors.specs.declared.clock.View.{View}
use Rattle.mn_actors.specs.Lists.{IsJoined, IsSplit}
use Rattle.mn_cell.specs.Runs.{IsIssueOf}
use Rattle.mn_base.specs.declared.ids.ClientNo.{ClientNo}
use Rattle.mn_recov.specs.Recovery.{Recovery}
use Rattle.mn_runs.specs.declared.entry.Entry.{Entry}
use Rattle.mn_runs.specs.Calls.{client_entries}
use Rattle.mn_runs.specs.Lists.{ClientState}
use Rattle.mn_runs.specs.Protocol.{Start, start_nodes, entries_of}
use Rattle.mn_callers.specs.declared.callers.Callers.{Callers}
use Rattle.mn_callers.specs.declared.desk.Desk.{Desk}
use Rattle.mn_callers.specs.Desks.{IsDesk, recoverer}
use Rattle.mn_callers.specs.Logs.{HasLog, works_of}
use Rattle.mn_callers.specs.Plays.{IsAtRest, PlayState, StaysPlay, caller_at, list_by}
use Rattle.mn_callers.specs.Recoveries.{Bench, bench_of}
use Rattle.mn_callers.specs.Stages.{GoesAs, played_by}
use Rattle.mn_callers.specs.Turn.{ExtendsLog, IsTurn, Turn, callers_count, past_in, trail_by}
use Rattle.mn_callers.proofs.Replacing.{desk_among, desk_replaced, list_of}
use Rattle.mn_callers.proofs.Resting.{IsAfter, IsTurnOf, Replaces, turn_after, turn_begins, turn_ends}
use Rattle.mn_callers.proofs.Trails.{list_of_client}
use Rattle.mn_replay.specs.Schedule.{IsOfRecoverer}
use Rattle.mn_replay.proofs.Scheduled.{recoverer_acts}

pub ok_so : {E : Type 0} (r : Result (Unit {0}) E) (P : Type 0) → P → OnOk r P
ok_so (Ok u) P p = p
ok_so (Err e) P p = tt

pub not_err : {E : Type 0} (r : Result (Unit {0}) E) (P : Type 0) → is_err r ≡ false → OnOk r P → P
not_err (Ok u) P is p = p
not_err (Err e) P is p = absurd cc

list_of_desk : (callers : Callers) (k : ℕ) (d : Desk) → slice_get callers.desks.items k ≡ Some d → list_by callers (caller_at (17 + k)) ≡ d.list.entries
list_of_desk callers k d there =
    let place : (17 + k) - 17 ≡ k = omega arith in
    ap (λ (b : Bool). list_of b (nat_eq (17 + k) 16) (slice_get callers.clients.items (17 + k)) callers.closer.list.entries (slice_get callers.desks.items ((17 + k) - 17))) (le-ltb (17 + k) 16 (omega arith))
    ∙ (ap (λ (b : Bool). list_of false b (slice_get callers.clients.items (17 + k)) callers.closer.list.entries (slice_get callers.desks.items ((17 + k) - 17))) (ne_eqb (17 + k) 16 (λ is. absurd (omega arith)))
    ∙ (ap (λ (j : ℕ). option_map_or (λ d. d.list.entries) (slice_get callers.desks.items j) []) place
    ∙ ap (λ (o : Option Desk). option_map_or (λ d. d.list.entries) o []) there))

-- the works of recovery coordinators
work_at : (ds : List Desk) (k : ℕ) (d : Desk) → slice_get ds k ≡ Some d → slice_index_or (map (λ (e : Desk). e.work) ds) k None ≡ d.work
work_at [] k d at = absurd cc
work_at (e ∷ ds) zero d at = let same : e ≡ d = cc in ap (λ (f : Desk). f.work) same
work_at (e ∷ ds) (suc k) d at = work_at ds k d at

map_set : {X Y : Type 0} (f : X → Y) (xs : List X) (k : ℕ) (x : X) → map f (slice_set xs k x) ≡ slice_set (map f xs) k (f x)
map_set f [] k x = refl
map_set f (y ∷ xs) zero x = refl
map_set f (y ∷ xs) (suc k) x = ap (λ l. f y ∷ l) (map_set f xs k x)

abbrev Acts : {D : Type 0} → PlayState D → (List Entry → Bench → Bench → Type 0) → ClientNo → ℕ → List Entry → List Entry → List (Option Recovery) → Type 0
Acts p does client number es later ws = IsOfRecoverer number (does (client_entries client es)) (played_by p es) (record { past = later; works = ws })

module _ {D : Type 0} (board : TableId) (start : Start) (p : PlayState D) (rests : IsAtRest board start p) (k : ℕ) where
  module _ (d : Desk) (there : slice_get p.callers.desks.items k ≡ Some d) where
    among' : 17 + k < callers_count
    among' = let four = rests.four in let within = slice_get_within p.callers.desks.items k d there in omega arith

    pub desk_begins : (w u : View Entry) (at : TableId) → IsSplit p.view (Calls (caller_at (17 + k))) w u → at ≡ p.rest
        → IsTurn board (start_nodes start) (record { table = p.table; stations = p.stations; board = at; view = u; list = d.list })
    desk_begins w u at split is =
        turn_begins board start p (caller_at (17 + k)) w u at d.list rests among' split (is ∙ rests.passes) (rests.numbers.desks k d there) (sym (list_of_desk p.callers k d there))

    pub desk_turn : (q : PlayState D) (w u : View Entry) (at : TableId) (t : Turn D) (d' : Desk)
        → IsSplit p.view (Calls (caller_at (17 + k))) w u → IsTurn board (start_nodes start) t
        → ExtendsLog (record { table = p.table; stations = p.stations; board = at; view = u; list = d.list }) t
        → IsJoined w t.view q.view → q.rest ≡ p.rest → q.table ≡ t.table → q.stations ≡ t.stations → t.list ≡ d'.list
        → q.callers.desks.items ≡ slice_set p.callers.desks.items k d' → q.callers.clients.items ≡ p.callers.clients.items → q.callers.closer.list ≡ p.callers.closer.list
        → IsDesk start d' → IsTurnOf board start p q (caller_at (17 + k)) w u q.view at d.list t
    desk_turn q w u at t d' split turn goes joined rest table stations list desks clients closing desk =
        record {
          rests = rests;
          among = among';
          split = split;
          client = rests.numbers.desks k d there;
          entries = sym (list_of_desk p.callers k d there);
          turn = turn;
          goes = goes;
          joined = joined;
          passes = rest ∙ rests.passes;
          table = table;
          stations = stations;
          view = refl;
          replaces = subst (λ (l : ClientState). Replaces (caller_at (17 + k)) l p.callers q.callers) (sym list)
              (desk_replaced p.callers q.callers k d d' rests.numbers there desks clients closing (ap (λ (l : ClientState). l.client) (sym list) ∙ goes.client));
          of_run = subst (λ (l : ClientState). AllByRecursion (IsIssueOf start) (entries_of l.entries)) (sym list) desk.list.of_run;
        }

    pub desk_ends : (q : PlayState D) (w u : View Entry) (at : TableId) (t : Turn D) (d' : Desk)
        → IsTurnOf board start p q (caller_at (17 + k)) w u q.view at d.list t
        → q.callers.desks.items ≡ slice_set p.callers.desks.items k d' → q.callers.clients.items ≡ p.callers.clients.items → q.callers.closer.list ≡ p.callers.closer.list
        → IsDesk start d' → StaysPlay board start p q
    desk_ends q w u at t d' of desks clients closing desk script play =
        record {
          nodes = play.nodes;
          rests = turn_ends board start p q (caller_at (17 + k)) w u q.view at d.list t of;
          callers = desk_among start script p.callers q.callers k d d' play.callers there desks clients closing desk;
        }

    -- what it does with its own list and its work, its turn does with the log
    pub desk_goes : (number : ℕ) → number ≡ k + 1 → (does : List Entry → Bench → Bench → Type 0) (q : PlayState D) (w u : View Entry) (at : TableId) (t : Turn D) (d' : Desk)
        → IsTurnOf board start p q (caller_at (17 + k)) w u q.view at d.list t → t.list ≡ d'.list → q.callers.desks.items ≡ slice_set p.callers.desks.items k d'
        → (client : ClientNo) → client.0 < callers_count → does (entries_of (list_by p.callers client)) (bench_of d) (bench_of d')
        → GoesAs (λ old new. IsOfRecoverer number (does (client_entries client old.past)) old new) p q
    desk_goes number is does q w u at t d' of list desks client known so past log =
        by number is
      where
        after : IsAfter p q (caller_at (17 + k)) d.list.entries t.list.entries log.trail
        after = turn_after board start p q (caller_at (17 + k)) w u q.view at d.list t of log.trail

        told : entries_of (list_by p.callers client) ≡ client_entries client (past_in log.trail.trail)
        told = ap (λ (l : List (ℕ × Entry)). entries_of l) (log.trail.by client known) ∙ list_of_client client log.trail.trail

        before : suc k - 1 ≡ k
        before = omega arith

        had : slice_index_or (works_of p.callers) (suc k - 1) None ≡ d.work
        had = ap (λ (i : ℕ). slice_index_or (works_of p.callers) i None) before ∙ work_at p.callers.desks.items k d there

        works : works_of q.callers ≡ slice_set (works_of p.callers) (suc k - 1) d'.work
        works = ap (map (λ (e : Desk). e.work)) desks
            ∙ (map_set (λ (e : Desk). e.work) p.callers.desks.items k d'
            ∙ ap (λ (i : ℕ). slice_set (works_of p.callers) i d'.work) (sym before))

        does_so : does (client_entries client (past_in log.trail.trail)) (record { list = entries_of d.list.entries; work = slice_index_or (works_of p.callers) (suc k - 1) None }) (record { list = entries_of t.list.entries; work = d'.work })
        does_so =
            subst (λ (es : List Entry). does es (record { list = entries_of d.list.entries; work = slice_index_or (works_of p.callers) (suc k - 1) None }) (record { list = entries_of t.list.entries; work = d'.work })) told
            (subst (λ (o : Option Recovery). does (entries_of (list_by p.callers client)) (record { list = entries_of d.list.entries; work = o }) (record { list = entries_of t.list.entries; work = d'.work })) (sym had)
            (subst (λ (l : ClientState). does (entries_of (list_by p.callers client)) (bench_of d) (record { list = entries_of l.entries; work = d'.work })) (sym list) so))

        actor : caller_at (17 + k) ≡ recoverer (suc k)
        actor = ap caller_at (let same : 17 + k ≡ 16 + suc k = omega arith in same)

        acts : IsOfRecoverer (suc k) (does (client_entries client (past_in log.trail.trail))) (played_by p (past_in log.trail.trail)) (record { past = past_in (after.own ++ log.trail.trail); works = slice_set (works_of p.callers) (suc k - 1) d'.work })
        acts = recoverer_acts (suc k) (does (client_entries client (past_in log.trail.trail))) after.own log.trail.trail d.list.entries t.list.entries (works_of p.callers) d'.work
            (subst (λ (c : ClientNo). d.list.entries ≡ trail_by c log.trail.trail) actor after.was)
            (subst (λ (c : ClientNo). t.list.entries ≡ trail_by c (after.own ++ log.trail.trail)) actor after.is)
            (subst (λ (c : ClientNo). AllByRecursion (λ x. x.1.client ≡ Some c) after.own) actor after.by) does_so

        by : (number : ℕ) → number ≡ k + 1 → (later : List Entry) × HasLog q later × Acts p does client number past later (works_of q.callers)
        by number is = (
          past_in after.trail.trail,
          record { trail = after.trail; past_is = refl },
          subst (λ (n : ℕ). Acts p does client n past (past_in after.trail.trail) (works_of q.callers)) (sym (is ∙ omega arith))
              (subst (λ (es : List Entry). Acts p does client (suc k) es (past_in after.trail.trail) (works_of q.callers)) (sym log.past_is)
              (subst (λ (l : List (ℕ × Entry)). Acts p does client (suc k) (past_in log.trail.trail) (past_in l) (works_of q.callers)) (sym after.trail_is)
              (subst (λ (ws : List (Option Recovery)). Acts p does client (suc k) (past_in log.trail.trail) (past_in (after.own ++ log.trail.trail)) ws) (sym works) acts))),
        )
