-- The turns of clients.
use Rattle.std.proofs.Common.{◌≡◌, ℕ, ◌<◌, ◌-◌, Bool, Option, Some, List, [], ◌++◌, length, map, get_or, refl, sym, ap, ◌∙◌, subst, arith, nat_eq}
use Rattle.std.specs.Prelude.{slice_get, slice_set}
use Rattle.std.specs.List.{AllByRecursion}
use Rattle.std.specs.Option.{option_map_or}
use Rattle.std.proofs.lemmas.Bool.{lt-ltb}
use Rattle.std.proofs.lemmas.Option.{slice_get_within}
use Rattle.atomic_table.specs.Seated.{TableId}
use Rattle.mn_actors.specs.declared.actor.Actor.TheVariants.{Client as Calls}
use Rattle.mn_actors.specs.declared.clock.View.{View}
use Rattle.mn_actors.specs.Lists.{IsJoined, IsSplit}
use Rattle.mn_cell.specs.Runs.{IsIssueOf}
use Rattle.mn_base.specs.declared.ids.ClientNo.{ClientNo}
use Rattle.mn_recov.specs.Recovery.{Recovery}
use Rattle.mn_base.specs.declared.op.Op.{Op}
use Rattle.mn_script.specs.declared.elements.Point.{Point}
use Rattle.mn_script.specs.declared.elements.ScriptClient.{ScriptClient}
use Rattle.mn_script.specs.Script.{Script}
use Rattle.mn_runs.specs.declared.entry.Entry.{Entry}
use Rattle.mn_runs.specs.Lists.{ClientState}
use Rattle.mn_runs.specs.Protocol.{Start, start_nodes, entries_of}
use Rattle.mn_callers.specs.declared.callers.Callers.{Callers}
use Rattle.mn_callers.specs.declared.client.Client.{Client}
use Rattle.mn_callers.specs.declared.desk.Desk.{Desk}
use Rattle.mn_callers.specs.Acts.{as_role, ops_by, role_of}
use Rattle.mn_callers.specs.Clients.{IsOfRun, past_of}
use Rattle.mn_callers.specs.Going.{KeepsOrder}
use Rattle.mn_callers.specs.Logs.{works_of}
use Rattle.mn_callers.specs.Plays.{IsAtRest, IsPlay, PlayState, caller_at, list_by}
use Rattle.mn_callers.specs.Stages.{GoesAs, IsOfClient, played_by}
use Rattle.mn_callers.specs.Turn.{ExtendsLog, IsTurn, Turn, callers_count, past_in}
use Rattle.mn_callers.proofs.Handing.{read_at}
use Rattle.mn_callers.proofs.Played.{client_acts}
use Rattle.mn_callers.proofs.Replacing.{client_among, client_replaced, list_of}
use Rattle.mn_callers.proofs.Resting.{IsTurnOf, Replaces, turn_after, turn_begins, turn_ends}

pub met_at : {X : Type 0} (xs : List X) (k j : ℕ) (x : X) → k < length xs → j ≡ k → x ≡ get_or xs j x → slice_get xs k ≡ Some x
met_at xs k j x within same is = read_at xs k x within (is ∙ ap (λ (i : ℕ). get_or xs i x) same)

pub list_of_client : (callers : Callers) (k : ℕ) (c : Client) → k < 16 → slice_get callers.clients.items k ≡ Some c → list_by callers (caller_at k) ≡ c.list.entries
list_of_client callers k c below there =
    ap (λ (b : Bool). list_of b (nat_eq k 16) (slice_get callers.clients.items k) callers.closer.list.entries (slice_get callers.desks.items (k - 17))) (lt-ltb k 16 below)
    ∙ ap (λ (o : Option Client). option_map_or (λ k. k.list.entries) o []) there

-- the role of a client, by its number and its operations
pub role_same : (script : Script) (points : List Point) (c d : ClientNo) (ops : List Op) (k : ScriptClient) → points ≡ script.points → d ≡ c → slice_get script.clients c.0 ≡ Some k → ops ≡ k.ops → as_role points d ops ≡ role_of script c
role_same script points c d ops k points_is same there ops_is =
    ap (λ (ps : List Point). as_role ps d ops) points_is
    ∙ (ap (λ (e : ClientNo). as_role script.points e ops) same
    ∙ ap (λ (l : List Op). as_role script.points c l) (ops_is ∙ sym (ap (λ (o : Option ScriptClient). option_map_or (λ (x : ScriptClient). x.ops) o []) there)))

module _ {D : Type 0} (board : TableId) (start : Start) (p : PlayState D) (rests : IsAtRest board start p) (k : ℕ) where
  module _ (c : Client) (there : slice_get p.callers.clients.items k ≡ Some c) where
    below : k < 16
    below = let few = rests.few in let within = slice_get_within p.callers.clients.items k c there in omega arith

    among : k < callers_count
    among = let low = below in omega arith

    pub client_begins : (w u : View Entry) (at : TableId) → IsSplit p.view (Calls (caller_at k)) w u → at ≡ p.rest
        → IsTurn board (start_nodes start) (record { table = p.table; stations = p.stations; board = at; view = u; list = c.list })
    client_begins w u at split is =
        turn_begins board start p (caller_at k) w u at c.list rests among split (is ∙ rests.passes) (rests.numbers.clients k c there) (sym (list_of_client p.callers k c below there))

    pub client_turn : (q : PlayState D) (w u : View Entry) (at : TableId) (t : Turn D) (c' : Client)
        → IsSplit p.view (Calls (caller_at k)) w u → IsTurn board (start_nodes start) t
        → ExtendsLog (record { table = p.table; stations = p.stations; board = at; view = u; list = c.list }) t
        → IsJoined w t.view q.view → q.rest ≡ p.rest → q.table ≡ t.table → q.stations ≡ t.stations → t.list ≡ c'.list
        → q.callers.clients.items ≡ slice_set p.callers.clients.items k c' → q.callers.desks.items ≡ p.callers.desks.items → q.callers.closer.list ≡ p.callers.closer.list
        → AllByRecursion (IsIssueOf start) (entries_of c'.list.entries) → IsTurnOf board start p q (caller_at k) w u q.view at c.list t
    client_turn q w u at t c' split turn goes joined rest table stations list clients desks closing of_run =
        record {
          rests = rests;
          among = among;
          split = split;
          client = rests.numbers.clients k c there;
          entries = sym (list_of_client p.callers k c below there);
          turn = turn;
          goes = goes;
          joined = joined;
          passes = rest ∙ rests.passes;
          table = table;
          stations = stations;
          view = refl;
          replaces = subst (λ (l : ClientState). Replaces (caller_at k) l p.callers q.callers) (sym list)
              (client_replaced p.callers q.callers k c c' rests.few rests.numbers there clients desks closing (ap (λ (l : ClientState). l.client) (sym list) ∙ goes.client));
          of_run = subst (λ (l : ClientState). AllByRecursion (IsIssueOf start) (entries_of l.entries)) (sym list) of_run;
        }

    pub client_ends : (script : Script) → IsPlay board start script p → (q : PlayState D) (w u : View Entry) (at : TableId) (t : Turn D) (c' : Client)
        → IsTurnOf board start p q (caller_at k) w u q.view at c.list t
        → q.callers.clients.items ≡ slice_set p.callers.clients.items k c' → q.callers.desks.items ≡ p.callers.desks.items → q.callers.closer.list ≡ p.callers.closer.list
        → IsOfRun start script.points c' → KeepsOrder (ops_by script.clients (caller_at k)) (past_of c) (past_of c') → IsPlay board start script q
    client_ends script play q w u at t c' of clients desks closing of_run order =
        record {
          nodes = play.nodes;
          rests = turn_ends board start p q (caller_at k) w u q.view at c.list t of;
          callers = client_among start script p.callers q.callers k c c' play.callers there clients desks closing of_run (order (play.callers.begins k c there));
        }

    -- what it does with its own list, its turn does with the log
    pub client_goes : (does : List Entry → List Entry → Type 0) (q : PlayState D) (w u : View Entry) (at : TableId) (t : Turn D)
        → IsTurnOf board start p q (caller_at k) w u q.view at c.list t → q.callers.desks.items ≡ p.callers.desks.items
        → does (entries_of c.list.entries) (entries_of t.list.entries) → GoesAs (IsOfClient (caller_at k) does) p q
    client_goes does q w u at t of desks so past log =
        let after = turn_after board start p q (caller_at k) w u q.view at c.list t of log.trail in
        let acts = client_acts (caller_at k) does after.own log.trail.trail c.list.entries t.list.entries (works_of p.callers) after.was after.is after.by so in
        let works : works_of q.callers ≡ works_of p.callers = ap (map (λ (d : Desk). d.work)) desks in (
          past_in after.trail.trail,
          record { trail = after.trail; past_is = refl },
          subst (λ (es : List Entry). IsOfClient (caller_at k) does (played_by p es) (played_by q (past_in after.trail.trail))) (sym log.past_is)
              (subst (λ (l : List (ℕ × Entry)). IsOfClient (caller_at k) does (played_by p (past_in log.trail.trail)) (played_by q (past_in l))) (sym after.trail_is)
              (subst (λ (ws : List (Option Recovery)). IsOfClient (caller_at k) does (played_by p (past_in log.trail.trail)) (record { past = past_in (after.own ++ log.trail.trail); works = ws })) (sym works) acts)),
        )
