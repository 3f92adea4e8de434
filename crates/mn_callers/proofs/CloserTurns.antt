-- The turns of the coordinator that opens and closes.
use Rattle.std.proofs.Common.{◌≡◌, ℕ, Option, Some, List, [], ◌∷◌, ◌++◌, map, reverse, refl, sym, ap, ◌∙◌, subst, lit<}
use Rattle.std.specs.List.{AllByRecursion}
use Rattle.std.proofs.lemmas.List.{append_cancel_right, map-append}
use Rattle.atomic_table.specs.Seated.{TableId}
use Rattle.mn_actors.specs.declared.actor.Actor.TheVariants.{Client}
use Rattle.mn_actors.specs.declared.clock.View.{View}
use Rattle.mn_actors.specs.Lists.{IsJoined, IsSplit, Owns}
use Rattle.mn_recov.specs.Recovery.{Recovery}
use Rattle.mn_runs.specs.declared.entry.Entry.{Entry}
use Rattle.mn_runs.specs.Lists.{ClientState}
use Rattle.mn_runs.specs.Protocol.{Start, start_nodes, entries_of}
use Rattle.mn_callers.specs.declared.desk.Desk.{Desk}
use Rattle.mn_callers.specs.Closing.{AreOfCloser, ClosesOn, IsCallOrRestart}
use Rattle.mn_callers.specs.Desks.{IsOfRecovery}
use Rattle.mn_callers.specs.Failed.{closer}
use Rattle.mn_callers.specs.Logs.{works_of}
use Rattle.mn_callers.specs.Plays.{HasTrail, IsAtRest, IsOfSome, PlayState, StaysPlay, list_by}
use Rattle.mn_callers.specs.Stages.{GoesAs, Played, Settles, played_by}
use Rattle.mn_callers.specs.Turn.{ExtendsLog, IsTurn, Turn, past_in}
use Rattle.mn_callers.proofs.Played.{Makes, by_map}
use Rattle.mn_callers.proofs.Replacing.{closer_among, closer_replaced}
use Rattle.mn_callers.proofs.Resting.{IsAfter, IsTurnOf, Replaces, turn_after, turn_begins, turn_ends}
use Rattle.mn_callers.proofs.Trails.{entries_back, entries_both}

module _ {D : Type 0} (board : TableId) (start : Start) (p : PlayState D) (some : IsOfSome board start p) where
  abbrev rests : IsAtRest board start p
  rests = some.1.rests

  pub closer_owns : Owns p.view (Client closer)
  closer_owns = (list_by p.callers closer, rests.owns closer (lit< tt))

  pub closer_recovery : IsOfRecovery start p.callers.closer.list
  closer_recovery = some.1.callers.closer_list

  pub closer_begins : (w u : View Entry) (at : TableId) → IsSplit p.view (Client closer) w u → at ≡ p.rest
      → IsTurn board (start_nodes start) (record { table = p.table; stations = p.stations; board = at; view = u; list = p.callers.closer.list })
  closer_begins w u at split is = turn_begins board start p closer w u at p.callers.closer.list rests (lit< tt) split (is ∙ rests.passes) rests.numbers.closer_is refl

  pub closer_turn : (q : PlayState D) (w u : View Entry) (at : TableId) (t : Turn D) → IsSplit p.view (Client closer) w u → IsTurn board (start_nodes start) t
      → ExtendsLog (record { table = p.table; stations = p.stations; board = at; view = u; list = p.callers.closer.list }) t
      → IsJoined w t.view q.view → q.rest ≡ p.rest → q.table ≡ t.table → q.stations ≡ t.stations → q.callers.closer.list ≡ t.list
      → q.callers.clients.items ≡ p.callers.clients.items → q.callers.desks.items ≡ p.callers.desks.items → IsOfRecovery start t.list
      → IsTurnOf board start p q closer w u q.view at p.callers.closer.list t
  closer_turn q w u at t split turn goes joined rest table stations list clients desks recovery =
      record {
        rests = rests;
        among = lit< tt;
        split = split;
        client = rests.numbers.closer_is;
        entries = refl;
        turn = turn;
        goes = goes;
        joined = joined;
        passes = rest ∙ rests.passes;
        table = table;
        stations = stations;
        view = refl;
        replaces = subst (λ (l : ClientState). Replaces closer l p.callers q.callers) list
            (closer_replaced p.callers q.callers rests.numbers clients desks (ap (λ (l : ClientState). l.client) list ∙ goes.client));
        of_run = recovery.of_run;
      }

  pub closer_ends : (q : PlayState D) (w u : View Entry) (at : TableId) (t : Turn D) → IsTurnOf board start p q closer w u q.view at p.callers.closer.list t → q.callers.closer.list ≡ t.list
      → q.callers.clients.items ≡ p.callers.clients.items → q.callers.desks.items ≡ p.callers.desks.items → IsOfRecovery start t.list → StaysPlay board start p q
  closer_ends q w u at t of list clients desks recovery script play =
      record {
        nodes = play.nodes;
        rests = turn_ends board start p q closer w u q.view at p.callers.closer.list t of;
        callers = closer_among start script p.callers q.callers play.callers clients desks (subst (IsOfRecovery start) (sym list) recovery);
      }

  -- what its entries make of the log, its turn does
  pub closer_goes : (does : Played → Played → Type 0) (q : PlayState D) (w u : View Entry) (at : TableId) (t : Turn D) → IsTurnOf board start p q closer w u q.view at p.callers.closer.list t
      → q.callers.desks.items ≡ p.callers.desks.items
      → ((before : HasTrail p.stations p.view.known p.callers) (after : IsAfter p q closer p.callers.closer.list.entries t.list.entries before)
      → does (played_by p (past_in before.trail)) (record { past = past_in (after.own ++ before.trail); works = works_of p.callers })) → GoesAs does p q
  closer_goes does q w u at t of desks so past log =
      let after = turn_after board start p q closer w u q.view at p.callers.closer.list t of log.trail in
      let works : works_of q.callers ≡ works_of p.callers = ap (map (λ (d : Desk). d.work)) desks in (
        past_in after.trail.trail,
        record { trail = after.trail; past_is = refl },
        subst (λ (es : List Entry). does (played_by p es) (played_by q (past_in after.trail.trail))) (sym log.past_is)
            (subst (λ (l : List (ℕ × Entry)). does (played_by p (past_in log.trail.trail)) (played_by q (past_in l))) (sym after.trail_is)
            (subst (λ (ws : List (Option Recovery)). does (played_by p (past_in log.trail.trail)) (record { past = past_in (after.own ++ log.trail.trail); works = ws })) (sym works) (so log.trail after))),
      )

-- what its entries make of the log, where they are calls and restarts
pub settles_log : {D : Type 0} (p q : PlayState D) (old new : ClientState) (before : HasTrail p.stations p.view.known p.callers) (after : IsAfter p q closer old.entries new.entries before)
    → ClosesOn (entries_of old.entries) (entries_of new.entries) → Makes Settles (works_of p.callers) before.trail after.own
settles_log p q old new before after closes =
    let new_is : entries_of new.entries ≡ past_in after.own ++ entries_of old.entries =
    ap (λ (l : List (ℕ × Entry)). entries_of l) after.list_is ∙ (entries_both old.entries (reverse after.own)
    ∙ ap (λ (l : List Entry). l ++ entries_of old.entries) (entries_back after.own)) in
    let own : past_in after.own ≡ closes.own = append_cancel_right (past_in after.own) closes.own (entries_of old.entries) (sym new_is ∙ closes.new_is) in
    record {
      own = past_in after.own;
      past_is = map-append (λ (x : ℕ × Entry). x.1) after.own before.trail;
      of_closer = both (past_in after.own) (by_map closer after.own after.by) (subst (λ (es : List Entry). AllByRecursion (λ e. IsCallOrRestart e.what) es) (sym own) closes.kinds);
      works = refl;
    }
  where
    both : (es : List Entry) → AllByRecursion (λ e. e.client ≡ Some closer) es → AllByRecursion (λ e. IsCallOrRestart e.what) es → AreOfCloser es
    both [] one other = tt
    both (e ∷ es) one other = ((one.0, other.0), both es one.1 other.1)
