-- All that the operations of a run come to, in one record.
use Rattle.std.proofs.Common.{◌≡◌, suc, List, [], ◌∷◌, ◌++◌, length, Some, refl, subst, sym, arith, slice_get, Contains}
use Rattle.std.specs.List.{AllByRecursion}
use Rattle.mn_base.specs.Store.{Store, applied}
use Rattle.mn_base.specs.History.{store_after}
use Rattle.mn_base.specs.declared.history.Past.{Past}
use Rattle.mn_base.proofs.Frozen.{frozen_stays}
use Rattle.mn_runs.specs.declared.entry.Entry.{Entry}
use Rattle.mn_runs.specs.Protocol.{Start}
use Rattle.mn_serial.specs.History.{Placed, pasts_of}
use Rattle.mn_serial.specs.Meaning.{HistoryRun}
use Rattle.mn_serial.specs.OneHistory.{RepliedStand, LiesBetween, AreAfterSeen, FrozenStay, RunsHaveHistory, RunsAreOneHistory}
use Rattle.mn_law.proofs.MakeRun.{runs_follow_protocol}
use Rattle.mn_serial.proofs.Meaning.Prefixes.{HoldsAt, PlansAt}
use Rattle.mn_serial.proofs.Meaning.Chain.{chain_end}
use Rattle.mn_serial.proofs.Meaning.Throughout.{known_of, history_is_legal}
use Rattle.mn_serial.proofs.Meaning.Once.{each_once}
use Rattle.mn_serial.proofs.Meaning.Between.{places_lie_between, seen_first, only_those_stand}
use Rattle.mn_serial.proofs.Meaning.Stands.{replied_stands}
use Rattle.mn_serial.proofs.Meaning.Exists.{history_exists}
use Rattle.mn_serial.proofs.Meaning.Ascends.{ascending}
use Rattle.mn_serial.proofs.Meaning.Settled.{told_settled, others_never}
use Rattle.mn_serial.proofs.Meaning.Left.{left_settled}

each : (P : Placed → Type 0) (ps : List Placed) → ((p : Placed) → Contains ps p → P p)
    → AllByRecursion P ps
each P [] f = tt
each P (p ∷ ps) f = (f p (0, omega arith, refl), each P ps (λ q has. f q (suc has.0, omega (arith, has.1), has.2)))

replied_stand : (start : Start) (store : Store) (past : List Entry) (placed : List Placed)
    → HistoryRun start store past placed → RepliedStand past placed
replied_stand start store past placed h c number reply (at, e, stands, answers) =
    let s = replied_stands start store past placed at e c number reply h stands answers in (s.0, s.1, (s.2, s.3), s.4)

lies_between : (start : Start) (store : Store) (past : List Entry) (placed : List Placed)
    → HistoryRun start store past placed → (p : Placed) → Contains placed p → LiesBetween past p
lies_between start store past placed h p has =
    let o = only_those_stand start store past placed p h has in
    record {
      begin = o.0.0;
      entry = o.0.1;
      stands = o.0.2;
      begins = o.0.3;
      after = o.0.4;
      before = λ place e reply stands answers. (places_lie_between start store past placed p place e h has stands).1 reply answers;
    }

after_seen : (start : Start) (store : Store) (past : List Entry) (placed : List Placed)
    → HistoryRun start store past placed → AreAfterSeen past placed
after_seen start store past placed h p q answered begun d e reply op has has' stands answers stands' begins less = seen_first start store past placed p q answered begun d e reply op h has has' stands answers stands' begins less

store_on : (store : Store) (earlier later : List Past)
    → store_after store (earlier ++ later) ≡ store_after (store_after store earlier) later
store_on store [] later = refl
store_on store (p ∷ earlier) later = store_on (applied store p.op).store earlier later

frozen_stay : (store : Store) (history : List Past) → FrozenStay store history
frozen_stay store history earlier later rest v version split is frozen =
    subst (λ (s : Store). slice_get s v ≡ Some version) (sym (store_on store earlier later)) (frozen_stays (store_after store earlier) later v version is frozen)

pub runs_have_history : RunsHaveHistory
runs_have_history = history_exists

pub runs_are_one_history : RunsAreOneHistory
runs_are_one_history start store past placed h =
    let known = known_of start store past placed h in
    record {
      replied = replied_stand start store past placed h;
      others = others_never start store past placed h;
      ascending = ascending start past placed h.opened.opened.sound (runs_follow_protocol start past h.opened.run) h.history;
      legal = history_is_legal start store past placed h;
      once = each_once start store past placed h;
      between = each (LiesBetween past) placed (lies_between start store past placed h);
      after_seen = after_seen start store past placed h;
      settled = told_settled start store past placed h;
      left = left_settled start store past placed h;
      frozen = frozen_stay store (pasts_of placed);
      holds = chain_end (HoldsAt start past) (PlansAt past) (length past) store 0 placed (omega arith) known.chain [] past refl refl;
    }
