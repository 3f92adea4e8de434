-- The laws of the store at each place.
use Rattle.std.proofs.Common.{◌≡◌, ℕ, ◌+◌, ◌<◌, ◌≤◌, Bool, true, false, cond, List, [], ◌∷◌, ◌++◌, length, Some, refl, subst, sym, ap, ◌∙◌, arith, slice_get}
use Rattle.mn_base.specs.History.{IsLegal}
use Rattle.std.specs.Prelude.{nat_lt}
use Rattle.std.proofs.lemmas.Bool.Decides.{nat_tests}
use Rattle.mn_base.specs.Store.{Store, applied}
use Rattle.mn_base.specs.History.{store_after}
use Rattle.mn_base.proofs.Frozen.{frozen_stays}
use Rattle.mn_page.specs.Holds.{Holds}
use Rattle.mn_runs.specs.declared.entry.Entry.{Entry}
use Rattle.mn_runs.specs.Protocol.{Start}
use Rattle.mn_serial.specs.History.{Placed, pasts_of, IsHistory}
use Rattle.mn_serial.specs.Meaning.{HistoryRun, placed_before, store_at, HoldsThroughout, StaysOpened, EndsOpened, FrozenNeverChanges}
use Rattle.mn_commits.proofs.Bytes.Spaces.{memory_is_flat}
use Rattle.mn_commits.proofs.Commits.Records.{records_stay_sound}
use Rattle.mn_serial.proofs.Meaning.Chain.{Chain, chain_legal, chain_end}
use Rattle.mn_serial.proofs.Meaning.Splits.{shorter}
use Rattle.mn_serial.proofs.Meaning.Prefixes.{HoldsAt, PlansAt, older_run}
use Rattle.mn_runs.proofs.Prefixes.{follows_before}
use Rattle.mn_serial.proofs.Meaning.Kept.{Known, Later, stores_go_on}
use Rattle.mn_serial.proofs.Meaning.Legal.{known_run}
use Rattle.mn_serial.proofs.Meaning.Stands.{older_history}
use Rattle.mn_serial.proofs.Settled.Law.{held_are_greater}
use Rattle.mn_law.proofs.MakeRun.{runs_follow_protocol}
use Rattle.mn_law.specs.Run.{IsRun}

pub known_of : (start : Start) (store : Store) (past : List Entry) (placed : List Placed)
    → HistoryRun start store past placed → Known start store past placed
known_of start store past placed h = known_run start store past placed h.opened.opened.sound h.opened.opened h.opened.run h.history

-- it is legal from the opened store
abbrev HistoryIsLegal : Type 0
HistoryIsLegal = (start : Start) (store : Store) (past : List Entry) (placed : List Placed)
    → HistoryRun start store past placed → IsLegal store (pasts_of placed)

pub history_is_legal : HistoryIsLegal
history_is_legal start store past placed h = chain_legal (HoldsAt start past) (PlansAt past) (length past) store 0 placed (known_of start store past placed h).chain

-- The store of the operations before a place

none_before : (H : ℕ → Store → Type 0) (P : ℕ → Type 0) (end : ℕ) (store : Store) (from : ℕ) (ps : List Placed) (n : ℕ) → n ≤ from → Chain H P end store from ps → placed_before n ps ≡ []
none_before H P end store from [] n low c = refl
none_before H P end store from (p ∷ ps) n low c =
    let first : from ≤ p.place = c.0 in
    let next : p.place ≤ c.4.0 = c.4.1 in
    let not_before : nat_lt p.place n ≡ false = grind (arith, nat_tests) in
    ap (λ b. cond b (p ∷ placed_before n ps) (placed_before n ps)) not_before ∙ none_before H P end (applied store p.past.op).store c.4.0 ps n (omega arith) c.4.4

chain_before : (H : ℕ → Store → Type 0) (P : ℕ → Type 0) (end : ℕ) (store : Store) (from : ℕ) (ps : List Placed) (n : ℕ) → from ≤ n → n ≤ end → Chain H P end store from ps → H n (store_at store ps n)
chain_before H P end store from [] n low high c = c n low high
chain_before H P end store from (p ∷ ps) n low high c = by (nat_lt p.place n) refl (λ fits. chain_before H P end (applied store p.past.op).store c.4.0 ps n fits high c.4.4)
  where
    by : (b : Bool) → nat_lt p.place n ≡ b
        → (c.4.0 ≤ n → H n (store_at (applied store p.past.op).store ps n))
        → H n (store_after store (pasts_of (cond b (p ∷ placed_before n ps) (placed_before n ps))))
    by true e rest =
        let behind : p.place < n = grind (arith, nat_tests) in
        let next : c.4.0 ≤ p.place + 1 = c.4.2 in
        rest (omega arith)
    by false e rest =
        let before : n ≤ p.place = grind (arith, nat_tests) in
        let next : p.place ≤ c.4.0 = c.4.1 in
        subst (λ (l : List Placed). H n (store_after store (pasts_of l))) (sym (none_before H P end (applied store p.past.op).store c.4.0 ps n (omega arith) c.4.4)) (c.2 n low before)

pub holds_throughout : HoldsThroughout
holds_throughout start store past later before placed h split =
    chain_before (HoldsAt start past) (PlansAt past) (length past) store 0 placed (length before) (omega arith) (shorter past later before split) (known_of start store past placed h).chain later before split refl

pub stays_opened : StaysOpened
stays_opened start store past later before placed h split =
    let known = known_of start store past placed h in
    let follows = follows_before start past later before split known.follows in
    let run : IsRun start (later ++ before) = subst (IsRun start) split h.opened.run in
    let older = older_history start later before placed (runs_follow_protocol start (later ++ before) run) (subst (λ (l : List Entry). IsHistory l placed) split h.history) in
    record {
      sound = records_stay_sound start before known.sound follows;
      greater = held_are_greater start store before older.older (known_run start store before older.older h.opened.opened.sound h.opened.opened (older_run start later before run) older.history);
      holds = subst (λ m. Holds m (store_at store placed (length before))) (sym (memory_is_flat start before known.sound follows)) (holds_throughout start store past later before placed h split);
    }

pub ends_opened : EndsOpened
ends_opened start store past placed h =
    let known = known_of start store past placed h in
    record {
      sound = records_stay_sound start past known.sound known.follows;
      greater = held_are_greater start store past placed known;
      holds = subst (λ m. Holds m (store_after store (pasts_of placed))) (sym (memory_is_flat start past known.sound known.follows))
          (chain_end (HoldsAt start past) (PlansAt past) (length past) store 0 placed (omega arith) known.chain [] past refl refl);
    }

pub frozen_never_changes : FrozenNeverChanges
frozen_never_changes start store past later between before placed v version h split at frozen =
    let known = known_of start store past placed h in
    let deeper = split ∙ sym (Rattle.std.proofs.lemmas.List.append_assoc later between before) in
    let on : Later (store_at store placed (length before)) (store_at store placed (length (between ++ before))) =
    stores_go_on start store past placed known (later ++ between) before later (between ++ before) deeper split (shorter (between ++ before) between before refl)
    (store_at store placed (length before)) (store_at store placed (length (between ++ before)))
    (holds_throughout start store past (later ++ between) before placed h deeper) (holds_throughout start store past later (between ++ before) placed h split) in
    subst (λ (s : Store). slice_get s v ≡ Some version) on.is (frozen_stays (store_at store placed (length before)) on.history v version at frozen)
