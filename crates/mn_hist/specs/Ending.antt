-- What a log comes to.
use Rattle.std.specs.Prelude.{◌≡◌, Bool, List}
use Rattle.mn_base.specs.History.{store_after}
use Rattle.mn_base.specs.Store.{Store}
use Rattle.mn_runs.specs.declared.entry.Entry.{Entry}
use Rattle.mn_serial.specs.History.{Placed, pasts_of, IsHistory}
use Rattle.mn_serial.specs.OneHistory.{IsOneHistory}
use Rattle.mn_runs.specs.Protocol.{Start}
use Rattle.mn_hist.specs.declared.history.Ending.{Ending}
use Rattle.mn_hist.specs.declared.acts.PlacedAct.{PlacedAct}
use Rattle.mn_hist.specs.Acts.{done_from}
use Rattle.mn_hist.specs.History.{StandsInSet, acts_in}
use Rattle.mn_hist.specs.Saying.{TellsAnswers}

-- these operations, with the replies of the store, are the history of these entries, from this
-- store on, and they stand in this set
pub record TellsHistory (acts : List PlacedAct) (standing : List (List Bool)) (from : Start)
    (store : Store) (past : List Entry) (placed : List Placed) : Type 0 where
  pub is : IsHistory past placed
  pub one : IsOneHistory from store past placed
  pub history : done_from store (acts_in acts) ≡ pasts_of placed
  pub stands : StandsInSet standing placed

-- it is told by the history of these entries, from this store on, has the store after it, and what
-- the entries say of operations
pub record IsEndingOf (ending : Ending) (from : Start) (store : Store) (past : List Entry)
    (placed : List Placed) : Type 0 where
  pub told : TellsHistory ending.acts.items ending.standing from store past placed
  pub after : ending.store ≡ store_after store (pasts_of placed)
  pub said : TellsAnswers ending.said past
