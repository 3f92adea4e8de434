use Rattle.std.proofs.Common.{◌≡◌, List, [], ◌∷◌, ◌++◌}
use Rattle.mn_base.specs.Store.{Store, applied}
use Rattle.mn_base.specs.History.{IsLegal, store_after}
use Rattle.mn_base.specs.declared.history.Past.{Past}
use Rattle.mn_base.proofs.laws.history_goes_on.Goals as goal

goes_on : (start : Store) (history : List Past) (past : Past) → IsLegal start history → past.reply ≡ (applied (store_after start history) past.op).reply → IsLegal start (history ++ past ∷ [])
goes_on start [] past legal is = (is, tt)
goes_on start (h ∷ history) past legal is = (legal.0, goes_on (applied start h.op).store history past legal.1 is)

pub returns : goal.returns
returns c = goes_on
