-- How the log of a run went on while each caller's list only grew. Logs stand newest first.
use Rattle.std.specs.Prelude.{ℕ, ◌≡◌, ◌<◌, ◌≤◌, List, ◌++◌, map, Contains, IsSomeAnd}
use Rattle.std.specs.List.{AllByRecursion}
use Rattle.mn_base.specs.declared.ids.ClientNo.{ClientNo}
use Rattle.mn_runs.specs.declared.entry.Entry.{Entry}
use Rattle.mn_callers.specs.declared.callers.Callers.{Callers}
use Rattle.mn_callers.specs.Logs.{HasLog}
use Rattle.mn_callers.specs.Plays.{PlayState, list_by}
use Rattle.mn_callers.specs.Turn.{callers_count}

-- each caller's list went on by these entries, at places from the one that was known before
abbrev pub HaveGrown : {D : Type 0} → (ClientNo → List (ℕ × Entry)) → PlayState D → Callers → Type 0
HaveGrown own before callers =
    (c : ClientNo) → c.0 < callers_count
    → (list_by callers c ≡ list_by before.callers c ++ own c)
    × AllByRecursion (λ p. before.view.known ≤ p.0) (own c)

-- the entry is among those by which its caller's list went on
abbrev pub IsAmongOwn : (ClientNo → List (ℕ × Entry)) → Entry → Type 0
IsAmongOwn own e =
    IsSomeAnd e.client (λ c. (c.0 < callers_count) × Contains (map (λ p. p.1) (own c)) e)

-- the log is this one, which went on by entries of the callers
pub record GoesOnFrom {D : Type 0} (own : ClientNo → List (ℕ × Entry)) (past : List Entry)
    (p : PlayState D) : Type 0 where
  pub later : List Entry
  pub log : HasLog p (later ++ past)
  pub whose : AllByRecursion (IsAmongOwn own) later
