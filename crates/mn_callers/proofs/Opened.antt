-- A stage whose nodes are settled: by its log each is up, and none holds anything.
use Rattle.std.proofs.Common.{◌≡◌, ℕ, ◌<◌, Some, List, [], ◌∷◌, reverse, refl, sym, ap, ◌∙◌, subst}
use Rattle.std.specs.Prelude.{slice_get}
use Rattle.mn_base.specs.declared.ids.NodeNo.{NodeNo}
use Rattle.mn_cell.specs.Calls.{numbered}
use Rattle.mn_cell.specs.Station.{StationState}
use Rattle.mn_io.specs.DiskModel.{DiskState}
use Rattle.mn_runs.specs.declared.entry.Entry.{Entry}
use Rattle.mn_runs.specs.Calls.{node_entries}
use Rattle.mn_runs.specs.Nodes.{is_down, node_records}
use Rattle.mn_runs.specs.Protocol.{AreUp, Start, base_at, records_of, start_nodes, start_records}
use Rattle.mn_runs.specs.Protocol.{entries_of}
use Rattle.mn_callers.specs.Begins.{AreBare}
use Rattle.mn_callers.specs.Ended.{AllHaveMade}
use Rattle.mn_callers.specs.Logs.{HasLog}
use Rattle.mn_callers.specs.Plays.{PlayState}
use Rattle.mn_callers.specs.Settled.{AllUp, AreUpAndFree}
use Rattle.mn_callers.specs.Stages.{AreFreeIfSound}
use Rattle.mn_callers.specs.Turn.{AreStations, past_in, trail_at}
use Rattle.mn_callers.proofs.Handing.{free_as, within_at}
use Rattle.mn_callers.proofs.Trails.{list_of_node}

module _ {D : Type 0} (state : D → DiskState) (faults : D → ℕ) (start : Start) (counts : ℕ → ℕ) (honest : ℕ → Type 0) (p : PlayState D) (are : AreStations (start_nodes start) p.stations)
    (made : AllHaveMade state faults start counts honest p.stations) where
  -- the log has what the station's list has
  list_in : (k : ℕ) (s : StationState D) → slice_get p.stations k ≡ Some s → (past : List Entry) → HasLog p past → entries_of s.list ≡ node_entries (numbered k) past
  list_in k s at past log = ap entries_of (log.trail.is.at_nodes k s at) ∙ (list_of_node k log.trail.trail ∙ ap (node_entries (numbered k)) (sym log.past_is))

  pub free_if_sound : AreUpAndFree (start_nodes start) p.stations → (past : List Entry) → HasLog p past → AreFreeIfSound start past
  free_if_sound settled past log follows sound = free_as start p.stations past are.count each follows settled sound
    where
      each : (k : ℕ) (s : StationState D) → slice_get p.stations k ≡ Some s → reverse s.node.records ≡ records_of start past (numbered k)
      each k s at =
          subst (λ (n : NodeNo). reverse s.node.records ≡ node_records (base_at start n) (start_records start n) (entries_of s.list)) (are.in_order k s at) (made k s at).records
          ∙ ap (node_records (base_at start (numbered k)) (start_records start (numbered k))) (list_in k s at past log)

  pub up_in_log : AllUp p.stations → (past : List Entry) → HasLog p past → AreUp start past
  up_in_log up past log n among =
      let found = within_at p.stations n.0 (subst (λ (k : ℕ). n.0 < k) (sym are.count) among) in
      sym (ap is_down (list_in n.0 found.0 found.1 past log)) ∙ (sym (made n.0 found.0 found.1).down ∙ up n.0 found.0 found.1)

-- where nothing was done no station has an entry
pub fresh_bare : {D : Type 0} (p : PlayState D) → HasLog p [] → AreBare p.stations
fresh_bare p log k s at = log.trail.is.at_nodes k s at ∙ ap (trail_at k) (nothing log.trail.trail (sym log.past_is))
  where
    nothing : (t : List (ℕ × Entry)) → past_in t ≡ [] → t ≡ []
    nothing [] is = refl
    nothing (x ∷ t) is = absurd cc
