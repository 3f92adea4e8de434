use Rattle.std.proofs.Common.{◌≡◌, ℕ, Bool, true, false, Some, List, length, sym, ap, ◌∙◌, subst, arith, refl, ltb}
use Rattle.std.specs.Prelude.{slice_get}
use Rattle.std.proofs.lemmas.Bool.{ltb-false, ltb-true}
use Rattle.std.proofs.lemmas.Option.{slice_get_within}
use Rattle.mn_cell.specs.Station.{StationState}
use Rattle.mn_runs.specs.Protocol.{start_of}
use Rattle.mn_callers.specs.Ended.{HasMadeList}
use Rattle.mn_callers.proofs.Handing.{read_at}
use Rattle.mn_callers.proofs.Handing.{some_same}
use Rattle.mn_callers.proofs.table.Table.made.Goals as goal

pub loop-station-preserved : goal.loop-station-preserved
loop-station-preserved g c k s below at = by (ltb k c.loop-station.station-index) refl
  where
    by : (b : Bool) → ltb k c.loop-station.station-index ≡ b → HasMadeList g.D.Disk.state g.D.Disk.faults (start_of g.N.Named.records) g.N.Named.faults g.N.Named.honest s
    by true is = c.loop-station.invariant k s (ltb-true k c.loop-station.station-index is) at
    by false is =
        let above = ltb-false k c.loop-station.station-index is in
        let here : k ≡ c.loop-station.station-index = omega (arith, above, below) in
        let item : slice_get c.args.self.now.stations.items c.loop-station.station-index ≡ Some c.station-item.result =
        ap (λ (l : List (StationState g.row.D.Denot)). slice_get l c.loop-station.station-index) (sym c.deref-station-items.ensures.value)
        ∙ read_at c.deref-station-items.result.now c.loop-station.station-index c.station-item.result c.loop-station-test.true c.station-item.is in
        let same : c.station-item.result ≡ s = some_same c.station-item.result s (sym item ∙ (ap (λ (i : ℕ). slice_get c.args.self.now.stations.items i) (sym here) ∙ at)) in
        subst (HasMadeList g.D.Disk.state g.D.Disk.faults (start_of g.N.Named.records) g.N.Named.faults g.N.Named.honest) same c.made.ensures

pub returns : goal.returns
returns g c k s at =
    let within = slice_get_within c.args.self.now.stations.items k s at in
    let all = ap (λ (l : List (StationState g.row.D.Denot)). length l) c.deref-station-items.ensures.value in
    c.loop-station.invariant k s (omega (arith, within, all, c.loop-station-test.false)) at
