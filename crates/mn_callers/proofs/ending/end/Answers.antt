use Rattle.std.proofs.Common.{◌≡◌, ℕ, ◌<◌, Some, List, length, map, refl, sym, ◌∙◌, subst}
use Rattle.std.proofs.lemmas.List.{length-map}
use Rattle.mn_actors.specs.declared.actor.Actor.TheVariants.{Client}
use Rattle.mn_actors.specs.Lists.{held}
use Rattle.mn_actors.specs.Sight.{clients_of, nodes_of, view_of}
use Rattle.mn_base.specs.declared.ids.ClientNo.{ClientNo}
use Rattle.mn_cell.specs.Station.{StationState}
use Rattle.mn_runs.specs.declared.entry.Entry.{Entry}
use Rattle.mn_runs.specs.Lists.{ClientState}
use Rattle.mn_runs.specs.Protocol.{start_of}
use Rattle.mn_callers.specs.Ended.{AreLists}
use Rattle.mn_callers.specs.Plays.{list_by}
use Rattle.mn_callers.specs.Trace.{HaveSoundRecords}
use Rattle.mn_callers.specs.Turn.{callers_count}
use Rattle.mn_callers.proofs.Apart.{have_callers}
use Rattle.mn_callers.proofs.Handing.{if_ok}
use Rattle.mn_callers.proofs.Closing.{if_error}
use Rattle.mn_callers.proofs.Merging.{ends, log_failed, log_merged, one_log, owns_all}
use Rattle.mn_callers.proofs.ending.end.Goals as goal

pub close-requires-clause-all : goal.close-requires-clause-all
close-requires-clause-all g c =
    let board = c.args.table.board in
    let rests = c.requires.play.rests in
    let callers = c.args.callers in
    let stations : List (StationState g.row.D.Denot) = c.args.table.stations.items in
    let lists : List (List (ℕ × Entry)) = map (λ (s : StationState g.row.D.Denot). s.list) stations in
    let owns : (k : ClientNo) → k.0 < callers_count → held (view_of c.take_apart.new.all) (Client k) ≡ Some (list_by callers k) = λ k below. c.take_apart.ensures.callers k ∙ rests.owns k below in
    let count : nodes_of board ≡ length lists = rests.table.1 ∙ sym (length-map stations (λ (s : StationState g.row.D.Denot). s.list) ∙ rests.stations.count) in
    owns_all callers lists (view_of c.take_apart.new.all) c.take_apart.ensures.holds owns (nodes_of board) (clients_of board) count rests.table.2

pub merge-merged-requires : goal.merge-merged-requires
merge-merged-requires g c =
    let board = c.args.table.board in
    let rests = c.requires.play.rests in
    let callers = c.args.callers in
    let stations : List (StationState g.row.D.Denot) = c.args.table.stations.items in
    let lists : List (List (ℕ × Entry)) = map (λ (s : StationState g.row.D.Denot). s.list) stations in
    let owns : (k : ClientNo) → k.0 < callers_count → held (view_of c.take_apart.new.all) (Client k) ≡ Some (list_by callers k) = λ k below. c.take_apart.ensures.callers k ∙ rests.owns k below in
    let count : nodes_of board ≡ length lists = rests.table.1 ∙ sym (length-map stations (λ (s : StationState g.row.D.Denot). s.list) ∙ rests.stations.count) in
    let clients : List ClientState = c.from_vec.result in
    let listed = subst (λ (l : List ClientState). AreLists callers l) (sym c.from_vec.ensures) c.take_lists.ensures in
    let one = one_log callers lists (view_of c.take_apart.new.all) c.take_apart.ensures.holds owns (nodes_of board) (clients_of board) count rests.table.2 clients c.close.result listed c.close.ensures in
    let called = have_callers g.D.Disk.state g.D.Disk.faults (start_of g.N.Named.records) g.N.Named.faults g.N.Named.honest stations c.take_apart.ensures.made in
    (lists, c.close.result, one, called)

pub result_of-requires : goal.result_of-requires
result_of-requires g c =
    let board = c.args.table.board in
    let rests = c.requires.play.rests in
    let callers = c.args.callers in
    let stations : List (StationState g.row.D.Denot) = c.args.table.stations.items in
    let lists : List (List (ℕ × Entry)) = map (λ (s : StationState g.row.D.Denot). s.list) stations in
    let owns : (k : ClientNo) → k.0 < callers_count → held (view_of c.take_apart.new.all) (Client k) ≡ Some (list_by callers k) = λ k below. c.take_apart.ensures.callers k ∙ rests.owns k below in
    let count : nodes_of board ≡ length lists = rests.table.1 ∙ sym (length-map stations (λ (s : StationState g.row.D.Denot). s.list) ∙ rests.stations.count) in
    let clients : List ClientState = c.from_vec.result in
    let listed = subst (λ (l : List ClientState). AreLists callers l) (sym c.from_vec.ensures) c.take_lists.ensures in
    let one = one_log callers lists (view_of c.take_apart.new.all) c.take_apart.ensures.holds owns (nodes_of board) (clients_of board) count rests.table.2 clients c.close.result listed c.close.ensures in
    let called = have_callers g.D.Disk.state g.D.Disk.faults (start_of g.N.Named.records) g.N.Named.faults g.N.Named.honest stations c.take_apart.ensures.made in
    ends g.D.Disk.state g.D.Disk.faults (start_of g.N.Named.records) g.N.Named.faults g.N.Named.honest stations callers c.take_apart.new.nodes.items lists clients rests.stations
    c.take_apart.ensures.nodes refl c.take_apart.ensures.made listed rests.of_run c.args.played c.requires.settled c.requires.caused c.parts_make_run.ensures c.close.result one c.args.script.now c.requires.play.callers (subst HaveSoundRecords c.deref.ensures.value c.tell_records.ensures) c.merge-merged.result (c.merge-merged.ensures lists c.close.result one called)

pub returns-clause-log : goal.returns-clause-log
returns-clause-log g c =
    let board = c.args.table.board in
    let rests = c.requires.play.rests in
    let callers = c.args.callers in
    let stations : List (StationState g.row.D.Denot) = c.args.table.stations.items in
    let lists : List (List (ℕ × Entry)) = map (λ (s : StationState g.row.D.Denot). s.list) stations in
    let owns : (k : ClientNo) → k.0 < callers_count → held (view_of c.take_apart.new.all) (Client k) ≡ Some (list_by callers k) = λ k below. c.take_apart.ensures.callers k ∙ rests.owns k below in
    let count : nodes_of board ≡ length lists = rests.table.1 ∙ sym (length-map stations (λ (s : StationState g.row.D.Denot). s.list) ∙ rests.stations.count) in
    let clients : List ClientState = c.from_vec.result in
    let listed = subst (λ (l : List ClientState). AreLists callers l) (sym c.from_vec.ensures) c.take_lists.ensures in
    let one = one_log callers lists (view_of c.take_apart.new.all) c.take_apart.ensures.holds owns (nodes_of board) (clients_of board) count rests.table.2 clients c.close.result listed c.close.ensures in
    let called = have_callers g.D.Disk.state g.D.Disk.faults (start_of g.N.Named.records) g.N.Named.faults g.N.Named.honest stations c.take_apart.ensures.made in
    if_ok c.result_of.result (log_merged g.D.Disk.state g.D.Disk.faults (start_of g.N.Named.records) g.N.Named.faults g.N.Named.honest stations callers c.take_apart.new.nodes.items lists clients rests.stations
    c.take_apart.ensures.nodes refl c.take_apart.ensures.made listed rests.of_run c.args.played c.requires.settled c.requires.caused c.parts_make_run.ensures c.close.result one (λ t. t.log) c.result_of.result c.merge-merged.result
    (view_of c.args.rest).known (c.merge-merged.ensures lists c.close.result one called) c.result_of.ensures.log)
    (λ t so past has. so past has.trail has.past_is)

pub returns-clause-told : goal.returns-clause-told
returns-clause-told g c =
    let board = c.args.table.board in
    let rests = c.requires.play.rests in
    let callers = c.args.callers in
    let stations : List (StationState g.row.D.Denot) = c.args.table.stations.items in
    let lists : List (List (ℕ × Entry)) = map (λ (s : StationState g.row.D.Denot). s.list) stations in
    let owns : (k : ClientNo) → k.0 < callers_count → held (view_of c.take_apart.new.all) (Client k) ≡ Some (list_by callers k) = λ k below. c.take_apart.ensures.callers k ∙ rests.owns k below in
    let count : nodes_of board ≡ length lists = rests.table.1 ∙ sym (length-map stations (λ (s : StationState g.row.D.Denot). s.list) ∙ rests.stations.count) in
    let clients : List ClientState = c.from_vec.result in
    let listed = subst (λ (l : List ClientState). AreLists callers l) (sym c.from_vec.ensures) c.take_lists.ensures in
    let one = one_log callers lists (view_of c.take_apart.new.all) c.take_apart.ensures.holds owns (nodes_of board) (clients_of board) count rests.table.2 clients c.close.result listed c.close.ensures in
    let called = have_callers g.D.Disk.state g.D.Disk.faults (start_of g.N.Named.records) g.N.Named.faults g.N.Named.honest stations c.take_apart.ensures.made in
    if_error c.result_of.result _ _
    (λ f so damage. let both = so damage in (both.0, λ past has. both.1 past has.trail has.past_is))
    (log_failed g.D.Disk.state g.D.Disk.faults (start_of g.N.Named.records) g.N.Named.faults g.N.Named.honest stations callers c.take_apart.new.nodes.items lists clients rests.stations
    c.take_apart.ensures.nodes refl c.take_apart.ensures.made listed rests.of_run c.args.played c.requires.settled c.requires.caused c.parts_make_run.ensures c.close.result one (λ f. f.cause) (λ f. f.log) c.result_of.result c.merge-merged.result
    (view_of c.args.rest).known (c.merge-merged.ensures lists c.close.result one called) c.result_of.ensures.told)
