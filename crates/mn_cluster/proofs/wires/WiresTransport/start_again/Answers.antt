use Rattle.std.proofs.Common.{Bool, List, slice_get, inl, inr, refl, ap, ◌∙◌}
use Rattle.std.specs.Prelude.{⊤}
use Rattle.mn_actors.specs.Sight.{view_of}
use Rattle.mn_cell.specs.Calls.{EndsList, entry_at}
use Rattle.mn_runs.specs.declared.entry.What.TheVariants.{Restarted}
use Rattle.mn_runs.specs.Lists.{ClientState}
use Rattle.mn_callers.specs.Hands.{hand_of}
use Rattle.mn_callers.proofs.Hands.{moves_by_one, moves_still}
use Rattle.mn_callers.proofs.Turns.{by_option}
use Rattle.mn_cluster.proofs.Wired.{filled_there}
use Rattle.mn_cluster.proofs.wires.WiresTransport.start_again.Goals as goal

pub restart-requires-clause-filled : goal.restart-requires-clause-filled
restart-requires-clause-filled g c =
    let wired = c.requires.turn.ready in
    ap (λ (l : List Bool). slice_get l c.args.node.0) wired.filled_are ∙ filled_there _ c.args.node.0 c.requires.node wired.few

pub restart-requires-clause-board : goal.restart-requires-clause-board
restart-requires-clause-board g c = (c.requires.turn.ready.board_is, c.requires.turn.passes)

pub returns-in-Ok-clause-goes_on : goal.returns-in-Ok-clause-goes_on
returns-in-Ok-clause-goes_on g c =
    let r = c.in-Ok.ensures in
    let client = c.restart.ensures.client in
    let list = c.args.list.now in
    let old = hand_of c.args.pass.now list in
    let new = hand_of c.restart.new.pass c.restart.new.list in
    let ends = λ (kept : Bool). EndsList (view_of c.args.pass.now).known (view_of c.restart.new.pass).known (entry_at c.args.node list.client (Restarted kept)) list.entries c.restart.new.list.entries in
    by_option ends c.in-Ok._kept r.no_entry r.restarted
    (λ same. moves_still (λ own. ⊤) old new tt client (ap (λ (l : ClientState). l.entries) same.1) (ap (λ p. (view_of p).known) same.0))
    (λ kept e. moves_by_one (λ own. ⊤) old new e.place (entry_at c.args.node list.client (Restarted kept)) client refl e.ends e.later e.next tt)

pub returns-in-Ok-clause-restarts : goal.returns-in-Ok-clause-restarts
returns-in-Ok-clause-restarts g c =
    let r = c.in-Ok.ensures in
    let client = c.restart.ensures.client in
    let list = c.args.list.now in
    let ends = λ (kept : Bool). EndsList (view_of c.args.pass.now).known (view_of c.restart.new.pass).known (entry_at c.args.node list.client (Restarted kept)) list.entries c.restart.new.list.entries in
    by_option ends c.in-Ok._kept r.no_entry r.restarted
    (λ same. inl (record { client = client; entries = ap (λ (l : ClientState). l.entries) same.1 }))
    (λ kept e. inr (kept, record { client = client; place = e.place; ends = e.ends }))
