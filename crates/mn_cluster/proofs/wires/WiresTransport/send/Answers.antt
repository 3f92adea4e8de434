use Rattle.std.proofs.Common.{Bool, List, slice_get, refl, ap, ◌∙◌}
use Rattle.mn_cell.specs.Calls.{entry_at, what_said}
use Rattle.std.specs.Prelude.{⊤}
use Rattle.mn_callers.specs.Hands.{hand_of}
use Rattle.mn_callers.proofs.Hands.{moves_by_one, moves_still, turn_moved}
use Rattle.mn_callers.proofs.Turns.{if_none}
use Rattle.mn_cluster.proofs.Wired.{filled_there}
use Rattle.mn_cluster.proofs.wires.WiresTransport.send.Goals as goal

pub call-requires-clause-filled : goal.call-requires-clause-filled
call-requires-clause-filled g c =
    let wired = c.requires.turn.ready in
    ap (λ (l : List Bool). slice_get l c.args.node.0) wired.filled_are ∙ filled_there _ c.args.node.0 c.requires.node wired.few

pub call-requires-clause-board : goal.call-requires-clause-board
call-requires-clause-board g c = (c.requires.turn.ready.board_is, c.requires.turn.passes)

pub returns-clause-turn : goal.returns-clause-turn
returns-clause-turn g c =
    let call = c.call.ensures in
    turn_moved (hand_of c.args.pass.now c.args.list.now) (hand_of c.call.new.pass c.call.new.list) c.requires.turn.ready call.board call.client call.owns call.list

pub returns-clause-goes_on : goal.returns-clause-goes_on
returns-clause-goes_on g c =
    let call = c.call.ensures in
    let old = hand_of c.args.pass.now c.args.list.now in
    let new = hand_of c.call.new.pass c.call.new.list in
    if_none c.call.result
    (λ none. moves_still (λ own. ⊤) old new tt call.client (call.list_before none) (call.pass_before none).0)
    (λ other. let ends = call.said other in
    moves_by_one (λ own. ⊤) old new ends.place (entry_at c.args.node c.args.list.now.client (what_said c.args.request c.args.stop c.call.result)) call.client refl ends.ends ends.later ends.next tt)

pub returns-clause-said : goal.returns-clause-said
returns-clause-said g c = λ other. let ends = c.call.ensures.said other in record { client = c.call.ensures.client; place = ends.place; ends = ends.ends }
