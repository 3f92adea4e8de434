use Rattle.std.proofs.Common.{ℕ, ◌<◌, ◌∷◌, ◌++◌, [], Some, None, refl, sym, ap, ◌∙◌, subst}
use Rattle.mn_base.specs.declared.ids.ClientNo.{ClientNo}
use Rattle.mn_actors.specs.Lines.{line}
use Rattle.mn_actors.specs.Lists.{IsAppended, MayAppend}
use Rattle.mn_actors.specs.Sight.{id_of, view_of}
use Rattle.mn_cell.specs.Calls.{IsLegalLine}
use Rattle.mn_callers.specs.Hands.{IsOwnStep, hand_of}
use Rattle.mn_callers.specs.Steps.{own_entry}
use Rattle.mn_callers.proofs.Hands.{moves_by_one}
use Rattle.mn_callers.proofs.Turns.{may_alone, turn_alone}
use Rattle.mn_callers.proofs.transport.put_alone.Goals as goal

pub append_ref-place-requires-clause-may : goal.append_ref-place-requires-clause-may
append_ref-place-requires-clause-may c =
    let few = c.room-room.ensures.few in
    let some = subst (λ (n : ℕ). 0 < n) (sym c.room-room.ensures.room) c.requires.room in
    subst (λ (k : ClientNo). MayAppend IsLegalLine (view_of c.args.pass.now) (line None (Some k) (own_entry k c.args.what))) (sym c.client-client.ensures.client)
    (may_alone (hand_of c.args.pass.now c.args.list.now) c.requires.turn c.room-room.result c.args.what some few c.requires.legal)

pub returns-clause-turn : goal.returns-clause-turn
returns-clause-turn c =
    let client = c.client-client.ensures.client in
    let what = c.args.what in
    let place = c.append_ref-place.result in
    let entries = c.push.ensures.entries ∙ ap (λ (k : ClientNo). c.args.list.now.entries ++ (place, own_entry k what) ∷ []) client in
    let view = subst (λ (k : ClientNo). IsAppended (view_of c.args.pass.now) place (line None (Some k) (own_entry k what)) (view_of c.append_ref-place.new.pass)) client c.append_ref-place.ensures.view in
    turn_alone (id_of c.args.board.now) _ _ c.requires.turn tt place what c.push.ensures.client entries c.append_ref-place.ensures.board view

pub returns-clause-goes_on : goal.returns-clause-goes_on
returns-clause-goes_on c =
    let what = c.args.what in
    let place = c.append_ref-place.result in
    let entries = c.push.ensures.entries ∙ ap (λ (k : ClientNo). c.args.list.now.entries ++ (place, own_entry k what) ∷ []) c.client-client.ensures.client in
    moves_by_one (IsOwnStep c.args.list.now.client) _ _ place (own_entry c.args.list.now.client what) c.push.ensures.client refl entries c.append_ref-place.ensures.place c.append_ref-place.ensures.view.known ((refl, refl), tt)
