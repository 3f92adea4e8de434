use Rattle.std.proofs.Common.{◌≡◌, ◌+◌, ◌≤◌, ◌^◌, ◌++◌, ◌∷◌, [], List, length, ap, sym, subst, arith, vec_len}
use Rattle.mn_cell.specs.declared.owing.Owed.{Owed}
use Rattle.mn_cell.specs.Promises.{HasRoomForStep, IsOwing, OwingState, OwesTo, decided_in, voted_in, owed_after}
use Rattle.mn_cell.proofs.Owed.{one_more, one_less, owing_more, room_after}
use Rattle.mn_cell.proofs.owing.Owing.add.Goals as goal

pub invariant_of-self : goal.invariant_of-self
invariant_of-self c =
    let e = c.args.entry.now in
    let os = c.self.inside.owed.items in
    let place = subst (λ (s : OwingState). HasRoomForStep s e.client (decided_in e.what)) (sym c.self.view_is) c.requires.place in
    let count : vec_len c.self.inside.owed ≡ length os = omega arith in
    let more = one_more e.client (decided_in e.what) (voted_in e.what) os in
    let less = one_less e.client (decided_in e.what) (voted_in e.what) os in
    let short : c.self.inside.size + length os ≤ 2 ^ 57 = omega (arith, c.self.invariant, count) in
    let room = room_after c.self.inside.size (length os) (length (owed_after e.client (decided_in e.what) (voted_in e.what) os)) _ (OwesTo e.client (decided_in e.what) os) short more less place in
    let noted : vec_len c.note.new.owed ≡ length c.note.new.owed.items = omega arith in
    omega (arith, room, ap (λ (o : List Owed). length o) c.note.ensures.noted, noted)

pub returns : goal.returns
returns c = λ list place owing.
    let e = c.args.entry.now in
    let before = subst (λ (s : OwingState). IsOwing list s.size s.owed) (sym c.self.view_is) owing in
    subst (λ (o : List Owed). IsOwing (list ++ (place, e) ∷ []) (c.self.inside.size + 1) o) (sym c.note.ensures.noted)
    (owing_more list place e c.self.inside.size c.self.inside.owed.items before)
