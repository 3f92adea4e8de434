use Rattle.std.proofs.Common.{rules, refl, sym, ap, subst}
use Rattle.mn_actors.specs.Lists.{IsJoined}
use Rattle.mn_actors.proofs.Growing.{held_joined}
use Rattle.mn_actors.proofs.Moves.{joins_moves}
use Rattle.mn_actors.proofs.board.Board.join.Goals as goal

pub join_seat-requires : goal.join_seat-requires
join_seat-requires g c = (search rules, search rules, search rules, search rules, joins_moves _ _ _ _ _ _ _)

pub returns-clause-view : goal.returns-clause-view
returns-clause-view g c =
    let v = c.args.into.now.seat.me.0 in
    let w = c.args.from.seat.me.0 in
    subst (IsJoined v w) (sym (ap (λ m. m.0) c.join_seat.ensures.2)) record { known = refl; lists = held_joined v w }
