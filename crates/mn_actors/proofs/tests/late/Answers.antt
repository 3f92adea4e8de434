use Rattle.std.proofs.Common.{◌≡◌, ◌∙◌, ◌<◌, ℕ, Option, Some, List, [], length, refl, sym, ap, arith}
use Rattle.mn_actors.specs.Lines.{node_at, client_at}
use Rattle.mn_actors.specs.Lists.{held, or_empty}
use Rattle.mn_actors.proofs.tests.late.Goals as goal

zero_of_one : 0 < 1
zero_of_one = omega arith

pub split-other-requires-clause-owns : goal.split-other-requires-clause-owns
split-other-requires-clause-owns c = ([], c.in-Ok.ensures.owns (client_at 0) zero_of_one)

pub append-requires-clause-may : goal.append-requires-clause-may
append-requires-clause-may c =
    let node : held c.split-other.new.from.seat.me.0 (node_at 0) ≡ Some [] =
    (c.split-other.ensures.view.others (node_at 0) refl).0 ∙ c.in-Ok.ensures.owns (node_at 0) zero_of_one in
    record {
      some_actor = tt;
      node_room = ([], node, omega arith);
      client_room = tt;
      is_legal = sym (ap (λ (o : Option (List (ℕ × ℕ))). length (or_empty o)) node);
    }
