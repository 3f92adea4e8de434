use Rattle.std.proofs.Common.{[], ap, ◌∙◌}
use Rattle.mn_actors.specs.Lists.{held}
use Rattle.mn_actors.proofs.Moves.{begins, first_owns, first_others}
use Rattle.mn_actors.proofs.board.Board.new.Goals as goal

pub of_words-requires : goal.of_words-requires
of_words-requires g c = begins _ _ _ []

pub returns-clause-owns : goal.returns-clause-owns
returns-clause-owns g c a on = ap (λ m. held m.0 a) c.in_ok-table.ensures.4 ∙ first_owns g.L.Law.legal c.args.nodes c.args.clients a on

pub returns-clause-others : goal.returns-clause-others
returns-clause-others g c a not = ap (λ m. held m.0 a) c.in_ok-table.ensures.4 ∙ first_others g.L.Law.legal c.args.nodes c.args.clients a not
