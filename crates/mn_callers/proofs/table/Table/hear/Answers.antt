use Rattle.mn_actors.specs.Sight.{board_of, view_of}
use Rattle.mn_runs.specs.Protocol.{start_of}
use Rattle.mn_callers.specs.Plays.{state_at}
use Rattle.mn_callers.proofs.Heard.{still_rests}
use Rattle.mn_callers.proofs.Since.{heard_log, heard_since}
use Rattle.mn_callers.proofs.table.Table.hear.Goals as goal

pub returns-clause-rests : goal.returns-clause-rests
returns-clause-rests g c =
    still_rests g.N.Named.board (start_of g.N.Named.records) (state_at c.args.self.now c.args.rest.now c.args.callers.now) c.hear_all.new.stations.items (board_of c.hear_all.new.rest) (view_of c.hear_all.new.rest)
    c.requires.rests c.hear_all.ensures.stations c.hear_all.ensures.board c.hear_all.ensures.lists

pub returns-clause-log : goal.returns-clause-log
returns-clause-log g c =
    heard_log g.N.Named.board (start_of g.N.Named.records) (state_at c.args.self.now c.args.rest.now c.args.callers.now) c.hear_all.new.stations.items (board_of c.hear_all.new.rest) (view_of c.hear_all.new.rest)
    c.requires.rests c.hear_all.ensures.stations c.hear_all.ensures.board c.hear_all.ensures.lists c.hear_all.ensures.one_log (λ k s at. (c.made.ensures k s at).called)

pub returns-clause-since : goal.returns-clause-since
returns-clause-since g c =
    heard_since g.N.Named.board (start_of g.N.Named.records) (state_at c.args.self.now c.args.rest.now c.args.callers.now) c.hear_all.new.stations.items (board_of c.hear_all.new.rest) (view_of c.hear_all.new.rest)
    c.requires.rests c.hear_all.ensures.stations c.hear_all.ensures.board c.hear_all.ensures.lists c.hear_all.ensures.one_log (λ k s at. (c.made.ensures k s at).called)
