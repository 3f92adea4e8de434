use Rattle.mn_callers.proofs.Recovering.{recovery_adds, recovery_keeps}
use Rattle.mn_callers.proofs.Hands.{moves_further, moves_same}
use Rattle.mn_callers.proofs.Sweeping.{recovers_more, recovers_same, sent_recovers}
use Rattle.mn_callers.proofs.Turns.{if_none}
use Rattle.mn_callers.proofs.desk.Desk.send.Goals as goal

pub returns-then-is_err-clause-goes_on : goal.returns-then-is_err-clause-goes_on
returns-then-is_err-clause-goes_on g c =
    moves_same g.X.Transport.went g.met.X.Transport.stays _ _ _ c.make_room.ensures.client c.make_room.ensures.entries

pub returns-clause-goes_on : goal.returns-clause-goes_on
returns-clause-goes_on g c =
    moves_further g.X.Transport.went g.met.X.Transport.goes_on _ _ _ _ _ _ (moves_same g.X.Transport.went g.met.X.Transport.stays _ _ _ c.make_room.ensures.client c.make_room.ensures.entries) c.send.ensures.goes_on

pub returns-clause-list : goal.returns-clause-list
returns-clause-list g c =
    let start = g.X.Transport.start in
    let old = c.make_room.new.list in
    let new = c.send.new.list in
    let is = recovery_keeps start c.args.self.now.list old c.requires.list (record { client = c.make_room.ensures.client; entries = c.make_room.ensures.entries }) in
    if_none c.send.result
    (λ none. recovery_keeps start old new is (record { client = c.send.ensures.goes_on.client; entries = c.send.ensures.none none }))
    (λ other. recovery_adds start old new is c.args.node c.args.request c.send.result c.requires.kind (c.send.ensures.said other))

pub returns-then-is_err-clause-recovers : goal.returns-then-is_err-clause-recovers
returns-then-is_err-clause-recovers g c = recovers_same c.args.self.now.list.entries c.make_room.new.list.entries c.make_room.ensures.entries

pub returns-clause-recovers : goal.returns-clause-recovers
returns-clause-recovers g c = recovers_more _ _ _ (recovers_same c.args.self.now.list.entries c.make_room.new.list.entries c.make_room.ensures.entries)
    (sent_recovers c.args.node c.args.request c.send.result c.make_room.new.list c.send.new.list c.send.ensures.said c.send.ensures.none)
