use Rattle.std.proofs.Common.{MatchOption, Option, refl, ◌∙◌, subst, sym}
use Rattle.std.specs.Prelude.{⊤}
use Rattle.mn_recov.specs.Recovery.{Recovery}
use Rattle.mn_callers.specs.Desks.{IsWork}
use Rattle.mn_callers.proofs.DeskEnds.{call_falls}
use Rattle.mn_callers.proofs.Recoveries.{asks_last, asks_more, entered_by}
use Rattle.mn_callers.proofs.Recovering.{work_goes_on}
use Rattle.mn_callers.proofs.Hands.{moves_nowhere}
use Rattle.mn_callers.proofs.Sweeping.{recovers_not}
use Rattle.mn_callers.proofs.desk.Desk.call.Goals as goal

pub returns-in_default-clause-goes_on : goal.returns-in_default-clause-goes_on
returns-in_default-clause-goes_on g c = moves_nowhere g.X.Transport.went g.met.X.Transport.stays _ _

pub returns-in_default-next-clause-goes_on : goal.returns-in_default-next-clause-goes_on
returns-in_default-next-clause-goes_on g c = moves_nowhere g.X.Transport.went g.met.X.Transport.stays _ _

pub returns-in_default-clause-recovers : goal.returns-in_default-clause-recovers
returns-in_default-clause-recovers g c = recovers_not _

pub returns-in_default-next-clause-recovers : goal.returns-in_default-next-clause-recovers
returns-in_default-next-clause-recovers g c = recovers_not _

pub returns-clause-desk : goal.returns-clause-desk
returns-clause-desk g c =
    let start = g.X.Transport.start in
    let old = c.args.self.now.list in
    let work = subst (λ (o : Option Recovery). MatchOption o ⊤ (IsWork start old)) (sym c.in-Some.ensures.value) c.requires.desk.work in record {
      list = c.send-reply.ensures.list;
      work = work_goes_on start old c.send-reply.new.self.list c.in-Some.work c.feed.new.self c.in-Send.node c.in-Send.request c.send-reply.result work (sym c.in-Send.ensures.step)
          c.send-reply.ensures.said c.send-reply.ensures.none c.feed.ensures.fed c.feed.ensures.agrees c.feed.ensures.no_entry;
    }

pub returns-in-Ended-clause-asks : goal.returns-in-Ended-clause-asks
returns-in-Ended-clause-asks g c =
    let old = c.args.self.now.list in
    let new = c.send-reply.new.self in
    let n = c.in-Send.node in
    let request = c.in-Send.request in
    let reply = c.send-reply.result in
    asks_last c.args.self.now.work c.in-Some.work c.feed.new.self n request reply old new.list c.in-Some.ensures.value c.in-Send.ensures.step (entered_by n request reply old new.list c.send-reply.ensures.said c.send-reply.ensures.none) c.feed.ensures.fed
    new.work c.in-Ended.yes c.in-Ended.ensures.step (c.send-reply.ensures.work ∙ c.take.ensures.after)

pub returns-clause-asks : goal.returns-clause-asks
returns-clause-asks g c =
    let old = c.args.self.now.list in
    let new = c.send-reply.new.self in
    let n = c.in-Send.node in
    let request = c.in-Send.request in
    let reply = c.send-reply.result in
    let last = c.in_default-next-2 in
    asks_more c.args.self.now.work c.in-Some.work c.feed.new.self n request reply old new.list c.in-Some.ensures.value c.in-Send.ensures.step (entered_by n request reply old new.list c.send-reply.ensures.said c.send-reply.ensures.none) c.feed.ensures.fed
    _ c.is_force-force.result c.has_to_wait-waits.result last.field-0 last.field-1 last.ensures.step refl c.is_force-force.ensures c.has_to_wait-waits.ensures

pub returns-clause-falls : goal.returns-clause-falls
returns-clause-falls g c = λ on.
    call_falls c.args.self.now.work c.in-Some.work c.feed.new.self c.in-Send.node c.in-Send.request c.send-reply.result c.is_force-force.result c.has_to_wait-waits.result c.in-Some.ensures.value c.in-Send.ensures.step c.send-reply.ensures.fits c.feed.ensures.fed
    c.is_force-force.ensures c.has_to_wait-waits.ensures on
