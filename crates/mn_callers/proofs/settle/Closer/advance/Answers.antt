use Rattle.std.proofs.Common.{sym}
use Rattle.mn_runs.specs.Protocol.{base_at, start_of}
use Rattle.mn_callers.specs.Settled.{records_at}
use Rattle.mn_callers.specs.Turn.{turn_at}
use Rattle.mn_callers.proofs.Advancing.{fed_on}
use Rattle.mn_callers.proofs.Closing.{all_extend, closes_further, closes_same, closing_same}
use Rattle.mn_callers.proofs.Recovering.{sends_recovery, work_goes_on, work_same}
use Rattle.mn_callers.proofs.Stations.{not_none}
use Rattle.mn_callers.proofs.Turns.{goes_further, goes_same}
use Rattle.mn_callers.proofs.settle.Closer.advance.Goals as goal

pub returns-then-is_err-clause-goes_on : goal.returns-then-is_err-clause-goes_on
returns-then-is_err-clause-goes_on g c =
    let t = turn_at c.args.table.now c.args.pass.now c.args.self.now.list in
    goes_same t _ c.make_room.ensures.client c.make_room.ensures.entries

pub call-requires-clause-closing : goal.call-requires-clause-closing
call-requires-clause-closing g c =
    let t = turn_at c.args.table.now c.args.pass.now c.args.self.now.list in
    closing_same g.N.Named.board (start_of g.N.Named.records) t c.requires.closing _ c.make_room.ensures.client c.make_room.ensures.entries

pub returns-in_err-reply-clause-goes_on : goal.returns-in_err-reply-clause-goes_on
returns-in_err-reply-clause-goes_on g c =
    let t = turn_at c.args.table.now c.args.pass.now c.args.self.now.list in
    goes_further t.stations t.stations _ _ _ _ (goes_same t _ c.make_room.ensures.client c.make_room.ensures.entries) c.call.ensures.goes_on

pub returns-clause-goes_on : goal.returns-clause-goes_on
returns-clause-goes_on g c =
    let t = turn_at c.args.table.now c.args.pass.now c.args.self.now.list in
    goes_further t.stations t.stations _ _ _ _ (goes_same t _ c.make_room.ensures.client c.make_room.ensures.entries) c.call.ensures.goes_on

pub returns-clause-work : goal.returns-clause-work
returns-clause-work g c =
    let start = start_of g.N.Named.records in
    let said = c.in_ok-reply.ensures in
    work_goes_on start c.make_room.new.list c.call.new.self.list c.args.work.now c.feed.new.self c.args.node c.args.request c.in_ok-reply.reply
    (work_same start c.args.self.now.list c.make_room.new.list c.args.work.now c.make_room.ensures.entries c.requires.work) c.requires.step
    (λ other. said.said) (λ none. absurd (not_none c.in_ok-reply.reply said.answers none)) c.feed.ensures.fed c.feed.ensures.agrees c.feed.ensures.no_entry

pub returns-clause-extends : goal.returns-clause-extends
returns-clause-extends g c =
    let kind = sends_recovery c.args.work.now.tid c.args.work.now.nodes c.args.work.now.stage c.args.node c.args.request (sym c.requires.step) in
    all_extend _ c.args.table.now.stations.items c.call.new.table.stations.items c.args.node c.args.request c.in_ok-reply.reply kind c.call.ensures.others c.in_ok-reply.ensures.answered

pub returns-clause-done : goal.returns-clause-done
returns-clause-done g c =
    let kind = sends_recovery c.args.work.now.tid c.args.work.now.nodes c.args.work.now.stage c.args.node c.args.request (sym c.requires.step) in
    let said = c.in_ok-reply.ensures in
    let old = c.args.table.now.stations.items in
    let new = c.call.new.table.stations.items in
    let ext = all_extend _ old new c.args.node c.args.request c.in_ok-reply.reply kind c.call.ensures.others said.answered in
    (fed_on _ c.args.work.now c.feed.new.self (base_at (start_of g.N.Named.records) c.args.node) (records_at old) (records_at new) ext c.args.node c.args.request c.in_ok-reply.reply said.answered.says said.answered.records said.fits
    c.requires.work.1 c.feed.ensures.fed c.requires.step c.requires.done).0

pub returns-clause-fewer : goal.returns-clause-fewer
returns-clause-fewer g c =
    let kind = sends_recovery c.args.work.now.tid c.args.work.now.nodes c.args.work.now.stage c.args.node c.args.request (sym c.requires.step) in
    let said = c.in_ok-reply.ensures in
    let old = c.args.table.now.stations.items in
    let new = c.call.new.table.stations.items in
    let ext = all_extend _ old new c.args.node c.args.request c.in_ok-reply.reply kind c.call.ensures.others said.answered in
    (fed_on _ c.args.work.now c.feed.new.self (base_at (start_of g.N.Named.records) c.args.node) (records_at old) (records_at new) ext c.args.node c.args.request c.in_ok-reply.reply said.answered.says said.answered.records said.fits
    c.requires.work.1 c.feed.ensures.fed c.requires.step c.requires.done).1

pub returns-clause-closes : goal.returns-clause-closes
returns-clause-closes g c = closes_further _ _ _ (closes_same c.args.self.now.list c.make_room.new.list c.make_room.ensures.entries) c.in_ok-reply.ensures.closes
