use Rattle.std.proofs.Common.{Some}
use Rattle.std.specs.HashMap.{get}
use Rattle.mn_mini.specs.Shorten.{keys_same, parts_of}
use Rattle.mn_mini.proofs.ShortSteps.{put_once, decision_noted}
use Rattle.mn_mini.proofs.shortening.Newer.note_decision.Goals as goal

pub returns : goal.returns
returns c = λ over fates older tells are.
    let value = c.in_ok-ended.ended in
    let both = c.in_ok-ended.ensures over tells.written in
    decision_noted c.args.self.now (record { over = c.ended_by.new.over; ended = c.insert.new.self }) c.args.tid c.args.yes value (parts_of c.args.parts.now) over fates older
    (put_once c.id_key.result c.args.tid (Some value) (get keys_same c.args.self.now.ended) (get keys_same c.insert.new.self) c.id_key.ensures c.in_ok-insert.ensures.updates.0)
    both.0 both.1 tells are
