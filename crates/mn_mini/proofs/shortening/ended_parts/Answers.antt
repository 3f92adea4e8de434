use Rattle.std.proofs.Common.{List, reverse, take, sym, ap, ◌∙◌, subst}
use Rattle.mn_mini.specs.declared.record.Record.{Record}
use Rattle.mn_mini.specs.Shorten.{HeldTells, ended_lists}
use Rattle.mn_mini.proofs.ShortSteps.{next_record}
use Rattle.mn_mini.proofs.shortening.ended_parts.Goals as goal

pub loop-record-preserved : goal.loop-record-preserved
loop-record-preserved c =
    let next = next_record c.args.records.now c.loop-record.record-index c.record-item.result c.loop-record-test.true c.record-item.is in
    let both = c.in_ok-note.ensures (reverse (take c.loop-record.record-index c.args.records.now)) c.loop-record.invariant.held c.loop-record.invariant.ended in
    record {
      held = subst (λ (l : List Record). HeldTells c.note.new.self l) (sym next) both.0;
      ended = both.1 ∙ ap ended_lists (sym next);
    }
