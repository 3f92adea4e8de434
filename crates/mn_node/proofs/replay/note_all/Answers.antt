use Rattle.std.proofs.Common.{◌≡◌, ◌++◌, List, take, reverse, ap, sym, ◌∙◌, arith}
use Rattle.std.proofs.lemmas.List.{take_all}
use Rattle.mn_mini.specs.declared.record.Record.{Record}
use Rattle.mn_mini.specs.Node.{has_forced}
use Rattle.mn_node.proofs.Replayed.{next_record}
use Rattle.mn_node.proofs.replay.note_all.Goals as goal

pub loop-record-preserved : goal.loop-record-preserved
loop-record-preserved c = λ before was tid.
    let i = c.loop-record.record-index in
    let records = c.args.records.now in
    c.in_ok-note_forced.ensures (reverse (take i records) ++ before) (c.loop-record.invariant before was) tid
    ∙ sym (ap (λ (l : List Record). has_forced (l ++ before) tid) (next_record records i c.record-item.result c.loop-record-test.true c.record-item.is))

pub returns : goal.returns
returns c = λ before was tid.
    let i = c.loop-record.record-index in
    let records = c.args.records.now in
    let all : take i records ≡ records = take_all i records (omega (arith, c.loop-record-test.false)) in
    c.loop-record.invariant before was tid ∙ ap (λ (l : List Record). has_forced (reverse l ++ before) tid) all
