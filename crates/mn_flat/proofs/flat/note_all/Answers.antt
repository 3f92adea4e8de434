use Rattle.std.proofs.Common.{◌≡◌, ◌++◌, List, reverse, take, sym, subst, arith}
use Rattle.std.proofs.lemmas.List.{take_all}
use Rattle.mn_mini.specs.declared.record.Record.{Record}
use Rattle.mn_flat.specs.Known.{TableTells}
use Rattle.mn_flat.proofs.Lists.{next_record}
use Rattle.mn_flat.proofs.flat.note_all.Goals as goal

pub loop-record-preserved : goal.loop-record-preserved
loop-record-preserved c = λ older tells.
    let next = next_record c.args.records.now c.loop-record.record-index c.record-item.result c.loop-record-test.true c.record-item.is in
    subst (λ (l : List Record). TableTells c.note.new.self (l ++ older)) (sym next) (c.in_ok-note.ensures (reverse (take c.loop-record.record-index c.args.records.now) ++ older) (c.loop-record.invariant older tells))

pub returns : goal.returns
returns c = λ older tells.
    let all : take c.loop-record.record-index c.args.records.now ≡ c.args.records.now = take_all c.loop-record.record-index c.args.records.now (omega (arith, c.loop-record-test.false)) in
    subst (λ (l : List Record). TableTells c.loop-record.table (reverse l ++ older)) all (c.loop-record.invariant older tells)
