use Rattle.std.proofs.Common.{◌≡◌, ◌+◌, ◌++◌, ◌∷◌, [], List, take, reverse, ap, sym, subst, ◌∙◌, arith}
use Rattle.std.proofs.lemmas.List.{take_more, take_all}
use Rattle.mn_mini.specs.declared.record.Record.{Record}
use Rattle.mn_mini.specs.Node.{space_of}
use Rattle.mn_node.specs.Held.{AreHeldVotes}
use Rattle.mn_node.proofs.Replayed.{next_record}
use Rattle.mn_node.proofs.replay.write_from.Goals as goal

pub loop-number-preserved : goal.loop-number-preserved
loop-number-preserved c =
    let records = c.args.records.now in
    let n = c.loop-number.number in
    let r = c.index-records-number.result in
    let more : take (n + 1) records ≡ take n records ++ r ∷ [] = take_more records n r c.loop-number-test.true ∙ ap (λ (x : Record). take n records ++ x ∷ []) (sym c.index-records-number.is) in
    record {
      size = c.apply.ensures.whole;
      written = λ base was.
          c.in_ok-apply.ensures.space base (c.loop-number.invariant.written base was) ∙ sym (ap (λ (l : List Record). space_of base l) (next_record records n r c.loop-number-test.true c.index-records-number.is));
      held = subst (λ (l : List Record). AreHeldVotes l c.apply.new.held.items) (sym more) c.in_ok-apply.ensures.held;
    }

pub returns-clause-space : goal.returns-clause-space
returns-clause-space c = λ base was.
    let n = c.loop-number.number in
    let records = c.args.records.now in
    let all : take n records ≡ records = take_all n records (omega (arith, c.loop-number-test.false)) in
    c.loop-number.invariant.written base was ∙ ap (λ (l : List Record). space_of base (reverse l)) all

pub returns-clause-held : goal.returns-clause-held
returns-clause-held c =
    let n = c.loop-number.number in
    let records = c.args.records.now in
    let all : take n records ≡ records = take_all n records (omega (arith, c.loop-number-test.false)) in
    subst (λ (l : List Record). AreHeldVotes l c.loop-number.held.items) all c.loop-number.invariant.held
