use Rattle.std.proofs.Common.{◌≡◌, [], ◌-◌, List, length, reverse, take, ap, sym, ◌∙◌, subst, arith}
use Rattle.std.proofs.lemmas.List.{take_all}
use Rattle.mn_mini.specs.declared.record.Record.{Record}
use Rattle.mn_mini.specs.Shorten.{Goes, ended_lists}
use Rattle.mn_mini.proofs.ShortSteps.{before_here, goes_last}
use Rattle.mn_mini.proofs.shortening.shorten.Goals as goal

pub loop-left-init : goal.loop-left-init
loop-left-init c =
    let records = c.args.records.now in
    let all : take (length records) records ≡ records = take_all (length records) records (omega arith) in
    record {
      within = omega arith;
      goes = subst (λ (l : List Record). Goes c.new-newer.result l (reverse (take (length records) records)) (reverse records)) (sym c.new-kept.ensures.items)
          (subst (λ (l : List Record). Goes c.new-newer.result [] (reverse l) (reverse records)) (sym all) (c.new-newer.ensures (reverse records)));
      ended = c.in_ok-ended.ensures ∙ ap (λ (l : List Record). ended_lists (reverse l)) (sym all);
    }

pub loop-left-preserved : goal.loop-left-preserved
loop-left-preserved c =
    let within = c.loop-left.invariant.within in
    let here = before_here c.args.records.now c.loop-left.left c.index-records-left.result c.loop-left-test.true within c.index-records-left.is in
    let both = c.in_ok-note.ensures (reverse (take (c.loop-left.left - 1) c.args.records.now)) (reverse c.args.records.now)
    (subst (λ (l : List Record). Goes c.loop-left.newer c.loop-left.kept.items l (reverse c.args.records.now)) here c.loop-left.invariant.goes)
    (c.loop-left.invariant.ended ∙ ap ended_lists here) in
    record { within = omega (arith, within); goes = both.0; ended = both.1 }

pub returns : goal.returns
returns c =
    let all : c.loop-left.left ≡ 0 = omega (arith, c.loop-left-test.false) in
    let goes = subst (λ n. Goes c.loop-left.newer c.loop-left.kept.items (reverse (take n c.args.records.now)) (reverse c.args.records.now)) all c.loop-left.invariant.goes in
    c.from_vec.ensures ∙ c.reverse.ensures.items ∙ goes_last c.loop-left.newer c.loop-left.kept.items c.args.records.now goes
