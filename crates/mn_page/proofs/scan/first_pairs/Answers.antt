use Rattle.std.proofs.Common.{◌+◌, ◌<◌, List, length, subst, sym, arith}
use Rattle.std.proofs.lemmas.Grind.{common_steps}
use Rattle.mn_base.specs.declared.reply.Pair.{Pair}
use Rattle.mn_page.specs.Grammar.{pair_bytes}
use Rattle.mn_page.specs.Reading.{pair_seen, pairs_seen, IsPair}
use Rattle.mn_page.proofs.Scanned.{Progress, progress_more, progress_ends, seen_more}
use Rattle.mn_page.proofs.scan.first_pairs.Goals as goal

pub returns-in_err-pair-clause-only : goal.returns-in_err-pair-clause-only
returns-in_err-pair-clause-only c = λ xs more are spelled.
    absurd (progress_ends IsPair pair_bytes c.args.count c.args.bytes.now c.loop-i.i (pairs_seen c.loop-i.i c.loop-i.pairs) c.loop-i.rest.now c.loop-i.invariant.progress c.loop-i-test.true
    (λ y m is e. let told = c.in_err-pair.ensures.only y m is e in grind (arith, common_steps, told)) xs more are spelled)

pub loop-i-preserved : goal.loop-i-preserved
loop-i-preserved c =
    let in_array : c.loop-i.i < length c.loop-i.pairs = (let size = c.loop-i.invariant.size in let end = c.loop-i-test.true in let few = c.requires in omega (arith, size, end, few)) in
    let seen = seen_more pair_seen c.loop-i.pairs c.loop-i.i c.in_ok-pair.pair in_array in
    record {
      progress = subst (λ (read : List Pair). Progress IsPair pair_bytes c.args.count c.args.bytes.now (c.loop-i.i + 1) read c.in_ok-pair.behind.now) (sym seen)
          (progress_more IsPair pair_bytes c.args.count c.args.bytes.now c.loop-i.i (pairs_seen c.loop-i.i c.loop-i.pairs) c.loop-i.rest.now (pair_seen c.in_ok-pair.pair) c.in_ok-pair.behind.now
          c.loop-i.invariant.progress c.loop-i-test.true c.in_ok-pair.ensures.found c.in_ok-pair.ensures.only);
      size = grind (arith, common_steps, c.loop-i.invariant.size);
    }
