use Rattle.std.proofs.Common.{sym, arith}
use Rattle.std.proofs.lemmas.List.{length-take-le}
use Rattle.mn_base.proofs.Booleans.{clash}
use Rattle.mn_page.proofs.FrontWhole.{between_all, between_down, between_found, between_up, middle_of}
use Rattle.mn_page.proofs.fault.page_fault.Goals as goal

pub loop-past-init : goal.loop-past-init
loop-past-init c = record { between = between_all c.args.bytes.now c.min-past.result c.min-past.ensures; end = omega (arith, c.min-past.ensures) }

pub overflow_sub-past : goal.overflow_sub-past
overflow_sub-past c = let order = c.loop-past.invariant.between.order in omega (arith, order)

pub slice_bounds-begins_page-end : goal.slice_bounds-begins_page-end
slice_bounds-begins_page-end c =
    let m = middle_of c.args.bytes.now c.loop-past.here c.loop-past.past c.loop-past.invariant.between c.loop-past.invariant.end (omega arith) in
    sym (length-take-le _ c.args.bytes.now m.2)

pub loop-past-smaller-then-begins_page : goal.loop-past-smaller-then-begins_page
loop-past-smaller-then-begins_page c = let m = middle_of c.args.bytes.now c.loop-past.here c.loop-past.past c.loop-past.invariant.between c.loop-past.invariant.end (omega arith) in omega (arith, m.0, m.1)

pub loop-past-preserved-then-begins_page : goal.loop-past-preserved-then-begins_page
loop-past-preserved-then-begins_page c =
    let b = c.loop-past.invariant.between in
    let m = middle_of c.args.bytes.now c.loop-past.here c.loop-past.past b c.loop-past.invariant.end (omega arith) in
    record { between = between_up c.args.bytes.now c.loop-past.here c.loop-past.past _ b m.1 m.2 (c.begins_page.ensures.0 c.if-begins_page.true); end = c.loop-past.invariant.end }

pub loop-past-smaller : goal.loop-past-smaller
loop-past-smaller c = let m = middle_of c.args.bytes.now c.loop-past.here c.loop-past.past c.loop-past.invariant.between c.loop-past.invariant.end (omega arith) in omega (arith, m.0, m.1)

pub loop-past-preserved : goal.loop-past-preserved
loop-past-preserved c =
    let b = c.loop-past.invariant.between in
    let m = middle_of c.args.bytes.now c.loop-past.here c.loop-past.past b c.loop-past.invariant.end (omega arith) in
    record {
      between = between_down c.args.bytes.now c.loop-past.here c.loop-past.past _ b m.0 m.1 (λ f. clash c.begins_page.result (c.begins_page.ensures.1 f) c.if-begins_page.false);
      end = omega (arith, m.2);
    }

pub overflow_cast-result : goal.overflow_cast-result
overflow_cast-result c = let order = c.loop-past.invariant.between.order in let top = c.loop-past.invariant.between.top in omega (arith, order, top)

pub returns-clause-longest : goal.returns-clause-longest
returns-clause-longest c = between_found c.args.bytes.now c.loop-past.here c.loop-past.past c.loop-past.invariant.between (omega arith)

pub returns-clause-within : goal.returns-clause-within
returns-clause-within c = c.loop-past.invariant.between.inside
