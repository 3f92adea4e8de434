use Rattle.std.proofs.Common.{sym, ◌∙◌, arith}
use Rattle.mn_work.proofs.Bodies.{ends, goes_on, inner_counts, is_inner, stops}
use Rattle.mn_work.proofs.causes.child_in.Goals as goal

pub key-requires : goal.key-requires
key-requires c =
    let body = c.args.page.now.body in
    let inner = is_inner c.args.page.now c.requires.page c.requires.inner in
    let counts = inner_counts body inner.0 inner.1 inner.2 inner.3 in
    let keys = counts.0 in
    let last = c.count-last.ensures in
    let low = c.loop-i-test.true in
    omega arith

pub returns-then-key_precedes : goal.returns-then-key_precedes
returns-then-key_precedes c =
    stops c.args.key.now c.args.page.now.body c.loop-i.i c.loop-i.found c.key.result.now c.loop-i.invariant c.key.ensures
    (sym c.key_precedes.ensures ∙ c.if-key_precedes.true)

pub child-found-requires-in-loop-i : goal.child-found-requires-in-loop-i
child-found-requires-in-loop-i c =
    let body = c.args.page.now.body in
    let inner = is_inner c.args.page.now c.requires.page c.requires.inner in
    let counts = inner_counts body inner.0 inner.1 inner.2 inner.3 in
    let addrs = counts.1 in
    let last = c.count-last.ensures in
    let low = c.loop-i-test.true in
    omega arith

pub loop-i-preserved : goal.loop-i-preserved
loop-i-preserved c =
    goes_on c.args.key.now c.args.page.now.body c.loop-i.i c.loop-i.found c.child-found-in-loop-i.result c.key.result.now c.loop-i.invariant c.key.ensures
    (sym c.key_precedes.ensures ∙ c.if-key_precedes.false) c.child-found-in-loop-i.ensures

pub returns : goal.returns
returns c =
    let last = c.count-last.ensures in
    let over = c.loop-i-test.false in
    ends c.args.key.now c.args.page.now.body c.loop-i.i c.loop-i.found c.loop-i.invariant (omega arith)
