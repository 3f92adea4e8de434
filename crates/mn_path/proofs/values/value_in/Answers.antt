use Rattle.std.proofs.Common.{sym, ◌∙◌, arith}
use Rattle.mn_path.proofs.Pairs.{has_none, has_other, has_value, is_leaf, leaf_counts}
use Rattle.mn_path.proofs.values.value_in.Goals as goal

pub key-requires : goal.key-requires
key-requires c =
    let leaf = is_leaf c.args.leaf.now c.requires.page c.requires.leaf in
    let counts = leaf_counts c.args.leaf.now.body leaf.0 leaf.1 in
    let keys = counts.0 in
    let all = c.count-i-end.ensures in
    let low = c.loop-i-test.true in
    omega arith

pub value-requires : goal.value-requires
value-requires c =
    let leaf = is_leaf c.args.leaf.now c.requires.page c.requires.leaf in
    let counts = leaf_counts c.args.leaf.now.body leaf.0 leaf.1 in
    let values = counts.1 in
    let all = c.count-i-end.ensures in
    let low = c.loop-i-test.true in
    omega arith

pub returns-then-eq : goal.returns-then-eq
returns-then-eq c =
    has_value c.args.key.now c.args.leaf.now.body c.loop-i.i c.key.result.now c.value.result.now c.requires.leaf c.loop-i.invariant c.key.ensures (sym c.eq.ensures ∙ c.if-eq.true) c.value.ensures

pub loop-i-preserved : goal.loop-i-preserved
loop-i-preserved c =
    has_other c.args.key.now c.args.leaf.now.body c.loop-i.i c.key.result.now c.requires.leaf c.loop-i.invariant c.key.ensures (sym c.eq.ensures ∙ c.if-eq.false)

pub returns : goal.returns
returns c =
    let all = c.count-i-end.ensures in
    let over = c.loop-i-test.false in
    has_none c.args.key.now c.args.leaf.now.body c.loop-i.i c.requires.leaf c.loop-i.invariant (omega arith)
