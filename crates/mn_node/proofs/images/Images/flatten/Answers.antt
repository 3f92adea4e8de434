use Rattle.std.proofs.Common.{◌≡◌, ◌≢◌, ◌≤◌, ◌<◌, ◌+◌, ◌/◌, ◌⊎◌, inl, inr, ℕ, None, get_or, refl, ap, ◌∙◌, arith}
use Rattle.std.proofs.lemmas.Bool.{cases_eq}
use Rattle.std.proofs.lemmas.Grind.{div_ceil_times}
use Rattle.mn_node.specs.Images.{block_size}
use Rattle.mn_node.proofs.Blocks.{free_apart}
use Rattle.mn_node.proofs.images.Images.flatten.Goals as goal

pub loop-block-init : goal.loop-block-init
loop-block-init c = record {
  same = refl;
  gone = λ other from to. absurd (omega (arith, from, to));
  sized = c.requires.sized;
  short = c.requires.short;
  room = c.requires.room;
}

pub flatten_block-requires-clause-short : goal.flatten_block-requires-clause-short
flatten_block-requires-clause-short c = c.loop-block.invariant.short

pub flatten_block-requires-clause-room : goal.flatten_block-requires-clause-room
flatten_block-requires-clause-room c = c.loop-block.invariant.room

pub loop-block-preserved : goal.loop-block-preserved
loop-block-preserved c = record {
  same = c.flatten_block.ensures.same ∙ c.loop-block.invariant.same;
  gone = λ other from to. by other from to (cases_eq other c.loop-block.block);
  sized = c.flatten_block.ensures.sized;
  short = c.flatten_block.ensures.short;
  room = c.flatten_block.ensures.room;
}
  where
    by : (other : ℕ) → c.args.start / block_size ≤ other → other < c.loop-block.block + 1 → (other ≡ c.loop-block.block) ⊎ (other ≢ c.loop-block.block) → get_or c.flatten_block.new.self other None ≡ None
    by other from to (inl this) = ap (λ (n : ℕ). get_or c.flatten_block.new.self n None) this ∙ c.flatten_block.ensures.gone
    by other from to (inr else) = c.flatten_block.ensures.others other else ∙ c.loop-block.invariant.gone other from (omega (arith, to, else))

pub returns-clause-same : goal.returns-clause-same
returns-clause-same c = c.loop-block.invariant.same

pub returns-clause-apart : goal.returns-clause-apart
returns-clause-apart c =
    free_apart c.loop-block.self c.args.start c.args.length (c.args.start / block_size) c.loop-block.block c.loop-block.invariant.gone (omega arith)
    (omega (arith, c.loop-block-test.false, c.div_ceil-end.ensures, div_ceil_times (c.args.start + c.args.length) block_size (omega arith)))

pub returns-clause-sized : goal.returns-clause-sized
returns-clause-sized c = c.loop-block.invariant.sized

pub flatten_block-requires-clause-sized : goal.flatten_block-requires-clause-sized
flatten_block-requires-clause-sized c = c.loop-block.invariant.sized

pub returns-clause-short : goal.returns-clause-short
returns-clause-short c = c.loop-block.invariant.short

pub returns-clause-room : goal.returns-clause-room
returns-clause-room c = c.loop-block.invariant.room
