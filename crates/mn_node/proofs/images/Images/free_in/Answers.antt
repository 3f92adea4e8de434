use Rattle.std.proofs.Common.{◌≡◌, ◌≢◌, ◌≤◌, ◌<◌, ◌+◌, ◌*◌, ◌-◌, ◌/◌, ◌⊎◌, inl, inr, ℕ, false, Option, Some, None, get_or, ap, sym, ◌∙◌, arith, rules}
use Rattle.std.specs.Prelude.{IsNone}
use Rattle.std.specs.Option.{is_some}
use Rattle.std.proofs.lemmas.Bool.{cases_eq}
use Rattle.mn_node.specs.Images.{block_size}
use Rattle.mn_node.proofs.Blocks.{free_apart}
use Rattle.mn_node.proofs.images.Images.free_in.Goals as goal

pub loop-block-init : goal.loop-block-init
loop-block-init c = record {
  from = omega arith;
  near = omega arith;
  free = λ other from to. let first : other ≡ c.args.start / block_size = omega (arith, from, to) in ap (λ (n : ℕ). get_or c.args.self.now n None) first ∙ c.requires.first;
}

pub overflow_mul-block : goal.overflow_mul-block
overflow_mul-block c = omega arith

pub overflow_sub-result : goal.overflow_sub-result
overflow_sub-result c = omega arith

pub returns-then-is_some-clause-apart : goal.returns-then-is_some-clause-apart
returns-then-is_some-clause-apart c =
    free_apart c.args.self.now c.args.start (c.loop-block.block * 1024 - c.args.start) (c.args.start / block_size) c.loop-block.block c.loop-block.invariant.free (omega arith) (omega arith)

pub returns-then-is_some-clause-more : goal.returns-then-is_some-clause-more
returns-then-is_some-clause-more c some = omega arith

pub loop-block-smaller : goal.loop-block-smaller
loop-block-smaller c = omega arith

is_none : {A : Type 0} (o : Option A) → is_some o ≡ false → IsNone o
is_none None e = search rules
is_none (Some x) e = absurd cc

pub loop-block-preserved : goal.loop-block-preserved
loop-block-preserved c = record {
  from = omega arith;
  near = omega arith;
  free = λ other from to. by other from to (cases_eq other c.loop-block.block);
}
  where
    by : (other : ℕ) → c.args.start / block_size ≤ other → other < c.loop-block.block + 1 → (other ≡ c.loop-block.block) ⊎ (other ≢ c.loop-block.block) → get_or c.args.self.now other None ≡ None
    by other from to (inl this) = ap (λ (n : ℕ). get_or c.args.self.now n None) this ∙ c.at.ensures.none (is_none c.at.result (sym c.is_some.ensures ∙ c.if-is_some.false))
    by other from to (inr else) = c.loop-block.invariant.free other from (omega (arith, to, else))

pub returns-clause-apart : goal.returns-clause-apart
returns-clause-apart c =
    free_apart c.args.self.now c.args.start c.args.length (c.args.start / block_size) c.loop-block.block c.loop-block.invariant.free (omega arith) (omega arith)
