use Rattle.std.proofs.Common.{ℕ, List, Option, refl, subst}
use Rattle.mn_work.specs.Attempts.{IsBegun}
use Rattle.mn_work.proofs.work.Work.begin_steps.Goals as goal

pub returns-clause-begins : goal.returns-clause-begins
returns-clause-begins c = (
  c.in_ok-attempt.attempt,
  refl,
  subst (λ (tree : List (Option ℕ)). IsBegun tree c.args.version c.args.root c.in_ok-attempt.attempt) c.in_ok-tree.ensures c.in_ok-attempt.ensures,
)
