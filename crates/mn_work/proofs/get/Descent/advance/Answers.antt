use Rattle.std.proofs.Common.{List, ℕ, subst, sym}
use Rattle.mn_work.specs.Firsts.{GetFailsFirst}
use Rattle.mn_work.specs.Paths.{LeadsTo}
use Rattle.mn_work.proofs.get.Descent.advance.Goals as goal

pub returns-else-later-clause-path : goal.returns-else-later-clause-path
returns-else-later-clause-path c = λ leaf leads first.
    c.reach_kept.ensures.path leaf (subst (λ (k : List ℕ). LeadsTo c.args.known.now k c.args.self.now leaf) (sym c.as_slice.ensures.bytes) leads)

pub returns-else-later-clause-first : goal.returns-else-later-clause-first
returns-else-later-clause-first c = λ first.
    subst (λ (k : List ℕ). GetFailsFirst c.reach_kept.new.known k c.args.self.now c.reach_kept.new.self c.reach_kept.result) c.as_slice.ensures.bytes c.reach_kept.ensures.first
