use Rattle.mn_cache.proofs.Kept.{none_kept}
use Rattle.mn_cache.proofs.cache.Cache.new.Goals as goal

pub invariant_of-result : goal.invariant_of-result
invariant_of-result c = rw c.in_ok-new.ensures (rw c.unwrap-most.ensures at c.new.ensures, none_kept, tt)
