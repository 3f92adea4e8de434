-- Ids and votes are told apart by what they are looked up by just as by their tests.
use Rattle.std.proofs.Common.{◌≡◌, Bool, true, false, cond, ◌&&◌, ◌||◌, refl, ap}
use Rattle.mn_base.specs.Ids.{tid_same, node_same}
use Rattle.mn_base.specs.declared.ids.NodeNo.{NodeNo}
use Rattle.mn_base.specs.declared.ids.Tid.{Tid}
use Rattle.mn_base.proofs.Naturals.{eq_turned}
use Rattle.mn_commits.specs.Standing.{vote_key, votes_same}

pub vote_order : (t u : Tid) (n m : NodeNo) → votes_same (vote_key t n) (vote_key u m) ≡ (tid_same t u && node_same m n)
vote_order t u n m = ap (λ b. tid_same t u && b) (eq_turned n.0 m.0)

pub cond_or : (a b : Bool) → cond a true b ≡ (a || b)
cond_or true b = refl
cond_or false b = refl
