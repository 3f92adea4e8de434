use Rattle.std.proofs.Common.{refl}
use Rattle.std.proofs.Math.Nat.{mod-add-mod}
use Rattle.mn_gen.specs.Draws.{next_state, drawn}
use Rattle.mn_gen.proofs.draws.draw.Goals as goal

pub returns-clause-state : goal.returns-clause-state
unfolding next_state
returns-clause-state c = mod-add-mod _ 18446744073709551616 1442695040888963407

pub returns-clause-drawn : goal.returns-clause-drawn
unfolding drawn
returns-clause-drawn c = refl
