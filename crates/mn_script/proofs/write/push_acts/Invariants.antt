use Rattle.std.proofs.Common.{◌≡◌, ◌++◌, drop}
use Rattle.std.specs.Prelude.{flat_map}
use Rattle.mn_script.specs.Grammar.{line, act_text}
use Rattle.mn_script.proofs.write.push_acts.Given as goal

-- the text so far, and that of the rest
abbrev pub invariant-loop-act : goal.invariant-loop-act
invariant-loop-act l = l.out.items ++ flat_map (λ a. line (act_text l.clients a)) (drop l.act-index l.acts) ≡ l.fn.out.items ++ flat_map (λ a. line (act_text l.clients a)) l.acts
