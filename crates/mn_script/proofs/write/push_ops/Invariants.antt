use Rattle.std.proofs.Common.{◌≡◌, ◌++◌, drop}
use Rattle.std.specs.Prelude.{flat_map}
use Rattle.mn_script.specs.Grammar.{line, op_text}
use Rattle.mn_script.proofs.write.push_ops.Given as goal

-- the text so far, and that of the rest
abbrev pub invariant-loop-op : goal.invariant-loop-op
invariant-loop-op l = l.out.items ++ flat_map (λ op. line (op_text op)) (drop l.op-index l.ops) ≡ l.fn.out.items ++ flat_map (λ op. line (op_text op)) l.ops
