use Rattle.std.proofs.Common.{◌+◌, ◌++◌, ◌∷◌, [], ℕ, List, arith, ◌∙◌, ap, length-append}
use Rattle.std.proofs.lemmas.Result.{on_ok_weaker}
use Rattle.mn_io.proofs.Moments.{LeavesOnly-weaker}
use Rattle.mn_redo.specs.Grammar.{behind_gate, records}
use Rattle.mn_redo.proofs.Append.{stage_torn, stage_done}
use Rattle.mn_redo.proofs.appender.half.Goals as goal

pub returns-clause-staged : goal.returns-clause-staged
returns-clause-staged g c h before bodies log is =
    on_ok_weaker c.change.result (λ done. stage_done before bodies c.args.body.now (c.args.gate + 1) _ _ _ log (omega (arith, is, length-append before (records bodies))) (c.deref.ensures.value ∙ c.stage.ensures.bytes ∙ ap (λ (l : List ℕ). l ++ (behind_gate c.args.body.now ++ 0 ∷ [])) c.clear.ensures.items) done) (c.change.ensures.written h)

pub returns-clause-any_moment : goal.returns-clause-any_moment
returns-clause-any_moment g c h before bodies log is =
    LeavesOnly-weaker _ _ _ _ (λ f torn. stage_torn before bodies c.args.body.now (c.args.gate + 1) _ f _ log (omega (arith, is, length-append before (records bodies))) torn) (c.change.ensures.any_moment h (c.requires.stable h))
