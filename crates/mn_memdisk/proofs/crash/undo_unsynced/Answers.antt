use Rattle.std.proofs.Common.{rules, arith}
use Rattle.std.proofs.lemmas.Grind.{common_steps}
use Rattle.mn_memdisk.specs.declared.changes.Change.TheVariants.{Wrote}
use Rattle.mn_memdisk.proofs.Replay.{back_next, bounded_before, newest_kept}
use Rattle.mn_memdisk.proofs.crash.undo_unsynced.Goals as goal

pub undo-requires-clause-bounded : goal.undo-requires-clause-bounded
undo-requires-clause-bounded c =
    let at = c.loop-stable in
    bounded_before _ _ _ (newest_kept c.args.changes.now at.stable (Wrote 0 0 0 0) at.held.held c.loop-stable-test.true at.invariant.within at.invariant.back.kept)

pub loop-stable-preserved : goal.loop-stable-preserved
loop-stable-preserved c =
    let at = c.loop-stable in
    record {
      within = omega arith;
      back = back_next _ _ (Wrote 0 0 0 0) _ _ _ _ _ c.loop-stable-test.true at.invariant.within at.invariant.back (search rules) c.undo.ensures;
      unsynced = grind (arith, common_steps);
    }
