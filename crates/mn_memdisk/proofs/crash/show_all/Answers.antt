use Rattle.std.proofs.Common.{rules, arith, ◌≡◌, ◌∙◌, ◌++◌, ◌∷◌, ◌+◌, ◌-◌, ap, ℕ, List, drop, get_or, subst, sym}
use Rattle.std.proofs.lemmas.List.{take_rest}
use Rattle.mn_memdisk.specs.Crash.{left}
use Rattle.mn_memdisk.specs.Events.{HavePieces, events_with}
use Rattle.mn_memdisk.specs.Held.{but_last, event_with, last, size_of}
use Rattle.mn_memdisk.specs.declared.changes.Change.TheVariants.{Wrote}
use Rattle.mn_memdisk.proofs.Replay.{left_next, there_next, told_next}
use Rattle.mn_memdisk.proofs.crash.show_all.Goals as goal

pub loop-number-preserved : goal.loop-number-preserved
loop-number-preserved c =
    let at = c.loop-number in
    let d = Wrote 0 0 0 0 in
    let change = get_or c.args.changes.now at.number d in
    let event = event_with change (last (size_of change) at.pieces.items) in
    let newer = drop (at.number + 1) c.args.changes.now in
    let there = there_next c.args.changes.now at.number d at.pieces.items c.loop-number-test.true at.invariant.there in
    let front : c.truncate.new.self.items ≡ but_last (size_of change) at.pieces.items = search rules in
    let end : drop (c.len.result - c.size.result) c.deref.result.now ≡ last (size_of change) at.pieces.items = search rules in
    let shown : c.show.new.image.items ≡ left c.pick.result event at.image.items =
    c.in_ok-show.ensures ∙ ap (λ (l : List ℕ). left c.pick.result (event_with change l) at.image.items) (take_rest c.deref.result.now (c.len.result - c.size.result) ∙ end) in
    record {
      there = subst (λ (l : List ℕ). HavePieces newer l) (sym front) there.1;
      so_far = λ first older before.
          let so_far = at.invariant.so_far first older before in (
            event ∷ so_far.0,
            left_next _ _ _ _ _ _ _ _ _ (c.requires.unsynced at.number d (omega arith) c.loop-number-test.true) so_far.1 c.pick.ensures shown,
            so_far.2 ∙ told_next _ _ d _ _ c.loop-number-test.true ∙ ap (λ (l : List ℕ). events_with newer l ++ event ∷ so_far.0) (sym front),
          );
    }
