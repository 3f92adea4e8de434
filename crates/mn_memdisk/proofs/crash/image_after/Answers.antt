use Rattle.std.proofs.Common.{◌∙◌, ◌++◌, List, ap, reverse, sym, take}
use Rattle.std.proofs.lemmas.List.{take_rest}
use Rattle.mn_memdisk.proofs.Replay.{left_at}
use Rattle.mn_memdisk.specs.Crash.{crashed}
use Rattle.mn_memdisk.specs.Events.{events_of, first_of, events_with}
use Rattle.mn_memdisk.specs.declared.changes.Change.{Change}
use Rattle.mn_memdisk.proofs.crash.image_after.Goals as goal

pub returns : goal.returns
returns c =
    let stable = c.in_ok-stable in
    let changes = c.args.changes.now in
    let back = stable.ensures.back in
    let older = reverse (take stable.stable changes) in
    let held = c.undo_unsynced.new.held.held in
    let left = left_at c.args.choice stable.stable changes held stable.ensures.within stable.ensures.synced back.kept in
    c.in_ok-show_all.ensures (first_of older held) (events_of older held) (rw c.into_content-image.ensures left)
    ∙ ap (λ (l : List Change). crashed c.args.choice (first_of older held) (events_with l c.undo_unsynced.new.pieces.items ++ events_of older held)) (take_rest changes stable.stable)
    ∙ (λ k. crashed c.args.choice (sym back.first k) (sym back.events k))
