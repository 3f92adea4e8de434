use Rattle.std.proofs.Common.{◌≡◌, ℕ, List, Option, ◌+◌, ◌-◌, ◌<◌, true, ap, subst, arith, take, drop, reverse}
use Rattle.std.specs.List.{AllByRecursion}
use Rattle.mn_node.proofs.Built.{all-reverse}
use Rattle.mn_runs.specs.Seen.{Seen}
use Rattle.mn_hist.specs.History.{Noting, TellsNoteShows, notes_in}
use Rattle.mn_hist.specs.Shown.{IsUnshownBy}
use Rattle.mn_hist.proofs.Loops.{all_drop, drop_whole}
use Rattle.mn_hist.proofs.Notings.{all_noted, notes_at}
use Rattle.mn_hist.proofs.callers.last_shown.Goals as goal

back : (n : ℕ) → 0 < n → n ≡ n - 1 + 1
back n lt = omega (arith, lt)

pub loop-left-init : goal.loop-left-init
loop-left-init c = record {
  within = omega arith;
  none = drop_whole (λ (n : Noting). AllByRecursion (λ (s : Seen). IsUnshownBy n.catalog s c.args.op.now c.args.reply.now) n.seens) c.args.notes.now;
}

pub bounds-notes-left : goal.bounds-notes-left
bounds-notes-left c = let within = c.loop-left.invariant.within in omega (arith, within)

pub returns-then-branch : goal.returns-then-branch
returns-then-branch c =
    let within = c.loop-left.invariant.within in
    let unshown = λ (o : Option (List ℕ)) (s : Seen). IsUnshownBy o s c.args.op.now c.args.reply.now in
    let told : TellsNoteShows true c.index-notes-left.result c.args.op.now c.args.reply.now = subst (λ b. TellsNoteShows b c.index-notes-left.result c.args.op.now c.args.reply.now) c.if-branch.true c.in_ok-note_shows.ensures in
    record {
      newer = notes_in (reverse (drop (c.loop-left.left - 1 + 1) c.args.notes.now));
      note = record { place = c.index-notes-left.result.place; seen = told.0; catalog = c.index-notes-left.result.catalog };
      older = notes_in (reverse (take (c.loop-left.left - 1) c.args.notes.now));
      split = notes_at c.args.notes.now (c.loop-left.left - 1) c.index-notes-left.result told.0 (omega (arith, within)) c.index-notes-left.is told.1;
      is_place = ap (λ (n : Noting). n.place) c.note.view_is;
      shown = told.2;
      none = all_noted unshown (reverse (drop (c.loop-left.left - 1 + 1) c.args.notes.now))
          (all-reverse (λ (n : Noting). AllByRecursion (unshown n.catalog) n.seens) (drop (c.loop-left.left - 1 + 1) c.args.notes.now) (subst (λ k. AllByRecursion (λ (n : Noting). AllByRecursion (unshown n.catalog) n.seens) (drop k c.args.notes.now)) (back c.loop-left.left c.loop-left-test.true) c.loop-left.invariant.none));
    }

pub loop-left-preserved : goal.loop-left-preserved
loop-left-preserved c =
    let within = c.loop-left.invariant.within in
    let unshown = λ (o : Option (List ℕ)) (s : Seen). IsUnshownBy o s c.args.op.now c.args.reply.now in
    record {
      within = omega (arith, within);
      none = all_drop (λ (n : Noting). AllByRecursion (unshown n.catalog) n.seens) c.args.notes.now (c.loop-left.left - 1) c.index-notes-left.result (omega (arith, within)) c.index-notes-left.is
          (subst (λ k. AllByRecursion (λ (n : Noting). AllByRecursion (unshown n.catalog) n.seens) (drop k c.args.notes.now)) (back c.loop-left.left c.loop-left-test.true) c.loop-left.invariant.none)
          (subst (λ b. TellsNoteShows b c.index-notes-left.result c.args.op.now c.args.reply.now) c.if-branch.false c.in_ok-note_shows.ensures);
    }

pub returns : goal.returns
returns c =
    let unshown = λ (o : Option (List ℕ)) (s : Seen). IsUnshownBy o s c.args.op.now c.args.reply.now in
    let none : c.loop-left.left ≡ 0 = omega (arith, c.loop-left-test.false) in
    all_noted unshown (reverse c.args.notes.now)
    (all-reverse (λ (n : Noting). AllByRecursion (unshown n.catalog) n.seens) c.args.notes.now (subst (λ k. AllByRecursion (λ (n : Noting). AllByRecursion (unshown n.catalog) n.seens) (drop k c.args.notes.now)) none c.loop-left.invariant.none))
