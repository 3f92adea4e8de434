use Rattle.std.proofs.Common.{ap, subst, sym, ◌∙◌}
use Rattle.std.specs.List.{AllByRecursion}
use Rattle.std.specs.Option.{option_map}
use Rattle.mn_runs.specs.Seen.{Seen}
use Rattle.mn_hist.specs.History.{Noting, TellsNoteShows}
use Rattle.mn_hist.specs.Shown.{IsUnshownBy, as_seen}
use Rattle.mn_hist.proofs.Joining.{on_found}
use Rattle.mn_hist.proofs.Notings.{told_shows}
use Rattle.mn_hist.proofs.callers.note_shows.Goals as goal

pub returns-in-Some : goal.returns-in-Some
returns-in-Some c = on_found {Q = λ b. TellsNoteShows b c.args.note.now c.args.op.now c.args.reply.now} c.shows.result c.shows.ensures (λ b shown.
    told_shows b c.args.note.now (option_map (λ x. x.now) c.lent.result) (as_seen c.in-Some.read) c.args.op.now c.args.reply.now
    (sym (ap (λ (n : Noting). n.seens) c.note.view_is) ∙ sym c.in-Some.ensures)
    (sym (ap (λ (n : Noting). n.catalog) c.note.view_is) ∙ sym c.lent.ensures) shown)

pub returns-in-None : goal.returns-in-None
returns-in-None c =
    let seens = λ (n : Noting). AllByRecursion (λ (s : Seen). IsUnshownBy n.catalog s c.args.op.now c.args.reply.now) n.seens in
    subst seens c.note.view_is (subst (AllByRecursion (λ (s : Seen). IsUnshownBy (option_map (λ x. x.value) c.note.inside.catalog) s c.args.op.now c.args.reply.now)) c.in-None.ensures tt)
