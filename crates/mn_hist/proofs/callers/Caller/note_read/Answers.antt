use Rattle.std.proofs.Common.{ℕ, List, Option, ap, reverse, sym, ◌∙◌}
use Rattle.std.specs.Option.{option_map}
use Rattle.mn_runs.specs.Seen.{seen_at}
use Rattle.mn_hist.specs.History.{CallerState, Noting, notes_in, with_seen}
use Rattle.mn_hist.specs.Plans.{begun_of}
use Rattle.mn_hist.proofs.Notings.{catalog_same, noted_pushed}
use Rattle.mn_hist.proofs.Putting.{on_ok}
use Rattle.mn_hist.proofs.callers.Caller.note_read.Goals as goal

pub returns-then-is_at_catalog : goal.returns-then-is_at_catalog
returns-then-is_at_catalog c = on_ok c.note_catalog.result c.note_catalog.ensures (λ is.
    is ∙ (noted_pushed c.self.inside.notes.items c.push.new.self.items _ c.args.place c.args.entry.now (option_map begun_of c.self.inside.begun) (option_map (λ b. b.value) c.self.inside.catalog)
    c.in_ok-push.ensures.items (ap (λ (o : Option (List ℕ)). let n : Noting = record { place = c.args.place; seens = seen_at c.args.entry.now; catalog = o } in n) c.in_ok-catalog.ensures)
    ∙ ap (with_seen c.args.place (seen_at c.args.entry.now)) c.self.view_is))

pub returns : goal.returns
returns c =
    let pushed : CallerState = record { begun = option_map begun_of c.self.inside.begun; notes = notes_in (reverse c.push.new.self.items); catalog = option_map (λ b. b.value) c.self.inside.catalog } in
    sym (catalog_same (seen_at c.args.entry.now) pushed (c.is_at_catalog.ensures c.if-is_at_catalog.false))
    ∙ (noted_pushed c.self.inside.notes.items c.push.new.self.items _ c.args.place c.args.entry.now (option_map begun_of c.self.inside.begun) (option_map (λ b. b.value) c.self.inside.catalog)
    c.in_ok-push.ensures.items (ap (λ (o : Option (List ℕ)). let n : Noting = record { place = c.args.place; seens = seen_at c.args.entry.now; catalog = o } in n) c.in_ok-catalog.ensures)
    ∙ ap (with_seen c.args.place (seen_at c.args.entry.now)) c.self.view_is)
