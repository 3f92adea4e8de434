use Rattle.std.proofs.Common.{◌≡◌, ℕ, List, Option, ◌+◌, ◌∷◌, [], true, false, ap, sym, subst, ◌∙◌, take, drop, reverse}
use Rattle.std.specs.List.{AllByRecursion}
use Rattle.std.proofs.lemmas.List.{take_all}
use Rattle.mn_node.proofs.Built.{all-reverse}
use Rattle.mn_runs.specs.Seen.{Seen, seen_at}
use Rattle.mn_hist.specs.History.{Noting, TellsCatalogRead, notes_in}
use Rattle.mn_hist.specs.Shown.{is_of_catalog}
use Rattle.mn_hist.proofs.Loops.{all_take}
use Rattle.mn_hist.proofs.Notings.{all_noted, notes_at}
use Rattle.mn_hist.proofs.callers.first_catalog.Goals as goal

pub loop-note-preserved : goal.loop-note-preserved
loop-note-preserved c =
    all_take (λ (n : Noting). AllByRecursion (λ (s : Seen). is_of_catalog s ≡ false) n.seens) c.args.notes.now c.loop-note.note-index c.note-item.result c.loop-note-test.true c.note-item.is c.loop-note.invariant
    (subst (λ (n : Noting). AllByRecursion (λ (s : Seen). is_of_catalog s ≡ false) n.seens) c.note.view_is (subst (λ b. TellsCatalogRead b (seen_at c.note.inside.entry.now)) c.if-reads_catalog.false c.reads_catalog.ensures))

pub returns-then-reads_catalog : goal.returns-then-reads_catalog
returns-then-reads_catalog c =
    let told : TellsCatalogRead true (seen_at c.note.inside.entry.now) = subst (λ b. TellsCatalogRead b (seen_at c.note.inside.entry.now)) c.if-reads_catalog.true c.reads_catalog.ensures in
    let one : c.note-item.result.seens ≡ told.0 ∷ [] = sym (ap (λ (n : Noting). n.seens) c.note.view_is) ∙ told.1 in
    record {
      newer = notes_in (reverse (drop (c.loop-note.note-index + 1) c.args.notes.now));
      note = record { place = c.note-item.result.place; seen = told.0; catalog = c.note-item.result.catalog };
      older = notes_in (reverse (take c.loop-note.note-index c.args.notes.now));
      split = notes_at c.args.notes.now c.loop-note.note-index c.note-item.result told.0 c.loop-note-test.true c.note-item.is one;
      is_place = ap (λ (n : Noting). n.place) c.note.view_is;
      catalog = told.2;
      none = all_noted (λ (o : Option (List ℕ)) (s : Seen). is_of_catalog s ≡ false) (reverse (take c.loop-note.note-index c.args.notes.now))
          (all-reverse (λ (n : Noting). AllByRecursion (λ (s : Seen). is_of_catalog s ≡ false) n.seens) (take c.loop-note.note-index c.args.notes.now) c.loop-note.invariant);
    }

pub returns : goal.returns
returns c =
    all_noted (λ (o : Option (List ℕ)) (s : Seen). is_of_catalog s ≡ false) (reverse c.args.notes.now)
    (all-reverse (λ (n : Noting). AllByRecursion (λ (s : Seen). is_of_catalog s ≡ false) n.seens) c.args.notes.now
    (subst (AllByRecursion (λ (n : Noting). AllByRecursion (λ (s : Seen). is_of_catalog s ≡ false) n.seens)) (take_all c.loop-note.note-index c.args.notes.now c.loop-note-test.false) c.loop-note.invariant))
