use Rattle.std.proofs.Common.{◌≡◌, ◌∙◌, ◌++◌, ◌∷◌, [], ℕ, List, Option, length, refl, ap, sym, subst}
use Rattle.mn_io.specs.DiskModel.{LeavesOnly}
use Rattle.mn_redo.specs.Appender.{IsLogOf}
use Rattle.mn_redo.specs.Grammar.{Stands}
use Rattle.mn_redo.specs.Redo.{StandsFor}
use Rattle.mn_mini.specs.declared.record.Record.{Record}
use Rattle.mn_node.specs.Node.{added_to, bodies_of, listed, on_disk}
use Rattle.mn_node.specs.Restart.{RestartLeaves}
use Rattle.mn_node.specs.State.{is_longer, list_of}
use Rattle.mn_node.specs.declared.restart.Found.{Found}
use Rattle.mn_node.specs.declared.restart.Found.TheVariants.{Longer}
use Rattle.mn_node.proofs.Found.{first_sound}
use Rattle.mn_node.proofs.Listed.{listed_all}
use Rattle.mn_node.proofs.Restarts.{always_ok, pushed_list, then_ok}
use Rattle.mn_node.proofs.Steps.{same_on_disk}
use Rattle.mn_node.proofs.restart.wake_found.Goals as goal

pub wake-requires-clause-log : goal.wake-requires-clause-log
wake-requires-clause-log g c =
    let old = c.args.redo.now in
    let m = c.args.memory.now in
    let same = ap (λ (f : Found). list_of m c.args.pending.now f) (sym c.in-Own.is) in
    subst (λ (l : List Record). IsLogOf g.D.Disk.state old (bodies_of l)) (sym same) c.requires.log

pub wake-requires-clause-stands : goal.wake-requires-clause-stands
wake-requires-clause-stands g c =
    let old = c.args.redo.now in
    let m = c.args.memory.now in
    let same = ap (λ (f : Found). list_of m c.args.pending.now f) (sym c.in-Own.is) in
    subst (λ (l : List Record). (g.D.Disk.state old.disk).honest → StandsFor (g.D.Disk.state old.disk) old.node old.nodes (bodies_of l)) (sym same) c.requires.stands

pub wake-requires-clause-sound : goal.wake-requires-clause-sound
wake-requires-clause-sound g c = first_sound c.args.memory.now.records.items c.args.pending.now c.requires.sound

pub returns-in-Own-clause-stands : goal.returns-in-Own-clause-stands
returns-in-Own-clause-stands g c =
    let old = c.args.redo.now in
    let m = c.args.memory.now in
    let same = ap (λ (f : Found). list_of m c.args.pending.now f) (sym c.in-Own.is) in
    let disk = g.D.Disk.state c.wake.new.redo.disk in
    subst (λ (l : List Record). disk.honest → StandsFor disk old.node old.nodes (bodies_of l)) same c.wake.ensures.stands

pub returns-in-Own-clause-moments : goal.returns-in-Own-clause-moments
returns-in-Own-clause-moments g c honest =
    let old = c.args.redo.now in
    let m = c.args.memory.now in
    let same = ap (λ (f : Found). list_of m c.args.pending.now f) (sym c.in-Own.is) in
    let disk = g.D.Disk.state c.wake.new.redo.disk in
    subst (λ (l : List Record). LeavesOnly (g.D.Disk.state old.disk) disk (λ content. Stands old.node old.nodes content (bodies_of l))) same (c.wake.ensures.moments honest)

pub returns-in-Own-clause-records : goal.returns-in-Own-clause-records
returns-in-Own-clause-records g c =
    let m = c.args.memory.now in
    let new = c.wake.new.memory in
    always_ok c.wake.result _ (subst (λ (f : Found). RestartLeaves m.records.items c.args.pending.now new.records.items (is_longer f)) (sym c.in-Own.is) c.wake.ensures.records)

pub returns-in-Own-clause-list : goal.returns-in-Own-clause-list
returns-in-Own-clause-list g c =
    let old = c.args.redo.now in
    let m = c.args.memory.now in
    let same = ap (λ (f : Found). list_of m c.args.pending.now f) (sym c.in-Own.is) in
    let new = c.wake.new.memory in
    always_ok c.wake.result _ (same_on_disk m new c.wake.ensures.records c.wake.ensures.cut ∙ same)

pub wake_shortened-requires-clause-log : goal.wake_shortened-requires-clause-log
wake_shortened-requires-clause-log g c =
    let old = c.args.redo.now in
    let m = c.args.memory.now in
    let same = ap (λ (f : Found). list_of m c.args.pending.now f) (sym c.in-AllShortened.is) in
    subst (λ (l : List Record). IsLogOf g.D.Disk.state old (bodies_of l)) (sym same) c.requires.log

pub wake_shortened-requires-clause-stands : goal.wake_shortened-requires-clause-stands
wake_shortened-requires-clause-stands g c =
    let old = c.args.redo.now in
    let m = c.args.memory.now in
    let same = ap (λ (f : Found). list_of m c.args.pending.now f) (sym c.in-AllShortened.is) in
    subst (λ (l : List Record). (g.D.Disk.state old.disk).honest → StandsFor (g.D.Disk.state old.disk) old.node old.nodes (bodies_of l)) (sym same) c.requires.stands

pub wake_shortened-requires-clause-sound : goal.wake_shortened-requires-clause-sound
wake_shortened-requires-clause-sound g c = first_sound c.args.memory.now.records.items c.args.pending.now c.requires.sound

pub returns-in-AllShortened-clause-stands : goal.returns-in-AllShortened-clause-stands
returns-in-AllShortened-clause-stands g c =
    let old = c.args.redo.now in
    let m = c.args.memory.now in
    let same = ap (λ (f : Found). list_of m c.args.pending.now f) (sym c.in-AllShortened.is) in
    let disk = g.D.Disk.state c.wake_shortened.new.redo.disk in
    subst (λ (l : List Record). disk.honest → StandsFor disk old.node old.nodes (bodies_of l)) same c.wake_shortened.ensures.stands

pub returns-in-AllShortened-clause-moments : goal.returns-in-AllShortened-clause-moments
returns-in-AllShortened-clause-moments g c honest =
    let old = c.args.redo.now in
    let m = c.args.memory.now in
    let same = ap (λ (f : Found). list_of m c.args.pending.now f) (sym c.in-AllShortened.is) in
    let disk = g.D.Disk.state c.wake_shortened.new.redo.disk in
    subst (λ (l : List Record). LeavesOnly (g.D.Disk.state old.disk) disk (λ content. Stands old.node old.nodes content (bodies_of l))) same (c.wake_shortened.ensures.moments honest)

pub returns-in-AllShortened-clause-records : goal.returns-in-AllShortened-clause-records
returns-in-AllShortened-clause-records g c =
    let m = c.args.memory.now in
    let new = c.wake_shortened.new.memory in
    always_ok c.wake_shortened.result _ (subst (λ (f : Found). RestartLeaves m.records.items c.args.pending.now new.records.items (is_longer f)) (sym c.in-AllShortened.is) c.wake_shortened.ensures.records)

pub returns-in-AllShortened-clause-list : goal.returns-in-AllShortened-clause-list
returns-in-AllShortened-clause-list g c =
    let old = c.args.redo.now in
    let m = c.args.memory.now in
    let same = ap (λ (f : Found). list_of m c.args.pending.now f) (sym c.in-AllShortened.is) in
    let new = c.wake_shortened.new.memory in
    then_ok c.wake_shortened.result (new.cut ≡ length m.records.items) _
    (λ cut. ap (λ (n : ℕ). listed n new.records.items) cut ∙ ap (λ (l : List Record). listed (length m.records.items) l) c.wake_shortened.ensures.records ∙ listed_all m.records.items ∙ same) c.wake_shortened.ensures.cut

pub wake_with-requires-clause-log : goal.wake_with-requires-clause-log
wake_with-requires-clause-log g c =
    let old = c.args.redo.now in
    let m = c.args.memory.now in
    let same : on_disk m ++ c.in-Some.left ∷ [] ≡ list_of m c.args.pending.now c.args.found =
    ap (λ (p : Option Record). added_to (on_disk m) p) (sym c.in-Some.is) ∙ ap (λ (f : Found). list_of m c.args.pending.now f) (sym c.in-Longer.is) in
    subst (λ (l : List Record). IsLogOf g.D.Disk.state old (bodies_of l)) (sym same) c.requires.log

pub wake_with-requires-clause-stands : goal.wake_with-requires-clause-stands
wake_with-requires-clause-stands g c =
    let old = c.args.redo.now in
    let m = c.args.memory.now in
    let same : on_disk m ++ c.in-Some.left ∷ [] ≡ list_of m c.args.pending.now c.args.found =
    ap (λ (p : Option Record). added_to (on_disk m) p) (sym c.in-Some.is) ∙ ap (λ (f : Found). list_of m c.args.pending.now f) (sym c.in-Longer.is) in
    subst (λ (l : List Record). (g.D.Disk.state old.disk).honest → StandsFor (g.D.Disk.state old.disk) old.node old.nodes (bodies_of l)) (sym same) c.requires.stands

pub returns-in-Some-clause-stands : goal.returns-in-Some-clause-stands
returns-in-Some-clause-stands g c =
    let old = c.args.redo.now in
    let m = c.args.memory.now in
    let same : on_disk m ++ c.in-Some.left ∷ [] ≡ list_of m c.args.pending.now c.args.found =
    ap (λ (p : Option Record). added_to (on_disk m) p) (sym c.in-Some.is) ∙ ap (λ (f : Found). list_of m c.args.pending.now f) (sym c.in-Longer.is) in
    let disk = g.D.Disk.state c.wake_with.new.redo.disk in
    subst (λ (l : List Record). disk.honest → StandsFor disk old.node old.nodes (bodies_of l)) same c.wake_with.ensures.stands

pub returns-in-Some-clause-moments : goal.returns-in-Some-clause-moments
returns-in-Some-clause-moments g c honest =
    let old = c.args.redo.now in
    let m = c.args.memory.now in
    let same : on_disk m ++ c.in-Some.left ∷ [] ≡ list_of m c.args.pending.now c.args.found =
    ap (λ (p : Option Record). added_to (on_disk m) p) (sym c.in-Some.is) ∙ ap (λ (f : Found). list_of m c.args.pending.now f) (sym c.in-Longer.is) in
    let disk = g.D.Disk.state c.wake_with.new.redo.disk in
    subst (λ (l : List Record). LeavesOnly (g.D.Disk.state old.disk) disk (λ content. Stands old.node old.nodes content (bodies_of l))) same (c.wake_with.ensures.moments honest)

pub returns-in-Some-clause-records : goal.returns-in-Some-clause-records
returns-in-Some-clause-records g c =
    let m = c.args.memory.now in
    let new = c.wake_with.new.memory in
    then_ok c.wake_with.result (new.records.items ≡ m.records.items ++ c.in-Some.left ∷ []) _
    (λ items. subst (λ (f : Found). RestartLeaves m.records.items c.args.pending.now new.records.items (is_longer f)) (sym c.in-Longer.is)
    (subst (λ (p : Option Record). RestartLeaves m.records.items p new.records.items (is_longer Longer)) (sym c.in-Some.is) items)) c.wake_with.ensures.records

pub returns-in-Some-clause-list : goal.returns-in-Some-clause-list
returns-in-Some-clause-list g c =
    let old = c.args.redo.now in
    let m = c.args.memory.now in
    let same : on_disk m ++ c.in-Some.left ∷ [] ≡ list_of m c.args.pending.now c.args.found =
    ap (λ (p : Option Record). added_to (on_disk m) p) (sym c.in-Some.is) ∙ ap (λ (f : Found). list_of m c.args.pending.now f) (sym c.in-Longer.is) in
    let new = c.wake_with.new.memory in
    then_ok c.wake_with.result (new.records.items ≡ m.records.items ++ c.in-Some.left ∷ []) _
    (λ items. ap (λ (n : ℕ). listed n new.records.items) c.wake_with.ensures.cut ∙ pushed_list m.cut m.records.items new.records.items c.in-Some.left c.in-Some.left c.requires.front.within items refl ∙ same) c.wake_with.ensures.records
