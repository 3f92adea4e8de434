use Rattle.std.proofs.Common.{◌≡◌, false, true}
use Rattle.mn_forest.proofs.Noting.{notes_one, notes_skip, serving_so, idle_so}
use Rattle.mn_forest.proofs.pages.Names.note_version.Goals as goal

pub returns-then-not-serves : goal.returns-then-not-serves
returns-then-not-serves c = λ entries first are so.
    let off : c.serves.result ≡ false = cc in
    notes_skip first c.args.self.now entries c.args.page.now c.args.child c.args.version so (idle_so c.args.versions.now entries c.args.page.now c.args.version c.serves.result are c.serves.ensures off)

pub returns : goal.returns
returns c = λ entries first are so.
    let has : c.has.result ≡ true = cc in
    let serving : c.serves.result ≡ true = cc in
    let s = serving_so c.args.versions.now entries c.args.page.now c.args.version c.has.result c.serves.result are c.has.ensures c.serves.ensures has serving in
    notes_one first c.args.self.now c.note.new.self entries c.args.page.now c.args.child c.args.version c.height.result so c.height.ensures s.0 s.1 c.in_ok-note.ensures
