use Rattle.std.proofs.Common.{◌≡◌, sym, subst, rules}
use Rattle.mn_catalog.specs.Versions.{AreEntries, branch_entries}
use Rattle.mn_catalog.proofs.Versions.{branch_are_entries, branch_room, entry_there}
use Rattle.mn_catalog.proofs.catalog.Catalog.branch.Goals as goal

written : (c : goal.After-from_vec) → c.from_vec.result ≡ branch_entries c.args.self.now c.args.version c.args.child.now c.args.root
written c = search rules

pub returns-clause-sound : goal.returns-clause-sound
returns-clause-sound c = λ addr name.
    let e = entry_there c.args.self.now c.args.version.0 c.requires.there in
    let room = branch_room c.args.self.now e.0.name c.args.child.now (c.requires.admitted e.0 e.1) in
    subst AreEntries (sym (written c)) (branch_are_entries c.args.self.now c.args.version c.args.child.now c.args.root c.requires.there room name addr)
