use Rattle.std.proofs.Common.{◌≡◌, sym, subst}
use Rattle.mn_page.specs.declared.page.Page.{Page}
use Rattle.mn_page.specs.Grammar.{IsPage}
use Rattle.mn_cow.specs.Serving.{ServesOthers, ServesItsOwn}
use Rattle.mn_page.proofs.Copied.{copies_are_pages}
use Rattle.mn_cow.proofs.Marked.{old_serves, copy_serves}
use Rattle.mn_cow.proofs.copy.copy_for.Goals as goal

pub returns-clause-old_sound : goal.returns-clause-old_sound
returns-clause-old_sound c = λ is.
    subst IsPage (sym c.in_ok-old.ensures)
    (copies_are_pages c.args.version c.args.page.now is c.requires.above c.requires.few).0

pub returns-clause-copy_sound : goal.returns-clause-copy_sound
returns-clause-copy_sound c = λ is.
    subst IsPage (sym c.in_ok-copy.ensures)
    (copies_are_pages c.args.version c.args.page.now is c.requires.above c.requires.few).1

pub returns-clause-others : goal.returns-clause-others
returns-clause-others c =
    subst (ServesOthers c.args.version.0 c.args.page.now) (sym c.in_ok-old.ensures)
    (old_serves c.args.version c.args.page.now c.requires.few)

pub returns-clause-own : goal.returns-clause-own
returns-clause-own c =
    subst (ServesItsOwn c.args.version.0) (sym c.in_ok-copy.ensures)
    (copy_serves c.args.version c.args.page.now)
