use Rattle.std.proofs.Common.{subst, sym}
use Rattle.mn_page.specs.Grammar.{IsPage}
use Rattle.mn_work.proofs.child.Child.keep.Goals as goal

pub may_copy-requires : goal.may_copy-requires
may_copy-requires c = subst IsPage (sym c.get-root.ensures) c.requires.page
