use Rattle.std.proofs.Common.{◌∙◌, ap, sym}
use Rattle.mn_page.specs.declared.page.Page.{Page}
use Rattle.mn_tree.specs.Walk.{held_of}
use Rattle.mn_tree.proofs.Ways.{goes_to_child, key_is}
use Rattle.mn_tree.proofs.way.Way.pass.Goals as goal

pub returns-clause-next : goal.returns-clause-next
returns-clause-next c = λ key of parents v pages passed.
    let own = key_is c.args.self.now.key c.in-Some.key key c.in-Some.is of in
    goes_to_child parents v pages key (held_of c.args.held.now) passed c.in-Inner.height c.in-Inner.first c.in-Inner.rest c.child_for-child.result (ap (λ (p : Page). p.body) (sym c.get.ensures) ∙ c.in-Inner.is) (rw of at c.requires.covers) c.requires.inner
    (rw own at (rw c.as_slice-2.ensures.bytes at (rw c.as_slice.ensures at c.child_for-child.ensures)))
