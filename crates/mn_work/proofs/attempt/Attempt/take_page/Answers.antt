use Rattle.std.proofs.Common.{◌∙◌, ap, subst, sym, List, ℕ, slice_get}
use Rattle.mn_base.specs.Store.{step_key}
use Rattle.mn_work.specs.Attempts.{ComesIn}
use Rattle.mn_work.specs.Last.{AreReadAs}
use Rattle.mn_work.specs.Seen.{TellsPage}
use Rattle.mn_work.proofs.Attempts.{at_index, by_kept, comes_on, fault_kept, none_read, page_off, page_read, read_as}
use Rattle.mn_work.proofs.attempt.Attempt.take_page.Goals as goal

pub returns-in_default-clause-taken : goal.returns-in_default-clause-taken
returns-in_default-clause-taken c =
    let step = c.requires.asks.step in
    let index = at_index c.args.steps.now c.args.self.now.done step c.index-as_slice-self.result _ c.requires.asks.next (rw c.as_slice.ensures.steps at c.index-as_slice-self.is) in
    none_read c.args.known.now c.args.later c.args.steps.now c.args.self.now _ c.args.addr c.args.bytes c.fault.result step c.key_of-key.result.now c.requires.way
    c.requires.asks.next (c.key_of-key.ensures ∙ ap step_key index)
    (subst (TellsPage c.args.bytes) c.in_default.is c.in_ok-page.ensures)
    c.in_ok-push.ensures.items c.fault.ensures

pub returns-then-branch-clause-taken : goal.returns-then-branch-clause-taken
returns-then-branch-clause-taken c =
    page_read c.args.known.now c.args.later c.args.steps.now c.args.self.now c.keep.new.self c.args.addr c.args.bytes c.in-Some.page c.requires.way
    (subst (TellsPage c.args.bytes) c.in-Some.is c.in_ok-page.ensures)
    (subst (ComesIn c.args.self.now c.args.addr c.in-Some.page c.keep.new.self) c.if-branch.true c.in_ok-keep.ensures.comes)

pub returns-then-branch-clause-way : goal.returns-then-branch-clause-way
returns-then-branch-clause-way c =
    by_kept c.args.known.now c.keep_inner.new.self c.args.steps.now c.in_ok-keep_inner.ensures.kept c.args.self.now c.keep.new.self
    (λ entries is way.
    comes_on c.args.known.now.nodes entries c.args.steps.now c.args.self.now c.keep.new.self way c.args.addr c.requires.asks c.requires.node c.in-Some.page
    (subst (TellsPage c.args.bytes) c.in-Some.is c.in_ok-page.ensures).0
    c.pages_are_known.ensures.pages c.pages_are_known.ensures.slots c.pages_are_known.ensures.come c.in_ok-keep.ensures.stays
    (subst (ComesIn c.args.self.now c.args.addr c.in-Some.page c.keep.new.self) c.if-branch.true c.in_ok-keep.ensures.comes))
    c.requires.way

pub returns-then-branch-clause-read : goal.returns-then-branch-clause-read
returns-then-branch-clause-read c = λ goes.
    let spells = subst (TellsPage c.args.bytes) c.in-Some.is c.in_ok-page.ensures in
    let comes = subst (ComesIn c.args.self.now c.args.addr c.in-Some.page c.keep.new.self) c.if-branch.true c.in_ok-keep.ensures.comes in
    subst (λ (b : List ℕ). AreReadAs c.args.addr b c.keep.new.self.pages.items) (sym spells.1)
    (read_as c.keep_inner.new.self c.args.steps.now c.args.self.now c.keep.new.self c.args.addr c.in-Some.page _ c.moves_come_once.ensures comes.0
    (by_kept c.args.known.now c.keep_inner.new.self c.args.steps.now c.in_ok-keep_inner.ensures.kept c.args.self.now c.keep.new.self
    (λ entries is way.
    comes_on c.args.known.now.nodes entries c.args.steps.now c.args.self.now c.keep.new.self way c.args.addr c.requires.asks c.requires.node c.in-Some.page
    spells.0
    c.pages_are_known.ensures.pages c.pages_are_known.ensures.slots c.pages_are_known.ensures.come c.in_ok-keep.ensures.stays
    comes)
    c.requires.way))

pub returns-else-branch-clause-taken : goal.returns-else-branch-clause-taken
returns-else-branch-clause-taken c =
    let step = c.requires.asks.step in
    let index = at_index c.args.steps.now c.args.self.now.done step c.index-as_slice-self.result _ c.requires.asks.next (rw c.as_slice.ensures.steps at c.index-as_slice-self.is) in
    page_off c.args.known.now c.args.later c.args.steps.now c.args.self.now c.keep.new.self c.args.addr c.args.bytes c.in-Some.page c.fault-else-branch.result step c.key_of-key.result.now c.requires.way
    (ap (λ (n : ℕ). slice_get c.args.steps.now n) c.in_ok-keep.ensures.stays.2 ∙ c.requires.asks.next) (c.key_of-key.ensures ∙ ap step_key index)
    (subst (TellsPage c.args.bytes) c.in-Some.is c.in_ok-page.ensures)
    (subst (ComesIn c.args.self.now c.args.addr c.in-Some.page c.keep.new.self) c.if-branch.false c.in_ok-keep.ensures.comes)
    (fault_kept c.args.known.now c.keep_inner.new.self c.args.later c.keep.new.self c.key_of-key.result.now c.fault-else-branch.result c.in_ok-keep_inner.ensures.kept c.fault-else-branch.ensures)
