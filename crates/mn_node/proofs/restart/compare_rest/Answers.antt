use Rattle.std.proofs.Common.{◌≡◌, ◌≢◌, ◌+◌, ◌++◌, [], ℕ, Option, Some, None, length, get_or, subst, sym, arith, rules}
use Rattle.mn_mini.specs.declared.record.Record.{Record}
use Rattle.mn_mini.specs.RecordGrammar.{record_bytes}
use Rattle.mn_node.specs.Restart.{TellsDifferenceAt, TellsOtherRecords}
use Rattle.mn_node.proofs.Found.{differs_behind, differs_past, not_alone, not_left, pending_sound, unsome}
use Rattle.mn_node.proofs.restart.compare_rest.Goals as goal

pub returns-in_default-clause-differs : goal.returns-in_default-clause-differs
returns-in_default-clause-differs c =
    let log = c.args.log.now in
    let bodies = log.bodies in
    let records = c.args.first.now ++ c.args.rest.now in
    let none : c.args.pending.now ≡ None = search rules in
    let told = subst (λ (n : ℕ). TellsDifferenceAt log n None c.differs.result) c.in_ok-count.ensures c.differs.ensures in
    subst (λ (p : Option Record). TellsOtherRecords log records p c.differs.result) (sym none)
    (differs_behind log records None c.differs.result c.requires.front c.requires.more (not_alone bodies records c.requires.more, λ e. e) (λ r e. absurd cc) told)

pub spells-requires-clause-sound : goal.spells-requires-clause-sound
spells-requires-clause-sound c = pending_sound (c.args.first.now ++ c.args.rest.now) c.args.pending.now c.in-Some.left c.in-Some.is c.requires.sound

pub returns-then-not-branch-clause-differs : goal.returns-then-not-branch-clause-differs
returns-then-not-branch-clause-differs c =
    let log = c.args.log.now in
    let bodies = log.bodies in
    let records = c.args.first.now ++ c.args.rest.now in
    let left = c.in-Some.left in
    let here : get_or bodies c.in_ok-count.count [] ≢ record_bytes left = c.in_ok-spells.ensures.no c.if-not-branch.true in
    let other : get_or bodies (length records) [] ≢ record_bytes left = subst (λ (n : ℕ). get_or bodies n [] ≢ record_bytes left) c.in_ok-count.ensures here in
    let told = subst (λ (n : ℕ). TellsDifferenceAt log n None c.differs-then-not-branch.result) c.in_ok-count.ensures c.differs-then-not-branch.ensures in
    subst (λ (p : Option Record). TellsOtherRecords log records p c.differs-then-not-branch.result) (sym c.in-Some.is)
    (differs_behind log records (Some left) c.differs-then-not-branch.result c.requires.front c.requires.more
    (not_alone bodies records c.requires.more, not_left bodies records left other)
    (λ r e. subst (λ (q : Record). get_or bodies (length records) [] ≢ record_bytes q) (unsome left r e) other) told)

pub returns-then-total-count-clause-differs : goal.returns-then-total-count-clause-differs
returns-then-total-count-clause-differs c =
    let log = c.args.log.now in
    let bodies = log.bodies in
    let records = c.args.first.now ++ c.args.rest.now in
    let left = c.in-Some.left in
    let here : get_or bodies c.in_ok-count.count [] ≡ record_bytes left = c.in_ok-spells.ensures.yes c.if-not-branch.false in
    let same : get_or bodies (length records) [] ≡ record_bytes left = subst (λ (n : ℕ). get_or bodies n [] ≡ record_bytes left) c.in_ok-count.ensures here in
    let told = subst (λ (n : ℕ). TellsDifferenceAt log (n + 1) None c.differs-then-total-count.result) c.in_ok-count.ensures c.differs-then-total-count.ensures in
    subst (λ (p : Option Record). TellsOtherRecords log records p c.differs-then-total-count.result) (sym c.in-Some.is)
    (differs_past log records left c.differs-then-total-count.result c.requires.front (omega (arith, c.if-total-count.true, c.count-total.ensures, c.in_ok-count.ensures)) same told)
