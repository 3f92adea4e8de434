use Rattle.std.proofs.Common.{subst, ◌≡◌, ◌++◌, ◌∷◌, [], false, List, Option, Some, reverse, ap, sym, ◌∙◌, arith, rules}
use Rattle.mn_mini.specs.declared.record.Record.{Record}
use Rattle.mn_mini.specs.declared.record.Record.TheVariants.{Forced}
use Rattle.mn_mini.specs.declared.request.Request.TheVariants as Ask
use Rattle.mn_mini.specs.Node.{has_voted, has_forced, Response}
use Rattle.mn_page.specs.Base.{base_of}
use Rattle.mn_node.specs.Node.{IsUpToWithOrWithout, CrashLeavesOnly, added_to, node_answer}
use Rattle.mn_node.proofs.Steps.{up_logged, force_answer, unasked}
use Rattle.mn_node.proofs.requests.force.Goals as goal

pub add_force-requires-clause-memory : goal.add_force-requires-clause-memory
add_force-requires-clause-memory g c = (c.in-Logged.ensures.leaves (Forced c.args.tid) c.forced_body.ensures).0.memory

pub add_force-requires-clause-room : goal.add_force-requires-clause-room
add_force-requires-clause-room g c = (c.in-Logged.ensures.leaves (Forced c.args.tid) c.forced_body.ensures).0.room

pub add_force-requires-clause-more : goal.add_force-requires-clause-more
add_force-requires-clause-more g c = let logged = c.in-Logged.ensures.leaves (Forced c.args.tid) c.forced_body.ensures in omega (arith, logged.0.records)

pub add_force-requires-clause-forced : goal.add_force-requires-clause-forced
add_force-requires-clause-forced g c = (c.in-Logged.ensures.leaves (Forced c.args.tid) c.forced_body.ensures).0.forced

pub returns-in-NoRoom-clause-handled : goal.returns-in-NoRoom-clause-handled
returns-in-NoRoom-clause-handled g c = c.in-NoRoom.ensures.leaves (Forced c.args.tid) c.forced_body.ensures

pub returns-in-Stopped-clause-handled : goal.returns-in-Stopped-clause-handled
returns-in-Stopped-clause-handled g c =
    let m = c.args.memory.now in
    let leaves = c.in-Stopped.ensures.leaves (Forced c.args.tid) c.forced_body.ensures in
    let voted : has_voted (reverse m.records.items) c.args.tid ≡ false = ap (λ (l : List Record). has_voted (reverse l) c.args.tid) (sym c.deref.ensures.value) ∙ sym c.if-voted.ensures in
    let forced : has_forced (reverse m.records.items) c.args.tid ≡ false = sym (c.requires.up.memory.forced_are c.args.tid) ∙ search rules in
    let one : (node_answer m (Ask.Force c.args.tid)).added ≡ Some (Forced c.args.tid) = ap (λ (a : Response). a.added) (force_answer (base_of m.nodes m.node) (reverse m.records.items) c.args.tid voted forced) in
    (leaves.0, one, leaves.1, leaves.2)

pub returns-in-Logged-clause-handled : goal.returns-in-Logged-clause-handled
returns-in-Logged-clause-handled g c =
    let m = c.args.memory.now in
    let leaves = c.in-Logged.ensures.leaves (Forced c.args.tid) c.forced_body.ensures in
    let voted : has_voted (reverse m.records.items) c.args.tid ≡ false = ap (λ (l : List Record). has_voted (reverse l) c.args.tid) (sym c.deref.ensures.value) ∙ sym c.if-voted.ensures in
    let forced : has_forced (reverse m.records.items) c.args.tid ≡ false = sym (c.requires.up.memory.forced_are c.args.tid) ∙ search rules in
    let told = force_answer (base_of m.nodes m.node) (reverse m.records.items) c.args.tid voted forced in (
      up_logged g.D.Disk.state c.log_bytes.new.redo c.log_bytes.new.memory c.add_force.new.self (Forced c.args.tid) 0 leaves.0 c.add_force.ensures.memory c.add_force.ensures.room c.add_force.ensures.records c.add_force.ensures.cut c.add_force.ensures.front (omega (arith, c.add_force.ensures.held)),
      ap (λ (a : Response). a.reply) told,
      c.add_force.ensures.records ∙ ap (λ (l : List Record). l ++ Forced c.args.tid ∷ []) leaves.1 ∙ sym (ap (λ (a : Response). added_to m.records.items a.added) told),
      unasked c.args.stop _ leaves.3,
    )

pub returns-in-NoRoom-clause-moments : goal.returns-in-NoRoom-clause-moments
returns-in-NoRoom-clause-moments g c =
    let m = c.args.memory.now in
    let old = c.args.redo.now in
    let voted : has_voted (reverse m.records.items) c.args.tid ≡ false = ap (λ (l : List Record). has_voted (reverse l) c.args.tid) (sym c.deref.ensures.value) ∙ sym c.if-voted.ensures in
    let forced : has_forced (reverse m.records.items) c.args.tid ≡ false = sym (c.requires.up.memory.forced_are c.args.tid) ∙ search rules in
    let one : (node_answer m (Ask.Force c.args.tid)).added ≡ Some (Forced c.args.tid) = ap (λ (a : Response). a.added) (force_answer (base_of m.nodes m.node) (reverse m.records.items) c.args.tid voted forced) in
    subst (λ (o : Option Record). CrashLeavesOnly g.D.Disk.state old.disk c.log_bytes.new.redo.disk (IsUpToWithOrWithout old.node old.nodes m.records.items o)) (sym one) (c.log_bytes.ensures.moments (Forced c.args.tid) c.forced_body.ensures)

pub returns-in-Stopped-clause-moments : goal.returns-in-Stopped-clause-moments
returns-in-Stopped-clause-moments g c =
    let m = c.args.memory.now in
    let old = c.args.redo.now in
    let voted : has_voted (reverse m.records.items) c.args.tid ≡ false = ap (λ (l : List Record). has_voted (reverse l) c.args.tid) (sym c.deref.ensures.value) ∙ sym c.if-voted.ensures in
    let forced : has_forced (reverse m.records.items) c.args.tid ≡ false = sym (c.requires.up.memory.forced_are c.args.tid) ∙ search rules in
    let one : (node_answer m (Ask.Force c.args.tid)).added ≡ Some (Forced c.args.tid) = ap (λ (a : Response). a.added) (force_answer (base_of m.nodes m.node) (reverse m.records.items) c.args.tid voted forced) in
    subst (λ (o : Option Record). CrashLeavesOnly g.D.Disk.state old.disk c.log_bytes.new.redo.disk (IsUpToWithOrWithout old.node old.nodes m.records.items o)) (sym one) (c.log_bytes.ensures.moments (Forced c.args.tid) c.forced_body.ensures)

pub returns-in-Logged-clause-moments : goal.returns-in-Logged-clause-moments
returns-in-Logged-clause-moments g c =
    let m = c.args.memory.now in
    let old = c.args.redo.now in
    let voted : has_voted (reverse m.records.items) c.args.tid ≡ false = ap (λ (l : List Record). has_voted (reverse l) c.args.tid) (sym c.deref.ensures.value) ∙ sym c.if-voted.ensures in
    let forced : has_forced (reverse m.records.items) c.args.tid ≡ false = sym (c.requires.up.memory.forced_are c.args.tid) ∙ search rules in
    let one : (node_answer m (Ask.Force c.args.tid)).added ≡ Some (Forced c.args.tid) = ap (λ (a : Response). a.added) (force_answer (base_of m.nodes m.node) (reverse m.records.items) c.args.tid voted forced) in
    subst (λ (o : Option Record). CrashLeavesOnly g.D.Disk.state old.disk c.log_bytes.new.redo.disk (IsUpToWithOrWithout old.node old.nodes m.records.items o)) (sym one) (c.log_bytes.ensures.moments (Forced c.args.tid) c.forced_body.ensures)
