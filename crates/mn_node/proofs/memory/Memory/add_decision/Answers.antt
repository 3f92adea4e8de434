use Rattle.std.proofs.Common.{◌≡◌, ◌+◌, ◌<◌, ◌++◌, ◌∷◌, [], List, true, length, reverse, ap, subst, sym, ◌∙◌, arith, vec_len, vec_capacity, if◌then◌else◌}
use Rattle.std.specs.List.{list_any}
use Rattle.mn_base.specs.Ids.{tid_same}
use Rattle.mn_mini.specs.declared.record.Record.{Record}
use Rattle.mn_mini.specs.declared.record.Record.TheVariants.{Decided}
use Rattle.mn_mini.specs.Node.{held_parts, with_held}
use Rattle.mn_locks.specs.declared.hold.Hold.{Hold}
use Rattle.mn_locks.specs.Locks.{without}
use Rattle.mn_page.specs.Base.{base_of}
use Rattle.mn_node.specs.declared.held.Vote.{Vote}
use Rattle.mn_node.specs.Held.{votes_of_others}
use Rattle.mn_node.specs.Memory.{IsMadeByRecords}
use Rattle.mn_node.proofs.Built.{built_decided}
use Rattle.mn_node.proofs.Votes.{any_held, fewer}
use Rattle.mn_node.proofs.memory.Memory.add_decision.Goals as goal

pub returns-clause-memory : goal.returns-clause-memory
returns-clause-memory c =
    let m = c.args.self.now in
    let items : c.push.new.self.items ≡ m.records.items ++ Decided c.args.tid c.args.yes ∷ [] = rw c.unwrap.ensures at c.push.ensures.items in
    let written : c.write_decided.new.space ≡ (if c.args.yes then with_held (λ t. tid_same t c.args.tid) m.space (held_parts (reverse m.records.items)) else m.space) =
    c.write_decided.ensures.space
    ∙ (λ i. if c.args.yes then with_held (λ t. tid_same t c.args.tid) m.space (held_parts (reverse (c.deref.ensures.value i))) else m.space) in
    let built = built_decided (base_of m.nodes m.node) m.records.items m.space c.write_decided.new.space m.locks.holds m.forced.items m.held.items c.args.tid c.args.yes c.requires.memory c.requires.decision written c.write_decided.ensures.whole in
    let with_records = subst (λ (l : List Record). IsMadeByRecords (base_of m.nodes m.node) l c.write_decided.new.space (without c.args.tid m.locks.holds) m.forced.items (votes_of_others c.args.tid m.held.items)) (sym items) built in
    let with_holds = subst (λ (l : List Hold). IsMadeByRecords (base_of m.nodes m.node) c.push.new.self.items c.write_decided.new.space l m.forced.items (votes_of_others c.args.tid m.held.items)) (sym c.release.ensures.left) with_records in
    subst (λ (l : List Vote). IsMadeByRecords (base_of m.nodes m.node) c.push.new.self.items c.write_decided.new.space c.release.new.self.holds m.forced.items l) (sym c.forget.ensures) with_holds

pub returns-clause-held : goal.returns-clause-held
returns-clause-held c =
    let m = c.args.self.now in
    let some : list_any (λ v. tid_same v.tid c.args.tid) m.held.items ≡ true = any_held m.records.items m.held.items c.args.tid c.requires.memory.held_are ∙ c.requires.held in
    let less = fewer c.args.tid m.held.items some in
    let left = ap (λ (l : List Vote). length l) c.forget.ensures in
    omega (arith, less, left, m.held.ok.0, c.forget.new.held.ok.0)

pub unwrap-requires : goal.unwrap-requires
unwrap-requires c =
    let m = c.args.self.now in
    let some : list_any (λ v. tid_same v.tid c.args.tid) m.held.items ≡ true = any_held m.records.items m.held.items c.args.tid c.requires.memory.held_are ∙ c.requires.held in
    let less = fewer c.args.tid m.held.items some in
    let room : vec_len m.records < vec_capacity m.records = omega (arith, less, m.held.ok.0, c.requires.room) in
    c.push.ensures.succeeds room

pub returns-clause-room : goal.returns-clause-room
returns-clause-room c =
    let m = c.args.self.now in
    let some : list_any (λ v. tid_same v.tid c.args.tid) m.held.items ≡ true = any_held m.records.items m.held.items c.args.tid c.requires.memory.held_are ∙ c.requires.held in
    let less = fewer c.args.tid m.held.items some in
    let left = ap (λ (l : List Vote). length l) c.forget.ensures in
    let count : vec_len c.push.new.self ≡ vec_len m.records + 1 = rw c.unwrap.ensures at c.push.ensures.len in
    omega (arith, less, left, m.held.ok.0, c.forget.new.held.ok.0, count, c.requires.room, c.push.ensures.capacity)
