use Rattle.std.proofs.Common.{◌≡◌, ◌++◌, ◌∷◌, [], List, sym, subst}
use Rattle.mn_base.specs.declared.ids.Tid.{Tid}
use Rattle.mn_mini.specs.declared.record.Record.{Record}
use Rattle.mn_mini.specs.declared.record.Record.TheVariants.{Forced}
use Rattle.mn_page.specs.Base.{base_of}
use Rattle.mn_node.specs.Memory.{IsMadeByRecords}
use Rattle.mn_node.proofs.Built.{built_forced}
use Rattle.mn_node.proofs.memory.Memory.add_force.Goals as goal

pub returns-clause-memory : goal.returns-clause-memory
returns-clause-memory c =
    let m = c.args.self.now in
    let base = base_of m.nodes m.node in
    let forced : c.push.new.self.items ≡ m.forced.items ++ c.args.tid ∷ [] = rw c.unwrap.ensures at c.push.ensures.items in
    let records : c.push-2.new.self.items ≡ m.records.items ++ Forced c.args.tid ∷ [] = rw c.unwrap-2.ensures at c.push-2.ensures.items in
    let built = built_forced base m.records.items m.space m.locks.holds m.forced.items m.held.items c.args.tid c.requires.memory c.requires.force in
    let with_forced = subst (λ (l : List Tid). IsMadeByRecords base (m.records.items ++ Forced c.args.tid ∷ []) m.space m.locks.holds l m.held.items) (sym forced) built in
    subst (λ (l : List Record). IsMadeByRecords base l m.space m.locks.holds c.push.new.self.items m.held.items) (sym records) with_forced
