use Rattle.std.proofs.Common.{rules, ◌≡◌, ℕ, true, List, ◌∷◌, sym, ap, ◌∙◌, subst}
use Rattle.mn_runs.specs.declared.entry.Entry.{Entry}
use Rattle.mn_runs.specs.declared.entry.What.TheVariants.{Restarted}
use Rattle.mn_runs.specs.Protocol.{entries_of, start_of}
use Rattle.mn_cell.specs.Calls.{entry_at}
use Rattle.mn_cell.specs.Promises.{IsOwing}
use Rattle.mn_cell.specs.Station.{HasMadeEntries, list_by, list_in}
use Rattle.mn_node.specs.Node.{IsUpToWithOrWithout}
use Rattle.mn_node.specs.State.{StandsUpToWithOrWithout}
use Rattle.mn_node.proofs.Moments.{only_same}
use Rattle.mn_cell.proofs.Made.{base_is, made_failed, made_restarted}
use Rattle.mn_cell.proofs.Owed.{newest_entry, owing_stays}
use Rattle.mn_cell.proofs.Passed.{held_in, list_of_pass}
use Rattle.mn_cell.proofs.station.Station.restart.Goals as goal

pub invariant_of-self-in-Err : goal.invariant_of-self-in-Err
invariant_of-self-in-Err g c =
    let n = c.self.inside.number in
    let start = start_of g.N.Named.records in
    let es = entries_of (list_by n c.self.inside.pass) in
    let old = c.self.invariant.2 in
    let down : c.self.inside.node.down ≡ true = search rules in
    let made = made_failed g.D.Disk.state g.D.Disk.faults start n (g.N.Named.faults n.0) (g.N.Named.honest n.0) es c.self.inside.node c.restart.new.self old c.in-Err.ensures.goes_on (base_is g.N.Named.records n old.among)
    down c.in-Err.ensures.down c.in-Err.ensures.before c.in-Err.ensures.cut c.in-Err.ensures.cutting c.in-Err.ensures.pending c.in-Err.ensures.keeps in
    (c.self.invariant.0, owing_stays _ _ _ _ _ c.self.invariant.1 c.make_room.ensures.owing.0 c.make_room.ensures.owing.1, made)

pub enter-own-requires-clause-owing : goal.enter-own-requires-clause-owing
enter-own-requires-clause-owing g c =
    let n = c.self.inside.number in
    let owing = c.make_room.new.owing in
    let pass = sym c.take.ensures.value ∙ c.in-Some.is in
    subst (λ (l : List (ℕ × Entry)). IsOwing l owing.size owing.owed) (list_of_pass n c.self.inside.pass c.in-Some.own pass)
    (owing_stays _ _ _ _ _ c.self.invariant.1 c.make_room.ensures.owing.0 c.make_room.ensures.owing.1)

pub invariant_of-self-2 : goal.invariant_of-self-2
invariant_of-self-2 g c =
    let n = c.self.inside.number in
    let start = start_of g.N.Named.records in
    let es = entries_of (list_by n c.self.inside.pass) in
    let old = c.self.invariant.2 in
    let enter = c.enter-own.ensures in
    let pass = sym c.take.ensures.value ∙ c.in-Some.is in
    let own = list_in n c.in-Some.own in
    let e = entry_at n c.client.result (Restarted c.in-Ok.kept) in
    let down : c.self.inside.node.down ≡ true = search rules in
    let made = made_restarted g.D.Disk.state g.D.Disk.faults start n (g.N.Named.faults n.0) (g.N.Named.honest n.0) es c.self.inside.node c.restart.new.self old c.in-Ok.ensures.goes_on (base_is g.N.Named.records n old.among)
    c.client.result c.in-Ok.kept down c.in-Ok.ensures.up c.in-Ok.ensures.records (record { within = c.is_down.ensures.within; cut = c.in-Ok.ensures.uncut; none = c.in-Ok.ensures.whole; finds = c.in-Ok.ensures.found }) in
    let entries = ap (λ (l : List (ℕ × Entry)). entries_of l) enter.ends.ends_node
    ∙ newest_entry own enter.ends.place c.restart_entry-entry.result
    ∙ ap (λ (x : Entry). x ∷ entries_of own) c.restart_entry-entry.ensures
    ∙ ap (λ (l : List (ℕ × Entry)). e ∷ entries_of l) (sym (list_of_pass n c.self.inside.pass c.in-Some.own pass)) in (
      (enter.board.0 ∙ c.requires.board.0, enter.owns.0, held_in n c.enter-own.result enter.owns.0.0),
      enter.owing,
      subst (λ (l : List Entry). HasMadeEntries g.D.Disk.state g.D.Disk.faults start n (g.N.Named.faults n.0) (g.N.Named.honest n.0) l c.restart.new.self) (sym entries) made,
    )

pub returns-then-not-is_down-clause-moments : goal.returns-then-not-is_down-clause-moments
returns-then-not-is_down-clause-moments g c honest =
    let state = g.D.Disk.state in
    let n = c.args.self.now.node in
    let m = c.self.inside.node in
    let was : n ≡ m = search rules in
    let stands = subst (λ o. (state o.disk).honest → StandsUpToWithOrWithout (state o.disk) o.node o.nodes o.records o.pending) (sym was) c.is_down.ensures.stands in
    only_same (state n.disk) (IsUpToWithOrWithout n.node n.nodes n.records n.pending) (g.D.Disk.is_disk n.disk honest) (stands honest)
