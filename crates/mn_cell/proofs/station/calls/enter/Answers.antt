use Rattle.std.proofs.Common.{◌<◌, ◌^◌, ℕ, List, length, sym, subst, arith}
use Rattle.mn_base.specs.declared.ids.ClientNo.{ClientNo}
use Rattle.mn_actors.specs.declared.actor.Actor.TheVariants.{Client}
use Rattle.mn_actors.specs.Lists.{HasRoom}
use Rattle.mn_actors.specs.Sight.{view_of}
use Rattle.mn_runs.specs.declared.entry.Entry.{Entry}
use Rattle.mn_cell.specs.Promises.{IsOwing}
use Rattle.mn_cell.specs.Station.{list_in}
use Rattle.mn_cell.proofs.Passed.{grown_in, held_in}
use Rattle.mn_cell.proofs.station.calls.enter.Goals as goal

pub add-own-requires-clause-room : goal.add-own-requires-clause-room
add-own-requires-clause-room c =
    let n = c.args.number in
    let l : List (ℕ × Entry) = list_in n c.args.own in
    let long : length l < 2 ^ 58 = omega (arith, c.requires.owing.counted, c.requires.short.0) in (
      (l, held_in n c.args.own c.requires.owns.0.0, long),
      subst (λ (k : ClientNo). HasRoom (view_of c.args.pass.now) (Client k)) (sym c.client.ensures.client) (c.args.list.now.entries, c.requires.list, c.requires.short.1),
    )

pub returns-clause-ends : goal.returns-clause-ends
returns-clause-ends c =
    let added = c.add-own.ensures in
    record {
      place = c.add-own.result.1;
      later = added.place;
      next = added.node.2;
      client_next = added.client.2;
      ends_node = grown_in c.args.number c.args.own c.add-own.result.0 (c.add-own.result.1, c.args.entry) c.requires.owns.0.0 added.node.0;
      ends_client = c.push.ensures.entries;
    }

pub returns-clause-owing : goal.returns-clause-owing
returns-clause-owing c =
    let n = c.args.number in
    let more : ℕ × Entry = (c.add-own.result.1, c.args.entry) in
    let grown = grown_in n c.args.own c.add-own.result.0 more c.requires.owns.0.0 c.add-own.ensures.node.0 in
    subst (λ (l : List (ℕ × Entry)). IsOwing l c.add.new.self.size c.add.new.self.owed) (sym grown)
    (c.add.ensures (list_in n c.args.own) c.add-own.result.1 c.requires.owing)
