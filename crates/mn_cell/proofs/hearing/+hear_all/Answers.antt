use Rattle.std.proofs.Common.{◌≡◌, ◌+◌, ℕ, List, Some, vec_len, length, ap, sym, subst, ◌∙◌, arith, refl}
use Rattle.mn_actors.specs.Sight.{view_of}
use Rattle.mn_runs.specs.declared.entry.Entry.{Entry}
use Rattle.mn_runs.specs.Protocol.{start_of, entries_of}
use Rattle.mn_cell.specs.Promises.{IsOwing}
use Rattle.mn_cell.specs.Station.{HasMadeEntries, list_by}
use Rattle.std.proofs.lemmas.List.{append-nil}
use Rattle.mn_cell.proofs.Filled.{none_left}
use Rattle.mn_cell.proofs.Heard.{all_stay, heard, heard_owns, joined_apart, last_numbered, last_stays, part_node, part_owns, pass_of, rest_known, rest_lists, rest_numbered, rest_one_log}
use Rattle.mn_cell.proofs.Passed.{held_in, same_list}
use Rattle.mn_cell.proofs.hearing.+hear_all.Goals as goal

pub returns-in_default-clause-stations : goal.returns-in_default-clause-stations
returns-in_default-clause-stations g t c = all_stay c.args.stations.now.items c.pop.new.self.items (c.in_default.ensures.items ∙ append-nil c.pop.new.self.items)

pub returns-in_default-clause-one_log : goal.returns-in_default-clause-one_log
returns-in_default-clause-one_log g t c = heard (view_of c.hear-reached.new.pass) c.pop.new.self.items (none_left c.pop.new.self.items (omega (arith, c.in_default.ensures.cases))) c.hear-reached.ensures.clock

pub hear_all-requires : goal.hear_all-requires
hear_all-requires g t c κs within =
    let n = c.station.inside.number in
    let less = vec_len c.pop.new.self in
    let long = vec_len c.args.stations.now in
    let own = view_of c.in-Some-pass.pass in
    let old = view_of c.args.rest.now in
    let joined = view_of c.join.new.into in
    let items = c.in-Some.ensures.items in
    let count : less ≡ length c.pop.new.self.items = omega arith in
    let more : long ≡ less + 1 = omega (arith, c.in-Some.ensures.cases) in
    let last = last_numbered c.args.stations.now.items c.pop.new.self.items c.in-Some.station n less items c.requires.numbers (ap (λ s. s.number) c.station.view_is) count in
    let pass = pass_of g.N.Named.board n (list_by n c.station.inside.pass) c.station.inside.pass c.in-Some-pass.pass c.in-Some-pass.is c.station.invariant.0 in (
      omega (arith, more),
      (
        within.0,
        (
          within.1,
          (
            (c.requires.board.0, c.join.ensures.board ∙ c.requires.board.1),
            (
              rest_numbered c.args.stations.now.items c.pop.new.self.items c.in-Some.station items c.requires.numbers,
              joined_apart n less long own old joined last more c.requires.apart pass.1 c.join.ensures.view,
            ),
          ),
        ),
      ),
    )

pub split-pass-requires-clause-owns : goal.split-pass-requires-clause-owns
split-pass-requires-clause-owns g t c =
    let n = c.station.inside.number in
    let less = vec_len c.pop.new.self in
    let long = vec_len c.args.stations.now in
    let own = view_of c.in-Some-pass.pass in
    let old = view_of c.args.rest.now in
    let joined = view_of c.join.new.into in
    let items = c.in-Some.ensures.items in
    let count : less ≡ length c.pop.new.self.items = omega arith in
    let more : long ≡ less + 1 = omega (arith, c.in-Some.ensures.cases) in
    let last = last_numbered c.args.stations.now.items c.pop.new.self.items c.in-Some.station n less items c.requires.numbers (ap (λ s. s.number) c.station.view_is) count in
    let pass = pass_of g.N.Named.board n (list_by n c.station.inside.pass) c.station.inside.pass c.in-Some-pass.pass c.in-Some-pass.is c.station.invariant.0 in
    heard_owns n less long own old joined last more c.requires.apart pass.1 c.join.ensures.view (view_of c.hear_all.new.rest) c.hear_all.ensures.lists

pub invariant_of-push_reserved : goal.invariant_of-push_reserved
invariant_of-push_reserved g t c =
    let n = c.station.inside.number in
    let less = vec_len c.pop.new.self in
    let long = vec_len c.args.stations.now in
    let own = view_of c.in-Some-pass.pass in
    let old = view_of c.args.rest.now in
    let joined = view_of c.join.new.into in
    let items = c.in-Some.ensures.items in
    let count : less ≡ length c.pop.new.self.items = omega arith in
    let more : long ≡ less + 1 = omega (arith, c.in-Some.ensures.cases) in
    let last = last_numbered c.args.stations.now.items c.pop.new.self.items c.in-Some.station n less items c.requires.numbers (ap (λ s. s.number) c.station.view_is) count in
    let pass = pass_of g.N.Named.board n (list_by n c.station.inside.pass) c.station.inside.pass c.in-Some-pass.pass c.in-Some-pass.is c.station.invariant.0 in
    let owns = part_owns n less long own old joined last more c.requires.apart pass.1 c.join.ensures.view (view_of c.hear_all.new.rest) c.hear_all.ensures.lists (view_of c.split-pass.new.from) (view_of c.split-pass.result) c.split-pass.ensures.view in
    let at = part_node n less long own old joined last more c.requires.apart pass.1 c.join.ensures.view (view_of c.hear_all.new.rest) c.hear_all.ensures.lists (view_of c.split-pass.new.from) (view_of c.split-pass.result) c.split-pass.ensures.view in
    let list = same_list n c.station.inside.pass c.in-Some-pass.pass c.split-pass.result c.in-Some-pass.is at in
    let kept = c.station.inside in (
      (c.split-pass.ensures.board.1 ∙ c.hear_all.ensures.board, owns, held_in n c.split-pass.result owns.0),
      subst (λ (l : List (ℕ × Entry)). IsOwing l kept.owing.size kept.owing.owed) list c.station.invariant.1,
      subst (λ (l : List (ℕ × Entry)). HasMadeEntries g.D.Disk.state g.D.Disk.faults (start_of g.N.Named.records) n (g.N.Named.faults n.0) (g.N.Named.honest n.0) (entries_of l) kept.node) list c.station.invariant.2,
    )

pub returns-clause-stations : goal.returns-clause-stations
returns-clause-stations g t c =
    let n = c.station.inside.number in
    let less = vec_len c.pop.new.self in
    let long = vec_len c.args.stations.now in
    let own = view_of c.in-Some-pass.pass in
    let old = view_of c.args.rest.now in
    let joined = view_of c.join.new.into in
    let items = c.in-Some.ensures.items in
    let count : less ≡ length c.pop.new.self.items = omega arith in
    let more : long ≡ less + 1 = omega (arith, c.in-Some.ensures.cases) in
    let last = last_numbered c.args.stations.now.items c.pop.new.self.items c.in-Some.station n less items c.requires.numbers (ap (λ s. s.number) c.station.view_is) count in
    let pass = pass_of g.N.Named.board n (list_by n c.station.inside.pass) c.station.inside.pass c.in-Some-pass.pass c.in-Some-pass.is c.station.invariant.0 in
    let at = part_node n less long own old joined last more c.requires.apart pass.1 c.join.ensures.view (view_of c.hear_all.new.rest) c.hear_all.ensures.lists (view_of c.split-pass.new.from) (view_of c.split-pass.result) c.split-pass.ensures.view in
    let list = same_list n c.station.inside.pass c.in-Some-pass.pass c.split-pass.result c.in-Some-pass.is at in
    last_stays c.args.stations.now.items c.push_reserved.new.self.items c.pop.new.self.items c.hear_all.new.stations.items c.in-Some.station _ c.in-Some.ensures.items c.push_reserved.ensures.items
    (record { number = ap (λ s. s.number) c.station.view_is; node = ap (λ s. s.node) c.station.view_is; list = sym list ∙ ap (λ s. s.list) c.station.view_is }) c.hear_all.ensures.stations

pub returns-clause-lists : goal.returns-clause-lists
returns-clause-lists g t c =
    let n = c.station.inside.number in
    let less = vec_len c.pop.new.self in
    let long = vec_len c.args.stations.now in
    let own = view_of c.in-Some-pass.pass in
    let old = view_of c.args.rest.now in
    let joined = view_of c.join.new.into in
    let items = c.in-Some.ensures.items in
    let count : less ≡ length c.pop.new.self.items = omega arith in
    let more : long ≡ less + 1 = omega (arith, c.in-Some.ensures.cases) in
    let last = last_numbered c.args.stations.now.items c.pop.new.self.items c.in-Some.station n less items c.requires.numbers (ap (λ s. s.number) c.station.view_is) count in
    let pass = pass_of g.N.Named.board n (list_by n c.station.inside.pass) c.station.inside.pass c.in-Some-pass.pass c.in-Some-pass.is c.station.invariant.0 in
    rest_lists n less long own old joined last more c.requires.apart pass.1 c.join.ensures.view (view_of c.hear_all.new.rest) c.hear_all.ensures.lists (view_of c.split-pass.new.from) (view_of c.split-pass.result) c.split-pass.ensures.view

pub returns-clause-known : goal.returns-clause-known
returns-clause-known g t c =
    let n = c.station.inside.number in
    let less = vec_len c.pop.new.self in
    let long = vec_len c.args.stations.now in
    let own = view_of c.in-Some-pass.pass in
    let old = view_of c.args.rest.now in
    let joined = view_of c.join.new.into in
    let items = c.in-Some.ensures.items in
    let count : less ≡ length c.pop.new.self.items = omega arith in
    let more : long ≡ less + 1 = omega (arith, c.in-Some.ensures.cases) in
    let last = last_numbered c.args.stations.now.items c.pop.new.self.items c.in-Some.station n less items c.requires.numbers (ap (λ s. s.number) c.station.view_is) count in
    let pass = pass_of g.N.Named.board n (list_by n c.station.inside.pass) c.station.inside.pass c.in-Some-pass.pass c.in-Some-pass.is c.station.invariant.0 in
    rest_known n less long own old joined last more c.requires.apart pass.1 c.join.ensures.view (view_of c.hear_all.new.rest) c.hear_all.ensures.lists (view_of c.split-pass.new.from) (view_of c.split-pass.result) c.split-pass.ensures.view c.hear_all.ensures.known

pub returns-clause-one_log : goal.returns-clause-one_log
returns-clause-one_log g t c =
    let n = c.station.inside.number in
    let less = vec_len c.pop.new.self in
    let long = vec_len c.args.stations.now in
    let own = view_of c.in-Some-pass.pass in
    let old = view_of c.args.rest.now in
    let joined = view_of c.join.new.into in
    let items = c.in-Some.ensures.items in
    let count : less ≡ length c.pop.new.self.items = omega arith in
    let more : long ≡ less + 1 = omega (arith, c.in-Some.ensures.cases) in
    let last = last_numbered c.args.stations.now.items c.pop.new.self.items c.in-Some.station n less items c.requires.numbers (ap (λ s. s.number) c.station.view_is) count in
    let pass = pass_of g.N.Named.board n (list_by n c.station.inside.pass) c.station.inside.pass c.in-Some-pass.pass c.in-Some-pass.is c.station.invariant.0 in
    let at = part_node n less long own old joined last more c.requires.apart pass.1 c.join.ensures.view (view_of c.hear_all.new.rest) c.hear_all.ensures.lists (view_of c.split-pass.new.from) (view_of c.split-pass.result) c.split-pass.ensures.view in
    let list = same_list n c.station.inside.pass c.in-Some-pass.pass c.split-pass.result c.in-Some-pass.is at in
    rest_one_log n less long own old joined last more c.requires.apart pass.1 c.join.ensures.view (view_of c.hear_all.new.rest) c.hear_all.ensures.lists (view_of c.split-pass.new.from) (view_of c.split-pass.result) c.split-pass.ensures.view c.hear_all.new.stations.items c.push_reserved.new.self.items _ c.push_reserved.ensures.items refl (pass.2 ∙ ap (λ (l : List (ℕ × Entry)). Some l) list) c.hear_all.ensures.one_log
