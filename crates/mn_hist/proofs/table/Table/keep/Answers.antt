use Rattle.std.proofs.Common.{◌<◌, ℕ, [], length, map, ap, ◌∙◌, nat_eq, ◌&&◌, if◌then◌else◌, arith}
use Rattle.std.specs.Prelude.{get_or}
use Rattle.std.proofs.lemmas.List.{length-map}
use Rattle.mn_hist.proofs.Kept.{map_set, mapped_at, noted, noted_none}
use Rattle.mn_hist.proofs.Putting.{on_err, on_ok}
use Rattle.mn_hist.proofs.table.Table.keep.Goals as goal

pub returns-clause-keeps : goal.returns-clause-keeps
returns-clause-keeps g c = on_ok c.put.result c.put.ensures.put (λ put q n.
    let clients = c.self.inside.clients.items in
    let at : ℕ = c.args.client.0 in
    let low : at < length clients = omega (arith, c.self.invariant) in
    let lists = map (λ numbers. numbers.items) clients in
    let within : at < length lists = omega (arith, low, length-map clients (λ numbers. numbers.items)) in
    ap (λ all. get_or (get_or all q.0 []) n c.args.none) (map_set (λ numbers. numbers.items) clients at c.put.new.numbers)
    ∙ noted lists at c.index_mut.result.now.items c.put.new.numbers.items c.args.none c.args.one c.args.number within
    (mapped_at (λ numbers. numbers.items) clients at c.index_mut.result.now [] low c.index_mut.ensures.value) put q.0 n
    ∙ ap (λ all. if nat_eq c.args.client.0 q.0 && nat_eq c.args.number n then c.args.one else get_or (get_or all q.0 []) n c.args.none) c.self.view_is)

pub returns-clause-failed : goal.returns-clause-failed
returns-clause-failed g c = on_err c.put.result c.put.ensures.failed (λ same q n.
    let clients = c.self.inside.clients.items in
    let at : ℕ = c.args.client.0 in
    let low : at < length clients = omega (arith, c.self.invariant) in
    let lists = map (λ numbers. numbers.items) clients in
    let within : at < length lists = omega (arith, low, length-map clients (λ numbers. numbers.items)) in
    ap (λ all. get_or (get_or all q.0 []) n c.args.none) (map_set (λ numbers. numbers.items) clients at c.put.new.numbers)
    ∙ noted_none lists at c.index_mut.result.now.items c.put.new.numbers.items c.args.none within
    (mapped_at (λ numbers. numbers.items) clients at c.index_mut.result.now [] low c.index_mut.ensures.value) same q.0 n
    ∙ ap (λ all. get_or (get_or all q.0 []) n c.args.none) c.self.view_is)
