use Rattle.std.proofs.Common.{[], replicate, refl, ◌+◌, ◌*◌}
use Rattle.byteorder.specs.Endian.{big_bytes}
use Rattle.mn_page.specs.Grammar.{page_bytes, entry_bytes}
use Rattle.mn_plans.specs.Growth.{node_no}
use Rattle.mn_txn.specs.State.{State}
use Rattle.mn_txn.proofs.ChildTxn.{read_in, read_on}
use Rattle.mn_txn.proofs.child.read_for.Goals as goal

pub returns : goal.returns
returns c =
    let e = c.args.entry.now in
    let s = c.args.slot in
    let version = 64 + 64 * c.args.version.0 in
    let number = 64 + 64 * c.args.number.0 in
    let root = 20480 + 1024 * e.root.slot in
    let none : State = record { nodes = c.args.nodes; dirty = []; reads = []; writes = [] } in
    let one = read_in none e.root.node root (page_bytes c.args.root.now) in
    let two = read_in one (node_no 0) version (entry_bytes e) in
    let three = read_in two (node_no 0) number (replicate 64 0) in
    read_on c.read-4.new.self c.read-3.new.self three s.node 16 16 c.in_ok-count.count (big_bytes 8 s.slot) c.in_ok-read-4.ensures.kept
    (read_on c.read-3.new.self c.read-2.new.self two (node_no 0) c.entry_start-2.result number c.in_ok-unused.unused (replicate 64 0) c.in_ok-read-3.ensures.kept
    (read_on c.read-2.new.self c.read.new.self one (node_no 0) c.entry_start.result version c.in_ok-bytes.bytes (entry_bytes e) c.in_ok-read-2.ensures.kept
    (read_on c.read.new.self c.in_ok-txn.txn none e.root.node c.slot_start-start.result root c.in_ok-page.page (page_bytes c.args.root.now) c.in_ok-read.ensures.kept
    c.in_ok-txn.ensures c.slot_start-start.ensures c.in_ok-page.ensures)
    c.entry_start.ensures c.in_ok-bytes.ensures)
    c.entry_start-2.ensures c.in_ok-unused.ensures)
    refl c.in_ok-count.ensures
