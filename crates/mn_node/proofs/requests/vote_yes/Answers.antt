-- There are as many ranges as items.
use Rattle.std.proofs.Common.{◌≡◌, ◌+◌, ◌≤◌, List, Some, length, ap, sym, arith, rules, ◌∙◌}
use Rattle.mn_base.specs.declared.ids.NodeNo.{NodeNo}
use Rattle.mn_mini.specs.declared.part.PartItem.{PartItem}
use Rattle.mn_mini.specs.declared.record.Record.{Record}
use Rattle.mn_mini.specs.declared.record.Record.TheVariants.{Voted}
use Rattle.mn_mini.specs.declared.request.Request.TheVariants as Ask
use Rattle.mn_mini.specs.Node.{Response}
use Rattle.mn_node.specs.Node.{node_answer}
use Rattle.mn_node.proofs.Puts.{adds}
use Rattle.mn_node.specs.Part.{shared_of, alone_of}
use Rattle.mn_node.proofs.Locked.{ranges_of_items}
use Rattle.mn_node.proofs.requests.vote_yes.Goals as goal

pub overflow_add-count : goal.overflow_add-count
overflow_add-count g c =
    let part = c.args.part.now in
    let shared : c.len.result ≡ length (shared_of part) = c.len.ensures.value ∙ ap length c.requires.shared in
    let alone : c.len-2.result ≡ length (alone_of part) = c.len-2.ensures.value ∙ ap length c.requires.alone in
    let all : length (shared_of part) + length (alone_of part) ≡ length part = ranges_of_items part in
    let few : length part ≤ 1024 = c.requires.part.few in
    omega arith

pub returns-in-NoRoom-clause-moments : goal.returns-in-NoRoom-clause-moments
returns-in-NoRoom-clause-moments g c =
    let m = c.args.memory.now in
    let old = c.args.redo.now in
    let asked = Ask.Prepare c.args.tid c.args.participants.now c.args.part.now in
    let r : Record = Voted c.args.tid c.in-Ok.nodes c.in-Ok-try_copy.copy in
    let nodes : c.in-Ok.nodes ≡ c.args.participants.now = search rules in
    let copied : c.in-Ok-try_copy.copy ≡ c.args.part.now = search rules in
    let one : (node_answer m asked).added ≡ Some r =
    ap (λ (a : Response). a.added) c.requires.yes ∙ ap (λ (p : List PartItem). Some (Voted c.args.tid c.args.participants.now p)) (sym copied) ∙ ap (λ (n : List NodeNo). Some (Voted c.args.tid n c.in-Ok-try_copy.copy)) (sym nodes) in
    adds g.D.Disk.state old.disk c.log_record.new.redo.disk old.node old.nodes m.records.items (node_answer m asked).added r one c.log_record.ensures.moments

pub returns-in-Unshortened-clause-moments : goal.returns-in-Unshortened-clause-moments
returns-in-Unshortened-clause-moments g c =
    let m = c.args.memory.now in
    let old = c.args.redo.now in
    let asked = Ask.Prepare c.args.tid c.args.participants.now c.args.part.now in
    let r : Record = Voted c.args.tid c.in-Ok.nodes c.in-Ok-try_copy.copy in
    let nodes : c.in-Ok.nodes ≡ c.args.participants.now = search rules in
    let copied : c.in-Ok-try_copy.copy ≡ c.args.part.now = search rules in
    let one : (node_answer m asked).added ≡ Some r =
    ap (λ (a : Response). a.added) c.requires.yes ∙ ap (λ (p : List PartItem). Some (Voted c.args.tid c.args.participants.now p)) (sym copied) ∙ ap (λ (n : List NodeNo). Some (Voted c.args.tid n c.in-Ok-try_copy.copy)) (sym nodes) in
    adds g.D.Disk.state old.disk c.log_record.new.redo.disk old.node old.nodes m.records.items (node_answer m asked).added r one c.log_record.ensures.moments

pub returns-in-Stopped-clause-moments : goal.returns-in-Stopped-clause-moments
returns-in-Stopped-clause-moments g c =
    let m = c.args.memory.now in
    let old = c.args.redo.now in
    let asked = Ask.Prepare c.args.tid c.args.participants.now c.args.part.now in
    let r : Record = Voted c.args.tid c.in-Ok.nodes c.in-Ok-try_copy.copy in
    let nodes : c.in-Ok.nodes ≡ c.args.participants.now = search rules in
    let copied : c.in-Ok-try_copy.copy ≡ c.args.part.now = search rules in
    let one : (node_answer m asked).added ≡ Some r =
    ap (λ (a : Response). a.added) c.requires.yes ∙ ap (λ (p : List PartItem). Some (Voted c.args.tid c.args.participants.now p)) (sym copied) ∙ ap (λ (n : List NodeNo). Some (Voted c.args.tid n c.in-Ok-try_copy.copy)) (sym nodes) in
    adds g.D.Disk.state old.disk c.log_record.new.redo.disk old.node old.nodes m.records.items (node_answer m asked).added r one c.log_record.ensures.moments

pub returns-in-Logged-clause-moments : goal.returns-in-Logged-clause-moments
returns-in-Logged-clause-moments g c =
    let m = c.args.memory.now in
    let old = c.args.redo.now in
    let asked = Ask.Prepare c.args.tid c.args.participants.now c.args.part.now in
    let r : Record = Voted c.args.tid c.in-Ok.nodes c.in-Ok-try_copy.copy in
    let nodes : c.in-Ok.nodes ≡ c.args.participants.now = search rules in
    let copied : c.in-Ok-try_copy.copy ≡ c.args.part.now = search rules in
    let one : (node_answer m asked).added ≡ Some r =
    ap (λ (a : Response). a.added) c.requires.yes ∙ ap (λ (p : List PartItem). Some (Voted c.args.tid c.args.participants.now p)) (sym copied) ∙ ap (λ (n : List NodeNo). Some (Voted c.args.tid n c.in-Ok-try_copy.copy)) (sym nodes) in
    adds g.D.Disk.state old.disk c.log_record.new.redo.disk old.node old.nodes m.records.items (node_answer m asked).added r one c.log_record.ensures.moments
