use Rattle.std.proofs.Common.{◌≡◌, Bool, true, List, Some, None, ap, sym, ◌∙◌, rules, if◌then◌else◌}
use Rattle.mn_mini.specs.declared.part.PartItem.{PartItem}
use Rattle.mn_mini.specs.declared.record.Record.{Record}
use Rattle.mn_mini.specs.declared.record.Record.TheVariants.{Executed}
use Rattle.mn_mini.specs.declared.request.Request.TheVariants as Ask
use Rattle.mn_mini.specs.Mini.{has_write}
use Rattle.mn_mini.specs.Node.{Response}
use Rattle.mn_node.specs.Node.{node_answer}
use Rattle.mn_node.proofs.Puts.{adds}
use Rattle.mn_node.proofs.requests.execute.Goals as goal

pub returns-in-NoRoom-clause-moments : goal.returns-in-NoRoom-clause-moments
returns-in-NoRoom-clause-moments g c =
    let m = c.args.memory.now in
    let old = c.args.redo.now in
    let part = c.args.part.now in
    let r : Record = Executed c.args.tid c.in-Ok.copy in
    let writes : has_write part ≡ true = search rules in
    let copied : c.in-Ok.copy ≡ part = search rules in
    let one : (node_answer m (Ask.Exec c.args.tid part)).added ≡ Some r =
    ap (λ (a : Response). a.added) c.requires.yes ∙ ap (λ (b : Bool). if b then Some (Executed c.args.tid part) else None) writes ∙ ap (λ (p : List PartItem). Some (Executed c.args.tid p)) (sym copied) in
    adds g.D.Disk.state old.disk c.log_record.new.redo.disk old.node old.nodes m.records.items (node_answer m (Ask.Exec c.args.tid part)).added r one c.log_record.ensures.moments

pub returns-in-Unshortened-clause-moments : goal.returns-in-Unshortened-clause-moments
returns-in-Unshortened-clause-moments g c =
    let m = c.args.memory.now in
    let old = c.args.redo.now in
    let part = c.args.part.now in
    let r : Record = Executed c.args.tid c.in-Ok.copy in
    let writes : has_write part ≡ true = search rules in
    let copied : c.in-Ok.copy ≡ part = search rules in
    let one : (node_answer m (Ask.Exec c.args.tid part)).added ≡ Some r =
    ap (λ (a : Response). a.added) c.requires.yes ∙ ap (λ (b : Bool). if b then Some (Executed c.args.tid part) else None) writes ∙ ap (λ (p : List PartItem). Some (Executed c.args.tid p)) (sym copied) in
    adds g.D.Disk.state old.disk c.log_record.new.redo.disk old.node old.nodes m.records.items (node_answer m (Ask.Exec c.args.tid part)).added r one c.log_record.ensures.moments

pub returns-in-Stopped-clause-moments : goal.returns-in-Stopped-clause-moments
returns-in-Stopped-clause-moments g c =
    let m = c.args.memory.now in
    let old = c.args.redo.now in
    let part = c.args.part.now in
    let r : Record = Executed c.args.tid c.in-Ok.copy in
    let writes : has_write part ≡ true = search rules in
    let copied : c.in-Ok.copy ≡ part = search rules in
    let one : (node_answer m (Ask.Exec c.args.tid part)).added ≡ Some r =
    ap (λ (a : Response). a.added) c.requires.yes ∙ ap (λ (b : Bool). if b then Some (Executed c.args.tid part) else None) writes ∙ ap (λ (p : List PartItem). Some (Executed c.args.tid p)) (sym copied) in
    adds g.D.Disk.state old.disk c.log_record.new.redo.disk old.node old.nodes m.records.items (node_answer m (Ask.Exec c.args.tid part)).added r one c.log_record.ensures.moments

pub returns-in-Logged-clause-moments : goal.returns-in-Logged-clause-moments
returns-in-Logged-clause-moments g c =
    let m = c.args.memory.now in
    let old = c.args.redo.now in
    let part = c.args.part.now in
    let r : Record = Executed c.args.tid c.in-Ok.copy in
    let writes : has_write part ≡ true = search rules in
    let copied : c.in-Ok.copy ≡ part = search rules in
    let one : (node_answer m (Ask.Exec c.args.tid part)).added ≡ Some r =
    ap (λ (a : Response). a.added) c.requires.yes ∙ ap (λ (b : Bool). if b then Some (Executed c.args.tid part) else None) writes ∙ ap (λ (p : List PartItem). Some (Executed c.args.tid p)) (sym copied) in
    adds g.D.Disk.state old.disk c.log_record.new.redo.disk old.node old.nodes m.records.items (node_answer m (Ask.Exec c.args.tid part)).added r one c.log_record.ensures.moments
