use Rattle.std.proofs.Common.{rules, ◌≡◌, ◌<◌, ℕ, List, inl, refl, reverse, ap, sym, subst, ◌∙◌}
use Rattle.std.specs.List.{AllByRecursion}
use Rattle.mn_io.specs.DiskModel.{LeavesOnly}
use Rattle.mn_redo.specs.Grammar.{Stands}
use Rattle.mn_mini.specs.declared.record.Record.{Record}
use Rattle.mn_mini.specs.Laws.{PartsAreApart}
use Rattle.mn_mini.specs.Node.{held_parts}
use Rattle.mn_mini.specs.RecordGrammar.{IsRecord}
use Rattle.mn_node.specs.Node.{bodies_of, listed, on_disk}
use Rattle.mn_node.proofs.Moments.{only_same}
use Rattle.mn_node.proofs.node.Node.start.Goals as goal

pub returns-in-Err-clause-stands_err : goal.returns-in-Err-clause-stands_err
returns-in-Err-clause-stands_err g c = c.close.ensures.stands c.requires.going

pub returns-in-Err-clause-moments_err : goal.returns-in-Err-clause-moments_err
returns-in-Err-clause-moments_err g c honest stands =
    let old = c.args.redo in
    subst (λ d. LeavesOnly (g.D.Disk.state old.disk) (g.D.Disk.state d) (λ l. Stands old.node old.nodes l old.bodies)) (sym c.close.ensures.disk)
    (only_same (g.D.Disk.state old.disk) (λ l. Stands old.node old.nodes l old.bodies) (g.D.Disk.is_disk old.disk honest) stands)

pub invariant_of-result : goal.invariant_of-result
invariant_of-result g c =
    let told = c.in-Ok-ready.ensures in
    let records = c.in-Ok.ensures.records in
    let old = c.deref_mut.ensures.value ∙ c.in-Ok-new.ensures.ok in
    let apart = c.requires.apart c.in-Ok.records.items records.sound records.bodies_are in
    let same = sym told.records in
    record {
      up = λ _. told.up;
      settled = λ _. refl;
      whole = λ _. refl;
      front = told.up.front;
      sound = subst (AllByRecursion IsRecord) same records.sound;
      apart = subst (λ (l : List Record). PartsAreApart (held_parts (reverse l))) same apart;
      apart_left = subst (λ (l : List Record). PartsAreApart (held_parts (reverse l))) same apart;
      stands = λ h l image. inl (told.up.log.stands h l image);
      header = told.header;
      node = told.node ∙ sym told.continues.node;
      nodes = told.nodes ∙ sym told.continues.nodes;
      some = subst (λ (n : ℕ). 0 < n) (sym (told.continues.nodes ∙ ap (λ r. r.nodes) old ∙ c.into_appender.ensures.nodes)) c.requires.nodes;
    }

pub returns-in-Err-new-clause-moments_err : goal.returns-in-Err-new-clause-moments_err
returns-in-Err-new-clause-moments_err g c honest stands =
    let old = c.args.redo in
    let same : c.close-in-Err-new.result ≡ old.disk = c.close-in-Err-new.ensures.disk ∙ ap (λ a. a.disk) c.in-Err-new.ensures.value_returned ∙ c.into_appender.ensures.disk in
    subst (λ d. LeavesOnly (g.D.Disk.state old.disk) (g.D.Disk.state d) (λ l. Stands old.node old.nodes l old.bodies)) (sym same)
    (only_same (g.D.Disk.state old.disk) (λ l. Stands old.node old.nodes l old.bodies) (g.D.Disk.is_disk old.disk honest) stands)

pub returns-in-Ok-ready-clause-started : goal.returns-in-Ok-ready-clause-started
returns-in-Ok-ready-clause-started g c =
    let told = c.in-Ok-ready.ensures in
    let records = c.in-Ok.ensures.records in
    let old = c.deref_mut.ensures.value ∙ c.in-Ok-new.ensures.ok in
    let m = c.in-Ok-ready.memory in
    let list : on_disk m ≡ m.records.items = ap (λ (n : ℕ). listed n m.records.items) told.cut in
    record {
      up = refl;
      records = record { bodies_are = records.bodies_are ∙ ap bodies_of (sym told.records); sound = subst (AllByRecursion IsRecord) (sym told.records) records.sound };
      node = told.continues.node ∙ ap (λ r. r.node) old ∙ c.into_appender.ensures.node;
      nodes = told.continues.nodes ∙ ap (λ r. r.nodes) old ∙ c.into_appender.ensures.nodes;
      uncut = told.cut;
      stands = λ h image l. subst (λ (rs : List Record). Stands c.ready.new.redo.node c.ready.new.redo.nodes image (bodies_of rs)) list (told.up.log.stands h image l);
    }

pub returns-in-Err-ready-clause-stands_err : goal.returns-in-Err-ready-clause-stands_err
returns-in-Err-ready-clause-stands_err g c honest l image =
    let told = c.in-Err-ready.ensures in
    let old = c.deref_mut.ensures.value ∙ c.in-Ok-new.ensures.ok in
    let disk : c.close-in-Err-ready.result ≡ c.ready.new.redo.disk = search rules in
    let node = ap (λ r. r.node) old ∙ c.into_appender.ensures.node in
    let nodes = ap (λ r. r.nodes) old ∙ c.into_appender.ensures.nodes in
    let stands = subst (λ d. (g.D.Disk.state d).honest → (k : List ℕ) → (g.D.Disk.state d).images k → Stands c.deref_mut.result.now.node c.deref_mut.result.now.nodes k (bodies_of c.in-Ok.records.items)) (sym disk) told.stands in
    let with_bodies = subst (λ (bodies : List (List ℕ)). Stands c.deref_mut.result.now.node c.deref_mut.result.now.nodes l bodies) (sym c.in-Ok.ensures.records.bodies_are) (stands honest l image) in
    subst (λ (k : ℕ). Stands k c.args.redo.nodes l c.args.redo.bodies) node (subst (λ (k : ℕ). Stands c.deref_mut.result.now.node k l c.args.redo.bodies) nodes with_bodies)
