use Rattle.std.proofs.Common.{rules, ◌≡◌, ◌<◌, ◌∙◌, ℕ, List, inl, refl, true, reverse, sym, subst}
use Rattle.std.specs.List.{AllByRecursion}
use Rattle.std.proofs.lemmas.Bool.{false≢true}
use Rattle.mn_io.proofs.Moments.{LeavesOnly-weaker}
use Rattle.mn_mini.specs.Laws.{PartsAreApart}
use Rattle.mn_mini.specs.Node.{held_parts}
use Rattle.mn_mini.specs.RecordGrammar.{IsRecord}
use Rattle.mn_mini.specs.declared.record.Record.{Record}
use Rattle.mn_node.specs.Node.{IsEither, IsUpToWithOrWithout, StandsForEither, added_to, bodies_of, on_disk}
use Rattle.mn_node.specs.State.{other_list_of}
use Rattle.mn_node.proofs.Fronts.{front_same}
use Rattle.mn_node.proofs.Restarts.{leaves_apart, same_other, up_to_found}
use Rattle.mn_node.proofs.Steps.{same_on_disk}
use Rattle.mn_node.proofs.node.Node.restart.Goals as goal

pub back-requires-clause-stands : goal.back-requires-clause-stands
back-requires-clause-stands g c = rw c.deref_mut.ensures.value c.self.invariant.stands

pub returns-in-Ok-clause-keeps : goal.returns-in-Ok-clause-keeps
returns-in-Ok-clause-keeps g c =
    let continues = rw c.deref_mut.ensures.value at c.in-Ok.ensures.continues in
    let keeps = rw c.deref_mut.ensures.value at c.in-Ok.ensures.keeps in
    rw (← c.self.view_is) (λ records stands h. keeps (continues.no_better h) (bodies_of records) (stands (continues.no_better h)))

pub returns-in-Err-clause-keeps : goal.returns-in-Err-clause-keeps
returns-in-Err-clause-keeps g c =
    let continues = rw c.deref_mut.ensures.value at c.in-Err.ensures.continues in
    let keeps = rw c.deref_mut.ensures.value at c.in-Err.ensures.keeps in
    rw (← c.self.view_is) (λ records stands h. keeps (continues.no_better h) (bodies_of records) (stands (continues.no_better h)))

pub returns-in-Ok-clause-found : goal.returns-in-Ok-clause-found
returns-in-Ok-clause-found g c =
    let found = rw c.deref_mut.ensures.value at c.in-Ok.ensures.found in
    rw (← c.self.view_is) (λ honest records stands. found honest (bodies_of records) (stands honest))

pub returns-in-Ok-clause-moments : goal.returns-in-Ok-clause-moments
returns-in-Ok-clause-moments g c =
    let n = c.self.inside in
    let old = n.redo.value in
    let moments = rw c.deref_mut.ensures.value at c.in-Ok.ensures.moments in
    rw (← c.self.view_is) (λ honest. LeavesOnly-weaker (g.D.Disk.state old.disk) (g.D.Disk.state c.back.new.redo.disk) (IsEither old.node old.nodes (on_disk n.memory) (other_list_of n.memory n.pending n.cutting))
    (IsUpToWithOrWithout old.node old.nodes n.memory.records.items n.pending) (up_to_found old.node old.nodes n.memory n.pending n.cutting c.self.invariant.front.within) (moments honest))

pub returns-in-Err-clause-moments : goal.returns-in-Err-clause-moments
returns-in-Err-clause-moments g c =
    let n = c.self.inside in
    let old = n.redo.value in
    let moments = rw c.deref_mut.ensures.value at c.in-Err.ensures.moments in
    rw (← c.self.view_is) (λ honest. LeavesOnly-weaker (g.D.Disk.state old.disk) (g.D.Disk.state c.back.new.redo.disk) (IsEither old.node old.nodes (on_disk n.memory) (other_list_of n.memory n.pending n.cutting))
    (IsUpToWithOrWithout old.node old.nodes n.memory.records.items n.pending) (up_to_found old.node old.nodes n.memory n.pending n.cutting c.self.invariant.front.within) (moments honest))

pub returns-in-Err-clause-cause : goal.returns-in-Err-clause-cause
returns-in-Err-clause-cause g c =
    let cause = rw c.deref_mut.ensures.value at c.in-Err.ensures.cause in
    rw (← c.self.view_is) cause

pub invariant_of-self : goal.invariant_of-self
invariant_of-self g c =
    let was = c.self.invariant in
    let n = c.self.inside in
    let m = c.back.new.memory in
    let continues = rw c.deref_mut.ensures.value at c.in-Ok.ensures.continues in
    let up = c.in-Ok.ensures.up in
    let apart = leaves_apart n.memory.records.items n.pending m.records.items c.in-Ok.there c.in-Ok.ensures.records was.apart was.apart_left in
    record {
      up = λ _. up;
      settled = λ _. refl;
      whole = λ _. refl;
      front = up.front;
      sound = up.memory.sound;
      apart = apart;
      apart_left = apart;
      stands = λ honest l image. inl (up.log.stands honest l image);
      header = continues.header was.header;
      node = c.in-Ok.ensures.same.0 ∙ was.node ∙ sym continues.node;
      nodes = c.in-Ok.ensures.same.1 ∙ was.nodes ∙ sym continues.nodes;
      some = subst (λ (k : ℕ). 0 < k) (sym continues.nodes) was.some;
    }

pub invariant_of-self-in-Err : goal.invariant_of-self-in-Err
invariant_of-self-in-Err g c =
    let was = c.self.invariant in
    let n = c.self.inside in
    let old = n.redo.value in
    let new = c.back.new.redo in
    let disk = g.D.Disk.state new.disk in
    let m = c.back.new.memory in
    let kept = c.in-Err.ensures in
    let continues = rw c.deref_mut.ensures.value at kept.continues in
    let stands = rw c.deref_mut.ensures.value at kept.stands in
    let others = other_list_of m n.pending n.cutting in
    let down : n.is_down ≡ true = search rules in
    record {
      up = λ up. absurd (false≢true (sym up ∙ down));
      settled = was.settled;
      whole = was.whole;
      front = front_same n.memory m was.front kept.before kept.cut kept.front;
      sound = subst (λ (l : List Record). AllByRecursion IsRecord (added_to l n.pending)) (sym kept.before) was.sound;
      apart = subst (λ (l : List Record). PartsAreApart (held_parts (reverse l))) (sym kept.before) was.apart;
      apart_left = subst (λ (l : List Record). PartsAreApart (held_parts (reverse (added_to l n.pending)))) (sym kept.before) was.apart_left;
      stands = λ honest.
          let lists = subst (λ (l : List Record). StandsForEither disk old.node old.nodes (on_disk n.memory) l) (sym (same_other n.memory m n.pending n.cutting kept.before kept.cut)) (stands honest) in
          let list = subst (λ (l : List Record). StandsForEither disk old.node old.nodes l others) (sym (same_on_disk n.memory m kept.before kept.cut)) lists in
          let with_nodes = subst (λ (k : ℕ). StandsForEither disk old.node k (on_disk m) others) (sym continues.nodes) list in
          subst (λ (k : ℕ). StandsForEither disk k new.nodes (on_disk m) others) (sym continues.node) with_nodes;
      header = continues.header was.header;
      node = kept.same.0 ∙ was.node ∙ sym continues.node;
      nodes = kept.same.1 ∙ was.nodes ∙ sym continues.nodes;
      some = subst (λ (k : ℕ). 0 < k) (sym continues.nodes) was.some;
    }
