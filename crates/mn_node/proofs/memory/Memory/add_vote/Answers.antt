use Rattle.std.proofs.Common.{◌≡◌, ◌++◌, ◌∷◌, [], List, ap, reverse, sym, Some, None, subst, ◌∙◌}
use Rattle.mn_mini.specs.RecordGrammar.{IsRecord}
use Rattle.mn_mini.specs.declared.record.Record.{Record}
use Rattle.mn_mini.specs.declared.record.Record.TheVariants.{Voted}
use Rattle.mn_locks.specs.declared.hold.Hold.{Hold}
use Rattle.mn_locks.specs.Locks.{held_of, holds_of}
use Rattle.mn_mini.specs.Node.{held_parts}
use Rattle.mn_page.specs.Base.{base_of}
use Rattle.mn_node.specs.declared.held.Vote.{Vote}
use Rattle.mn_node.specs.Memory.{IsMadeByRecords}
use Rattle.mn_node.specs.Part.{shared_of, alone_of}
use Rattle.mn_node.proofs.Built.{built_voted}
use Rattle.mn_node.proofs.TestedParts.{not_held, is_ok_of}
use Rattle.mn_node.proofs.memory.Memory.add_vote.Goals as goal

pub unwrap-requires : goal.unwrap-requires
unwrap-requires c =
    let shared : c.deref.result.now ≡ shared_of c.args.part.now = c.deref.ensures ∙ c.requires.shared in
    let alone : c.deref-2.result.now ≡ alone_of c.args.part.now = c.deref-2.ensures ∙ c.requires.alone in
    is_ok_of c.try_lock.result (held_of c.args.self.now.locks.holds c.args.tid c.deref.result.now c.deref-2.result.now ≡ None)
    (λ held. held_of c.args.self.now.locks.holds c.args.tid c.deref.result.now c.deref-2.result.now ≡ Some held) c.try_lock.ensures.verdict
    (λ held told. not_held (held_parts (reverse c.args.self.now.records.items)) c.args.self.now.locks.holds c.args.tid c.args.part.now c.deref.result.now c.deref-2.result.now held (subst IsRecord c.requires.same c.requires.vote).follows.1 shared alone c.requires.memory.holds_are c.requires.free told)

pub returns-clause-memory : goal.returns-clause-memory
returns-clause-memory c =
    let m = c.args.self.now in
    let base = base_of m.nodes m.node in
    let part = c.args.part.now in
    let ps = c.args.participants.now in
    let v : Vote = record { tid = c.args.tid; place = c.len-place.result } in
    let shared : c.deref.result.now ≡ shared_of part = c.deref.ensures ∙ c.requires.shared in
    let alone : c.deref-2.result.now ≡ alone_of part = c.deref-2.ensures ∙ c.requires.alone in
    let taken : c.try_lock.new.self.holds ≡ m.locks.holds ++ holds_of c.args.tid c.deref.result.now c.deref-2.result.now = rw c.unwrap.ensures at c.try_lock.ensures.taken in
    let holds : c.try_lock.new.self.holds ≡ m.locks.holds ++ holds_of c.args.tid (shared_of part) (alone_of part) = taken ∙ (λ i. m.locks.holds ++ holds_of c.args.tid (shared i) (alone i)) in
    let votes : c.push.new.self.items ≡ m.held.items ++ v ∷ [] = rw c.unwrap-2.ensures at c.push.ensures.items in
    let items : c.push-2.new.self.items ≡ m.records.items ++ c.args.vote ∷ [] = rw c.unwrap-3.ensures at c.push-2.ensures.items in
    let records : c.push-2.new.self.items ≡ m.records.items ++ Voted c.args.tid ps part ∷ [] = items ∙ ap (λ (r : Record). m.records.items ++ r ∷ []) c.requires.same in
    let built = built_voted base m.records.items m.space m.locks.holds m.forced.items m.held.items c.args.tid ps part c.len-place.result (c.len-place.ensures ∙ m.records.ok.0) c.requires.memory (subst IsRecord c.requires.same c.requires.vote) in
    let with_holds = subst (λ (l : List Hold). IsMadeByRecords base (m.records.items ++ Voted c.args.tid ps part ∷ []) m.space l m.forced.items (m.held.items ++ v ∷ [])) (sym holds) built in
    let with_votes = subst (λ (l : List Vote). IsMadeByRecords base (m.records.items ++ Voted c.args.tid ps part ∷ []) m.space c.try_lock.new.self.holds m.forced.items l) (sym votes) with_holds in
    subst (λ (l : List Record). IsMadeByRecords base l m.space c.try_lock.new.self.holds m.forced.items c.push.new.self.items) (sym records) with_votes
