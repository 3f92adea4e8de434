use Rattle.std.proofs.Common.{List, ap, sym, ◌∙◌, length, arith}
use Rattle.std.specs.List.{list_any}
use Rattle.mn_base.specs.Ids.{tid_same}
use Rattle.mn_node.specs.declared.held.Vote.{Vote}
use Rattle.mn_node.proofs.Votes.{any_held, fewer}
use Rattle.mn_node.proofs.memory.Memory.holds.Goals as goal

pub returns-clause-held : goal.returns-clause-held
returns-clause-held c =
    c.has_vote_for.ensures ∙ ap (λ (l : List Vote). list_any (λ v. tid_same v.tid c.args.tid) l) c.deref.ensures.value
    ∙ any_held c.args.self.now.records.items c.args.self.now.held.items c.args.tid c.requires.memory.held_are

pub returns-clause-some : goal.returns-clause-some
returns-clause-some c = λ e.
    let less = fewer c.args.tid c.deref.result.now (sym c.has_vote_for.ensures ∙ e) in
    let same = ap (λ (l : List Vote). length l) c.deref.ensures.value in
    omega (arith, less, same, c.args.self.now.held.ok.0)
