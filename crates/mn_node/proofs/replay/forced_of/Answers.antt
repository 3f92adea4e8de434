use Rattle.std.proofs.Common.{◌≡◌, ◌-◌, ◌++◌, [], List, drop, length, reverse, take, ap, append-nil, ◌∙◌}
use Rattle.mn_base.specs.declared.ids.Tid.{Tid}
use Rattle.mn_mini.specs.declared.record.Record.{Record}
use Rattle.mn_mini.specs.Node.{has_forced}
use Rattle.mn_node.specs.Memory.{is_among}
use Rattle.mn_node.proofs.Fronts.{front_forced, rest_is}
use Rattle.mn_node.proofs.replay.forced_of.Goals as goal

pub returns : goal.returns
returns c = λ tid.
    let front = c.args.front.now in
    let list = c.deref.result.now in
    let rest = take (length c.args.records.now - c.args.cut) (drop c.args.cut c.args.records.now) in
    let none : (t : Tid) → is_among c.new-forced.result.items t ≡ has_forced [] t = λ t. ap (λ (l : List Tid). is_among l t) c.new-forced.ensures.items in
    let first = c.in_ok-note_all.ensures [] none in
    let both = c.in_ok-note_all-2.ensures (reverse list) (λ t. first t ∙ ap (λ (l : List Record). has_forced l t) (append-nil (reverse list))) tid in
    both ∙ ap (λ (l : List Record). has_forced (reverse rest ++ reverse l) tid) c.deref.ensures.value
    ∙ front_forced c.short_is_like_whole.ensures.alike c.args.records.now rest c.args.cut front tid c.requires.front (rest_is c.args.cut c.args.records.now)
