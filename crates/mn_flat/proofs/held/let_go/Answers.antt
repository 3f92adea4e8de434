use Rattle.std.proofs.Common.{◌≡◌, not, rules, filter, ap, ◌∙◌}
use Rattle.std.proofs.lemmas.Fn.{filter_same}
use Rattle.mn_base.specs.Ids.{tid_same}
use Rattle.mn_flat.specs.Known.{parts_seen}
use Rattle.mn_flat.proofs.HeldParts.{left_seen}
use Rattle.mn_flat.proofs.held.let_go.Goals as goal

pub returns : goal.returns
returns c =
    let kept : c.retain.new.self.items ≡ filter (λ h. not (tid_same h.tid c.args.tid)) c.args.held.now.items = filter_same _ _ _ (λ x b f' k. search rules) _ _ c.retain.ensures.filtered in
    ap parts_seen kept ∙ left_seen c.args.tid c.args.held.now.items
