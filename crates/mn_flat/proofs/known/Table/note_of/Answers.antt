use Rattle.std.proofs.Common.{Some, cond, subst, ap, ◌∙◌}
use Rattle.std.specs.HashMap.{get}
use Rattle.mn_flat.specs.declared.known.IdKey.{IdKey}
use Rattle.mn_flat.specs.declared.known.Known.{Known}
use Rattle.mn_flat.specs.Known.{FollowsRecord, id_key, keys_same}
use Rattle.mn_flat.proofs.Tables.{noted}
use Rattle.mn_flat.proofs.known.Table.note_of.Goals as goal

pub returns : goal.returns
returns c = λ older tells.
    let tid = c.args.tid in
    let r = c.args.record.now in
    let old = c.args.self.now in
    let follows = subst (λ (k : Known). FollowsRecord k c.after-known.result r) c.of.ensures c.after-known.ensures in
    noted old (record { known = c.insert.new.self }) tid r older c.after-known.result c.requires tells follows
    (λ q. c.in_ok-insert.ensures.updates.0 (id_key q)
    ∙ ap (λ (k : IdKey). cond (keys_same k (id_key q)) (Some c.after-known.result) (get keys_same old.known (id_key q))) c.id_key.ensures)
