use Rattle.std.proofs.Common.{◌≡◌, Some, None, refl, ap, sym, ◌∙◌}
use Rattle.std.specs.HashMap.{get}
use Rattle.mn_mini.specs.declared.shortening.Ended.{Ended}
use Rattle.mn_mini.specs.declared.shortening.Ended.TheVariants as End
use Rattle.mn_mini.specs.declared.shortening.Newer.{Newer}
use Rattle.mn_mini.specs.Shorten.{id_key, keys_same}
use Rattle.mn_mini.proofs.ShortSteps.{put_back, put_once, vote_open, vote_dropped, vote_applied}
use Rattle.mn_mini.proofs.shortening.Newer.voted_part.Goals as goal

pub returns-in_ok-try_copy-in-None : goal.returns-in_ok-try_copy-in-None
returns-in_ok-try_copy-in-None c = λ over fates nodes older tells.
    let old = c.args.self.now in
    let new : Newer = record { over = old.over; ended = c.remove.new.self } in
    let was : get keys_same old.ended (id_key c.args.tid) ≡ None = ap (get keys_same old.ended) (sym c.id_key-key.ensures) ∙ sym c.remove.ensures.value ∙ c.in-None.is in
    let kept = vote_open old new c.args.tid nodes c.args.part.now over fates older refl was
    (put_once c.id_key-key.result c.args.tid None (get keys_same old.ended) (get keys_same c.remove.new.self) c.id_key-key.ensures c.remove.ensures.updates.0) tells in
    (c.in_ok-try_copy-in-None.ensures ∙ kept.0, kept.1)

pub returns-in_ok-first_read-in-Some-Dropped : goal.returns-in_ok-first_read-in-Some-Dropped
returns-in_ok-first_read-in-Some-Dropped c = λ over fates nodes older tells.
    let old = c.args.self.now in
    let new : Newer = record { over = old.over; ended = c.insert.new.self } in
    let was : get keys_same old.ended (id_key c.args.tid) ≡ Some End.Dropped = ap (get keys_same old.ended) (sym c.id_key-key.ensures) ∙ sym c.remove.ensures.value ∙ c.in-Some-Dropped.is ∙ ap (λ (e : Ended). Some e) c.in-Some-Dropped.field-0-is in
    let kept = vote_dropped old new c.args.tid nodes c.args.part.now over fates older refl was
    (put_back c.id_key-key.result c.args.tid (Some End.Dropped) (get keys_same old.ended) (get keys_same c.remove.new.self) (get keys_same c.insert.new.self) c.id_key-key.ensures c.remove.ensures.updates.0 c.in_ok-insert-in-Some-Dropped.ensures.updates.0) tells in
    (c.in_ok-first_read-in-Some-Dropped.ensures ∙ kept.0, kept.1)

pub returns-in_ok-or_first_read-in-Some-Applied : goal.returns-in_ok-or_first_read-in-Some-Applied
returns-in_ok-or_first_read-in-Some-Applied c = λ over fates nodes older tells.
    let old = c.args.self.now in
    let new : Newer = record { over = old.over; ended = c.insert-in-Some-Applied.new.self } in
    let left = c.newest-items.new.self in
    let was : get keys_same old.ended (id_key c.args.tid) ≡ Some (End.Applied c.in-Some-Applied.kept) = ap (get keys_same old.ended) (sym c.id_key-key.ensures) ∙ sym c.remove.ensures.value ∙ c.in-Some-Applied.is ∙ ap (λ (e : Ended). Some e) c.in-Some-Applied.field-0-is in
    let kept = vote_applied old new c.args.tid nodes c.args.part.now over fates older c.in-Some-Applied.kept left c.newest-items.result.items c.newest-items.ensures refl was
    (put_back c.id_key-key.result c.args.tid (Some (End.Applied left)) (get keys_same old.ended) (get keys_same c.remove.new.self) (get keys_same c.insert-in-Some-Applied.new.self) c.id_key-key.ensures c.remove.ensures.updates.0 c.in_ok-insert-in-Some-Applied.ensures.updates.0) tells in
    (c.in_ok-or_first_read-in-Some-Applied.ensures ∙ kept.0, kept.1)
