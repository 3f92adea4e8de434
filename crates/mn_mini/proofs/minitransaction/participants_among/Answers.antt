use Rattle.std.proofs.Common.{sym, ap, ◌∙◌, ◌<◌, arith, false}
use Rattle.std.proofs.Math.ListN.{get_or}
use Rattle.std.proofs.lemmas.Option.{get_or_from_slice_get}
use Rattle.mn_mini.specs.Mini.{is_named}
use Rattle.mn_mini.proofs.Participants.{named_more, unnamed_more}
use Rattle.mn_mini.proofs.minitransaction.participants_among.Goals as goal
use Rattle.mn_mini.proofs.minitransaction.participants_among.Goals.{then-named-from+in_ok-push, else-named-from}

pub loop-number-preserved : goal.loop-number-preserved
loop-number-preserved c =
    let number = c.loop-number.number in
    let p = is_named c.args.items.now in
    let so_far = c.loop-number.participants in
    let few : number < 256 = grind (arith) in
    let named = c.named_by-named.result in
    let told = get_or_from_slice_get named number (p (record { 0 = number })) false (c.named_by-named.ensures (record { 0 = number }) few) in
    let found = ap (λ n. get_or named n false) c.from.ensures ∙ told in
    elim c.if-named-from.branch [
      | then-named-from+in_ok-push w ↦
          (let more = named_more p number so_far (sym w.if-named-from.true ∙ found) c.loop-number.invariant in
          let pushed = w.in_ok-push.ensures.ok in
          w.participants-is ∙ pushed ∙ more)
      | else-named-from w ↦
          (let same = unnamed_more p number so_far (sym w.if-named-from.false ∙ found) c.loop-number.invariant in
          w.participants-is ∙ same)
    ]
