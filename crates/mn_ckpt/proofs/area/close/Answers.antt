use Rattle.std.proofs.Common.{rules, ◌≡◌, ◌∷◌, [], ℕ, List, get_or, inl, ◌∙◌, ap, subst, sym, arith}
use Rattle.std.proofs.lemmas.Result.{on_ok_weaker}
use Rattle.mn_io.proofs.Moments.{LeavesOnly-weaker, LeavesOnly-trans}
use Rattle.mn_io.specs.DiskModel.{Torn, written_at}
use Rattle.mn_ckpt.specs.Area.{gate_of, IsClosedOrOld}
use Rattle.mn_ckpt.proofs.Areas.{closed, closing, gate_read}
use Rattle.mn_ckpt.proofs.Moments.{stays_leaves, stays_stable}
use Rattle.mn_ckpt.proofs.area.close.Goals as goal

pub returns-clause-closed : goal.returns-clause-closed
returns-clause-closed g c h =
    let stays = c.read.ensures.same h in
    let content = (g.D.Disk.state c.args.disk.now).content in
    on_ok_weaker c.change.result (λ done. closed c.args.area c.requires.area content _ (c.requires.within h)
    (done ∙ ap (λ (l : List ℕ). written_at l c.gate_at-at.result (0 ∷ [])) stays.content ∙ ap (λ (n : ℕ). written_at content n (0 ∷ [])) c.gate_at-at.ensures)) (c.change.ensures.written stays.time.honest)

pub returns-clause-any_moment : goal.returns-clause-any_moment
returns-clause-any_moment g c h stable =
    let stays = c.read.ensures.same h in
    let content = (g.D.Disk.state c.args.disk.now).content in
    let P : List ℕ → Type 0 = IsClosedOrOld c.args.area content in
    let long = c.requires.within h in
    let at = c.gate_at-at.ensures in
    let opens : get_or c.read.new.into 0 0 ≡ 1 = search rules in
    let read = gate_read c.in_ok-read.field-0 c.gate_at-at.result c.read.new.into content (search rules) (omega (arith, at, c.requires.area, long)) (c.in_ok-read.ensures.value h) in
    let was : gate_of c.args.area content ≡ 1 = ap (λ (n : ℕ). get_or content n 0) (sym at) ∙ sym read ∙ opens in
    let first = stays_leaves _ _ P (g.D.Disk.is_disk _ h) stays (λ x image. inl (stable x image)) in
    LeavesOnly-trans _ _ _ P first
    (LeavesOnly-weaker _ _ _ P
    (λ x torn. closing c.args.area c.requires.area content x long was (subst (λ (n : ℕ). Torn n 1 content x) at (subst (λ (l : List ℕ). Torn c.gate_at-at.result 1 l x) stays.content torn)))
    (c.change.ensures.any_moment stays.time.honest (stays_stable _ _ stays stable)))
