use Rattle.std.proofs.Common.{◌≤◌, ◌+◌, ◌∷◌, [], ℕ, List, length, inl, inr, ◌∙◌, ap, subst, arith}
use Rattle.mn_io.proofs.Moments.{LeavesOnly-weaker, LeavesOnly-trans}
use Rattle.mn_io.specs.DiskModel.{Torn, written_at}
use Rattle.mn_ckpt.specs.Area.{IsClosedOldOrWritten}
use Rattle.mn_ckpt.proofs.Areas.{imaging, imaged, opening, opened}
use Rattle.mn_ckpt.proofs.area.write_image.Goals as goal

pub returns-in_err-change-2-clause-any_moment : goal.returns-in_err-change-2-clause-any_moment
returns-in_err-change-2-clause-any_moment g c h stable =
    let area = c.args.area in
    let image = c.args.image.now in
    let le = c.requires.area in
    let at = c.gate_at-at.ensures in
    let content = (g.D.Disk.state c.args.disk.now).content in
    let P : List ℕ → Type 0 = IsClosedOldOrWritten area image content in
    let h1 = c.close.ensures.honest h in
    let shut = c.in_ok-close.ensures.closed h in
    let content1 = (g.D.Disk.state c.close.new.disk).content in
    let long1 : 80 ≤ length content1 = omega (arith, c.requires.within h, shut.outside.size) in
    let first = LeavesOnly-weaker _ _ _ P (λ x p. inl p) (c.close.ensures.any_moment h stable) in
    let second = LeavesOnly-trans _ _ _ P first
    (LeavesOnly-weaker _ _ _ P
    (λ x torn. inl (inr (imaging area le content content1 x long1 shut (subst (λ (n : ℕ). Torn (n + 1) 16 content1 x) at (subst (λ (n : ℕ). Torn (c.gate_at-at.result + 1) n content1 x) c.requires.size torn)))))
    (c.change.ensures.any_moment h1 (c.in_ok-close.ensures.stable h stable))) in
    let content2 = (g.D.Disk.state c.change.new.disk).content in
    let put = imaged area le content content1 content2 image long1 c.requires.size shut (c.in_ok-change.ensures.written h1 ∙ ap (λ (n : ℕ). written_at content1 (n + 1) image) at) in
    let long2 : 80 ≤ length content2 = omega (arith, c.requires.within h, put.0.outside.size) in
    LeavesOnly-trans _ _ _ P second
    (LeavesOnly-weaker _ _ _ P
    (λ x torn. opening area le content content2 x image long2 put.0 put.1 (subst (λ (n : ℕ). Torn n 1 content2 x) at torn))
    (c.change-2.ensures.any_moment (c.change.ensures.honest h1) (c.in_ok-change.ensures.stable h1)))

pub returns-clause-any_moment : goal.returns-clause-any_moment
returns-clause-any_moment g c h stable =
    let area = c.args.area in
    let image = c.args.image.now in
    let le = c.requires.area in
    let at = c.gate_at-at.ensures in
    let content = (g.D.Disk.state c.args.disk.now).content in
    let P : List ℕ → Type 0 = IsClosedOldOrWritten area image content in
    let h1 = c.close.ensures.honest h in
    let shut = c.in_ok-close.ensures.closed h in
    let content1 = (g.D.Disk.state c.close.new.disk).content in
    let long1 : 80 ≤ length content1 = omega (arith, c.requires.within h, shut.outside.size) in
    let first = LeavesOnly-weaker _ _ _ P (λ x p. inl p) (c.close.ensures.any_moment h stable) in
    let second = LeavesOnly-trans _ _ _ P first
    (LeavesOnly-weaker _ _ _ P
    (λ x torn. inl (inr (imaging area le content content1 x long1 shut (subst (λ (n : ℕ). Torn (n + 1) 16 content1 x) at (subst (λ (n : ℕ). Torn (c.gate_at-at.result + 1) n content1 x) c.requires.size torn)))))
    (c.change.ensures.any_moment h1 (c.in_ok-close.ensures.stable h stable))) in
    let content2 = (g.D.Disk.state c.change.new.disk).content in
    let put = imaged area le content content1 content2 image long1 c.requires.size shut (c.in_ok-change.ensures.written h1 ∙ ap (λ (n : ℕ). written_at content1 (n + 1) image) at) in
    let long2 : 80 ≤ length content2 = omega (arith, c.requires.within h, put.0.outside.size) in
    LeavesOnly-trans _ _ _ P second
    (LeavesOnly-weaker _ _ _ P
    (λ x torn. opening area le content content2 x image long2 put.0 put.1 (subst (λ (n : ℕ). Torn n 1 content2 x) at torn))
    (c.change-2.ensures.any_moment (c.change.ensures.honest h1) (c.in_ok-change.ensures.stable h1)))

pub returns-clause-written : goal.returns-clause-written
returns-clause-written g c h =
    let area = c.args.area in
    let image = c.args.image.now in
    let le = c.requires.area in
    let at = c.gate_at-at.ensures in
    let content = (g.D.Disk.state c.args.disk.now).content in
    let h1 = c.close.ensures.honest h in
    let shut = c.in_ok-close.ensures.closed h in
    let content1 = (g.D.Disk.state c.close.new.disk).content in
    let long1 : 80 ≤ length content1 = omega (arith, c.requires.within h, shut.outside.size) in
    let content2 = (g.D.Disk.state c.change.new.disk).content in
    let put = imaged area le content content1 content2 image long1 c.requires.size shut (c.in_ok-change.ensures.written h1 ∙ ap (λ (n : ℕ). written_at content1 (n + 1) image) at) in
    let long2 : 80 ≤ length content2 = omega (arith, c.requires.within h, put.0.outside.size) in
    opened area le content content2 _ image long2 put.0 put.1 (c.in_ok-change-2.ensures.written (c.change.ensures.honest h1) ∙ ap (λ (n : ℕ). written_at content2 n (1 ∷ [])) at)
