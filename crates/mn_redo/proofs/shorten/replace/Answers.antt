use Rattle.std.proofs.Common.{◌+◌, ℕ, List, length, inl, inr, refl, ap, subst, sym, arith}
use Rattle.mn_io.proofs.Moments.{LeavesOnly-weaker, LeavesOnly-trans}
use Rattle.mn_io.specs.DiskModel.{Torn}
use Rattle.mn_ckpt.proofs.Areas.{torn_written}
use Rattle.mn_redo.specs.Grammar.{IsLogOneOrOther}
use Rattle.mn_redo.proofs.Leads.{seen, unseen}
use Rattle.mn_redo.proofs.Shortened.{listing, listed, one_or_other, written_makes, written_reaches}
use Rattle.mn_redo.proofs.shorten.replace.Goals as goal

pub write_image-requires-clause-within : goal.write_image-requires-clause-within
write_image-requires-clause-within g c h1 =
    let h = c.change.ensures.no_better h1 in
    let written = c.in_ok-change.ensures.written h in
    omega (arith, ap length written, written_reaches c.args.place c.args.piece.now (g.D.Disk.state c.args.disk.now).content (c.requires.within h), c.requires.place h)

pub trim-requires-clause-within : goal.trim-requires-clause-within
trim-requires-clause-within g c h2 at =
    let h1 = c.write_image.ensures.no_better h2 in
    let h = c.change.ensures.no_better h1 in
    let written = c.in_ok-change.ensures.written h in
    let image = c.in_ok-write_image.ensures.written h1 in
    omega (arith, ap length written, written_reaches c.args.place c.args.piece.now (g.D.Disk.state c.args.disk.now).content (c.requires.within h), image.outside.size, at)

pub returns-in_err-change-clause-any_moment : goal.returns-in_err-change-clause-any_moment
returns-in_err-change-clause-any_moment g c h node nodes bodies others r =
    LeavesOnly-weaker _ _ _ _ (λ x torn. inl (c.args.number, (r.start, listing node nodes c.args.number (g.D.Disk.state c.args.disk.now).content x c.args.piece.now bodies others c.args.place r torn))) (c.change.ensures.any_moment h (c.requires.stable h))

pub returns-in_err-write_image-clause-any_moment : goal.returns-in_err-write_image-clause-any_moment
returns-in_err-write_image-clause-any_moment g c h node nodes bodies others r =
    let P : List ℕ → Type 0 = IsLogOneOrOther node nodes bodies others in
    let content = (g.D.Disk.state c.args.disk.now).content in
    let content1 = (g.D.Disk.state c.change.new.disk).content in
    let h1 = c.change.ensures.honest h in
    let written = c.in_ok-change.ensures.written h in
    let log1 = listing node nodes c.args.number content content1 c.args.piece.now bodies others c.args.place r (subst (λ (l : List ℕ). Torn c.args.place (length c.args.piece.now) content l) (sym written) (torn_written c.args.place c.args.piece.now content (c.requires.within h))) in
    let seen1 = seen node nodes content1 c.args.number r.start bodies log1 in
    let new1 = listed content content1 c.args.piece.now others c.args.place (c.requires.within h) r.piece_is r.sizes written in
    let first = LeavesOnly-weaker _ _ _ P (λ x torn. inl (c.args.number, (r.start, listing node nodes c.args.number content x c.args.piece.now bodies others c.args.place r torn))) (c.change.ensures.any_moment h (c.requires.stable h)) in
    let second = LeavesOnly-trans _ _ _ P first
    (LeavesOnly-weaker _ _ _ P (λ x left. one_or_other node nodes c.args.number r.start content1 x bodies seen1 c.args.place others _ c.requires.few (omega (arith, c.requires.near)) (c.requires.place h) c.image_for.ensures new1 _ refl left)
    (c.write_image.ensures.any_moment h1 (c.in_ok-change.ensures.stable h))) in
    second

pub returns-clause-any_moment : goal.returns-clause-any_moment
returns-clause-any_moment g c h node nodes bodies others r =
    let P : List ℕ → Type 0 = IsLogOneOrOther node nodes bodies others in
    let content = (g.D.Disk.state c.args.disk.now).content in
    let content1 = (g.D.Disk.state c.change.new.disk).content in
    let h1 = c.change.ensures.honest h in
    let written = c.in_ok-change.ensures.written h in
    let log1 = listing node nodes c.args.number content content1 c.args.piece.now bodies others c.args.place r (subst (λ (l : List ℕ). Torn c.args.place (length c.args.piece.now) content l) (sym written) (torn_written c.args.place c.args.piece.now content (c.requires.within h))) in
    let seen1 = seen node nodes content1 c.args.number r.start bodies log1 in
    let new1 = listed content content1 c.args.piece.now others c.args.place (c.requires.within h) r.piece_is r.sizes written in
    let first = LeavesOnly-weaker _ _ _ P (λ x torn. inl (c.args.number, (r.start, listing node nodes c.args.number content x c.args.piece.now bodies others c.args.place r torn))) (c.change.ensures.any_moment h (c.requires.stable h)) in
    let second = LeavesOnly-trans _ _ _ P first
    (LeavesOnly-weaker _ _ _ P (λ x left. one_or_other node nodes c.args.number r.start content1 x bodies seen1 c.args.place others _ c.requires.few (omega (arith, c.requires.near)) (c.requires.place h) c.image_for.ensures new1 _ refl left)
    (c.write_image.ensures.any_moment h1 (c.in_ok-change.ensures.stable h))) in
    let content2 = (g.D.Disk.state c.write_image.new.disk).content in
    let image2 = c.in_ok-write_image.ensures.written h1 in
    let log2 = unseen node nodes content2 (c.args.number + 1) c.args.place others (written_makes node nodes c.args.number r.start content1 content2 bodies seen1 c.args.place others _ c.requires.few (omega (arith, c.requires.near)) (c.requires.place h) c.image_for.ensures new1 _ refl image2) in
    let h2 = c.write_image.ensures.honest h1 in
    LeavesOnly-trans _ _ _ P second (LeavesOnly-weaker _ _ _ P (λ x has. inr has) (c.trim.ensures.any_moment h2 node nodes (c.args.number + 1) others log2 (ap length r.piece_is)))

pub returns-clause-log : goal.returns-clause-log
returns-clause-log g c h node nodes bodies others r =
    let content = (g.D.Disk.state c.args.disk.now).content in
    let content1 = (g.D.Disk.state c.change.new.disk).content in
    let h1 = c.change.ensures.honest h in
    let written = c.in_ok-change.ensures.written h in
    let log1 = listing node nodes c.args.number content content1 c.args.piece.now bodies others c.args.place r (subst (λ (l : List ℕ). Torn c.args.place (length c.args.piece.now) content l) (sym written) (torn_written c.args.place c.args.piece.now content (c.requires.within h))) in
    let seen1 = seen node nodes content1 c.args.number r.start bodies log1 in
    let new1 = listed content content1 c.args.piece.now others c.args.place (c.requires.within h) r.piece_is r.sizes written in
    let content2 = (g.D.Disk.state c.write_image.new.disk).content in
    let image2 = c.in_ok-write_image.ensures.written h1 in
    let log2 = unseen node nodes content2 (c.args.number + 1) c.args.place others (written_makes node nodes c.args.number r.start content1 content2 bodies seen1 c.args.place others _ c.requires.few (omega (arith, c.requires.near)) (c.requires.place h) c.image_for.ensures new1 _ refl image2) in
    let h2 = c.write_image.ensures.honest h1 in
    c.trim.ensures.log h2 node nodes (c.args.number + 1) others log2 (ap length r.piece_is)
