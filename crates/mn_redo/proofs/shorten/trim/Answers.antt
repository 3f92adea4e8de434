use Rattle.std.proofs.Common.{rules, ◌≡◌, ℕ, List, subst, sym}
use Rattle.mn_io.proofs.Moments.{LeavesOnly-weaker}
use Rattle.mn_redo.specs.Grammar.{IsLogAt}
use Rattle.mn_redo.proofs.Moments.{none_leaves}
use Rattle.mn_redo.proofs.Shortened.{cut_done, cut_leaves}
use Rattle.mn_redo.proofs.shorten.trim.Goals as goal

pub returns-then-place-ne80-clause-any_moment : goal.returns-then-place-ne80-clause-any_moment
returns-then-place-ne80-clause-any_moment g c h node nodes number bodies log size =
    none_leaves _ _ (g.D.Disk.is_disk _ h) (λ x image. (number, (c.args.place, subst (λ (l : List ℕ). IsLogAt node nodes l number c.args.place bodies) (sym (c.requires.stable h x image)) log)))

pub returns-clause-any_moment : goal.returns-clause-any_moment
returns-clause-any_moment g c h node nodes number bodies log size =
    let at : c.args.place ≡ 80 = search rules in
    let content = (g.D.Disk.state c.args.disk.now).content in
    let here = subst (λ (p : ℕ). IsLogAt node nodes content number p bodies) at log in
    LeavesOnly-weaker _ _ _ _ (λ x cut. (number, (80, cut_leaves node nodes number c.args.size content x bodies here size (c.requires.within h at) cut))) (c.cut_to.ensures.any_moment h (c.requires.stable h))

pub returns-in_err-cut_to-clause-any_moment : goal.returns-in_err-cut_to-clause-any_moment
returns-in_err-cut_to-clause-any_moment g c h node nodes number bodies log size =
    let at : c.args.place ≡ 80 = search rules in
    let content = (g.D.Disk.state c.args.disk.now).content in
    let here = subst (λ (p : ℕ). IsLogAt node nodes content number p bodies) at log in
    LeavesOnly-weaker _ _ _ _ (λ x cut. (number, (80, cut_leaves node nodes number c.args.size content x bodies here size (c.requires.within h at) cut))) (c.cut_to.ensures.any_moment h (c.requires.stable h))

pub returns-clause-log : goal.returns-clause-log
returns-clause-log g c h node nodes number bodies log size =
    let at : c.args.place ≡ 80 = search rules in
    let content = (g.D.Disk.state c.args.disk.now).content in
    let here = subst (λ (p : ℕ). IsLogAt node nodes content number p bodies) at log in
    let new = (g.D.Disk.state c.cut_to.new.disk).content in
    subst (λ (p : ℕ). IsLogAt node nodes new number p bodies) (sym at) (cut_done node nodes number c.args.size content new bodies here size (c.requires.within h at) (c.in_ok-cut_to.ensures.cut h))
