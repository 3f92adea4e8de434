use Rattle.std.proofs.Common.{◌≡◌, ◌<◌, List, length, ap, sym, subst, ◌∙◌, arith}
use Rattle.std.specs.List.{position_or_len}
use Rattle.mn_txn.specs.declared.image.Image.{Image}
use Rattle.mn_txn.specs.State.{ImagesAreApart, image, is_at}
use Rattle.mn_txn.proofs.Images.{kept_there, joined_last, apart_joined}
use Rattle.mn_txn.proofs.txn.keep.Goals as goal

pub returns-then-at-len-clause-kept : goal.returns-then-at-len-clause-kept
returns-then-at-len-clause-kept c =
    let a = c.args in
    let xs = a.images.now.items in
    let found = c.position-at.ensures ∙ ap (λ (ys : List Image). position_or_len (is_at a.node a.start) ys) c.deref.ensures.value in
    let there : c.position-at.result < length xs = omega arith in
    kept_there a.node a.start a.bytes xs c.position-at.result c.index_mut.result.now found there c.index_mut.ensures.value

pub returns-then-at-len-clause-apart : goal.returns-then-at-len-clause-apart
returns-then-at-len-clause-apart c = λ apart.
    subst ImagesAreApart (sym (returns-then-at-len-clause-kept c)) (apart_joined c.args.images.now.items (image c.args.node c.args.start c.args.bytes) apart)

pub returns-clause-kept : goal.returns-clause-kept
returns-clause-kept c =
    let a = c.args in
    let xs = a.images.now.items in
    let found : c.position-at.result ≡ position_or_len (is_at a.node a.start) xs = c.position-at.ensures ∙ ap (λ (ys : List Image). position_or_len (is_at a.node a.start) ys) c.deref.ensures.value in
    c.in_ok-push.ensures.items ∙ sym (joined_last a.node a.start a.bytes xs (λ there. absurd (omega (arith, there))))

pub returns-clause-apart : goal.returns-clause-apart
returns-clause-apart c = λ apart.
    subst ImagesAreApart (sym (returns-clause-kept c)) (apart_joined c.args.images.now.items (image c.args.node c.args.start c.args.bytes) apart)
