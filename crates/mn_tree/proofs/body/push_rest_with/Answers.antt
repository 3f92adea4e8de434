use Rattle.std.proofs.Common.{rules, ◌≡◌, ◌+◌, ◌++◌, [], ◌∷◌, ◌∙◌, sym, ap, subst, OnOk, List, drop, true, false}
use Rattle.std.specs.Option.{option_to_list}
use Rattle.std.proofs.lemmas.List.{take_rest, append-nil}
use Rattle.std.proofs.Math.ListN.{drop_of_length-le}
use Rattle.mn_base.specs.Ids.{addr_same}
use Rattle.mn_page.specs.declared.page.Child.{Child}
use Rattle.mn_page.specs.Overlay.{rest_with}
use Rattle.mn_tree.proofs.Children.{child_here, child_behind}
use Rattle.mn_tree.proofs.body.push_rest_with.Goals as goal

pub returns-then-is_same : goal.returns-then-is_same
returns-then-is_same c =
    let rest = c.args.rest.now in
    let child = c.index-rest-at.result in
    let same : addr_same child.addr c.args.addr ≡ true = sym c.is_same.ensures ∙ c.if-is_same.true in
    let here = child_here c.loop-at.children.items rest c.loop-at.at child c.args.addr c.args.now c.args.more (c.args.children.now.items ++ rest_with rest c.args.addr c.args.now c.args.more) (search rules) c.index-rest-at.is c.loop-at.invariant.others same in
    let with = λ (l : List Child). c.loop-at.children.items ++ (record { separator = child.separator; addr = c.args.now } ∷ (option_to_list c.args.more ++ l)) in
    subst (λ (l : List Child). OnOk c.push_tail.result (c.push_tail.new.children.items ≡ l)) (ap with (take_rest rest (c.loop-at.at + 1)) ∙ here) (rw c.loop-at.invariant.kept at c.push_tail.ensures)

pub loop-at-preserved : goal.loop-at-preserved
loop-at-preserved c =
    let rest = c.args.rest.now in
    let child = c.index-rest-at.result in
    let other : addr_same child.addr c.args.addr ≡ false = sym c.is_same.ensures ∙ c.if-is_same.false in
    let behind = child_behind c.loop-at.children.items rest c.loop-at.at child c.args.addr c.args.now c.args.more (c.args.children.now.items ++ rest_with rest c.args.addr c.args.now c.args.more) (search rules) c.index-rest-at.is c.loop-at.invariant.others other in
    record { others = rw c.in_ok-push_copy.ensures behind; kept = c.loop-at.invariant.kept }

pub returns : goal.returns
returns c =
    let done : drop c.loop-at.at c.args.rest.now ≡ [] = drop_of_length-le c.args.rest.now c.loop-at-test.false in
    sym (append-nil c.loop-at.children.items) ∙ (rw done at c.loop-at.invariant.others)
