use Rattle.std.proofs.Common.{◌≡◌, ◌≤◌, ◌+◌, ◌-◌, ℕ, List, length, take, drop, min, ap, ◌∙◌, arith}
use Rattle.mn_mini.specs.Mini.{space_size}
use Rattle.mn_page.specs.Grammar.{padded}
use Rattle.mn_space.proofs.Spaces.{kept_is}
use Rattle.mn_space.proofs.kept.kept_in.Goals as goal

pub returns-clause-bytes : goal.returns-clause-bytes
returns-clause-bytes c =
    let kept = c.args.kept.now.items in
    let start = c.args.start in
    let count = c.args.length in
    let within : start + count ≤ length kept + (space_size - length kept) = omega (arith, c.requires.within, c.requires.short) in
    let all : c.len.result ≡ length kept = omega (arith, c.len.ensures, c.args.kept.now.ok.0) in
    let all-2 : c.len-2.result ≡ length kept = omega (arith, c.len-2.ensures, c.args.kept.now.ok.0) in
    let from : c.min-from.result ≡ min (length kept) start = c.min-from.ensures ∙ ap (λ (n : ℕ). min n start) all in
    let to : c.min-to.result ≡ min (length kept) (start + count) = c.min-to.ensures ∙ ap (λ (n : ℕ). min n (start + count)) all-2 in
    ap (λ (l : List ℕ). padded count (take (c.min-to.result - c.min-from.result) (drop c.min-from.result l))) c.deref.ensures.value
    ∙ ap (λ (n : ℕ). padded count (take (n - c.min-from.result) (drop c.min-from.result kept))) to
    ∙ ap (λ (n : ℕ). padded count (take (min (length kept) (start + count) - n) (drop n kept))) from
    ∙ kept_is kept (space_size - length kept) start count within
