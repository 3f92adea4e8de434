use Rattle.std.proofs.Common.{◌≡◌, ◌++◌, ℕ, ap, ◌∙◌, arith}
use Rattle.std.proofs.lemmas.Grind.{common_steps}
use Rattle.mn_page.specs.declared.page_ref.Head.{Head}
use Rattle.mn_page.specs.Reading.{eight, height_text, versions_text}
use Rattle.mn_page.proofs.scan.first_head.Goals as goal
use Rattle.mn_page.proofs.PageText.{text_parts}

same_head : (seq height made copied : ℕ) (g : Head) → seq ≡ g.seq → height ≡ g.height → made ≡ g.made.0 → copied ≡ g.copied
    → (let h : Head = record { seq = seq; height = height; made = record { 0 = made }; copied = copied } in h) ≡ g
same_head seq height made copied g e0 e1 e2 e3 =
    ap (λ (x : ℕ). let r : Head = record { seq = x; height = height; made = record { 0 = made }; copied = copied } in r) e0
    ∙ (ap (λ (x : ℕ). let r : Head = record { seq = g.seq; height = x; made = record { 0 = made }; copied = copied } in r) e1
    ∙ (ap (λ (x : ℕ). let r : Head = record { seq = g.seq; height = g.height; made = record { 0 = x }; copied = copied } in r) e2
    ∙ ap (λ (x : ℕ). let r : Head = record { seq = g.seq; height = g.height; made = g.made; copied = x } in r) e3))

pub returns-in_err-seq-clause-only : goal.returns-in_err-seq-clause-only
returns-in_err-seq-clause-only c = λ head more is spelled.
    let told = c.in_err-seq.ensures.only head.seq (height_text head.height ++ (versions_text (head.made.0, head.copied) ++ more)) is.seq
    (spelled ∙ text_parts (eight head.seq) (height_text head.height) (versions_text (head.made.0, head.copied)) more) in
    grind (arith, common_steps, told)

pub returns-in_err-made-clause-only : goal.returns-in_err-made-clause-only
returns-in_err-made-clause-only c = λ head more is spelled.
    let behind = versions_text (head.made.0, head.copied) ++ more in
    let seq = c.in_ok-seq.ensures.only head.seq (height_text head.height ++ behind) is.seq (spelled ∙ text_parts (eight head.seq) (height_text head.height) (versions_text (head.made.0, head.copied)) more) in
    let one : c.in_ok-seq.behind.now ≡ height_text head.height ++ behind = grind (arith, common_steps, seq) in
    let height = c.in_ok-height.ensures.only head.height behind is.height one in
    let two : c.in_ok-height.behind.now ≡ behind = grind (arith, common_steps, height) in
    let told = c.in_err-made.ensures.only (head.made.0, head.copied) more is.versions two in
    grind (arith, common_steps, told)

pub returns-clause-only : goal.returns-clause-only
returns-clause-only c = λ head more is spelled.
    let behind = versions_text (head.made.0, head.copied) ++ more in
    let seq = c.in_ok-seq.ensures.only head.seq (height_text head.height ++ behind) is.seq (spelled ∙ text_parts (eight head.seq) (height_text head.height) (versions_text (head.made.0, head.copied)) more) in
    let one : c.in_ok-seq.behind.now ≡ height_text head.height ++ behind = grind (arith, common_steps, seq) in
    let height = c.in_ok-height.ensures.only head.height behind is.height one in
    let two : c.in_ok-height.behind.now ≡ behind = grind (arith, common_steps, height) in
    let versions = c.in_ok-made.ensures.only (head.made.0, head.copied) more is.versions two in
    (same_head (c.in_ok-seq.seq) c.in_ok-height.height c.in_ok-made.made c.in_ok-made.copied head seq.0 height.0 (ap (λ (v : ℕ × ℕ). v.0) versions.0) (ap (λ (v : ℕ × ℕ). v.1) versions.0), versions.1)
