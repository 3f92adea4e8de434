use Rattle.std.proofs.Common.{◌≡◌, ℕ, Bool, List, [], None, Err, ap, subst, sym, ◌∙◌, arith}
use Rattle.std.specs.Prelude.{option_map, nat_eq}
use Rattle.std.proofs.lemmas.Result.{err_from_is_err_and}
use Rattle.mn_page.specs.Grammar.{counted}
use Rattle.mn_page.specs.Reading.{Begins}
use Rattle.mn_page.specs.PageFronts.{BehindFences, FromSeq, IsKeyIn, IsLowAt, Judged, least_keys}
use Rattle.mn_page.proofs.PageFronts.{some_low, through}
use Rattle.mn_page.proofs.FrontPage.{in_height, in_high, in_low, in_seq, in_versions, past_height, past_high, past_low, past_seq, past_versions}
use Rattle.mn_page.proofs.page_front.front_page.Goals as goal

pub returns-in_err-after_seq : goal.returns-in_err-after_seq
returns-in_err-after_seq c =
    let r = err_from_is_err_and c.from_residual.result c.from_residual.ensures.1 in
    let now : c.from_residual.result ≡ Err c.in_err-after_seq.field-0.0 = r.1 ∙ ap (λ (b : Bool). Err b) r.2 in
    rw now (in_seq c.args.bytes.now c.in_err-after_seq.field-0.0 c.in_err-after_seq.ensures)

pub returns-in_err-height : goal.returns-in_err-height
returns-in_err-height c =
    let goes = c.in_err-height.field-0.0 in
    let r = err_from_is_err_and c.from_residual-in_err-height.result c.from_residual-in_err-height.ensures.1 in
    let now : c.from_residual-in_err-height.result ≡ Err goes = r.1 ∙ ap (λ (b : Bool). Err b) r.2 in
    let seq = c.in_ok-after_seq.ensures in
    rw now (past_seq c.args.bytes.now c.in_ok-after_seq.after_seq.now seq.0 seq.1 goes (in_height c.in_ok-after_seq.after_seq.now goes c.in_err-height.ensures))

pub returns-in_err-after_versions : goal.returns-in_err-after_versions
returns-in_err-after_versions c =
    let goes = c.in_err-after_versions.field-0.0 in
    let r = err_from_is_err_and c.from_residual-in_err-after_versions.result c.from_residual-in_err-after_versions.ensures.1 in
    let now : c.from_residual-in_err-after_versions.result ≡ Err goes = r.1 ∙ ap (λ (b : Bool). Err b) r.2 in
    let seq = c.in_ok-after_seq.ensures in
    let height = c.in_ok-height.height in
    rw now (past_seq c.args.bytes.now c.in_ok-after_seq.after_seq.now seq.0 seq.1 goes
    (past_height c.in_ok-after_seq.after_seq.now c.in_ok-height.after_height.now height c.in_ok-height.ensures goes
    (in_versions (nat_eq height 0) c.in_ok-height.after_height.now goes c.in_err-after_versions.ensures)))

pub returns-in_err-low : goal.returns-in_err-low
returns-in_err-low c =
    let goes = c.in_err-low.field-0.0 in
    let r = err_from_is_err_and c.from_residual-in_err-low.result c.from_residual-in_err-low.ensures.1 in
    let now : c.from_residual-in_err-low.result ≡ Err goes = r.1 ∙ ap (λ (b : Bool). Err b) r.2 in
    let seq = c.in_ok-after_seq.ensures in
    let height = c.in_ok-height.height in
    let leaf = nat_eq height 0 in
    let v = c.in_ok-after_versions.ensures in
    let more : c.least_keys.result ≡ least_keys leaf = c.least_keys.ensures in
    let some = subst (λ (n : ℕ). (low : List ℕ) × IsKeyIn 0 [] n None low) (sym more) (some_low leaf) in
    let told = subst (λ (n : ℕ). Judged (IsKeyIn 0 [] n None) counted c.in_ok-after_versions.after_versions.now goes) more (c.in_err-low.ensures (omega arith) some) in
    rw now (past_seq c.args.bytes.now c.in_ok-after_seq.after_seq.now seq.0 seq.1 goes
    (past_height c.in_ok-after_seq.after_seq.now c.in_ok-height.after_height.now height c.in_ok-height.ensures goes
    (past_versions leaf c.in_ok-height.after_height.now c.in_ok-after_versions.after_versions.now v.0 v.1 goes
    (in_low leaf c.in_ok-after_versions.after_versions.now goes told))))

pub returns-in_err-high : goal.returns-in_err-high
returns-in_err-high c =
    let goes = c.in_err-high.field-0.0 in
    let r = err_from_is_err_and c.from_residual-in_err-high.result c.from_residual-in_err-high.ensures.1 in
    let now : c.from_residual-in_err-high.result ≡ Err goes = r.1 ∙ ap (λ (b : Bool). Err b) r.2 in
    let seq = c.in_ok-after_seq.ensures in
    let height = c.in_ok-height.height in
    let leaf = nat_eq height 0 in
    let v = c.in_ok-after_versions.ensures in
    let more : c.least_keys.result ≡ least_keys leaf = c.least_keys.ensures in
    let some = subst (λ (n : ℕ). (low : List ℕ) × IsKeyIn 0 [] n None low) (sym more) (some_low leaf) in
    let low = c.in_ok-low.low.now in
    let b : Begins (IsLowAt leaf) counted c.in_ok-after_versions.after_versions.now low c.in_ok-low.after_low.now = subst (λ (n : ℕ). Begins (IsKeyIn 0 [] n None) counted c.in_ok-after_versions.after_versions.now low c.in_ok-low.after_low.now) more (c.in_ok-low.ensures (omega arith) some) in
    let is = b.may in
    rw now (past_seq c.args.bytes.now c.in_ok-after_seq.after_seq.now seq.0 seq.1 goes
    (past_height c.in_ok-after_seq.after_seq.now c.in_ok-height.after_height.now height c.in_ok-height.ensures goes
    (past_versions leaf c.in_ok-height.after_height.now c.in_ok-after_versions.after_versions.now v.0 v.1 goes
    (past_low leaf c.in_ok-after_versions.after_versions.now c.in_ok-low.after_low.now low b goes
    (in_high leaf low c.in_ok-low.after_low.now goes (c.in_err-high.ensures (is.0).1 is.2))))))

pub returns : goal.returns
returns c =
    let seq = c.in_ok-after_seq.ensures in
    let height = c.in_ok-height.height in
    let leaf = nat_eq height 0 in
    let v = c.in_ok-after_versions.ensures in
    let more : c.least_keys.result ≡ least_keys leaf = c.least_keys.ensures in
    let some = subst (λ (n : ℕ). (low : List ℕ) × IsKeyIn 0 [] n None low) (sym more) (some_low leaf) in
    let low = c.in_ok-low.low.now in
    let b : Begins (IsLowAt leaf) counted c.in_ok-after_versions.after_versions.now low c.in_ok-low.after_low.now = subst (λ (n : ℕ). Begins (IsKeyIn 0 [] n None) counted c.in_ok-after_versions.after_versions.now low c.in_ok-low.after_low.now) more (c.in_ok-low.ensures (omega arith) some) in
    let is = b.may in
    let high = option_map (λ h. h.now) c.in_ok-high.high in
    let a = c.in_ok-high.ensures (is.0).1 is.2 in
    through (BehindFences leaf low high) FromSeq c.in_ok-high.after_high.now c.args.bytes.now
    (λ goes d. past_seq c.args.bytes.now c.in_ok-after_seq.after_seq.now seq.0 seq.1 goes
    (past_height c.in_ok-after_seq.after_seq.now c.in_ok-height.after_height.now height c.in_ok-height.ensures goes
    (past_versions leaf c.in_ok-height.after_height.now c.in_ok-after_versions.after_versions.now v.0 v.1 goes
    (past_low leaf c.in_ok-after_versions.after_versions.now c.in_ok-low.after_low.now low b goes
    (past_high leaf low c.in_ok-low.after_low.now c.in_ok-high.after_high.now high a goes d)))))
    c.front_body.result (c.front_body.ensures (is.0).1 (a.may).1)
