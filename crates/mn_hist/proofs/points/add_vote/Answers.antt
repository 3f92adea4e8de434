use Rattle.std.proofs.Common.{rules, ℕ, ◌≡◌, ◌+◌, ◌&&◌, Bool, true, false, cond, Option, Some, if◌then◌else◌, refl, ap, ◌∙◌}
use Rattle.std.specs.Prelude.{unwrap_or}
use Rattle.std.specs.HashMap.{get}
use Rattle.mn_base.specs.Ids.{client_same, tid_same}
use Rattle.mn_hist.specs.declared.points.TryKey.{TryKey}
use Rattle.mn_hist.specs.Watching.{try_key, tries_same, votes_kept}
use Rattle.mn_hist.proofs.points.add_vote.Goals as goal

either : (b : Bool) (n : ℕ) (o : Option ℕ) → unwrap_or (cond b (Some n) o) 0 ≡ (if b then n else unwrap_or o 0)
either true n o = refl
either false n o = refl

pub returns-clause-kept : goal.returns-clause-kept
returns-clause-kept c = λ d t.
    let h = c.in_ok-insert.ensures.updates in
    let before = get tries_same c.args.votes.now (try_key d t) in
    let count : c.in_ok-count.count ≡ votes_kept c.args.votes.now c.args.client c.args.tid + 1 = search rules in
    ap (λ (o : Option ℕ). unwrap_or o 0) (h.0 (try_key d t) ∙ ap (λ (k : TryKey). cond (tries_same k (try_key d t)) (Some c.in_ok-count.count) before) c.try_key.ensures)
    ∙ (either (client_same c.args.client d && tid_same c.args.tid t) c.in_ok-count.count before
    ∙ ap (λ (n : ℕ). if client_same c.args.client d && tid_same c.args.tid t then n else unwrap_or before 0) count)
