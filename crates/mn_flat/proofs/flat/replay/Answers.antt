use Rattle.std.proofs.Common.{◌≡◌, ℕ, Bool, List, length, reverse, ap, sym, ◌∙◌, subst}
use Rattle.std.specs.List.{list_any}
use Rattle.std.proofs.lemmas.Result.{err_from_is_err_and}
use Rattle.mn_base.specs.declared.ids.Tid.{Tid}
use Rattle.mn_mini.specs.declared.record.Record.{Record}
use Rattle.mn_mini.specs.Node.{HeldPart, held_parts, space_of, with_held}
use Rattle.mn_mini.proofs.Fits.{length-space_of}
use Rattle.mn_runs.specs.Sound.{is_committed}
use Rattle.mn_flat.specs.declared.held.Held.{Held}
use Rattle.mn_flat.specs.Known.{parts_seen, says_committed}
use Rattle.mn_flat.specs.Told.{IsEnd, RefusesIn}
use Rattle.mn_flat.specs.Votes.{lists_of}
use Rattle.mn_flat.proofs.Telling.{commit_of}
use Rattle.mn_flat.proofs.flat.replay.Goals as goal

pub returns-clause-space : goal.returns-clause-space
returns-clause-space c = λ records told.
    let list = c.args.list.now in
    let space : List ℕ = c.finish.new.space in
    let said : Tid → Bool = λ tid. list_any (says_committed c.args.told.now.nodes.items tid) c.args.told.now.nodes.items in
    let meant : Tid → Bool = is_committed (length records) (lists_of records) in
    let same : said ≡ meant = λ k tid. commit_of c.args.told.now records told tid k in
    c.write_committed.ensures
    ∙ ap (λ (hs : List Held). with_held said space (parts_seen hs)) c.deref-2.ensures.value
    ∙ ap (λ (hs : List HeldPart). with_held said space hs) c.in_ok-held.ensures.held
    ∙ ap (λ (s : List ℕ). with_held said s (held_parts (reverse list))) c.in_ok-held.ensures.space
    ∙ ap (λ (f : Tid → Bool). with_held f (space_of c.args.space.now (reverse list)) (held_parts (reverse list))) same

pub returns-clause-right : goal.returns-clause-right
returns-clause-right c = λ records told is base whole.
    let end : IsEnd c.deref.result.now c.finish.new.space records c.args.node = record {
      held = ap parts_seen c.deref.ensures.value ∙ c.in_ok-held.ensures.held ∙ ap (λ (l : List Record). held_parts (reverse l)) is;
      space = c.in_ok-held.ensures.space ∙ ap (λ (l : List Record). space_of c.args.space.now (reverse l)) is ∙ ap (λ (b : List ℕ). space_of b (lists_of records c.args.node)) base;
      whole = ap (λ (l : List ℕ). length l) c.in_ok-held.ensures.space ∙ length-space_of c.args.space.now (reverse c.args.list.now) ∙ whole;
    } in
    c.in_ok-test_all.ensures.right records told is end

pub returns-in_err-test_all-clause-wrong : goal.returns-in_err-test_all-clause-wrong
returns-in_err-test_all-clause-wrong c = λ records told is base whole.
    let end : IsEnd c.deref.result.now c.finish.new.space records c.args.node = record {
      held = ap parts_seen c.deref.ensures.value ∙ c.in_ok-held.ensures.held ∙ ap (λ (l : List Record). held_parts (reverse l)) is;
      space = c.in_ok-held.ensures.space ∙ ap (λ (l : List Record). space_of c.args.space.now (reverse l)) is ∙ ap (λ (b : List ℕ). space_of b (lists_of records c.args.node)) base;
      whole = ap (λ (l : List ℕ). length l) c.in_ok-held.ensures.space ∙ length-space_of c.args.space.now (reverse c.args.list.now) ∙ whole;
    } in
    let p = err_from_is_err_and c.from_residual-in_err-test_all.result c.from_residual-in_err-test_all.ensures.1 in
    rw p.1 (subst (RefusesIn records c.args.node) (sym p.2) (c.in_err-test_all.ensures.wrong records told is end))
