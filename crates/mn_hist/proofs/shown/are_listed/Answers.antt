use Rattle.std.proofs.Common.{◌≡◌, List, map, slice_index_or, subst, sym, ap, ◌∙◌, arith}
use Rattle.mn_base.specs.Store.{listed}
use Rattle.mn_page.specs.Forest.{entry_head, heads_in}
use Rattle.mn_page.specs.declared.entry.CatEntry.{CatEntry}
use Rattle.std.proofs.lemmas.List.{take_all}
use Rattle.mn_base.specs.declared.reply.Version.{Version}
use Rattle.mn_hist.specs.Shown.{TestDecides}
use Rattle.mn_hist.proofs.Loops.{mapped_at, take_more, map_map}
use Rattle.mn_hist.proofs.shown.are_listed.Goals as goal

pub loop-at-preserved : goal.loop-at-preserved
loop-at-preserved c =
    take_more (λ (e : CatEntry). listed (heads_in c.args.entries.now) (entry_head e)) c.args.entries.now c.args.versions.now c.loop-at.at c.index-entries-at.result c.index-versions-at.result (omega arith) (omega arith) c.index-entries-at.is c.index-versions-at.is (subst (λ b. TestDecides b (c.index-versions-at.result ≡ listed (heads_in c.args.entries.now) (entry_head c.index-entries-at.result))) c.if-not-is_listed.false c.is_listed.ensures) c.loop-at.invariant

pub returns : goal.returns
returns c =
    sym (take_all c.loop-at.at c.args.versions.now (omega arith))
    ∙ (c.loop-at.invariant ∙ (ap (λ (es : List CatEntry). map (λ (e : CatEntry). listed (heads_in c.args.entries.now) (entry_head e)) es) (take_all c.loop-at.at c.args.entries.now (omega arith))
    ∙ map_map (listed (heads_in c.args.entries.now)) entry_head c.args.entries.now))

pub returns-then-not-is_listed : goal.returns-then-not-is_listed
returns-then-not-is_listed c = λ same.
    let other : c.index-versions-at.result ≡ listed (heads_in c.args.entries.now) (entry_head c.index-entries-at.result) → ⊥ =
    subst (λ b. TestDecides b (c.index-versions-at.result ≡ listed (heads_in c.args.entries.now) (entry_head c.index-entries-at.result))) c.if-not-is_listed.true c.is_listed.ensures in
    other
    (mapped_at (λ (e : CatEntry). listed (heads_in c.args.entries.now) (entry_head e)) c.args.entries.now c.loop-at.at c.index-entries-at.result c.index-versions-at.result (omega arith) c.index-entries-at.is
    (subst (λ (l : List Version). c.index-versions-at.result ≡ slice_index_or l c.loop-at.at c.index-versions-at.result) (same ∙ sym (map_map (listed (heads_in c.args.entries.now)) entry_head c.args.entries.now)) c.index-versions-at.is))
