use Rattle.std.proofs.Common.{Bool, length, sym, subst, ◌∙◌, arith}
use Rattle.mn_page.specs.Reading.{AreVersions, versions_text}
use Rattle.mn_page.specs.PageFronts.{Judged}
use Rattle.mn_page.proofs.FrontVersions.{not_less, versions_long}
use Rattle.mn_page.proofs.page_front.front_versions.Goals as goal
use Rattle.mn_page.proofs.page_front.front_versions.Goals.{then-bytes-lt9, else-bytes-lt9}

pub returns-after-bytes-lt9 : goal.returns-after-bytes-lt9
returns-after-bytes-lt9 c =
    let bytes = c.args.bytes.now in
    elim c.if-bytes-lt9.branch [
      | then-bytes-lt9 w ↦ subst (λ (t : Bool). Judged AreVersions versions_text bytes t) (sym w.result-is) (w.versions_go_on.ensures (omega (arith, w.if-bytes-lt9.true)))
      | else-bytes-lt9 w ↦ subst (λ (t : Bool). Judged AreVersions versions_text bytes t) (sym (w.result-is ∙ not_less (length bytes) (omega (arith, w.if-bytes-lt9.false)))) (versions_long bytes (omega (arith, w.if-bytes-lt9.false)) c.in-None.ensures.only)
    ]
