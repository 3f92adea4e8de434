use Rattle.std.proofs.Common.{subst, sym, Option}
use Rattle.std.specs.Prelude.{MatchOption}
use Rattle.mn_page.specs.declared.page.Page.{Page}
use Rattle.mn_page.specs.declared.page_ref.Frame.{Frame}
use Rattle.mn_page.specs.Grammar.{IsFree, SpellsPage}
use Rattle.mn_page.specs.Reading.{framed}
use Rattle.mn_page.proofs.page_ref.PageRef.of_padded.Goals as goal

pub returns-in-Some-clause-read : goal.returns-in-Some-clause-read
returns-in-Some-clause-read c =
    subst (λ (p : Page). SpellsPage c.args.bytes.now p) (sym c.of_parts.ensures)
    (subst (λ (found : Option Frame). MatchOption found (IsFree c.args.bytes.now) (λ frame. SpellsPage c.args.bytes.now (framed frame c.frame_of.new.body))) c.in-Some.is c.in_ok-frame.ensures.read)
