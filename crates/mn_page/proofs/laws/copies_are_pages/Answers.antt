use Rattle.mn_page.proofs.Copied.{copies_are_pages}
use Rattle.mn_page.proofs.laws.copies_are_pages.Goals as goal

pub returns : goal.returns
returns c = copies_are_pages
