use Rattle.mn_page.proofs.page_front.+front_items.Given as goal

abbrev pub decreases-front_items : goal.decreases-front_items
decreases-front_items l = l.keys
