use Rattle.mn_flat.proofs.votes.note.Goals as goal

pub returns : goal.returns
returns c = λ older past. record { known = c.in_ok-note.ensures older past.known; held = c.in_ok-hold.ensures older past.held }
