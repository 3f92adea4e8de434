use Rattle.std.proofs.Common.{subst, sym}
use Rattle.mn_recov.specs.Recovery.{NodesAreBelow}
use Rattle.mn_recov.proofs.Sound.{listed_below}
use Rattle.mn_recov.proofs.recoverer.Recoverer.advance.Goals as goal

pub invariant_of-self : goal.invariant_of-self
invariant_of-self c =
    let old = c.self.inside in
    record {
      id = c.self.invariant.id;
      found = subst (NodesAreBelow old.nodes) (sym c.listed-self-inside.ensures) (listed_below old.tid old.nodes c.in-Looking.node c.args.reply);
    }
