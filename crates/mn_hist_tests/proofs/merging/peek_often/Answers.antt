use Rattle.std.proofs.Common.{◌≡◌, Some, None, subst, ◌∙◌}
use Rattle.mn_base.specs.declared.ids.ClientNo.{ClientNo}
use Rattle.mn_actors.specs.declared.actor.Actor.TheVariants.{Client}
use Rattle.mn_actors.specs.Lists.{held}
use Rattle.mn_actors.specs.Sight.{view_of}
use Rattle.mn_cell.specs.Passes.{OwnsJust}
use Rattle.mn_hist.proofs.Meeting.{peeks_more}
use Rattle.mn_hist_tests.proofs.merging.peek_often.Goals as goal

pub loop-preserved : goal.loop-preserved
loop-preserved g c = record {
  board = c.call-reply.ensures.board;
  client = c.call-reply.ensures.client ∙ c.loop.invariant.client;
  owns = subst (λ (k : ClientNo). OwnsJust (view_of c.call-reply.new.pass) (Client k)) c.loop.invariant.client c.call-reply.ensures.owns;
  list = subst (λ (k : ClientNo). held (view_of c.call-reply.new.pass) (Client k) ≡ Some c.call-reply.new.list.entries) c.loop.invariant.client c.call-reply.ensures.list;
  issued = λ start. peeks_more start _ _ 0 8 _ _ None c.call-reply.result c.loop.list.entries c.call-reply.new.list.entries c.call-reply.ensures.said c.call-reply.ensures.list_before (c.loop.invariant.issued start);
}
