use Rattle.std.proofs.Common.{refl, ap, ◌∙◌}
use Rattle.mn_callers.specs.declared.client.Client.{Client}
use Rattle.mn_callers.proofs.Hands.{moves_further, moves_same, turn_same}
use Rattle.mn_callers.proofs.ClientCalls.{room_answer, room_due, room_keeps, room_past, room_proxy, room_run}
use Rattle.mn_callers.proofs.client.Client.send.Goals as goal

pub returns-then-not-make_room : goal.returns-then-not-make_room
returns-then-not-make_room g c =
    let start = g.X.Transport.start in
    let old = c.args.self.now in
    let new = c.make_room.new.self in
    let keeps = room_keeps old new c.make_room.ensures.same in
    record {
      turn = turn_same _ c.requires.turn new.list keeps.client keeps.entries;
      goes_on = moves_same g.X.Transport.went g.met.X.Transport.stays _ _ new.list keeps.client keeps.entries;
      run = room_run start c.args.points.now old new c.make_room.ensures.same c.requires.run;
      fits = tt;
      answer = λ not. absurd (not refl);
      none = λ is. room_past old new c.make_room.ensures.same;
      client = keeps.client;
      stays = (ap (λ (k : Client). k.proxy) c.make_room.ensures.same, ap (λ (k : Client). k.due) c.make_room.ensures.same, ap (λ (k : Client). k.begun) c.make_room.ensures.same);
    }

pub ask-requires : goal.ask-requires
ask-requires g c =
    let start = g.X.Transport.start in
    let old = c.args.self.now in
    let new = c.make_room.new.self in
    let keeps = room_keeps old new c.make_room.ensures.same in
    record {
      turn = turn_same _ c.requires.turn new.list keeps.client keeps.entries;
      run = room_run start c.args.points.now old new c.make_room.ensures.same c.requires.run;
      proxy = room_proxy start old new c.make_room.ensures.same c.requires.proxy;
      due = room_due start old new (record { node = c.args.node; request = c.args.request }) c.make_room.ensures.same c.requires.due;
    }

pub returns : goal.returns
returns g c =
    let start = g.X.Transport.start in
    let old = c.args.self.now in
    let mid = c.make_room.new.self in
    let new = c.ask.new.self in
    let same = c.make_room.ensures.same in
    let keeps = room_keeps old mid same in
    let ask = c.ask.ensures in
    record {
      turn = ask.turn;
      goes_on = moves_further g.X.Transport.went g.met.X.Transport.goes_on _ _ _ _ _ _ (moves_same g.X.Transport.went g.met.X.Transport.stays _ _ mid.list keeps.client keeps.entries) ask.goes_on;
      run = ask.run;
      fits = ask.fits;
      answer = λ is. room_answer c.args.points.now c.args.node c.args.request c.ask.result old mid new same (ask.answer is);
      none = λ is. ask.none is ∙ room_past old mid same;
      client = ask.client ∙ keeps.client;
      stays = (ask.stays.0 ∙ ap (λ (k : Client). k.proxy) same, ask.stays.1 ∙ ap (λ (k : Client). k.due) same, ask.stays.2 ∙ ap (λ (k : Client). k.begun) same);
    }
