use Rattle.std.proofs.Common.{rules, ◌≡◌, ◌+◌, ◌∷◌, [], ◌++◌, ◌∙◌, length, length-append, sym, ap, arith}
use Rattle.iobuf_chain.proofs.GivenBack.{hands_more, hands_end}
use Rattle.iobuf_chain.proofs.ends.give_rest_back.Goals as goal

pub nodes-preserved : goal.nodes-preserved
nodes-preserved g c =
    let more = ap length c.push_back_reserved.ensures.items ∙ length-append c.nodes.backs.items (c.give_back.result ∷ []) in
    let fewer = ap length c.in-Some.ensures.items in
    let room = c.nodes.invariant.room in
    let same = c.push_back_reserved.ensures.capacity in
    record {
      backs =
          hands_more g.O.Release.runs g.O.Release.last _ _ _ _ _ c.in-Some.node c.give_back.result c.nodes.invariant.backs c.in-Some.ensures.items
          c.push_back_reserved.ensures.items c.give_back.ensures.back c.give_back.ensures.totals;
      room = omega (arith, more, fewer, room, same);
    }

pub returns-clause-totals : goal.returns-clause-totals
returns-clause-totals g c =
    (hands_end g.O.Release.runs g.O.Release.last _ _ _ c.nodes.invariant.backs (search rules)).1
