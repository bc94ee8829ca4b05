use Rattle.std.proofs.Common.{refl, arith}
use Rattle.frame_rule.proofs.Moving.{moves_further, moves_still, on_err, shares_further, shares_still}
use Rattle.frame_rule.proofs.Passing.{passes_further, passes_none, room_later, stands_later, stops_after}
use Rattle.frame_rule.proofs.Tight.{adds_further, adds_none}
use Rattle.frame_rule.proofs.progress.Progress.pass_all.Goals as goal

pub nodes-init : goal.nodes-init
nodes-init g c = record {
  within = c.with_data-i.ensures.within.1;
  next = c.with_data-i.ensures.data;
  passes = passes_none g.S.Scanner.codec_of g.S.Scanner.saw g.met.S.Scanner.checked c.args.self.now c.args.first c.with_data-i.result c.args.chain.now c.args.haul.now.units.items
      c.with_data-i.ensures.none c.with_data-i.ensures.rest c.with_data-i.ensures.within.1;
  moves = moves_still _ _ _ _ _ _ refl refl (refl, refl);
  nodes = record { shares = λ heavy. shares_still _ _ _ heavy refl; tight = λ is. (is, adds_none _ _ refl) };
}

pub pass-requires-clause-stands : goal.pass-requires-clause-stands
pass-requires-clause-stands g c =
    stands_later g.S.Scanner.codec_of g.S.Scanner.saw g.met.S.Scanner.checked c.args.self.now c.nodes.self c.args.first c.nodes.i c.args.chain.now c.nodes.chain _ _ c.nodes.invariant.passes c.requires.stands

pub pass-requires-clause-room : goal.pass-requires-clause-room
pass-requires-clause-room g c =
    let same = room_later g.S.Scanner.codec_of g.S.Scanner.saw g.met.S.Scanner.checked c.args.self.now c.nodes.self c.args.first c.nodes.i c.args.chain.now c.nodes.chain _ _ c.nodes.invariant.passes in
    omega (arith, same, c.requires.room)

pub returns-in_err-j-clause-stops : goal.returns-in_err-j-clause-stops
returns-in_err-j-clause-stops g c =
    on_err c.from_residual.result (stops_after g.S.Scanner.codec_of g.S.Scanner.saw g.met.S.Scanner.checked c.args.self.now c.nodes.self c.pass.new.self c.args.first c.nodes.i c.args.chain.now c.nodes.chain
    _ _ _ c.nodes.invariant.passes c.in_err-j.ensures.codec c.in_err-j.ensures.refused)

pub returns-in_err-j-clause-moves : goal.returns-in_err-j-clause-moves
returns-in_err-j-clause-moves g c = moves_further _ _ _ _ _ _ _ _ _ c.nodes.invariant.moves c.in_err-j.ensures.moves

pub nodes-preserved : goal.nodes-preserved
nodes-preserved g c =
    let some = passes_none g.S.Scanner.codec_of g.S.Scanner.saw g.met.S.Scanner.checked c.pass.new.self c.in_ok-j.j c.with_data-i-in-nodes.result c.pass.new.chain c.pass.new.haul.units.items
    c.with_data-i-in-nodes.ensures.none c.with_data-i-in-nodes.ensures.rest c.with_data-i-in-nodes.ensures.within.1 in
    let more = passes_further g.S.Scanner.codec_of g.S.Scanner.saw g.met.S.Scanner.checked c.nodes.self c.pass.new.self c.pass.new.self c.nodes.i c.in_ok-j.j c.with_data-i-in-nodes.result c.nodes.chain c.pass.new.chain c.pass.new.chain
    _ _ _ c.in_ok-j.ensures.passed.passes some in record {
      within = c.with_data-i-in-nodes.ensures.within.1;
      next = c.with_data-i-in-nodes.ensures.data;
      passes = passes_further g.S.Scanner.codec_of g.S.Scanner.saw g.met.S.Scanner.checked c.args.self.now c.nodes.self c.pass.new.self c.args.first c.nodes.i c.with_data-i-in-nodes.result c.args.chain.now c.nodes.chain c.pass.new.chain
          _ _ _ c.nodes.invariant.passes more;
      moves = moves_further _ _ _ _ _ _ _ _ _ c.nodes.invariant.moves c.in_ok-j.ensures.moves;
      nodes = record {
        shares = λ heavy.
            let had = c.nodes.invariant.nodes.shares heavy in
            shares_further _ _ _ _ _ _ had (c.in_ok-j.ensures.nodes.shares had.heavy);
        tight = λ is.
            let had = c.nodes.invariant.nodes.tight is in
            let more = c.in_ok-j.ensures.nodes.tight had.0 in
            (more.0, adds_further _ _ _ had.1 more.1);
      };
    }
