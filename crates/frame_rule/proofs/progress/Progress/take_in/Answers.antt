use Rattle.std.proofs.Common.{refl, arith, ap, sym, ◌∙◌, length, ◌++◌, inr}
use Rattle.buffer_model.specs.Segment.{bytes_of}
use Rattle.frame_rule.specs.Hauls.{nodes_if}
use Rattle.frame_rule.proofs.Intakes.{at_err, at_ok, beside_shares, beside_totals, bytes_front, kept_fed, shares_settled, stands_front, start_shares, start_totals, stops_at, stops_first, stops_last, takes_all, takes_nothing, takes_settled}
use Rattle.buffer_model.proofs.Totals.{keeps_any}
use Rattle.frame_rule.proofs.Moving.{keeps_later}
use Rattle.iobuf_chain.specs.Copies.{HasData}
use Rattle.iobuf_chain.proofs.Copied.{each_before}
use Rattle.frame_rule.proofs.Passing.{no_bytes}
use Rattle.frame_rule.proofs.Tight.{adds_none, settled_tight, tight_as}
use Rattle.frame_rule.proofs.progress.Progress.take_in.Goals as goal

pub take_kept-requires : goal.take_kept-requires
take_kept-requires g c = let fed = kept_fed g.S.Scanner.codec_of g.S.Scanner.saw g.met.S.Scanner.checked c.args.self.now _ c.requires.stands in record { sum = omega (arith, fed, c.requires.room) }

pub returns-in-Err-take_kept-clause-stops : goal.returns-in-Err-take_kept-clause-stops
returns-in-Err-take_kept-clause-stops g c = stops_first g.S.Scanner.codec_of g.S.Scanner.saw g.met.S.Scanner.checked c.args.self.now (nodes_if c.args.kept.now) (bytes_of c.args.piece) _ _ refl

pub pass_all-requires-clause-stands : goal.pass_all-requires-clause-stands
pass_all-requires-clause-stands g c =
    stands_front g.S.Scanner.codec_of g.S.Scanner.saw g.met.S.Scanner.checked c.args.self.now c.in-Ok.joined.1 (nodes_if c.args.kept.now) c.args.piece c.in-Ok.joined.0 c.in-Ok.ensures.joined.0 c.in-Ok.ensures.joined.1
    c.requires.stands

pub pass_all-requires-clause-room : goal.pass_all-requires-clause-room
pass_all-requires-clause-room g c =
    let same = ap length (bytes_front g.S.Scanner.codec_of g.S.Scanner.saw g.met.S.Scanner.checked c.in-Ok.joined.1 (nodes_if c.args.kept.now) c.args.piece c.in-Ok.joined.0 c.in-Ok.ensures.joined.0 c.in-Ok.ensures.joined.1) in
    omega (arith, same, c.requires.room)

pub returns-then-is_err-clause-stops : goal.returns-then-is_err-clause-stops
returns-then-is_err-clause-stops g c =
    stops_at g.S.Scanner.codec_of g.S.Scanner.saw g.met.S.Scanner.checked c.args.self.now c.pass_all.new.self c.in-Ok.joined.1 (nodes_if c.args.kept.now) c.args.piece c.in-Ok.joined.0 _ _
    c.in-Ok.ensures.joined.0 c.in-Ok.ensures.joined.1 (at_err c.pass_all.result (sym c.is_err.ensures.value ∙ c.if-is_err.true) c.pass_all.ensures.stops)

pub returns-then-is_err-clause-totals : goal.returns-then-is_err-clause-totals
returns-then-is_err-clause-totals g c =
    start_totals c.args.mint.now _ (nodes_if c.args.kept.now ++ c.args.piece) c.in-Ok.joined.0 c.args.haul.now c.args.haul.now _ c.in-Ok.ensures.joined.0 refl c.pass_all.ensures.moves.totals

pub returns-in-Ok-settle-clause-took : goal.returns-in-Ok-settle-clause-took
returns-in-Ok-settle-clause-took g c =
    let all =
    takes_all g.S.Scanner.codec_of g.S.Scanner.saw g.met.S.Scanner.checked c.args.self.now c.pass_all.new.self c.in-Ok.joined.1 (nodes_if c.args.kept.now) c.args.piece c.in-Ok.joined.0 c.pass_all.new.chain _ _
    c.in-Ok.ensures.joined.0 c.in-Ok.ensures.joined.1 (at_ok c.pass_all.result (sym c.is_err.ensures.value ∙ c.if-is_err.false) c.pass_all.ensures.passed) in
    takes_settled g.S.Scanner.codec_of g.S.Scanner.saw g.met.S.Scanner.checked c.args.self.now c.pass_all.new.self (nodes_if c.args.kept.now) c.pass_all.new.chain (nodes_if c.settle.new.kept) (bytes_of c.args.piece) _
    c.pass_all.new.haul c.settle.new.haul all c.in-Ok-settle.ensures.settled

pub returns-in-Ok-settle-clause-totals : goal.returns-in-Ok-settle-clause-totals
returns-in-Ok-settle-clause-totals g c =
    keeps_later c.args.mint.now _ _ _ _
    (start_totals c.args.mint.now _ (nodes_if c.args.kept.now ++ c.args.piece) c.in-Ok.joined.0 c.args.haul.now c.args.haul.now _ c.in-Ok.ensures.joined.0 refl c.pass_all.ensures.moves.totals)
    c.in-Ok-settle.ensures.totals

pub returns-in-Ok-settle-clause-shares : goal.returns-in-Ok-settle-clause-shares
returns-in-Ok-settle-clause-shares g c heavy =
    shares_settled _ c.pass_all.new.chain (nodes_if c.settle.new.kept) _ c.pass_all.new.haul c.settle.new.haul
    (start_shares (nodes_if c.args.kept.now ++ c.args.piece) c.in-Ok.joined.0 c.pass_all.new.chain c.args.haul.now c.args.haul.now _ c.in-Ok.ensures.joined.0 refl heavy
    (at_ok c.pass_all.result (sym c.is_err.ensures.value ∙ c.if-is_err.false) c.pass_all.ensures.nodes).shares)
    c.in-Ok-settle.ensures.settled

pub returns-in-Err-settle-clause-stops : goal.returns-in-Err-settle-clause-stops
returns-in-Err-settle-clause-stops g c =
    let all =
    takes_all g.S.Scanner.codec_of g.S.Scanner.saw g.met.S.Scanner.checked c.args.self.now c.pass_all.new.self c.in-Ok.joined.1 (nodes_if c.args.kept.now) c.args.piece c.in-Ok.joined.0 c.pass_all.new.chain _ _
    c.in-Ok.ensures.joined.0 c.in-Ok.ensures.joined.1 (at_ok c.pass_all.result (sym c.is_err.ensures.value ∙ c.if-is_err.false) c.pass_all.ensures.passed) in
    stops_last g.S.Scanner.codec_of g.S.Scanner.saw g.met.S.Scanner.checked c.args.self.now c.pass_all.new.self (nodes_if c.args.kept.now) c.pass_all.new.chain (bytes_of c.args.piece) _ _ _ all
    c.in-Err-settle.ensures.refused.1.0

pub returns-in-Err-settle-clause-totals : goal.returns-in-Err-settle-clause-totals
returns-in-Err-settle-clause-totals g c =
    keeps_later c.args.mint.now _ _ _ _
    (start_totals c.args.mint.now _ (nodes_if c.args.kept.now ++ c.args.piece) c.in-Ok.joined.0 c.args.haul.now c.args.haul.now _ c.in-Ok.ensures.joined.0 refl c.pass_all.ensures.moves.totals)
    c.in-Err-settle.ensures.totals

pub returns-in_default-clause-took : goal.returns-in_default-clause-took
returns-in_default-clause-took g c =
    takes_nothing g.S.Scanner.codec_of g.S.Scanner.saw g.met.S.Scanner.checked c.args.self.now (nodes_if c.args.kept.now) (bytes_of c.args.piece) _ _
    (no_bytes (bytes_of c.args.piece) (omega (arith, c.length.ensures, c.if-length-eq0.true))) (ap (λ v. v.items) c.give_back.ensures.units)

pub returns-in_default-clause-totals : goal.returns-in_default-clause-totals
returns-in_default-clause-totals g c =
    keeps_any c.args.mint.now _ _ _ (beside_totals (nodes_if c.args.kept.now) c.args.piece c.args.haul.now c.give_back.new.haul c.in_default.ensures.moved.totals)

pub returns-in_default-clause-shares : goal.returns-in_default-clause-shares
returns-in_default-clause-shares g c heavy = beside_shares (nodes_if c.args.kept.now) c.args.piece _ _ heavy (ap (λ v. v.items) c.give_back.ensures.units)

pub returns-in_default-clause-tight : goal.returns-in_default-clause-tight
returns-in_default-clause-tight g c tight = (each_before HasData (nodes_if c.args.kept.now) c.args.piece tight, adds_none _ _ (ap (λ v. v.items) c.give_back.ensures.units))

pub returns-then-length-eq0-clause-stops : goal.returns-then-length-eq0-clause-stops
returns-then-length-eq0-clause-stops g c =
    stops_first g.S.Scanner.codec_of g.S.Scanner.saw g.met.S.Scanner.checked c.args.self.now (nodes_if c.args.kept.now) (bytes_of c.args.piece) _ _ (ap (λ v. v.items) c.give_back.ensures.units)

pub returns-in-Ok-settle-clause-tight : goal.returns-in-Ok-settle-clause-tight
returns-in-Ok-settle-clause-tight g c tight =
    let is = tight_as c.in-Ok.joined.0 _ c.in-Ok.ensures.joined.0 (inr tight) in
    let all = (at_ok c.pass_all.result (sym c.is_err.ensures.value ∙ c.if-is_err.false) c.pass_all.ensures.nodes).tight is in
    settled_tight c.pass_all.new.chain (nodes_if c.settle.new.kept) _ c.pass_all.new.haul c.settle.new.haul all.0 all.1 c.in-Ok-settle.ensures.settled
