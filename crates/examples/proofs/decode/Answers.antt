use Rattle.std.proofs.Common.{rules, ◌∙◌, ℕ, List, [], Bor, take, ap, arith, refl, flat_map, slice_index_or}
use Rattle.std.proofs.lemmas.List.{take_all}
use Rattle.std.proofs.lemmas.List.Folds.{length-flat_map-take}
use Rattle.std.specs.Prelude.{IsErrOf}
use Rattle.frame_rule.specs.declared.decoder.FeedFault.TheVariants.{Dead}
use Rattle.frame_rule.specs.Units.{units_of}
use Rattle.examples.proofs.Pieces.{joined_more, fed_on, ended_on}
use Rattle.examples.proofs.decode.Goals as goal

pub feed_copy-requires : goal.feed_copy-requires
feed_copy-requires g c =
    let laws = g.met.D.Decoder in
    let fed = laws.counted c.pieces.decoder _ c.pieces.invariant.stands in
    let some = length-flat_map-take (λ (p : Bor (List ℕ)). p.now) c.args.pieces.now c.pieces.bytes-index (record { ref_ptr = (0, 0); now = [] }) c.pieces-test.true in
    omega (arith, some, fed.0, c.requires.room)

pub pieces-init : goal.pieces-init
pieces-init g c = record { codec = refl; stands = c.requires.fresh; units = ap units_of c.new-haul.ensures.units }

pub pieces-preserved : goal.pieces-preserved
pieces-preserved g c =
    let xs = c.args.pieces.now in
    let i = c.pieces.bytes-index in
    let none : Bor (List ℕ) = record { ref_ptr = (0, 0); now = [] } in
    let before = flat_map (λ (p : Bor (List ℕ)). p.now) (take i xs) in
    let state = g.D.Decoder.state in
    let stands = g.D.Decoder.stands in
    let fed = fed_on (stands c.pieces.decoder) (stands c.feed_copy.new.decoder) _ (state c.args.decoder).codec before (slice_index_or xs i none).now _ c.pieces.haul.units.items c.feed_copy.new.haul.units.items
    (joined_more (λ (p : Bor (List ℕ)). p.now) xs i none c.pieces-test.true)
    c.pieces.invariant.codec c.pieces.invariant.stands c.pieces.invariant.units c.in_ok-feed_copy.ensures.units in
    record { codec = c.in_ok-feed_copy.ensures.codec ∙ c.pieces.invariant.codec; stands = fed.0; units = fed.1 }

pub returns-clause-units : goal.returns-clause-units
returns-clause-units g c =
    let xs = c.args.pieces.now in
    let before = flat_map (λ (p : Bor (List ℕ)). p.now) (take c.pieces.bytes-index xs) in
    let all = ap (λ w. flat_map (λ (p : Bor (List ℕ)). p.now) w) (take_all c.pieces.bytes-index xs (omega (arith, c.pieces-test.false))) in
    ended_on (g.D.Decoder.stands c.pieces.decoder) _ _ before _ c.pieces.haul.units.items c.end.new.haul.units.items all c.pieces.invariant.codec c.pieces.invariant.stands c.pieces.invariant.units c.in_ok-end.ensures.units

-- what stands for some bytes is alive
pub returns-in_err-feed_copy-clause-alive : goal.returns-in_err-feed_copy-clause-alive
returns-in_err-feed_copy-clause-alive g c is =
    let laws = g.met.D.Decoder in
    let was : IsErrOf c.feed_copy.result Dead = search rules in
    let fed = laws.counted c.pieces.decoder _ c.pieces.invariant.stands in
    let dead = c.feed_copy.ensures.dead was in
    absurd (cc (dead, fed.1))

pub returns-in_err-end-clause-alive : goal.returns-in_err-end-clause-alive
returns-in_err-end-clause-alive g c is =
    let laws = g.met.D.Decoder in
    let was : IsErrOf c.end.result Dead = search rules in
    let fed = laws.counted c.pieces.decoder _ c.pieces.invariant.stands in
    let dead = c.end.ensures.dead.0 was in
    absurd (cc (dead, fed.1))
