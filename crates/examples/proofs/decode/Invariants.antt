use Rattle.std.proofs.Common.{◌≡◌, take}
use Rattle.std.specs.Prelude.{flat_map}
use Rattle.frame_head.specs.Units.{units}
use Rattle.frame_rule.specs.Units.{units_of}
use Rattle.examples.proofs.decode.Given as goal

abbrev pub invariant-pieces : goal.invariant-pieces
invariant-pieces g l =
    let by = (g.D.Decoder.state l.fn.decoder).codec in
    let fed = flat_map (λ p. p.now) (take l.bytes-index l.pieces) in record {
      codec : (g.D.Decoder.state l.decoder).codec ≡ by;
      stands : g.D.Decoder.stands l.decoder fed;
      units : units_of l.haul.units.items ≡ units by fed;
    }
