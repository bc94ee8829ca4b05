use Rattle.std.proofs.Common.{◌≡◌, ℕ, ◌+◌, List, ◌++◌, None, true, false, flat_map, length}
use Rattle.buffer_model.specs.Segment.{bytes_of}
use Rattle.buffer_model.specs.Stake.{KeepsTotalsBeside}
use Rattle.iobuf_chain.specs.Accounts.{held_by}
use Rattle.iobuf_chain.specs.Copies.{HasData, IsHeavy, WithData}
use Rattle.iobuf_chain.specs.Lists.{Each}
use Rattle.frame_head.specs.Units.{units}
use Rattle.buffer_model.specs.Minted.{NumbersOn}
use Rattle.frame_rule.specs.Hauls.{AddsTight, Begins, SharesData, hauled}
use Rattle.frame_rule.specs.Units.{Grew}
use Rattle.frame_rule.proofs.feeds.feed_all.Given as goal

abbrev pub invariant-pieces : goal.invariant-pieces
invariant-pieces g l = record {
  codec : (g.D.Decoder.state l.decoder).codec ≡ (g.D.Decoder.state l.fn.decoder).codec;
  dead : (g.D.Decoder.state l.decoder).dead ≡ (g.D.Decoder.state l.fn.decoder).dead;
  fed : (g.D.Decoder.state l.decoder).fed + length (flat_map (λ p. bytes_of p) l.pieces.items) ≡ (g.D.Decoder.state l.fn.decoder).fed + length (flat_map (λ p. bytes_of p) l.fn.pieces.items);
  stands : (h : List ℕ) → g.D.Decoder.stands l.fn.decoder h
      → (done : List ℕ) × (done ++ flat_map (λ p. bytes_of p) l.pieces.items ≡ flat_map (λ p. bytes_of p) l.fn.pieces.items)
      × g.D.Decoder.stands l.decoder (h ++ done)
      × Grew (units (g.D.Decoder.state l.fn.decoder).codec h) (units (g.D.Decoder.state l.fn.decoder).codec (h ++ done)) l.fn.haul.units.items l.haul.units.items;
  back : Begins l.fn.haul.back.items l.haul.back.items;
  totals : (g.D.Decoder.state l.fn.decoder).dead ≡ false → KeepsTotalsBeside l.fn.mint l.mint
      (held_by ((g.D.Decoder.state l.fn.decoder).kept ++ flat_map (λ p. p) l.fn.pieces.items) ++ hauled l.fn.haul)
      (held_by ((g.D.Decoder.state l.decoder).kept ++ flat_map (λ p. p) l.pieces.items) ++ hauled l.haul);
  mint : NumbersOn l.fn.mint l.mint;
  untouched : (g.D.Decoder.state l.fn.decoder).dead ≡ true
      → (g.D.Decoder.state l.decoder ≡ g.D.Decoder.state l.fn.decoder) × (l.pieces.items ≡ l.fn.pieces.items) × (l.haul ≡ l.fn.haul);
  copies : WithData IsHeavy ((g.D.Decoder.state l.fn.decoder).kept ++ flat_map (λ p. p) l.fn.pieces.items)
      → SharesData ((g.D.Decoder.state l.fn.decoder).kept ++ flat_map (λ p. p) l.fn.pieces.items)
      ((g.D.Decoder.state l.decoder).kept ++ flat_map (λ p. p) l.pieces.items) l.fn.haul.units.items l.haul.units.items;
  tight : Each HasData ((g.D.Decoder.state l.fn.decoder).kept ++ flat_map (λ p. p) l.fn.pieces.items)
      → Each HasData ((g.D.Decoder.state l.decoder).kept ++ flat_map (λ p. p) l.pieces.items)
      × AddsTight l.fn.haul.units.items l.haul.units.items;
}

abbrev pub decreases-pieces : goal.decreases-pieces
decreases-pieces g l = length l.pieces.items
