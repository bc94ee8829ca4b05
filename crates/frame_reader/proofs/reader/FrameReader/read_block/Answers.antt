use Rattle.std.proofs.Common.{rules, ◌≡◌, ap, ◌∙◌, take, refl, subst}
use Rattle.std.proofs.lemmas.List.{reverse-reverse}
use Rattle.std.specs.Prelude.{reverse}
use Rattle.frame_reader.specs.declared.filling.Came.{Came}
use Rattle.frame_reader.specs.Frames.{EndsAsSaid}
use Rattle.frame_reader.proofs.Known.{lent_all}
use Rattle.frame_reader.proofs.Steps.{block_most, block_on, counts_on}
use Rattle.frame_reader.proofs.reader.FrameReader.read_block.Goals as goal

pub returns-clause-given : goal.returns-clause-given
returns-clause-given g c =
    λ left codec given s.
    block_on g.R.Read.remaining g.D.Decoder.state g.D.Decoder.stands c.args.self.now c.self-2.inside.input c.fill-count.new.input c.self-2.inside.decoder c.take_in-next.new.self.decoder c.self.inside.decoder c.take_in-next.result
    (reverse c.reverse.new.self.items) c.take_in-next.new.haul.units.items _ _ (take c.fill-count.result.0 c.fill-count.new.block) _
    s c.requires.reading c.requires.empty (search rules) (lent_all c.fill-count.result.0 c.in-Ok.block.len c.fill-count.new.block c.in-Ok.block.items (search rules) (search rules)) (search rules) c.take_in-next.ensures.found (search rules) (search rules) (ap reverse c.reverse.ensures.items ∙ reverse-reverse _) (λ is. let E : Came → Type 0 = λ f. EndsAsSaid f (g.R.Read.remaining c.fill-count.new.input) in subst E (c.take_in-next.ensures.ends is) c.fill-count.ensures.end)

pub invariant_of-self-3 : goal.invariant_of-self-3
invariant_of-self-3 g c = (
  search rules,
  counts_on g.D.Decoder.state g.D.Decoder.stands c.self.inside.phase c.self.inside.decoder c.take_in-next.new.self.decoder c.self-2.inside.decoder c.take_in-next.result
      c.self.inside.given _ c.self.inside.units.items c.take_in-next.new.haul.units.items _
      c.self.invariant.1 (search rules) (search rules) (λ h st. (g.met.D.Decoder.counted c.self.inside.decoder h st).0) (search rules)
      (block_most c.fill-count.result.0 65536 _ (search rules)) c.take_in-next.ensures.found (search rules) (search rules),
)
