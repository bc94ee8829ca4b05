use Rattle.std.proofs.Common.{length, ap, arith, ◌∙◌}
use Rattle.storage.specs.declared.release.NoOwner.{NoOwner}
use Rattle.buffer_model.specs.Segment.{bytes_of}
use Rattle.frame_rule.specs.Framing.{Framing}
use Rattle.frame_mark.proofs.Keeping.{kept_length}
use Rattle.frame_mark.proofs.marker.Marker.held.Goals as goal

pub returns : goal.returns
returns g c =
    let all = kept_length c.self.inside.kept c.self.inside.refused ∙ ap (λ (d : Framing g.row.S.Denot NoOwner). length (bytes_of d.kept)) c.self.view_is in
    omega (arith, all, c.length_if.ensures, c.length_if-2.ensures)
