use Rattle.std.proofs.Common.{◌≡◌, false, List, ◌++◌, sym, subst}
use Rattle.storage.specs.declared.release.NoOwner.{NoOwner}
use Rattle.buffer_model.specs.Segment.{Segment}
use Rattle.buffer_model.specs.Stake.{KeepsTotals}
use Rattle.iobuf_chain.specs.Accounts.{held_by}
use Rattle.frame_rule.specs.Framing.{Framing}
use Rattle.frame_rule.specs.Hauls.{all_kept, nodes_if, stakes_back}
use Rattle.frame_mark.specs.Pieces.{chain_if}
use Rattle.frame_mark.proofs.Keeping.{alive_as, kept_alone}
use Rattle.frame_mark.proofs.marker.Marker.end.Goals as goal

pub returns-clause-totals : goal.returns-clause-totals
returns-clause-totals g c now n =
    let alive : c.self.inside.dead ≡ false = c.if-self.false in
    let was = c.self.invariant.0 alive in
    let is = alive_as g.S.Scanner.codec_of g.S.Scanner.saw c.self.inside.marking c.self.inside.kept c.self.inside.refused c.self.inside.dead c.args.self.now was.0 alive c.self.view_is in
    let P : Framing g.row.S.Denot NoOwner → Type 0 =
    λ d. KeepsTotals (held_by d.kept ++ stakes_back c.args.finds.now.back.items) (held_by (all_kept c.mark_end.new.kept c.self.inside.refused ++ chain_if c.in-Ok.batch) ++ stakes_back c.mark_end.new.finds.back.items) in
    let Q : List (Segment NoOwner) → Type 0 =
    λ w. KeepsTotals (held_by (nodes_if c.self.inside.kept) ++ stakes_back c.args.finds.now.back.items) (held_by (w ++ chain_if c.in-Ok.batch) ++ stakes_back c.mark_end.new.finds.back.items) in
    subst P is (subst Q (sym (kept_alone c.mark_end.new.kept c.self.inside.refused was.0)) c.in-Ok.ensures.totals) n
