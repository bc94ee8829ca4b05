use Rattle.std.proofs.Common.{◌≡◌, ◌≤◌, false, None, Option, List, ◌++◌, length, sym, subst}
use Rattle.std.specs.Result.{is_ok}
use Rattle.storage.specs.declared.release.NoOwner.{NoOwner}
use Rattle.buffer_model.specs.Segment.{Segment, bytes_of}
use Rattle.buffer_model.specs.Stake.{KeepsTotalsBeside}
use Rattle.iobuf_chain.specs.Accounts.{held_by}
use Rattle.frame_head.specs.Codecs.{most_kept}
use Rattle.frame_rule.specs.Framing.{FitsBehind, Framing}
use Rattle.frame_rule.specs.Hauls.{all_kept, hauled, nodes_if}
use Rattle.frame_rule.proofs.Moving.{begins_where}
use Rattle.frame_rule.proofs.Intakes.{alive_as, kept_alone}
use Rattle.frame_rule.proofs.framer.FramerDecoder.feed.Goals as goal

pub returns-then-self-clause-back : goal.returns-then-self-clause-back
returns-then-self-clause-back g c = begins_where (is_ok c.push.result) c.args.haul.now.back.items c.push.new.self.items c.give_back.result c.push.ensures.items

pub invariant_of-self : goal.invariant_of-self
invariant_of-self g c =
    let alive : c.self.inside.dead ≡ false = c.if-self.false in
    let was = c.self.invariant.0 alive in
    let F : Option (List (Segment NoOwner)) → Type 0 = λ w. FitsBehind (nodes_if c.take_in.new.kept) w in
    ((λ e. (was.0, (was.1.0 ++ bytes_of c.args.piece, c.in-Ok.ensures.took.took.stands was.1.0 was.1.1), c.in-Ok.ensures.used)), subst F (sym was.0) tt)

pub returns-in-Ok-clause-bounded : goal.returns-in-Ok-clause-bounded
returns-in-Ok-clause-bounded g c =
    let alive : c.self.inside.dead ≡ false = c.if-self.false in
    let was = c.self.invariant.0 alive in
    let P : List (Segment NoOwner) → Type 0 = λ w. length (bytes_of w) ≤ most_kept (g.S.Scanner.codec_of c.take_in.new.self.scanner) in
    subst P (sym (kept_alone c.take_in.new.kept c.self.inside.refused was.0)) (c.in-Ok.ensures.took.took.stands was.1.0 was.1.1).bounded

pub returns-in-Ok-clause-totals : goal.returns-in-Ok-clause-totals
returns-in-Ok-clause-totals g c now =
    let alive : c.self.inside.dead ≡ false = c.if-self.false in
    let was = c.self.invariant.0 alive in
    let is = alive_as g.S.Scanner.codec_of g.S.Scanner.saw g.met.S.Scanner.checked c.self.inside.progress c.self.inside.kept c.self.inside.refused c.self.inside.dead c.args.self.now was.0 alive c.self.view_is in
    let P : Framing g.row.S.Denot NoOwner → Type 0 =
    λ d. KeepsTotalsBeside c.args.mint.now c.take_in.new.mint (held_by (d.kept ++ c.args.piece) ++ hauled c.args.haul.now) (held_by (all_kept c.take_in.new.kept c.self.inside.refused) ++ hauled c.take_in.new.haul) in
    let Q : List (Segment NoOwner) → Type 0 =
    λ w. KeepsTotalsBeside c.args.mint.now c.take_in.new.mint (held_by (nodes_if c.self.inside.kept ++ c.args.piece) ++ hauled c.args.haul.now) (held_by w ++ hauled c.take_in.new.haul) in
    subst P is (subst Q (sym (kept_alone c.take_in.new.kept c.self.inside.refused was.0)) c.in-Ok.ensures.totals)

pub returns-in-Err-clause-totals : goal.returns-in-Err-clause-totals
returns-in-Err-clause-totals g c now =
    let alive : c.self.inside.dead ≡ false = c.if-self.false in
    let was = c.self.invariant.0 alive in
    let is = alive_as g.S.Scanner.codec_of g.S.Scanner.saw g.met.S.Scanner.checked c.self.inside.progress c.self.inside.kept c.self.inside.refused c.self.inside.dead c.args.self.now was.0 alive c.self.view_is in
    let P : Framing g.row.S.Denot NoOwner → Type 0 =
    λ d. KeepsTotalsBeside c.args.mint.now c.take_in.new.mint (held_by (d.kept ++ c.args.piece) ++ hauled c.args.haul.now) (held_by (all_kept c.take_in.new.kept c.in-Err.refused) ++ hauled c.take_in.new.haul) in
    subst P is c.in-Err.ensures.totals
