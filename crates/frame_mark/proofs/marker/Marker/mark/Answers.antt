use Rattle.std.proofs.Common.{◌≡◌, ◌≤◌, false, Option, List, [], ◌++◌, length, ap, sym, subst}
use Rattle.std.specs.Result.{is_ok}
use Rattle.storage.specs.declared.release.NoOwner.{NoOwner}
use Rattle.buffer_model.specs.Segment.{Segment, bytes_of}
use Rattle.buffer_model.specs.Stake.{KeepsTotalsBeside}
use Rattle.iobuf_chain.specs.Accounts.{held_by}
use Rattle.frame_head.specs.Codecs.{most_kept}
use Rattle.frame_rule.specs.Framing.{FitsBehind, Framing}
use Rattle.frame_rule.specs.Hauls.{all_kept, nodes_if, stakes_back}
use Rattle.frame_mark.specs.Marking.{holding}
use Rattle.frame_mark.specs.Pieces.{chain_if}
use Rattle.frame_mark.proofs.Keeping.{alive_as, kept_alone, marks_piece}
use Rattle.frame_mark.proofs.Stakes.{begins_where}
use Rattle.frame_mark.proofs.marker.Marker.mark.Goals as goal

pub returns-then-self-clause-back : goal.returns-then-self-clause-back
returns-then-self-clause-back g c = begins_where (is_ok c.push.result) c.args.finds.now.back.items c.push.new.self.items c.give_back.result c.push.ensures.items

pub invariant_of-self : goal.invariant_of-self
invariant_of-self g c =
    let alive : c.self.inside.dead ≡ false = c.if-self.false in
    let was = c.self.invariant.0 alive in
    let F : Option (List (Segment NoOwner)) → Type 0 = λ w. FitsBehind (nodes_if c.mark_piece.new.kept) w in
    let t = c.in-Ok.ensures.took in
    ((λ e. (was.0, (was.1.0 ++ t.taken, t.took.stands was.1.0 was.1.1), c.in-Ok.ensures.used)), subst F (sym was.0) tt)

pub returns-in-Ok-clause-units : goal.returns-in-Ok-clause-units
returns-in-Ok-clause-units g c =
    let alive : c.self.inside.dead ≡ false = c.if-self.false in
    let was = c.self.invariant.0 alive in
    marks_piece g.S.Scanner.codec_of g.S.Scanner.saw c.self.inside.marking c.mark_piece.new.self (nodes_if c.self.inside.kept) (nodes_if c.mark_piece.new.kept) c.args.piece c.in-Ok.marked _ c.args.self.now _ c.in-Ok.ensures.took
    (alive_as g.S.Scanner.codec_of g.S.Scanner.saw c.self.inside.marking c.self.inside.kept c.self.inside.refused c.self.inside.dead c.args.self.now was.0 alive c.self.view_is)
    (ap (λ w. holding g.S.Scanner.codec_of g.S.Scanner.saw c.mark_piece.new.self w) (sym (kept_alone c.mark_piece.new.kept c.self.inside.refused was.0)))

pub returns-in-Ok-clause-bounded : goal.returns-in-Ok-clause-bounded
returns-in-Ok-clause-bounded g c =
    let alive : c.self.inside.dead ≡ false = c.if-self.false in
    let was = c.self.invariant.0 alive in
    let P : List (Segment NoOwner) → Type 0 = λ w. length (bytes_of w) ≤ most_kept (g.S.Scanner.codec_of c.mark_piece.new.self.scanner) in
    subst P (sym (kept_alone c.mark_piece.new.kept c.self.inside.refused was.0)) (c.in-Ok.ensures.took.took.stands was.1.0 was.1.1).bounded

pub returns-in-Ok-clause-totals : goal.returns-in-Ok-clause-totals
returns-in-Ok-clause-totals g c now =
    let alive : c.self.inside.dead ≡ false = c.if-self.false in
    let was = c.self.invariant.0 alive in
    let is = alive_as g.S.Scanner.codec_of g.S.Scanner.saw c.self.inside.marking c.self.inside.kept c.self.inside.refused c.self.inside.dead c.args.self.now was.0 alive c.self.view_is in
    let after : List (Segment NoOwner) = chain_if c.in-Ok.marked.batch ++ nodes_if c.in-Ok.marked.rest in
    let P : Framing g.row.S.Denot NoOwner → Type 0 =
    λ d. KeepsTotalsBeside c.args.mint.now c.mark_piece.new.mint (held_by (d.kept ++ c.args.piece) ++ stakes_back c.args.finds.now.back.items)
    (held_by (all_kept c.mark_piece.new.kept c.self.inside.refused ++ after) ++ stakes_back c.mark_piece.new.finds.back.items) in
    let Q : List (Segment NoOwner) → Type 0 =
    λ w. KeepsTotalsBeside c.args.mint.now c.mark_piece.new.mint (held_by (nodes_if c.self.inside.kept ++ c.args.piece) ++ stakes_back c.args.finds.now.back.items)
    (held_by (w ++ after) ++ stakes_back c.mark_piece.new.finds.back.items) in
    subst P is (subst Q (sym (kept_alone c.mark_piece.new.kept c.self.inside.refused was.0)) c.in-Ok.ensures.totals)

pub returns-in-Err-clause-totals : goal.returns-in-Err-clause-totals
returns-in-Err-clause-totals g c now =
    let alive : c.self.inside.dead ≡ false = c.if-self.false in
    let was = c.self.invariant.0 alive in
    let is = alive_as g.S.Scanner.codec_of g.S.Scanner.saw c.self.inside.marking c.self.inside.kept c.self.inside.refused c.self.inside.dead c.args.self.now was.0 alive c.self.view_is in
    let P : Framing g.row.S.Denot NoOwner → Type 0 =
    λ d. KeepsTotalsBeside c.args.mint.now c.mark_piece.new.mint (held_by (d.kept ++ c.args.piece) ++ stakes_back c.args.finds.now.back.items)
    (held_by (all_kept c.mark_piece.new.kept c.in-Err.refused ++ []) ++ stakes_back c.mark_piece.new.finds.back.items) in
    subst P is c.in-Err.ensures.totals
