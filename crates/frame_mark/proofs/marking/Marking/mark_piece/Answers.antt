use Rattle.std.proofs.Common.{◌<◌, List, ◌++◌, Some, inr, None, take, drop, length, length-drop, refl, arith, ap, sym, subst, ◌∙◌}
use Rattle.storage.specs.declared.release.NoOwner.{NoOwner}
use Rattle.buffer_model.specs.Segment.{Segment, bytes_of}
use Rattle.iobuf_chain.specs.Copies.{HasData, IsHeavy, WithData}
use Rattle.iobuf_chain.specs.Lists.{Each}
use Rattle.frame_rule.specs.Hauls.{CutsShare, nodes_if}
use Rattle.frame_mark.specs.declared.mark.Mark.{Mark}
use Rattle.frame_mark.specs.Pieces.{TakesPart, chain_if, frames_if}
use Rattle.frame_mark.proofs.Halves.{size_fed, size_kept}
use Rattle.frame_mark.proofs.Lying.{no_bytes}
use Rattle.frame_mark.proofs.Parts.{behind_is, front_is, kept_bytes, left_open, left_rest, none_left, shares_kept, shares_none, takes_none, takes_part, tight_kept, tight_none, tight_rest}
use Rattle.frame_mark.proofs.Stakes.{kept_totals, on_totals, piece_totals, rest_totals, start_totals}
use Rattle.frame_mark.proofs.marking.Marking.mark_piece.Goals as goal

pub returns-then-size-eq0-clause-took : goal.returns-then-size-eq0-clause-took
returns-then-size-eq0-clause-took g c =
    let P : List Mark → Type 0 = λ w. TakesPart g.S.Scanner.codec_of g.S.Scanner.saw c.args.self.now c.args.self.now (nodes_if c.args.kept.now) (nodes_if c.args.kept.now) c.args.piece (record { batch = None; rest = None }) w in
    subst P (sym (ap (λ v. v.items) c.give_up.ensures.marks ∙ c.reserve-2.ensures.items ∙ c.requires.none))
    (takes_none g.S.Scanner.codec_of g.S.Scanner.saw g.met.S.Scanner.checked c.args.self.now (nodes_if c.args.kept.now) c.args.piece (record { batch = None; rest = None })
    (no_bytes (bytes_of c.args.piece) (omega (arith, c.length-size.ensures, c.if-size-eq0.true))) refl refl)

pub returns-then-size-eq0-clause-totals : goal.returns-then-size-eq0-clause-totals
returns-then-size-eq0-clause-totals g c =
    piece_totals c.args.mint.now c.args.mint.now (nodes_if c.args.kept.now) c.args.piece c.args.finds.now.back.items c.reserve.new.self.items c.give_up.new.finds.back.items c.reserve.ensures.items c.give_up.ensures.totals

pub returns-then-size-eq0-clause-shares : goal.returns-then-size-eq0-clause-shares
returns-then-size-eq0-clause-shares g c heavy = shares_none (nodes_if c.args.kept.now) c.args.piece (record { batch = None; rest = None }) heavy refl refl

pub take_kept-requires : goal.take_kept-requires
take_kept-requires g c =
    let size = size_kept g.S.Scanner.codec_of g.S.Scanner.saw g.met.S.Scanner.checked c.args.self.now (nodes_if c.args.kept.now) c.requires.stands.0 c.requires.stands.1 in
    let fed = size_fed g.S.Scanner.codec_of g.S.Scanner.saw g.met.S.Scanner.checked c.args.self.now (nodes_if c.args.kept.now) c.requires.stands in
    record { sum = omega (arith, size, fed, c.requires.room) }

pub returns-in-Err-mark_and_cut-clause-totals : goal.returns-in-Err-mark_and_cut-clause-totals
returns-in-Err-mark_and_cut-clause-totals g c =
    start_totals c.args.mint.now c.mark_and_cut.new.mint (nodes_if c.args.kept.now ++ c.args.piece) c.in-Ok-take_kept.joined.0 c.args.finds.now.back.items c.reserve.new.self.items _ c.in-Ok-take_kept.ensures.joined.0 c.reserve.ensures.items
    c.in-Err-mark_and_cut.ensures.totals

pub returns-then-taken-size-clause-took : goal.returns-then-taken-size-clause-took
returns-then-taken-size-clause-took g c =
    let front = front_is c.in-Ok-take_kept.joined.1 (nodes_if c.args.kept.now) c.args.piece c.in-Ok-take_kept.joined.0 c.in-Ok-take_kept.ensures.joined.0 c.in-Ok-take_kept.ensures.joined.1 in
    let behind = behind_is c.in-Ok-take_kept.joined.1 (nodes_if c.args.kept.now) c.args.piece c.in-Ok-take_kept.joined.0 c.in-Ok-take_kept.ensures.joined.0 c.in-Ok-take_kept.ensures.joined.1 in
    let u = c.in-Ok-mark_and_cut.ensures.cut in
    let size = ap (λ w. length (bytes_of w)) behind in
    let less : c.in-Ok-mark_and_cut.marked.1 < length (bytes_of (drop c.in-Ok-take_kept.joined.1 c.in-Ok-take_kept.joined.0)) = omega (arith, size, c.length-size.ensures, c.if-taken-size.true) in
    takes_part g.S.Scanner.codec_of g.S.Scanner.saw g.met.S.Scanner.checked c.args.self.now c.mark_and_cut.new.self (nodes_if c.args.kept.now) (nodes_if c.take_kept.new.kept) c.args.piece
    (take c.in-Ok-take_kept.joined.1 c.in-Ok-take_kept.joined.0) (drop c.in-Ok-take_kept.joined.1 c.in-Ok-take_kept.joined.0) c.in-Ok-mark_and_cut.marked.1 (bytes_of c.mark_and_cut.new.chain)
    (record { batch = c.in-Ok-mark_and_cut.marked.0; rest = Some c.mark_and_cut.new.chain }) c.mark_and_cut.new.finds.marks.items (frames_if c.in-Ok-mark_and_cut.marked.0)
    front behind u refl (ap (λ w. bytes_of (nodes_if w)) c.in-Ok-take_kept.ensures.taken ∙ sym (u.all_or_none less))
    (left_rest u.opened _ _ u.left_is (u.all_or_none less) ∙ ap (λ w. drop c.in-Ok-mark_and_cut.marked.1 (bytes_of w)) behind)

pub returns-then-taken-size-clause-totals : goal.returns-then-taken-size-clause-totals
returns-then-taken-size-clause-totals g c =
    on_totals c.args.mint.now c.mark_and_cut.new.mint _ _ _
    (start_totals c.args.mint.now c.mark_and_cut.new.mint (nodes_if c.args.kept.now ++ c.args.piece) c.in-Ok-take_kept.joined.0 c.args.finds.now.back.items c.reserve.new.self.items _ c.in-Ok-take_kept.ensures.joined.0 c.reserve.ensures.items
    c.in-Ok-mark_and_cut.ensures.totals)
    (rest_totals c.take_kept.new.kept c.mark_and_cut.new.chain (chain_if c.in-Ok-mark_and_cut.marked.0) _ c.in-Ok-take_kept.ensures.taken)

pub returns-clause-took : goal.returns-clause-took
returns-clause-took g c =
    let front = front_is c.in-Ok-take_kept.joined.1 (nodes_if c.args.kept.now) c.args.piece c.in-Ok-take_kept.joined.0 c.in-Ok-take_kept.ensures.joined.0 c.in-Ok-take_kept.ensures.joined.1 in
    let behind = behind_is c.in-Ok-take_kept.joined.1 (nodes_if c.args.kept.now) c.args.piece c.in-Ok-take_kept.joined.0 c.in-Ok-take_kept.ensures.joined.0 c.in-Ok-take_kept.ensures.joined.1 in
    let u = c.in-Ok-mark_and_cut.ensures.cut in
    let size = ap (λ w. length (bytes_of w)) behind in
    let none = none_left c.in-Ok-mark_and_cut.marked.1 (bytes_of (drop c.in-Ok-take_kept.joined.1 c.in-Ok-take_kept.joined.0)) (omega (arith, size, c.length-size.ensures, c.if-taken-size.false)) in
    let P : List Mark → Type 0 =
    λ w. TakesPart g.S.Scanner.codec_of g.S.Scanner.saw c.args.self.now c.mark_and_cut.new.self (nodes_if c.args.kept.now) (nodes_if c.keep.new.kept) c.args.piece (record { batch = c.in-Ok-mark_and_cut.marked.0; rest = None }) w in
    subst P (sym (ap (λ v. v.items) c.keep.ensures.marks))
    (takes_part g.S.Scanner.codec_of g.S.Scanner.saw g.met.S.Scanner.checked c.args.self.now c.mark_and_cut.new.self (nodes_if c.args.kept.now) (nodes_if c.keep.new.kept) c.args.piece
    (take c.in-Ok-take_kept.joined.1 c.in-Ok-take_kept.joined.0) (drop c.in-Ok-take_kept.joined.1 c.in-Ok-take_kept.joined.0) c.in-Ok-mark_and_cut.marked.1 (bytes_of c.mark_and_cut.new.chain)
    (record { batch = c.in-Ok-mark_and_cut.marked.0; rest = None }) c.mark_and_cut.new.finds.marks.items (frames_if c.in-Ok-mark_and_cut.marked.0)
    front behind u refl (kept_bytes c.mark_and_cut.new.chain (nodes_if c.keep.new.kept) c.keep.ensures.kept ∙ left_open u.opened _ _ u.left_is none)
    (sym (ap (λ w. drop c.in-Ok-mark_and_cut.marked.1 (bytes_of w)) (sym behind) ∙ none)))

pub returns-clause-totals : goal.returns-clause-totals
returns-clause-totals g c =
    on_totals c.args.mint.now c.mark_and_cut.new.mint _ _ _
    (start_totals c.args.mint.now c.mark_and_cut.new.mint (nodes_if c.args.kept.now ++ c.args.piece) c.in-Ok-take_kept.joined.0 c.args.finds.now.back.items c.reserve.new.self.items _ c.in-Ok-take_kept.ensures.joined.0 c.reserve.ensures.items
    c.in-Ok-mark_and_cut.ensures.totals)
    (kept_totals c.mark_and_cut.new.chain (chain_if c.in-Ok-mark_and_cut.marked.0) (nodes_if c.keep.new.kept) _ _ c.keep.ensures.totals)

pub returns-clause-shares : goal.returns-clause-shares
returns-clause-shares g c heavy =
    let H : List (Segment NoOwner) → Type 0 = λ w. WithData IsHeavy w in
    let C : List (Segment NoOwner) → Type 0 = λ w. CutsShare w (chain_if c.in-Ok-mark_and_cut.marked.0) c.mark_and_cut.new.chain in
    shares_kept (nodes_if c.args.kept.now ++ c.args.piece) c.mark_and_cut.new.chain (nodes_if c.keep.new.kept) (record { batch = c.in-Ok-mark_and_cut.marked.0; rest = None })
    (subst C c.in-Ok-take_kept.ensures.joined.0 (c.in-Ok-mark_and_cut.ensures.shares (subst H (sym c.in-Ok-take_kept.ensures.joined.0) heavy))) refl c.keep.ensures.kept

pub returns-then-size-eq0-clause-tight : goal.returns-then-size-eq0-clause-tight
returns-then-size-eq0-clause-tight g c tight = tight_none (nodes_if c.args.kept.now) c.args.piece (record { batch = None; rest = None }) tight refl refl

pub returns-then-taken-size-clause-tight : goal.returns-then-taken-size-clause-tight
returns-then-taken-size-clause-tight g c tight =
    let E : List (Segment NoOwner) → Type 0 = λ w. Each HasData w in
    let both = c.in-Ok-mark_and_cut.ensures.tight (inr (subst E (sym c.in-Ok-take_kept.ensures.joined.0) tight)) in
    let behind = behind_is c.in-Ok-take_kept.joined.1 (nodes_if c.args.kept.now) c.args.piece c.in-Ok-take_kept.joined.0 c.in-Ok-take_kept.ensures.joined.0 c.in-Ok-take_kept.ensures.joined.1 in
    let u = c.in-Ok-mark_and_cut.ensures.cut in
    let size = ap (λ w. length (bytes_of w)) behind in
    let less : c.in-Ok-mark_and_cut.marked.1 < length (bytes_of (drop c.in-Ok-take_kept.joined.1 c.in-Ok-take_kept.joined.0)) = omega (arith, size, c.length-size.ensures, c.if-taken-size.true) in
    let left = ap length (left_rest u.opened _ _ u.left_is (u.all_or_none less)) in
    let count = length-drop c.in-Ok-mark_and_cut.marked.1 (bytes_of (drop c.in-Ok-take_kept.joined.1 c.in-Ok-take_kept.joined.0)) in
    tight_rest c.take_kept.new.kept (record { batch = c.in-Ok-mark_and_cut.marked.0; rest = Some c.mark_and_cut.new.chain }) c.mark_and_cut.new.chain c.in-Ok-take_kept.ensures.taken refl both.0 both.1 (omega (arith, left, count, less))

pub returns-clause-tight : goal.returns-clause-tight
returns-clause-tight g c tight =
    let E : List (Segment NoOwner) → Type 0 = λ w. Each HasData w in
    let both = c.in-Ok-mark_and_cut.ensures.tight (inr (subst E (sym c.in-Ok-take_kept.ensures.joined.0) tight)) in
    tight_kept c.mark_and_cut.new.chain (nodes_if c.keep.new.kept) (record { batch = c.in-Ok-mark_and_cut.marked.0; rest = None }) c.keep.ensures.kept refl both.0 both.1
