use Rattle.std.proofs.Common.{◌≡◌, ℕ, ◌-◌, List, [], take, drop, length, arith, ap, sym, subst}
use Rattle.buffer_model.specs.Segment.{bytes_of}
use Rattle.frame_batch.specs.Batches.{frames_in}
use Rattle.frame_mark.specs.declared.mark.Mark.{Mark}
use Rattle.frame_mark.specs.Marking.{CutsUp, windows_if, windows_of}
use Rattle.frame_mark.proofs.Halves.{size_fed, chain_in, codec_same, cut_here, cut_within}
use Rattle.frame_mark.proofs.Parts.{cut_shares, tight_batch}
use Rattle.frame_mark.proofs.Stakes.{cut_totals}
use Rattle.buffer_model.proofs.Totals.{keeps_same}
use Rattle.frame_mark.proofs.marking.Marking.mark_and_cut.Goals as goal

pub overflow_sub-base : goal.overflow_sub-base
overflow_sub-base g c =
    let fed = size_fed g.S.Scanner.codec_of g.S.Scanner.saw g.met.S.Scanner.checked c.args.self.now (take c.args.first c.args.chain.now) c.requires.stands in
    omega (arith, c.open_size.ensures, fed)

pub mark_chain-taken-requires-clause-stands : goal.mark_chain-taken-requires-clause-stands
mark_chain-taken-requires-clause-stands g c =
    chain_in g.S.Scanner.codec_of g.S.Scanner.saw g.met.S.Scanner.checked c.args.self.now c.args.first c.args.chain.now c.requires.stands

pub overflow_sub-place : goal.overflow_sub-place
overflow_sub-place g c =
    let w = cut_within g.S.Scanner.codec_of g.S.Scanner.saw g.met.S.Scanner.checked c.args.self.now c.mark_chain-taken.new.self c.args.first c.mark_chain-taken.result c.args.chain.now _ _ c.requires.stands c.mark_chain-taken.ensures.marks in
    let a = w.0 in
    omega (arith, c.open_size-2.ensures, a)

pub overflow_sub-place-2 : goal.overflow_sub-place-2
overflow_sub-place-2 g c =
    let w = cut_within g.S.Scanner.codec_of g.S.Scanner.saw g.met.S.Scanner.checked c.args.self.now c.mark_chain-taken.new.self c.args.first c.mark_chain-taken.result c.args.chain.now _ _ c.requires.stands c.mark_chain-taken.ensures.marks in
    let a = w.0 in
    omega (arith, c.open_size.ensures, c.open_size-2.ensures, a)

pub cut_front-requires : goal.cut_front-requires
cut_front-requires g c =
    let w = cut_within g.S.Scanner.codec_of g.S.Scanner.saw g.met.S.Scanner.checked c.args.self.now c.mark_chain-taken.new.self c.args.first c.mark_chain-taken.result c.args.chain.now _ _ c.requires.stands c.mark_chain-taken.ensures.marks in
    let a = w.0 in
    let b = w.1 in
    omega (arith, c.open_size.ensures, c.open_size-2.ensures, a, b)

pub returns-in_err-list-clause-codec : goal.returns-in_err-list-clause-codec
returns-in_err-list-clause-codec g c =
    codec_same g.S.Scanner.codec_of g.S.Scanner.saw g.met.S.Scanner.checked c.args.self.now c.mark_chain-taken.new.self c.args.first c.mark_chain-taken.result c.args.chain.now _ _ c.requires.stands c.mark_chain-taken.ensures.marks

pub returns-in-Err-clause-codec : goal.returns-in-Err-clause-codec
returns-in-Err-clause-codec g c =
    codec_same g.S.Scanner.codec_of g.S.Scanner.saw g.met.S.Scanner.checked c.args.self.now c.mark_chain-taken.new.self c.args.first c.mark_chain-taken.result c.args.chain.now _ _ c.requires.stands c.mark_chain-taken.ensures.marks

pub returns-clause-codec : goal.returns-clause-codec
returns-clause-codec g c =
    codec_same g.S.Scanner.codec_of g.S.Scanner.saw g.met.S.Scanner.checked c.args.self.now c.mark_chain-taken.new.self c.args.first c.mark_chain-taken.result c.args.chain.now _ _ c.requires.stands c.mark_chain-taken.ensures.marks

pub returns-in-Err-clause-totals : goal.returns-in-Err-clause-totals
returns-in-Err-clause-totals g c =
    cut_totals c.args.mint.now c.cut_front.new.mint c.args.chain.now c.cut_front.new.chain [] [] _ _ c.in-Err.ensures.totals (keeps_same _)

pub batch_or_back-batch-requires-clause-within : goal.batch_or_back-batch-requires-clause-within
batch_or_back-batch-requires-clause-within g c =
    let L : List Mark → Type 0 = λ w. windows_if c.in_ok-list.list ≡ windows_of (c.args.self.now.fed - c.open_size.result) w in
    (cut_here g.S.Scanner.codec_of g.S.Scanner.saw g.met.S.Scanner.checked c.args.self.now c.mark_chain-taken.new.self c.args.first c.mark_chain-taken.result _ (c.args.self.now.fed - c.open_size.result) c.args.chain.now c.cut_front.new.chain c.in-Ok.front
    c.args.finds.now.marks.items c.mark_chain-taken.new.marks.items (windows_if c.in_ok-list.list) c.requires.stands c.mark_chain-taken.ensures.marks c.requires.none
    (ap (λ (n : ℕ). c.args.self.now.fed - n) c.open_size.ensures)
    (ap (λ (n : ℕ). (c.mark_chain-taken.new.self.fed - n) - (c.args.self.now.fed - c.open_size.result)) c.open_size-2.ensures)
    c.mark_chain-taken.ensures.within c.mark_chain-taken.ensures.fed c.in-Ok.ensures.front c.in-Ok.ensures.rest
    (λ less. c.mark_chain-taken.ensures.closed (let full = c.mark_chain-taken.ensures.stops less in let e = ap length c.requires.none in omega (arith, full, e, c.requires.some)) (c.mark_chain-taken.ensures.stops less))
    (subst L c.deref.ensures.value c.in_ok-list.ensures.windows)).1

pub returns-clause-cut : goal.returns-clause-cut
returns-clause-cut g c =
    let L : List Mark → Type 0 = λ w. windows_if c.in_ok-list.list ≡ windows_of (c.args.self.now.fed - c.open_size.result) w in
    let cut =
    (cut_here g.S.Scanner.codec_of g.S.Scanner.saw g.met.S.Scanner.checked c.args.self.now c.mark_chain-taken.new.self c.args.first c.mark_chain-taken.result _ (c.args.self.now.fed - c.open_size.result) c.args.chain.now c.cut_front.new.chain c.in-Ok.front
    c.args.finds.now.marks.items c.mark_chain-taken.new.marks.items (windows_if c.in_ok-list.list) c.requires.stands c.mark_chain-taken.ensures.marks c.requires.none
    (ap (λ (n : ℕ). c.args.self.now.fed - n) c.open_size.ensures)
    (ap (λ (n : ℕ). (c.mark_chain-taken.new.self.fed - n) - (c.args.self.now.fed - c.open_size.result)) c.open_size-2.ensures)
    c.mark_chain-taken.ensures.within c.mark_chain-taken.ensures.fed c.in-Ok.ensures.front c.in-Ok.ensures.rest
    (λ less. c.mark_chain-taken.ensures.closed (let full = c.mark_chain-taken.ensures.stops less in let e = ap length c.requires.none in omega (arith, full, e, c.requires.some)) (c.mark_chain-taken.ensures.stops less))
    (subst L c.deref.ensures.value c.in_ok-list.ensures.windows)).0 in
    let M : List Mark → Type 0 = λ w. CutsUp g.S.Scanner.codec_of g.S.Scanner.saw c.args.self.now c.mark_chain-taken.new.self (take c.args.first c.args.chain.now) (bytes_of (drop c.args.first c.args.chain.now)) c.mark_chain-taken.result
    (bytes_of c.cut_front.new.chain) w (frames_in (bytes_of c.in-Ok.front) (windows_if c.in_ok-list.list)) in
    let F : List (List ℕ) → Type 0 = λ w. CutsUp g.S.Scanner.codec_of g.S.Scanner.saw c.args.self.now c.mark_chain-taken.new.self (take c.args.first c.args.chain.now) (bytes_of (drop c.args.first c.args.chain.now)) c.mark_chain-taken.result
    (bytes_of c.cut_front.new.chain) c.batch_or_back-batch.new.finds.marks.items w in
    subst F (sym c.batch_or_back-batch.ensures.frames) (subst M (sym (ap (λ v. v.items) c.batch_or_back-batch.ensures.marks)) cut)

pub returns-clause-totals : goal.returns-clause-totals
returns-clause-totals g c =
    cut_totals c.args.mint.now c.cut_front.new.mint c.args.chain.now c.cut_front.new.chain c.in-Ok.front _ _ _ c.in-Ok.ensures.totals c.batch_or_back-batch.ensures.totals

pub returns-clause-shares : goal.returns-clause-shares
returns-clause-shares g c heavy = cut_shares c.args.chain.now c.in-Ok.front c.cut_front.new.chain _ (c.in-Ok.ensures.nodes.shares heavy) c.batch_or_back-batch.ensures.chain

pub returns-clause-tight : goal.returns-clause-tight
returns-clause-tight g c tight =
    let cut = c.in-Ok.ensures.nodes.tight tight in
    (tight_batch c.in-Ok.front _ c.batch_or_back-batch.ensures.chain cut.0, cut.1)
