use Rattle.std.proofs.Common.{◌≡◌, ◌+◌, ◌-◌, ◌≤◌, ◌<◌, ◌∙◌, ◌∷◌, [], List, Option, length, slice_get, ap, sym, subst, refl, arith}
use Rattle.std.specs.Prelude.{IfSome}
use Rattle.buffer_model.specs.Segment.{Segment, bytes_of}
use Rattle.iobuf_chain.proofs.Bytes.{window_within}
use Rattle.iobuf_chain.proofs.FirstCuts.{cut_as, cut_size, cut_keeps_totals}
use Rattle.iobuf_chain.proofs.chain.ChainOf.cut_first.Goals as goal

pub overflow_sub-self : goal.overflow_sub-self
overflow_sub-self g c =
    let P : List (Segment g.row.O.Denot) → Type 0 = λ w. IfSome (slice_get w 0) (λ s. c.args.k < length s.window) in
    let within = subst P (sym c.self.view_is) c.requires in
    let Q : Option (Segment g.row.O.Denot) → Type 0 = λ o. IfSome o (λ s. c.args.k < length s.window) in
    let some : c.args.k < length c.get.result.now.window = subst Q c.get.ensures within in
    let fits = window_within 0 c.self.inside.nodes c.get.result.now c.get.ensures in
    omega (arith, some, fits, c.self.invariant.1)

pub invariant_of-self-2 : goal.invariant_of-self-2
invariant_of-self-2 g c =
    let cut = cut_as c.args.k _ _ c.self.inside.nodes c.self.inside.nodes c.clone_first.new.self c.trim_first_start.new.self (c.trim_end.new.self ∷ []) c.get.result.now c.in_ok-clone.clone c.trim_end.new.self c.length-len.result
    refl c.in_ok-clone.ensures.shares c.trim_first_start.ensures c.get.ensures c.length-len.ensures c.trim_end.ensures.window refl in
    let P : List (Segment g.row.O.Denot) → Type 0 = λ w. IfSome (slice_get w 0) (λ s. c.args.k < length s.window) in
    let size = cut_size c.args.k _ _ c.self.inside.nodes c.trim_first_start.new.self (c.trim_end.new.self ∷ []) cut (subst P (sym c.self.view_is) c.requires) in
    (omega (arith, size.1, c.self.invariant.0), omega (arith, size.0, c.self.invariant.1), c.self.invariant.2, omega (arith, size.1, c.self.invariant.3))

pub returns-clause-cut : goal.returns-clause-cut
returns-clause-cut g c =
    cut_as c.args.k _ _ c.self.inside.nodes c.args.self.now c.clone_first.new.self c.trim_first_start.new.self c.of.result c.get.result.now c.in_ok-clone.clone c.trim_end.new.self c.length-len.result
    c.self.view_is c.in_ok-clone.ensures.shares c.trim_first_start.ensures c.get.ensures c.length-len.ensures c.trim_end.ensures.window c.of.ensures

pub returns-clause-totals : goal.returns-clause-totals
returns-clause-totals g c =
    cut_keeps_totals c.args.k _ _ c.args.self.now c.trim_first_start.new.self c.of.result
    (cut_as c.args.k _ _ c.self.inside.nodes c.args.self.now c.clone_first.new.self c.trim_first_start.new.self c.of.result c.get.result.now c.in_ok-clone.clone c.trim_end.new.self c.length-len.result
    c.self.view_is c.in_ok-clone.ensures.shares c.trim_first_start.ensures c.get.ensures c.length-len.ensures c.trim_end.ensures.window c.of.ensures)
