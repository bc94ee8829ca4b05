use Rattle.std.proofs.Common.{refl, ap, ◌∙◌, ◌++◌, ◌∷◌, [], arith}
use Rattle.std.specs.Vec.{vec_len, vec_capacity}
use Rattle.frame_rule.specs.declared.haul.Haul.{Haul}
use Rattle.frame_rule.specs.declared.unit.FrameUnit.TheVariants.{Frame}
use Rattle.frame_rule.proofs.Moving.{moves_cut, moves_refused, shares_cut}
use Rattle.frame_rule.proofs.Tight.{adds_unit}
use Rattle.frame_rule.proofs.cuts.give_cut.Goals as goal

pub push_reserved-requires : goal.push_reserved-requires
push_reserved-requires c =
    let len = ap (λ us. vec_len us) c.in_ok-frame.ensures.units in
    let cap = ap (λ us. vec_capacity us) c.in_ok-frame.ensures.units in
    omega (arith, len, cap, c.in_ok-reserve.ensures.ok)

pub returns-clause-moves : goal.returns-clause-moves
returns-clause-moves c =
    let reserved : Haul = record { units = c.reserve.new.self; back = c.args.haul.now.back } in
    let now : Haul = record { units = c.push_reserved.new.self; back = c.cut_frame.new.haul.back } in
    moves_cut _ _ _ _ c.in_ok-frame.frame c.args.haul.now reserved c.cut_frame.new.haul now c.args.at
    (c.reserve.ensures.items, refl) c.in_ok-frame.ensures.totals c.in_ok-frame.ensures.mint c.in_ok-frame.ensures.back c.push_reserved.ensures.items refl

pub returns-in_err-frame-clause-moves : goal.returns-in_err-frame-clause-moves
returns-in_err-frame-clause-moves c =
    let reserved : Haul = record { units = c.reserve.new.self; back = c.args.haul.now.back } in
    moves_refused _ _ _ _ c.args.haul.now reserved c.cut_frame.new.haul
    (c.reserve.ensures.items, refl) c.in_err-frame.ensures.totals c.in_err-frame.ensures.mint c.in_err-frame.ensures.back

pub returns-clause-nodes : goal.returns-clause-nodes
returns-clause-nodes c =
    let same = ap (λ v. v.items) c.in_ok-frame.ensures.units ∙ c.reserve.ensures.items in
    let more = c.push_reserved.ensures.items ∙ ap (λ w. w ++ Frame c.args.at c.in_ok-frame.frame ∷ []) same in record {
      shares = λ heavy. shares_cut _ c.in_ok-frame.frame _ _ _ c.args.at (c.in_ok-frame.ensures.nodes.shares heavy) more;
      tight = λ tight.
          let both = c.in_ok-frame.ensures.nodes.tight tight in
          (both.1, adds_unit _ _ (Frame c.args.at c.in_ok-frame.frame) both.0 more);
    }
