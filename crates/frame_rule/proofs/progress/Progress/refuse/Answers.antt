use Rattle.std.proofs.Common.{refl, ap, subst, sym, ◌∙◌, ◌≡◌, ◌-◌, ◌++◌, ◌∷◌, [], arith, List}
use Rattle.std.specs.Vec.{vec_len, vec_capacity}
use Rattle.frame_rule.specs.Hauls.{SharesData}
use Rattle.frame_rule.specs.declared.haul.Haul.{Haul}
use Rattle.frame_rule.specs.declared.unit.FrameUnit.{FrameUnit}
use Rattle.frame_rule.specs.declared.unit.FrameUnit.TheVariants.{Fault}
use Rattle.frame_rule.proofs.Moving.{moves_fault, moves_from, shares_fault}
use Rattle.frame_rule.proofs.Tight.{adds_unit}
use Rattle.frame_rule.proofs.progress.Progress.refuse.Goals as goal

pub returns-in_err-leave-clause-moves : goal.returns-in_err-leave-clause-moves
returns-in_err-leave-clause-moves g c = moves_from _ _ _ _ _ _ _ (c.reserve.ensures.items, refl) c.in_err-leave.ensures.moves

pub push_reserved-requires : goal.push_reserved-requires
push_reserved-requires g c =
    let len = ap (λ us. vec_len us) c.in_ok-leave.ensures.units in
    let cap = ap (λ us. vec_capacity us) c.in_ok-leave.ensures.units in
    omega (arith, len, cap, c.in_ok-reserve.ensures.ok)

pub returns-clause-moves : goal.returns-clause-moves
returns-clause-moves g c =
    let now : Haul = record { units = c.push_reserved.new.self; back = c.leave.new.haul.back } in
    moves_fault _ _ _ _ c.args.haul.now c.leave.new.haul now (Fault (c.args.self.now.fed - c.args.self.now.unread) c.args.kind)
    (moves_from _ _ _ _ c.args.haul.now (record { units = c.reserve.new.self; back = c.args.haul.now.back }) c.leave.new.haul
    (c.reserve.ensures.items, refl) c.in_ok-leave.ensures.moves) refl c.push_reserved.ensures.items refl

pub returns-clause-nodes : goal.returns-clause-nodes
returns-clause-nodes g c =
    let us : List FrameUnit = c.leave.new.haul.units.items in
    let same : us ≡ c.reserve.new.self.items = ap (λ v. v.items) c.in_ok-leave.ensures.units in
    let fault : FrameUnit = Fault (c.args.self.now.fed - c.args.self.now.unread) c.args.kind in
    let P : List FrameUnit → Type 0 = λ w. SharesData c.args.chain.now c.leave.new.chain w us in record {
      shares = λ heavy. shares_fault _ _ c.args.haul.now.units.items us c.push_reserved.new.self.items fault
          (subst P (sym same) (c.in_ok-leave.ensures.nodes.shares heavy)) (same ∙ c.reserve.ensures.items) refl c.push_reserved.ensures.items;
      tight = λ tight. (
        (c.in_ok-leave.ensures.nodes.tight tight).0,
        adds_unit _ _ fault tt (c.push_reserved.ensures.items ∙ ap (λ w. w ++ fault ∷ []) (same ∙ c.reserve.ensures.items)),
      );
    }
