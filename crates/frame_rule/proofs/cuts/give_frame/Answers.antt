use Rattle.std.proofs.Common.{◌≡◌, ◌<◌, ◌++◌, ◌∷◌, [], List, Option, length, refl, ap, sym, subst, ◌∙◌, arith}
use Rattle.std.specs.Prelude.{IfNone, IfSome}
use Rattle.storage.specs.declared.release.NoOwner.{NoOwner}
use Rattle.buffer_model.specs.Segment.{Segment}
use Rattle.iobuf_chain.specs.Shares.{SharesFront}
use Rattle.frame_rule.specs.declared.unit.FrameUnit.TheVariants.{Frame}
use Rattle.frame_rule.specs.Hauls.{Moves}
use Rattle.frame_rule.proofs.Moving.{moves_frame, moves_from, numbers_same, shares_frame}
use Rattle.frame_rule.proofs.Sharing.{whole, trims, whole_totals, frame_totals, shares}
use Rattle.frame_rule.proofs.Tight.{adds_unit, shared_tight, tight_one}
use Rattle.frame_rule.proofs.cuts.give_frame.Goals as goal

pub returns-in-Ok-Some-clause-moves : goal.returns-in-Ok-Some-clause-moves
returns-in-Ok-Some-clause-moves c =
    let Q : Option (List (Segment NoOwner)) → Type 0 = λ o. IfSome o (λ w. SharesFront c.args.k c.args.edges.0 c.args.edges.1 c.args.chain.now w c.share_front.new.self) in
    let s : SharesFront c.args.k c.args.edges.0 c.args.edges.1 c.args.chain.now c.in-Ok-Some.frame c.share_front.new.self =
    subst Q c.in-Ok-Some.field-0-is c.in-Ok-Some.ensures.cut in
    moves_frame _ _ _ _ (whole s) c.in-Ok-Some.frame _ _ c.args.at (whole_totals s c.args.mint.now) (numbers_same _ _ refl) (frame_totals s)
    (c.push_reserved.ensures.items ∙ ap (λ w. w ++ Frame c.args.at c.in-Ok-Some.frame ∷ []) c.reserve.ensures.items) refl

pub returns-in-Ok-None-clause-moves : goal.returns-in-Ok-None-clause-moves
returns-in-Ok-None-clause-moves c =
    let P : List (Segment NoOwner) → Type 0 =
    λ w. Moves c.args.mint.now c.give_cut-in-Ok-None.new.mint w c.give_cut-in-Ok-None.new.chain (record c.args.haul.now { units = c.reserve.new.self }) c.give_cut-in-Ok-None.new.haul in
    let Q : Option (List (Segment NoOwner)) → Type 0 = λ o. IfNone o (c.share_front.new.self ≡ c.args.chain.now) in
    let stays : c.share_front.new.self ≡ c.args.chain.now = subst Q c.in-Ok-None.field-0-is c.in-Ok-None.ensures.stays in
    moves_from _ _ _ _ _ _ _ (c.reserve.ensures.items, refl) (subst P stays c.give_cut-in-Ok-None.ensures.moves)

pub returns-in-Ok-Some-clause-nodes : goal.returns-in-Ok-Some-clause-nodes
returns-in-Ok-Some-clause-nodes c =
    let Q : Option (List (Segment NoOwner)) → Type 0 = λ o. IfSome o (λ w. SharesFront c.args.k c.args.edges.0 c.args.edges.1 c.args.chain.now w c.share_front.new.self) in
    let s : SharesFront c.args.k c.args.edges.0 c.args.edges.1 c.args.chain.now c.in-Ok-Some.frame c.share_front.new.self =
    subst Q c.in-Ok-Some.field-0-is c.in-Ok-Some.ensures.cut in
    let P : Option (Segment NoOwner) → Type 0 = λ o. IfSome o (λ t. c.args.k < length t.window) in
    let within : c.args.k < length c.node.result.now.window = omega (arith, c.if-k-length.false, c.length.ensures) in
    let some : 0 < c.args.k = omega (arith, c.if-k-eq0.false) in
    let fits = subst P (sym c.node.ensures) within in
    let more = c.push_reserved.ensures.items ∙ ap (λ w. w ++ Frame c.args.at c.in-Ok-Some.frame ∷ []) c.reserve.ensures.items in record {
      shares = λ heavy. shares_frame _ (whole s) _ _ _ c.args.at c.args.edges.0 c.args.edges.1 (shares s some fits heavy)
          (more ∙ ap (λ w. c.args.haul.now.units.items ++ Frame c.args.at w ∷ []) (trims s));
      tight = λ tight. (shared_tight _ _ _ _ _ _ s some fits tight, adds_unit _ _ (Frame c.args.at c.in-Ok-Some.frame) (tight_one _ _ s.frame_is) more);
    }
