use Rattle.std.proofs.Common.{◌≡◌, ◌-◌, length, take, ap, sym, ◌∙◌, arith}
use Rattle.buffer_model.specs.Segment.{bytes_of}
use Rattle.buffer_model.proofs.Totals.{keeps_beside_then}
use Rattle.iobuf_chain.proofs.Copied.{each_before}
use Rattle.frame_rule.specs.Units.{nodes_in}
use Rattle.frame_rule.proofs.Inner.{inner_parts}
use Rattle.frame_rule.proofs.Moving.{cuts_later, if_ok, refused_totals}
use Rattle.frame_rule.proofs.cuts.cut_frame.Goals as goal

pub returns-in_err-drop_front-clause-totals : goal.returns-in_err-drop_front-clause-totals
returns-in_err-drop_front-clause-totals c = refused_totals _ _ _ _ _ c.from_residual.result c.from_residual.ensures.0 c.in_err-drop_front.ensures.moves.totals

pub returns-clause-frame : goal.returns-clause-frame
returns-clause-frame c =
    let parts = inner_parts c.args.edges.0 c.args.edges.1 c.args.k (bytes_of c.args.chain.now) c.requires.within c.requires.there in
    if_ok _ _ c.cut_content-2.result c.cut_content-2.ensures.content
    (λ frame is. is ∙ ap (λ w. take (c.args.k - c.args.edges.0 - c.args.edges.1) w) c.in_ok-drop_front.ensures.rest ∙ sym parts)

pub returns-clause-totals : goal.returns-clause-totals
returns-clause-totals c =
    keeps_beside_then _ _ _ _ _ _ c.in_ok-drop_front.ensures.moves.mint c.cut_content-2.ensures.mint c.in_ok-drop_front.ensures.moves.totals c.cut_content-2.ensures.totals

pub returns-clause-nodes : goal.returns-clause-nodes
returns-clause-nodes c =
    if_ok _ _ c.cut_content-2.result c.cut_content-2.ensures.nodes (λ frame cut. record {
      shares = λ heavy.
          let first = c.in_ok-drop_front.ensures.nodes.shares heavy in
          cuts_later _ _ frame _ (each_before _ c.drop_front.new.chain (nodes_in first.added) first.copies) (cut.shares first.heavy);
      tight = λ tight. cut.tight (c.in_ok-drop_front.ensures.nodes.tight tight).0;
    })
