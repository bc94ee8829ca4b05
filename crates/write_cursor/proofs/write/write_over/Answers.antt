use Rattle.std.proofs.Common.{◌∙◌, ap, arith, length, refl}
use Rattle.std.proofs.lemmas.List.{length-take}
use Rattle.iobuf_chain.proofs.Lists.{length-slice_set}
use Rattle.write_cursor.proofs.Writing.{empty_is, writing_whole, writing_next, writing_done, writing_end, some_if, kept_as, rest_is}
use Rattle.write_cursor.proofs.Overwriting.{bytes_as}
use Rattle.write_cursor.proofs.write.write_over.Goals as goal

pub returns-then-is_empty-clause-nodes : goal.returns-then-is_empty-clause-nodes
returns-then-is_empty-clause-nodes g c = writing_done _ _ _ _ _ _ _ c.nodes.invariant.writes (empty_is c.is_empty.result (length c.nodes.rest.now) c.is_empty.ensures c.if-is_empty.true)

pub returns-then-is_empty-clause-bytes : goal.returns-then-is_empty-clause-bytes
returns-then-is_empty-clause-bytes g c = bytes_as _ _ _ _ (writing_done _ _ _ _ _ _ _ c.nodes.invariant.writes (empty_is c.is_empty.result (length c.nodes.rest.now) c.is_empty.ensures c.if-is_empty.true)) c.requires.room

pub returns-then-is_empty-clause-totals : goal.returns-then-is_empty-clause-totals
returns-then-is_empty-clause-totals g c = kept_as c.args.place c.args.bytes.now _ _ (writing_done _ _ _ _ _ _ _ c.nodes.invariant.writes (empty_is c.is_empty.result (length c.nodes.rest.now) c.is_empty.ensures c.if-is_empty.true))

pub write_node-requires-clause-whole : goal.write_node-requires-clause-whole
write_node-requires-clause-whole g c = λ h.
    let first = length-take c.min-n.result c.nodes.rest.now in
    some_if _ _ _ c.node.ensures
    (writing_whole _ _ _ _ _ _ _ _ c.nodes.invariant.writes c.node.ensures (omega (arith, h, first, c.min-n.ensures, c.saturating_sub.ensures, c.length-len.ensures), omega (arith, h, first)))

pub nodes-preserved : goal.nodes-preserved
nodes-preserved g c =
    let turns = c.write_node.ensures in
    record {
      writes = writing_next _ _ _ _ _ _ _ _ _ _ _ _ _ _ _ c.nodes.invariant.writes c.node.ensures turns c.length-len.ensures c.saturating_sub.ensures c.min-n.ensures refl
          (rest_is c.nodes.rest.now c.min-n.result) c.saturating_sub-at.ensures;
      size = ap length turns.turned ∙ length-slice_set c.nodes.i _ c.nodes.c ∙ c.nodes.invariant.size;
    }

pub returns-clause-bytes : goal.returns-clause-bytes
returns-clause-bytes g c =
    let size = c.nodes.invariant.size in
    bytes_as _ _ _ _ (writing_end _ _ _ _ _ _ _ c.nodes.invariant.writes (omega (arith, size))) c.requires.room

pub returns-clause-totals : goal.returns-clause-totals
returns-clause-totals g c =
    let size = c.nodes.invariant.size in
    kept_as c.args.place c.args.bytes.now _ _ (writing_end _ _ _ _ _ _ _ c.nodes.invariant.writes (omega (arith, size)))
