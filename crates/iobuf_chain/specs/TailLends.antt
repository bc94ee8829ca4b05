-- What nodes and a chain end as, once the room after the last one's data was lent.
use Rattle.std.specs.Prelude.{ℕ, List}
use Rattle.std.specs.Borrow.{Fml, RattleType, MutBor, Array, u8, Lends}
use Rattle.buffer_model.specs.Segment.{Segment}
use Rattle.iobuf_node.specs.declared.wrapped.Wrapped.{Ghosts}
use Rattle.iobuf_node.specs.contracts.node.IoBufOf.{the_row as node_row}
use Rattle.iobuf_chain.specs.Tails.{filled_tail, filled_behind}
use Rattle.iobuf_chain.specs.contracts.chain.ChainOf.{the_row}
use Rattle.iobuf_chain.specs.contracts.nodes.Nodes.{the_row as nodes_row}

module _ (W O : RattleType) (g : Ghosts W.Denot) (c : MutBor (List (Segment O.Denot))) where
  abbrev pub lends_tail : MutBor (List ℕ) → Fml
  lends_tail r = Lends (the_row W O g) (Array u8 0) c r (filled_behind c.now)

  abbrev pub lends_last : MutBor (List ℕ) → Fml
  lends_last r = Lends (nodes_row (node_row W O g)) (Array u8 0) c r (filled_behind c.now)

module _ (W O : RattleType) (g : Ghosts W.Denot) (s : MutBor (Segment O.Denot)) where
  abbrev pub lends_node_tail : MutBor (List ℕ) → Fml
  lends_node_tail r = Lends (node_row W O g) (Array u8 0) s r (filled_tail s.now)
