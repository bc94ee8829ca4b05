-- What a node ends as, once its window was lent.
use Rattle.std.specs.Prelude.{[], Result, Ok, Err}
use Rattle.std.specs.Borrow.{Fml, RattleType, MutBor, Lends, LendsIfOk}
use Rattle.buffer_model.specs.Share.{Share, looked}
use Rattle.buffer_model.specs.Segment.{Segment, shared_as}
use Rattle.storage.specs.declared.hold.Barred.{Barred}
use Rattle.storage.specs.declared.hold.Barred.TheVariants.{SharedNow, Unmanaged}
use Rattle.iobuf_node.specs.Mine.{seen}
use Rattle.iobuf_node.specs.declared.mine.Mine.{Mine}
use Rattle.iobuf_node.specs.contracts.mine.Mine.{the_row as mine_row}
use Rattle.iobuf_node.specs.declared.wrapped.Wrapped.{Ghosts}
use Rattle.iobuf_node.specs.contracts.node.IoBufOf.{the_row}

module _ {O : Type 0} where
  -- a share after a refused claim: the look that found others is counted and noted
  abbrev pub refused_by : Barred → Share O → Share O
  refused_by Unmanaged s = s
  refused_by (SharedNow found) s = looked found s

  -- a node after a claim that lent nothing
  abbrev pub unlent : {X : Type 0} → Result X Barred → Segment O → Segment O
  unlent (Ok lent) n = n
  unlent (Err reason) n = shared_as (refused_by reason n.share) n

module _ (W O : RattleType) (g : Ghosts W.Denot) (n : MutBor (Segment O.Denot)) where
  -- a node ends as its window was left; where the window wasn't lent, its look alone is noted
  abbrev pub lends_mine : Result (MutBor (Mine O.Denot)) Barred → Fml
  lends_mine r = LendsIfOk (the_row W O g) (mine_row O) n r seen (unlent r n.now)

  -- a node that is alone ends as its window was left
  abbrev pub lends_alone : MutBor (Mine O.Denot) → Fml
  lends_alone r = Lends (the_row W O g) (mine_row O) n r seen
