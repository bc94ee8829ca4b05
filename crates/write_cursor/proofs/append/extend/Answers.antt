use Rattle.std.proofs.Common.{arith}
use Rattle.write_cursor.proofs.Appending.{adds_size}
use Rattle.write_cursor.proofs.append.extend.Goals as goal

pub append_chain-requires : goal.append_chain-requires
append_chain-requires g c =
    let size = adds_size _ _ _ _ _ c.in_ok-more.ensures.nodes in
    omega (arith, size, c.requires.sum)
