use Rattle.std.proofs.Common.{length, refl, ap, arith}
use Rattle.chain_unshare.proofs.Unsharing.{none_of, none_unshares, all_whole, copies_size, copies_windows, unshares_by, unshares_bytes, unshared_totals, refused_totals}
use Rattle.chain_unshare.proofs.moves.unshare.Goals as goal

pub returns-then-count-eq0-clause-nodes : goal.returns-then-count-eq0-clause-nodes
returns-then-count-eq0-clause-nodes g c =
    none_unshares _ _ (none_of _ (let count = c.shared_count-count.ensures in omega arith))

pub returns-in_err-backs-clause-whole : goal.returns-in_err-backs-clause-whole
returns-in_err-backs-clause-whole g c = λ all.
    absurd (let none = ap length (all_whole _ all) in let count = c.shared_count-count.ensures in omega arith)

pub returns-in_err-copies-clause-whole : goal.returns-in_err-copies-clause-whole
returns-in_err-copies-clause-whole g c = λ all.
    absurd (let none = ap length (all_whole _ all) in let count = c.shared_count-count.ensures in omega arith)

pub returns-in_err-copies-clause-totals : goal.returns-in_err-copies-clause-totals
returns-in_err-copies-clause-totals g c = refused_totals _ _ _ _ _ refl c.from_residual-in_err-copies.ensures.0

pub move_in-requires-clause-room : goal.move_in-requires-clause-room
move_in-requires-clause-room g c =
    let size = copies_size _ _ _ _ c.in_ok-copies.ensures.copies in
    let count = c.shared_count-count.ensures in
    let room = c.in_ok-backs.ensures.capacity in
    omega (arith, size, count, room)

pub move_in-requires-clause-windows : goal.move_in-requires-clause-windows
move_in-requires-clause-windows g c = copies_windows _ _ _ _ c.in_ok-copies.ensures.copies

pub returns-clause-nodes : goal.returns-clause-nodes
returns-clause-nodes g c = unshares_by _ _ _ _ _ c.in_ok-copies.ensures.copies c.move_in.ensures.nodes

pub returns-clause-whole : goal.returns-clause-whole
returns-clause-whole g c = λ all.
    absurd (let none = ap length (all_whole _ all) in let count = c.shared_count-count.ensures in omega arith)

pub returns-clause-bytes : goal.returns-clause-bytes
returns-clause-bytes g c =
    unshares_bytes {O = g.row.O.Denot} c.args.mint.now c.copy_shared.new.mint c.args.c.now c.move_in.new.c
    (unshares_by _ _ _ _ c.in_ok-copies.copies.items c.in_ok-copies.ensures.copies c.move_in.ensures.nodes)

pub returns-clause-totals : goal.returns-clause-totals
returns-clause-totals g c =
    unshared_totals _ _ _ _ _ _ (unshares_by _ _ _ _ _ c.in_ok-copies.ensures.copies c.move_in.ensures.nodes) c.move_in.ensures.totals
    c.from_backs.ensures
