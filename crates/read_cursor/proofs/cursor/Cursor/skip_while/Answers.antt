use Rattle.std.proofs.Common.{◌≡◌, ◌∙◌, ◌≤◌, ◌<◌, ◌+◌, ◌-◌, ℕ, ap, arith, take, drop, length, sym}
use Rattle.read_cursor.specs.Reading.{Reading, rest_of, moved}
use Rattle.read_cursor.specs.Finds.{among, run_among}
use Rattle.read_cursor.proofs.Places.{behind, left_of, moves_on}
use Rattle.read_cursor.proofs.Prefixes.{goes_on, stops_in}
use Rattle.read_cursor.proofs.cursor.Cursor.skip_while.Goals as goal

pub overflow_add-passed : goal.overflow_add-passed
overflow_add-passed g c =
    let l = left_of c.nodes.passed c.args.self.now c.nodes.self c.nodes.invariant.place in
    omega (arith, l, c.run_of-n.ensures.within, c.ahead-part.ensures.within, c.nodes.invariant.within, c.left-all.ensures, c.left-all.type_inv)

pub returns-then-n-part-clause-count : goal.returns-then-n-part-clause-count
returns-then-n-part-clause-count g c =
    let front = ap (run_among c.args.set.now) c.ahead-part.ensures.bytes in
    let n = c.run_of-n.ensures.count ∙ front in
    let s = stops_in (among c.args.set.now) (length c.ahead-part.result.now) (rest_of c.nodes.self) c.ahead-part.ensures.within (omega (arith, n, c.if-n-part.true)) in
    omega (arith, c.nodes.invariant.run, s, n)

pub nodes-preserved : goal.nodes-preserved
nodes-preserved g c =
    let at : c.advance.new.self ≡ moved c.run_of-n.result c.nodes.self = c.advance.ensures ∙ ap (moved c.run_of-n.result) c.ahead-part.ensures.place in
    let l = left_of c.nodes.passed c.args.self.now c.nodes.self c.nodes.invariant.place in
    let front = ap (run_among c.args.set.now) c.ahead-part.ensures.bytes in
    let n = c.run_of-n.ensures.count ∙ front in
    let all : c.run_of-n.result ≡ length c.ahead-part.result.now = omega (arith, c.if-n-part.false, c.run_of-n.ensures.within) in
    let s = goes_on (among c.args.set.now) (length c.ahead-part.result.now) (rest_of c.nodes.self) c.ahead-part.ensures.within (sym n ∙ all) in
    let r : run_among c.args.set.now (rest_of c.advance.new.self) ≡ run_among c.args.set.now (drop (length c.ahead-part.result.now) (rest_of c.nodes.self)) =
    ap (run_among c.args.set.now) (behind c.run_of-n.result c.nodes.self c.advance.new.self at ∙ ap (λ (k : ℕ). drop k (rest_of c.nodes.self)) all) in
    record {
      place = moves_on _ _ _ _ _ c.nodes.invariant.place at;
      run = omega (arith, c.nodes.invariant.run, s, r, all);
      within = omega (arith, l, c.run_of-n.ensures.within, c.ahead-part.ensures.within, c.nodes.invariant.within);
    }
