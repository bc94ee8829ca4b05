use Rattle.std.proofs.Common.{◌≡◌, ◌∙◌, ◌≤◌, ◌<◌, ◌+◌, ◌-◌, ◌==◌, not, min, ℕ, ap, arith, take, drop, length, sym}
use Rattle.std.proofs.lemmas.List.{length-take-le}
use Rattle.read_cursor.specs.Reading.{Reading, rest_of, moved}
use Rattle.read_cursor.specs.Finds.{before_byte}
use Rattle.read_cursor.proofs.Places.{behind, left_of, moves_on, front_of, drop_of}
use Rattle.read_cursor.proofs.Prefixes.{goes_on, stops_in}
use Rattle.read_cursor.proofs.cursor.Cursor.run_until.Goals as goal

pub returns-then-k-few-clause-count : goal.returns-then-k-few-clause-count
returns-then-k-few-clause-count g c =
    let w = c.args.n - c.nodes.passed in
    let l = left_of c.nodes.passed c.args.self.now c.nodes.self c.nodes.invariant.place in
    let size = length-take-le w (rest_of c.nodes.self) (omega (arith, l, c.requires)) in
    let front = front_of c.min-few.result (length c.ahead-part.result.now) w c.ahead-part.result.now (rest_of c.nodes.self) (omega (arith, c.min-few.ensures)) (omega (arith, c.min-few.ensures)) c.ahead-part.ensures.bytes in
    let n = c.run_before-k.ensures.count ∙ ap (before_byte c.args.byte) front in
    let s = stops_in (λ b. not (b == c.args.byte)) c.min-few.result (take w (rest_of c.nodes.self)) (omega (arith, size, c.min-few.ensures)) (omega (arith, n, c.if-k-few.true)) in
    omega (arith, c.nodes.invariant.run, s, n)

pub nodes-preserved : goal.nodes-preserved
nodes-preserved g c =
    let w = c.args.n - c.nodes.passed in
    let few = c.min-few.result in
    let l = left_of c.nodes.passed c.args.self.now c.nodes.self c.nodes.invariant.place in
    let at : c.advance.new.self ≡ moved few c.nodes.self = c.advance.ensures ∙ ap (moved few) c.ahead-part.ensures.place in
    let size = length-take-le w (rest_of c.nodes.self) (omega (arith, l, c.requires)) in
    let front = front_of few (length c.ahead-part.result.now) w c.ahead-part.result.now (rest_of c.nodes.self) (omega (arith, c.min-few.ensures)) (omega (arith, c.min-few.ensures)) c.ahead-part.ensures.bytes in
    let n = c.run_before-k.ensures.count ∙ ap (before_byte c.args.byte) front in
    let lp = length-take-le few c.ahead-part.result.now (omega (arith, c.min-few.ensures)) in
    let all : c.run_before-k.result ≡ few = omega (arith, c.if-k-few.false, c.run_before-k.ensures.within, lp) in
    let s = goes_on (λ b. not (b == c.args.byte)) few (take w (rest_of c.nodes.self)) (omega (arith, size, c.min-few.ensures)) (sym n ∙ all) in
    let e : drop few (take w (rest_of c.nodes.self)) ≡ take (c.args.n - (c.nodes.passed + few)) (rest_of c.advance.new.self) =
    drop_of few w (rest_of c.nodes.self) ∙ ap (take (w - few)) (sym (behind few c.nodes.self c.advance.new.self at))
    ∙ ap (λ (k : ℕ). take k (rest_of c.advance.new.self)) (let k : w - few ≡ c.args.n - (c.nodes.passed + few) = omega arith in k) in
    let r = ap (before_byte c.args.byte) e in
    record {
      place = moves_on _ _ _ _ _ c.nodes.invariant.place at;
      run = omega (arith, c.nodes.invariant.run, s, r);
      within = omega (arith, c.min-few.ensures, c.nodes.invariant.within, c.nodes-test.true);
    }
