use Rattle.std.proofs.Common.{◌≡◌, ◌∙◌, ◌≤◌, ◌+◌, ◌-◌, ◌++◌, ℕ, min, ap, arith, take, length, refl, sym}
use Rattle.std.proofs.lemmas.List.{length-take-le}
use Rattle.read_cursor.specs.Reading.{Reading, rest_of, moved}
use Rattle.read_cursor.proofs.Places.{had_more, moves_on}
use Rattle.read_cursor.proofs.cursor.Cursor.fill.Goals as goal

pub parts-preserved : goal.parts-preserved
parts-preserved g c =
    let n = c.min-n.result in
    let few : n ≤ length c.ahead-part.result.now = omega (arith, c.min-n.ensures) in
    let l : length (take n c.ahead-part.result.now) ≡ n = length-take-le n c.ahead-part.result.now few in
    let size = c.put.ensures.size ∙ c.parts.invariant.size in
    record {
      place = moves_on _ _ _ _ _ c.parts.invariant.place (c.advance.ensures ∙ ap (moved n) c.ahead-part.ensures.place);
      bytes = ap (λ (k : ℕ). take (c.parts.done + k) c.put.new.block) (sym l) ∙ c.put.ensures.written
          ∙ had_more _ _ _ _ _ _ _ _ c.parts.invariant.place c.ahead-part.ensures.bytes refl few c.parts.invariant.bytes;
      size = size;
      some = omega (arith, c.min-n.ensures, c.put.ensures.size, c.parts-test.true);
    }
