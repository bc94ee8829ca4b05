use Rattle.std.proofs.Common.{◌≡◌, ◌∙◌, ◌≤◌, ◌+◌, ◌-◌, ◌++◌, ℕ, min, ap, arith, take, length, refl, append_assoc}
use Rattle.read_cursor.specs.Reading.{Reading, rest_of, moved}
use Rattle.read_cursor.proofs.Places.{had_more, moves_on}
use Rattle.read_cursor.proofs.cursor.Cursor.add_to.Goals as goal

pub nodes-preserved : goal.nodes-preserved
nodes-preserved g c =
    let few = c.min-few.result in
    let le : few ≤ length c.ahead-part.result.now = omega (arith, c.min-few.ensures) in
    let had = c.args.into.now.items in
    record {
      place = moves_on _ _ _ _ _ c.nodes.invariant.place (c.advance.ensures ∙ ap (moved few) c.ahead-part.ensures.place);
      bytes = c.in_ok-extend_from_slice.ensures.items
          ∙ ap (λ xs. xs ++ take few c.ahead-part.result.now) c.nodes.invariant.bytes
          ∙ append_assoc had (take c.nodes.done (rest_of c.args.self.now)) (take few c.ahead-part.result.now)
          ∙ ap (λ xs. had ++ xs) (had_more _ _ _ _ _ _ _ _ c.nodes.invariant.place c.ahead-part.ensures.bytes refl le refl);
      within = omega (arith, c.min-few.ensures, c.nodes.invariant.within, c.nodes-test.true);
    }
