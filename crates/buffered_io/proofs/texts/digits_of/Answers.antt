use Rattle.std.proofs.Common.{◌≡◌, ◌+◌, ◌%◌, ltb, map, replicate, sym, subst, w8}
use Rattle.std.proofs.lemmas.Simd.{tops_compared}
use Rattle.std.specs.Simd.Lanes.{zip2, sel_l}
use Rattle.buffered_io.proofs.Lanes.{digit_at, lanes_digits}
use Rattle.buffered_io.proofs.texts.digits_of.Goals as goal

pub returns : goal.returns
returns c =
    let v = c.args.values in
    subst (λ ms. zip2 (λ a b. (a + b) % 256) v (sel_l ms (replicate 16 87) (replicate 16 48)) ≡ map digit_at v)
    (sym (tops_compared w8 ltb (replicate 16 9) v)) (lanes_digits v c.requires 16 c.fits-values.0)
