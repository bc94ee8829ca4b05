-- What holds of refusals.
use Rattle.std.specs.Prelude.{◌≡◌, ℕ, true, List, None, All, length, ◌↔◌}
use Rattle.frame_head.specs.declared.out.Out.{Out}
use Rattle.frame_head.specs.Framed.{fits_field}
use Rattle.frame_writer.specs.Over.{over_of, first_over}

-- a frame is refused exactly where its length doesn't fit, and a list exactly where some frame is
pub record RefusedFrames : Type 0 where
  pub alone : (out : Out) (size : ℕ) → (over_of out size ≡ None) ↔ (fits_field out size ≡ true)
  pub listed : (out : Out) (frames : List (List ℕ))
      → (first_over out frames ≡ None) ↔ All (λ frame. fits_field out (length frame) ≡ true) frames
