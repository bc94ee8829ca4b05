-- What a hold shows, and how it is shared.
use Rattle.std.specs.Prelude.{◌≡◌, ℕ, List, Option, Some, None}
use Rattle.std.specs.Borrow.{Bor}
use Rattle.buffer_model.specs.Share.{Share, Held, wrapped}
use Rattle.buffer_model.specs.Clones.{Splits}

module _ {O : Type 0} where
  -- the wrapped bytes, where there are some, else what is managed
  abbrev pub held_on : Option (Bor (List ℕ)) → Held O → Held O
  held_on None managed = managed
  held_on (Some bytes) managed = record { bytes = bytes.now; share = wrapped }

  -- the same hold with other bytes
  abbrev pub with_bytes : Held O → List ℕ → Held O
  with_bytes h bytes = record { bytes = bytes; share = h.share }

  -- the same bytes with another share
  abbrev pub with_share : Held O → Share O → Held O
  with_share h share = record { bytes = h.bytes; share = share }

  -- a hold before and after it is shared, and the answer: nothing at weight 1, else a second hold with the same bytes
  abbrev pub SharesAs : Held O → Held O → Option (Held O) → Type 0
  SharesAs before after None = (before.share.weight ≡ 1) × (after ≡ before)
  SharesAs before after (Some h) =
      (after ≡ with_share before after.share) × (h ≡ with_share before h.share)
      × Splits before.share after.share h.share
