-- What holds of each order that the words give.
use Rattle.std.specs.Prelude.{◌≡◌, ℕ, ◌<◌, ◌≤◌, false, List, Option, Some, None, All, length, ◌≢◌, AllPairs}
use Rattle.frame_head.specs.declared.codecs.Codec.{Codec}
use Rattle.frame_head.specs.declared.out.Out.{Out}
use Rattle.frame_head.specs.Codecs.{fault_of}
use Rattle.frame_head.specs.Outs.{out_fault}
use Rattle.relay_words.specs.declared.order.Order.{Order}
use Rattle.relay_words.specs.declared.order.Order.TheVariants.{Frames, Chain, Relay, Mill}
use Rattle.relay_words.specs.declared.subscribers.SubWord.{SubWord}
use Rattle.relay_words.specs.Orders.{out_over}

abbrev pub IsBetween : ℕ → ℕ → ℕ → Type 0
IsBetween least greatest n = (least ≤ n) × (n ≤ greatest)

abbrev pub EndsBehind : ℕ → Option ℕ → Type 0
EndsBehind first None = Unit {0}
EndsBehind first (Some until) = first ≤ until

-- a subscriber's places end behind their beginning
abbrev pub IsOrdered : SubWord → Type 0
IsOrdered sub = EndsBehind sub.first sub.until

-- a codec that is passed, and numbers in their range
pub record GoodReading (codec : Codec) (block limit : ℕ) : Type 0 where
  pub passed : fault_of codec ≡ None
  pub block_in : IsBetween 1 1048576 block
  pub limit_in : limit ≤ 1099511627776

-- each frame fits what it is written as, and there are subscribers whose places are in order, with names that differ
-- from each other and from the input's
pub record GoodWriting (codec : Codec) (out : Out) (cap : ℕ) (input : List ℕ) (subs : List SubWord) : Type 0 where
  pub passed : out_fault out ≡ None
  pub fits : out_over codec out ≡ false
  pub cap_in : IsBetween 1 1024 cap
  pub some : 0 < length subs
  pub most : length subs ≤ 64
  pub ordered : All IsOrdered subs
  pub distinct : AllPairs (λ s t. s.name ≢ t.name) subs
  pub apart : All (λ s. s.name ≢ input) subs

abbrev pub IsGood : Order → Type 0
IsGood (Frames codec block limit input) = GoodReading codec block limit
IsGood (Chain input) = Unit {0}
IsGood (Relay codec out stages block cap drop_slow limit input subs) = GoodReading codec block limit
    × GoodWriting codec out cap input subs
IsGood (Mill n) = n ≤ 100000
