-- Stages without a handler, on a frame's bytes.
use Rattle.std.specs.Prelude.{ℕ, ◌-◌, List, length, map, take, drop, min, Bool, false, nat_lt, if◌then◌else◌}

-- a stage without a handler: first bytes are stripped off, or kept alone; letters become upper case; or frames of fewer
-- bytes are skipped
pub data Plain : Type 0 where
  strip : ℕ → Plain
  keep : ℕ → Plain
  upper : Plain
  least : ℕ → Plain

-- a byte from 97 to 122 gets smaller by 32, and any other stays
abbrev pub raised : ℕ → ℕ
raised b = if nat_lt b 97 then b else if nat_lt b 123 then b - 32 else b

-- at which place of a frame of so many bytes those begin that a stage leaves
abbrev pub begin_of : Plain → ℕ → ℕ
begin_of (strip n) size = min n size
begin_of (keep n) size = 0
begin_of upper size = 0
begin_of (least n) size = 0

-- how many bytes it leaves
abbrev pub size_of : Plain → ℕ → ℕ
size_of (strip n) size = size - min n size
size_of (keep n) size = min n size
size_of upper size = size
size_of (least n) size = size

-- what a stage makes of a frame's bytes
abbrev pub made : Plain → List ℕ → List ℕ
made (strip n) x = drop (min n (length x)) x
made (keep n) x = take (min n (length x)) x
made upper x = map raised x
made (least n) x = x

-- whether it skips a frame of so many bytes
abbrev pub is_under : Plain → ℕ → Bool
is_under (strip n) size = false
is_under (keep n) size = false
is_under upper size = false
is_under (least n) size = nat_lt size n

-- what is said of a frame: it is passed on with these bytes, it is skipped, or it fails with a number
pub data Said : Type 0 where
  pass : List ℕ → Said
  skip : List ℕ → Said
  fail : ℕ → List ℕ → Said

abbrev pub plain_says : Plain → List ℕ → Said
plain_says p x = if is_under p (length x) then skip x else pass (made p x)
