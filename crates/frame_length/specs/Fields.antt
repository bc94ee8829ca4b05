-- What a scanner of length fields has seen of a frame.
use Rattle.std.specs.Prelude.{◌≡◌, ℕ, ◌+◌, ◌-◌, ◌<◌, ◌≤◌, List, ◌++◌, Option, Some, None, length, take, drop, nat_lt, if◌then◌else◌}
use Rattle.frame_head.specs.declared.codecs.Codec.{Codec}
use Rattle.frame_head.specs.declared.codecs.Codec.TheVariants.{Length}
use Rattle.frame_head.specs.declared.codecs.FaultKind.TheVariants.{TooSmall, TooLong, StripOver}
use Rattle.frame_head.specs.Numbers.{number_in_order, adjusted}
use Rattle.frame_head.specs.Heads.{Bad}
use Rattle.frame_head.specs.Codecs.{head}
use Rattle.frame_rule.specs.declared.scanner.Scan.{Scan}
use Rattle.frame_rule.specs.declared.scanner.Scan.TheVariants.{Open, Frame}
use Rattle.frame_length.specs.declared.length_scanner.Header.{Header}
use Rattle.frame_length.specs.declared.length_scanner.Aim.{Aim}
use Rattle.frame_length.specs.declared.length_scanner.Aim.TheVariants.{Short, Wrong, At}

abbrev pub codec_by : Header → Codec
codec_by h = Length h.field h.offset h.adjust h.strip h.little h.max

-- where the length field ends
abbrev pub field_end : Header → ℕ
field_end h = h.offset + h.field

-- what the length field of `w` says, with the adjustment
abbrev pub said : Header → List ℕ → Option ℕ
said h w = adjusted (number_in_order h.little (take h.field (drop h.offset w))) h.adjust

-- a frame that begins with `w`, which has its length field, is to have `t` bytes
pub record Aims (h : Header) (t : ℕ) (w : List ℕ) : Type 0 where
  pub there : field_end h ≤ length w
  pub behind : ℕ
  pub is : said h w ≡ Some behind
  pub place : t ≡ behind + field_end h
  pub within : t ≤ h.max
  pub over : h.strip ≤ t

-- of the open bytes `r` the bytes of the field were seen, or how many bytes the frame is to have
abbrev pub Saw : Header → List ℕ → Option ℕ → List ℕ → Type 0
Saw h seen None r = (length r < field_end h) × (take (length r - h.offset) seen ≡ drop h.offset r)
Saw h seen (Some t) r = Aims h t r × (length r < t)

-- what `s` tells behind `r`, which lacks a part of the field
abbrev pub Looked : Header → List ℕ → List ℕ → List ℕ → Aim → Type 0
Looked h seen r s Short = (length r + length s < field_end h)
    × (take (length (r ++ s) - h.offset) seen ≡ drop h.offset (r ++ s))
Looked h seen r s (Wrong kind over) = (field_end h ≤ length r + length s)
    × (head (codec_by h) (r ++ take (field_end h - length r) s) ≡ Bad kind (field_end h + over))
Looked h seen r s (At t) = (field_end h ≤ length r + length s) × Aims h t (r ++ take (field_end h - length r) s)

-- where a frame of `t` bytes ends, if that is behind the next `n` bytes
abbrev pub target_behind : ℕ → ℕ → ℕ → Option ℕ
target_behind t have n = if nat_lt n (t - have) then Some t else None

-- a frame of `t` bytes, of which `have` and the next `n` are there
abbrev pub scan_toward : ℕ → ℕ → ℕ → ℕ → Scan
scan_toward t strip have n = if nat_lt n (t - have) then Open else Frame (t - have) strip 0

-- a frame that ends `behind` bytes behind the end `e` of its field
abbrev pub AimsBehind : ℕ → ℕ → ℕ → ℕ → Aim → Type 0
AimsBehind strip max e behind Short = ⊥
AimsBehind strip max e behind (Wrong TooLong over) = (over ≡ behind) × (max < behind + e)
AimsBehind strip max e behind (Wrong StripOver over) = (over ≡ behind) × (behind + e ≤ max) × (behind + e < strip)
AimsBehind strip max e behind (Wrong _ over) = ⊥
AimsBehind strip max e behind (At t) = (t ≡ behind + e) × (t ≤ max) × (strip ≤ t)

-- what a field tells that says so many bytes behind it, or too few
abbrev pub AimsBy : Header → Option ℕ → Aim → Type 0
AimsBy h None a = a ≡ Wrong TooSmall 0
AimsBy h (Some behind) a = AimsBehind h.strip h.max (field_end h) behind a
