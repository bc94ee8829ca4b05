-- Codec words.
use Rattle.std.specs.Prelude.{ℕ, pos, ℤ, Bool, true, false, List, [], ◌∷◌, Option, Some, None, bytes_eq, codes, if◌then◌else◌}
use Rattle.frame_head.specs.declared.codecs.Codec.{Codec}
use Rattle.frame_head.specs.declared.codecs.Codec.TheVariants.{Length, Line, Delim, Fixed}
use Rattle.frame_head.specs.declared.codecs.LineEnd.{LineEnd}
use Rattle.frame_head.specs.declared.codecs.LineEnd.TheVariants.{Any, Lf, Crlf}
use Rattle.relay_words.specs.Numbers.{number, number_in, adjustment}
use Rattle.relay_words.specs.Parts.{between_commas, by_kind, value_of, given_or, where_keyed, with}
use Rattle.relay_words.specs.Hex.{hex_list}

-- whether the byte with the least weight comes first
abbrev pub byte_order : List ℕ → Option Bool
byte_order w = if bytes_eq w (codes "be") then Some false else if bytes_eq w (codes "le") then Some true else None

abbrev pub yes_or_no : List ℕ → Option Bool
yes_or_no w = if bytes_eq w (codes "yes") then Some true else if bytes_eq w (codes "no") then Some false else None

abbrev pub line_end : List ℕ → Option LineEnd
line_end w =
    if bytes_eq w (codes "any") then Some Any
    else if bytes_eq w (codes "lf") then Some Lf
    else if bytes_eq w (codes "crlf") then Some Crlf
    else None

-- the values of keys, or their defaults
abbrev pub field_of : List (List ℕ) → Option ℕ
field_of parts = with (value_of (codes "field=") parts) (number_in 0 255)

abbrev pub number_or : ℕ → ℕ → List ℕ → List (List ℕ) → Option ℕ
number_or default greatest key parts = given_or default (number_in 0 greatest) (value_of key parts)

abbrev pub adjust_of : List (List ℕ) → Option ℤ
adjust_of parts = given_or (pos 0) adjustment (value_of (codes "adjust=") parts)

abbrev pub order_of : List (List ℕ) → Option Bool
order_of parts = given_or false byte_order (value_of (codes "order=") parts)

abbrev pub max_of : List (List ℕ) → Option ℕ
max_of parts = given_or 1048576 number (value_of (codes "max=") parts)

abbrev pub strip_of : List (List ℕ) → Option Bool
strip_of parts = given_or true yes_or_no (value_of (codes "strip=") parts)

abbrev pub end_of : List (List ℕ) → Option LineEnd
end_of parts = given_or Any line_end (value_of (codes "end=") parts)

abbrev pub size_of : List (List ℕ) → Option ℕ
size_of parts = with (value_of (codes "size=") parts) number

-- each kind of codec, by the parts behind its kind
abbrev pub length_codec : List (List ℕ) → Option Codec
length_codec parts =
    with (field_of parts) (λ field.
    with (number_or 0 16777216 (codes "offset=") parts) (λ offset.
    with (adjust_of parts) (λ adjust.
    with (number_or 0 16777216 (codes "strip=") parts) (λ strip.
    with (order_of parts) (λ little.
    with (max_of parts) (λ greatest. Some (Length field offset adjust strip little greatest)))))))

abbrev pub line_codec : List (List ℕ) → Option Codec
line_codec parts =
    with (end_of parts) (λ ending.
    with (strip_of parts) (λ strip.
    with (max_of parts) (λ greatest. Some (Line ending strip greatest))))

abbrev pub delim_codec : List (List ℕ) → Option Codec
delim_codec parts =
    with (with (value_of (codes "hex=") parts) hex_list) (λ list.
    with (strip_of parts) (λ strip.
    with (max_of parts) (λ greatest. Some (Delim list strip greatest))))

abbrev pub fixed_codec : List (List ℕ) → Option Codec
fixed_codec parts = with (size_of parts) (λ size. Some (Fixed size))

-- the keys of each kind
abbrev pub length_keys : List (List ℕ)
length_keys = codes "field=" ∷ codes "offset=" ∷ codes "adjust=" ∷ codes "strip=" ∷ codes "order=" ∷ codes "max=" ∷ []

abbrev pub line_keys : List (List ℕ)
line_keys = codes "end=" ∷ codes "strip=" ∷ codes "max=" ∷ []

abbrev pub delim_keys : List (List ℕ)
delim_keys = codes "hex=" ∷ codes "strip=" ∷ codes "max=" ∷ []

abbrev pub codec_by : List ℕ → List (List ℕ) → Option Codec
codec_by kind parts =
    if bytes_eq kind (codes "length") then where_keyed length_keys parts (length_codec parts)
    else if bytes_eq kind (codes "line") then where_keyed line_keys parts (line_codec parts)
    else if bytes_eq kind (codes "delim") then where_keyed delim_keys parts (delim_codec parts)
    else if bytes_eq kind (codes "fixed") then where_keyed (codes "size=" ∷ []) parts (fixed_codec parts)
    else None

-- the codec that a word names: its kind, and behind commas the parts
abbrev pub codec_of : List ℕ → Option Codec
codec_of w = by_kind codec_by (between_commas w)
