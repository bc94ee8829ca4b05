-- Words for ways of writing frames.
use Rattle.std.specs.Prelude.{ℕ, Bool, true, false, List, [], ◌∷◌, Option, Some, None, bytes_eq, codes, if◌then◌else◌}
use Rattle.frame_head.specs.declared.out.Out.{Out}
use Rattle.frame_head.specs.declared.out.Out.TheVariants.{Length, Line, Delim, Raw}
use Rattle.relay_words.specs.Parts.{between_commas, by_kind, value_of, given_or, where_keyed, with}
use Rattle.relay_words.specs.Hex.{hex_bytes}
use Rattle.relay_words.specs.Codecs.{field_of, order_of}

-- whether lines end with CRLF
abbrev pub written_end : List ℕ → Option Bool
written_end w = if bytes_eq w (codes "lf") then Some false else if bytes_eq w (codes "crlf") then Some true else None

abbrev pub length_out : List (List ℕ) → Option Out
length_out parts = with (field_of parts) (λ field. with (order_of parts) (λ little. Some (Length field little)))

abbrev pub line_out : List (List ℕ) → Option Out
line_out parts = with (given_or false written_end (value_of (codes "end=") parts)) (λ crlf. Some (Line crlf))

abbrev pub delim_out : List (List ℕ) → Option Out
delim_out parts = with (with (value_of (codes "hex=") parts) hex_bytes) (λ mark. Some (Delim mark))

abbrev pub out_by : List ℕ → List (List ℕ) → Option Out
out_by kind parts =
    if bytes_eq kind (codes "length") then where_keyed (codes "field=" ∷ codes "order=" ∷ []) parts (length_out parts)
    else if bytes_eq kind (codes "line") then where_keyed (codes "end=" ∷ []) parts (line_out parts)
    else if bytes_eq kind (codes "delim") then where_keyed (codes "hex=" ∷ []) parts (delim_out parts)
    else if bytes_eq kind (codes "raw") then where_keyed [] parts (Some Raw)
    else None

-- the way of writing that a word names
abbrev pub out_of : List ℕ → Option Out
out_of w = by_kind out_by (between_commas w)
