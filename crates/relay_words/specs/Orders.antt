-- What the words ask for.
use Rattle.std.specs.Prelude.{ℕ, ◌+◌, Bool, false, ◌&&◌, List, [], ◌∷◌, Option, Some, None, Result, Ok, Err, bytes_eq, codes, find, length, nat_lt, unwrap_or, if◌then◌else◌}
use Rattle.std.specs.List.{filter_map}
use Rattle.std.specs.Option.{is_none}
use Rattle.frame_head.specs.declared.codecs.Codec.{Codec}
use Rattle.frame_head.specs.declared.out.Out.{Out}
use Rattle.frame_head.specs.declared.out.Out.TheVariants.{Length, Line, Delim, Raw}
use Rattle.frame_head.specs.Codecs.{fault_of, longest_of}
use Rattle.frame_head.specs.Outs.{out_fault}
use Rattle.frame_head.specs.Longest.{most_in_field}
use Rattle.relay_words.specs.declared.command.CommandName.{CommandName}
use Rattle.relay_words.specs.declared.command.CommandName.TheVariants.{Frames as frames, Chain as chain, Relay as relay, Mill as mill}
use Rattle.relay_words.specs.declared.faults.UsageKind.TheVariants.{Command, Missing, OutOver, InOut}
use Rattle.relay_words.specs.declared.faults.WordFault.{WordFault}
use Rattle.relay_words.specs.declared.order.Order.{Order}
use Rattle.relay_words.specs.declared.order.Order.TheVariants.{Frames, Chain, Relay, Mill}
use Rattle.relay_words.specs.declared.stages.StageWord.{StageWord}
use Rattle.relay_words.specs.declared.subscribers.SubWord.{SubWord}
use Rattle.relay_words.specs.Numbers.{number_in}
use Rattle.relay_words.specs.Names.{name_of}
use Rattle.relay_words.specs.Parts.{with}
use Rattle.relay_words.specs.Codecs.{codec_of}
use Rattle.relay_words.specs.Outs.{out_of}
use Rattle.relay_words.specs.Stages.{stages_of}
use Rattle.relay_words.specs.Subscribers.{name_part, sub_of}
use Rattle.relay_words.specs.Item.{Item, is_word, text_of}
use Rattle.relay_words.specs.Items.{items}
use Rattle.relay_words.specs.Faults.{usage}
use Rattle.relay_words.specs.Kinds.{behind_codec, slow_of, first_fault}

abbrev pub command_of : List ℕ → Option CommandName
command_of w =
    if bytes_eq w (codes "frames") then Some frames
    else if bytes_eq w (codes "chain") then Some chain
    else if bytes_eq w (codes "relay") then Some relay
    else if bytes_eq w (codes "mill") then Some mill
    else None

-- the option of this name
abbrev pub option_in : List ℕ → List Item → Option Item
option_in name items = find (λ i. bytes_eq i.name name) items

abbrev pub value_in : List ℕ → List Item → Option (List ℕ)
value_in name items = with (option_in name items) (λ i. i.value)

-- what `form` makes of an option's value, or else its default
abbrev pub value_or : {A : Type 0} → A → List ℕ → (List ℕ → Option A) → List Item → A
value_or default name form items = unwrap_or (with (value_in name items) form) default

abbrev pub block_of : List Item → ℕ
block_of items = value_or 65536 (codes "--block") (number_in 1 1048576) items

abbrev pub cap_of : List Item → ℕ
cap_of items = value_or 64 (codes "--cap") (number_in 1 1024) items

abbrev pub limit_of : List Item → ℕ
limit_of items = value_or 1099511627776 (codes "--limit") (number_in 0 1099511627776) items

-- the name of the input; the empty one stands for standard input
abbrev pub input_of : List Item → List ℕ
input_of items = value_or [] (codes "--in") name_of items

abbrev pub drops_slow : List Item → Bool
drops_slow items = value_or false (codes "--slow") slow_of items

abbrev pub stages_given : List Item → List StageWord
stages_given items = value_or [] (codes "--stages") stages_of items

abbrev pub passed_codec : Option Codec → Option Codec
passed_codec o = with o (λ codec. if is_none (fault_of codec) then Some codec else None)

abbrev pub passed_out : Option Out → Option Out
passed_out o = with o (λ out. if is_none (out_fault out) then Some out else None)

-- CODEC, the value of `--out`, N, and the subscribers, where they are there
abbrev pub codec_given : List Item → Option Codec
codec_given items = with (find is_word items) (λ i. passed_codec (codec_of (text_of i)))

abbrev pub out_given : List Item → Option Out
out_given items = with (option_in (codes "--out") items) (λ i. passed_out (out_of (text_of i)))

abbrev pub n_given : List Item → Option ℕ
n_given items = with (find is_word items) (λ i. number_in 0 100000 (text_of i))

abbrev pub sub_given : Item → Option SubWord
sub_given i = if is_word i then sub_of (text_of i) else None

abbrev pub subs_given : List Item → List SubWord
subs_given items = filter_map sub_given (behind_codec items)

-- the order of what is needed, which is missing behind so many words where it isn't there
abbrev pub needed : {A : Type 0} → ℕ → Option A → (A → Result Order WordFault) → Result Order WordFault
needed words None order = Err (usage words Missing)
needed words (Some x) order = order x

-- whether a frame can be too long for the field that its length is written in
abbrev pub out_over : Codec → Out → Bool
out_over codec (Length field little) = nat_lt (most_in_field field) (longest_of codec)
out_over codec (Line crlf) = false
out_over codec (Delim mark) = false
out_over codec Raw = false

-- where the value of an option stands
abbrev pub place_of : Option Item → ℕ
place_of None = 0
place_of (Some i) = i.value_at

-- the first subscriber with a name, as that of the input
abbrev pub written_as : List ℕ → List Item → Option Item
written_as name items = find (λ i. is_word i && bytes_eq (name_part (text_of i)) name) (behind_codec items)

abbrev pub unless_written : Option Item → Order → Result Order WordFault
unless_written None order = Ok order
unless_written (Some i) order = Err (usage i.at InOut)

abbrev pub relay_by : ℕ → List Item → Codec → Out → List SubWord → Result Order WordFault
relay_by words items codec out [] = Err (usage words Missing)
relay_by words items codec out (sub ∷ subs) =
    if out_over codec out then Err (usage (place_of (option_in (codes "--out") items)) OutOver)
    else unless_written (written_as (input_of items) items)
    (Relay codec out (stages_given items) (block_of items) (cap_of items) (drops_slow items) (limit_of items)
    (input_of items) (sub ∷ subs))

-- what each command's items ask for, where none is bad
abbrev pub order_of : CommandName → ℕ → List Item → Result Order WordFault
order_of frames words items =
    needed words (codec_given items) (λ codec. Ok (Frames codec (block_of items) (limit_of items) (input_of items)))
order_of chain words items = Ok (Chain (input_of items))
order_of mill words items = needed words (n_given items) (λ n. Ok (Mill n))
order_of relay words items =
    needed words (codec_given items) (λ codec. needed words (out_given items)
    (λ out. relay_by words items codec out (subs_given items)))

abbrev pub unless_bad : Option WordFault → Result Order WordFault → Result Order WordFault
unless_bad None order = order
unless_bad (Some fault) order = Err fault

abbrev pub order_behind : Option CommandName → List (List ℕ) → Result Order WordFault
order_behind None words = Err (usage 0 Command)
order_behind (Some command) words =
    unless_bad (first_fault command [] (items 1 words)) (order_of command (length words + 1) (items 1 words))

-- the command with its values, or the first bad word and its kind
abbrev pub order : List (List ℕ) → Result Order WordFault
order [] = Err (usage 0 Command)
order (w ∷ words) = order_behind (command_of w) words
