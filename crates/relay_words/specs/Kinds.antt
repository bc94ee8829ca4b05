-- What may stand where, and which word is blamed.
use Rattle.std.specs.Prelude.{ℕ, Bool, true, false, ◌&&◌, ◌||◌, not, List, [], ◌∷◌, ◌++◌, Option, Some, None, bytes_eq, codes, count_by, nat_le, option_map, if◌then◌else◌}
use Rattle.std.specs.List.{list_any, after_first}
use Rattle.std.specs.Option.{is_none, is_some, option_or}
use Rattle.frame_head.specs.declared.codecs.Codec.{Codec}
use Rattle.frame_head.specs.declared.out.Out.{Out}
use Rattle.frame_head.specs.declared.checks.CodecFault.{CodecFault}
use Rattle.frame_head.specs.declared.checks.CodecFault.TheVariants.{BadField as field_fault, ZeroLen as zero_fault, MaxOver as max_fault, OffsetOver as offset_fault, NoDelim as delim_fault, DelimOver as mark_fault}
use Rattle.frame_head.specs.Codecs.{fault_of}
use Rattle.frame_head.specs.Outs.{out_fault}
use Rattle.relay_words.specs.declared.command.CommandName.{CommandName}
use Rattle.relay_words.specs.declared.command.CommandName.TheVariants.{Frames, Chain, Relay, Mill}
use Rattle.relay_words.specs.declared.faults.UsageKind.{UsageKind}
use Rattle.relay_words.specs.declared.faults.UsageKind.TheVariants.{Option as UnknownOption, Twice, Value, Codec as BadCodec, BadField, ZeroLen, MaxOver, OffsetOver, NoDelim, DelimOver, Sub, Extra}
use Rattle.relay_words.specs.declared.faults.WordFault.{WordFault}
use Rattle.relay_words.specs.Numbers.{number_in}
use Rattle.relay_words.specs.Names.{is_name}
use Rattle.relay_words.specs.Codecs.{codec_of}
use Rattle.relay_words.specs.Outs.{out_of}
use Rattle.relay_words.specs.Stages.{stages_of}
use Rattle.relay_words.specs.Subscribers.{is_sub, same_name}
use Rattle.relay_words.specs.Item.{Item, is_word, text_of}
use Rattle.relay_words.specs.Faults.{usage, fault_where}

-- the options of each command
abbrev pub options_of : CommandName → List (List ℕ)
options_of Frames = codes "--block" ∷ codes "--limit" ∷ codes "--in" ∷ []
options_of Chain = codes "--in" ∷ []
options_of Relay = codes "--out" ∷ codes "--stages" ∷ codes "--block" ∷ codes "--cap" ∷ codes "--slow"
    ∷ codes "--limit" ∷ codes "--in" ∷ []
options_of Mill = []

unfoldable pub is_among : List (List ℕ) → List ℕ → Bool
is_among names name = list_any (λ o. bytes_eq o name) names

abbrev pub has_option : CommandName → List ℕ → Bool
has_option command name = is_among (options_of command) name

-- `--slow`: whether a slow subscriber is dropped
abbrev pub slow_of : List ℕ → Option Bool
slow_of w = if bytes_eq w (codes "wait") then Some false else if bytes_eq w (codes "drop") then Some true else None

-- whether a value has the form and the range of an option other than `--out`
abbrev pub has_form : List ℕ → List ℕ → Bool
has_form name w =
    if bytes_eq name (codes "--block") then is_some (number_in 1 1048576 w)
    else if bytes_eq name (codes "--cap") then is_some (number_in 1 1024 w)
    else if bytes_eq name (codes "--limit") then is_some (number_in 0 1099511627776 w)
    else if bytes_eq name (codes "--slow") then is_some (slow_of w)
    else if bytes_eq name (codes "--stages") then is_some (stages_of w)
    else is_name w

-- a codec's fault is a word's
abbrev pub kind_of : CodecFault → UsageKind
kind_of field_fault = BadField
kind_of zero_fault = ZeroLen
kind_of max_fault = MaxOver
kind_of offset_fault = OffsetOver
kind_of delim_fault = NoDelim
kind_of mark_fault = DelimOver

abbrev pub codec_kind : Option Codec → Option UsageKind
codec_kind None = Some BadCodec
codec_kind (Some codec) = option_map kind_of (fault_of codec)

abbrev pub out_kind : Option Out → Option UsageKind
out_kind None = Some BadCodec
out_kind (Some out) = option_map kind_of (out_fault out)

-- why the value of an option is bad, if it is
abbrev pub value_kind : List ℕ → List ℕ → Option UsageKind
value_kind name w = if bytes_eq name (codes "--out") then out_kind (out_of w) else if has_form name w then None
    else Some Value

abbrev pub is_given : List ℕ → List Item → Bool
is_given name before = list_any (λ i. bytes_eq i.name name) before

-- an option: the first that holds of those kinds that it can have
abbrev pub option_fault : CommandName → List Item → Item → Option WordFault
option_fault command before i =
    option_or (fault_where (not (has_option command i.name)) i.at UnknownOption)
    (option_or (fault_where (is_given i.name before) i.at Twice)
    (option_or (fault_where (is_none i.value) i.at Value)
    (option_map (usage i.value_at) (value_kind i.name (text_of i)))))

abbrev pub codec_fault : Item → Option WordFault
codec_fault i = option_map (usage i.at) (codec_kind (codec_of (text_of i)))

-- the items behind the first word, where the first word is the codec
abbrev pub behind_codec : List Item → List Item
behind_codec items = after_first is_word items

-- a subscriber, with the items behind the codec that stand before it
abbrev pub sub_fault : List Item → Item → Option WordFault
sub_fault before i =
    option_or (fault_where (is_sub (text_of i) && list_any (λ j. is_word j
    && same_name (text_of j) (text_of i)) before) i.at Twice)
    (fault_where (not (is_sub (text_of i)) || nat_le 64 (count_by is_word before)) i.at Sub)

-- a word by itself, with the items before it: a codec, a number or a subscriber, or one word too many
abbrev pub word_fault : CommandName → List Item → Item → Option WordFault
word_fault Frames before i = if list_any is_word before then Some (usage i.at Extra) else codec_fault i
word_fault Chain before i = Some (usage i.at Extra)
word_fault Relay before i = if list_any is_word before then sub_fault (behind_codec before) i else codec_fault i
word_fault Mill before i = if list_any is_word before then Some (usage i.at Extra)
    else fault_where (is_none (number_in 0 100000 (text_of i))) i.at Value

-- why an item is bad, if it is, with the items before it
abbrev pub item_fault : CommandName → List Item → Item → Option WordFault
item_fault command before i = if is_word i then word_fault command before i else option_fault command before i

-- the first bad item of some, behind those before them
abbrev pub first_fault : CommandName → List Item → List Item → Option WordFault
first_fault command before [] = None
first_fault command before (i ∷ items) =
    option_or (item_fault command before i) (first_fault command (before ++ i ∷ []) items)
