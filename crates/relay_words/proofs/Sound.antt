-- The orders that the words give are good.
use Rattle.std.proofs.Common.{◌≡◌, ℕ, ◌+◌, ◌≤◌, Bool, true, false, List, [], ◌∷◌, Option, Some, None, length, drop, nat_le, All, refl, sym, ap, ◌∙◌, arith, subst, if◌then◌else◌, leb-true}
use Rattle.std.specs.Prelude.{◌==◌, ◌&&◌, Result, Ok, Err, codes, IfOk, find, unwrap_or, option_map, ◌≢◌, AllPairs}
use Rattle.std.specs.List.{filter_map, cons_option}
use Rattle.std.specs.Option.{is_none}
use Rattle.std.proofs.lemmas.List.Elements.{All-cons}
use Rattle.frame_head.specs.declared.codecs.Codec.{Codec}
use Rattle.frame_head.specs.declared.out.Out.{Out}
use Rattle.frame_head.specs.Codecs.{fault_of}
use Rattle.frame_head.specs.Outs.{out_fault}
use Rattle.relay_words.specs.declared.command.CommandName.{CommandName}
use Rattle.relay_words.specs.declared.command.CommandName.TheVariants.{Frames as frames, Chain as chain, Relay as relay, Mill as mill}
use Rattle.relay_words.specs.declared.faults.WordFault.{WordFault}
use Rattle.relay_words.specs.declared.order.Order.{Order}
use Rattle.relay_words.specs.declared.order.Order.TheVariants.{Frames, Chain, Mill}
use Rattle.relay_words.specs.declared.subscribers.SubWord.{SubWord}
use Rattle.relay_words.specs.Numbers.{number, number_in, within}
use Rattle.relay_words.specs.Names.{is_name}
use Rattle.relay_words.specs.Parts.{part_value, with}
use Rattle.relay_words.specs.Codecs.{codec_of}
use Rattle.relay_words.specs.Outs.{out_of}
use Rattle.relay_words.specs.Subscribers.{before, from, name_part, ordered, range_of, places_of, sub_places, sub_of}
use Rattle.relay_words.specs.Item.{Item, is_word, text_of}
use Rattle.relay_words.specs.Items.{items}
use Rattle.relay_words.specs.Kinds.{behind_codec, first_fault}
use Rattle.relay_words.specs.Orders.{command_of, option_in, value_in, block_of, limit_of, input_of, passed_codec, passed_out, codec_given, out_given, n_given, sub_given, subs_given, needed, out_over, unless_written, written_as, relay_by, order_of, unless_bad, order_behind, order}
use Rattle.relay_words.specs.Good.{IsBetween, EndsBehind, IsOrdered, GoodReading, IsGood}
use Rattle.relay_words.proofs.Counts.{most_subs}
use Rattle.relay_words.proofs.Apart.{input_apart, names_differ}

-- a value that is there where a test holds
where_true : {A : Type 0} (b : Bool) (x y : A) → (if b then Some x else None) ≡ Some y → (b ≡ true) × (x ≡ y)
where_true true x y e = (refl, cc)
where_true false x y e = absurd (cc)

and_true : (a b : Bool) → (a && b) ≡ true → (a ≡ true) × (b ≡ true)
and_true true b e = (refl, e)
and_true false b e = absurd (cc)

none_there : {A : Type 0} (o : Option A) → is_none o ≡ true → o ≡ None
none_there None e = refl
none_there (Some x) e = absurd (cc)

with_some : {A B : Type 0} (o : Option A) (f : A → Option B) (y : B) → with o f ≡ Some y → (x : A) × (f x ≡ Some y)
with_some None f y e = absurd (cc)
with_some (Some x) f y e = (x, e)

-- numbers
within_between : (least greatest : ℕ) (o : Option ℕ) (n : ℕ) → within least greatest o ≡ Some n → IsBetween least greatest n
within_between least greatest None n e = absurd (cc)
within_between least greatest (Some m) n e =
    let there = where_true (nat_le least m && nat_le m greatest) m n e in
    let both = and_true (nat_le least m) (nat_le m greatest) there.0 in
    (omega (arith, leb-true least m both.0, there.1), omega (arith, leb-true m greatest both.1, there.1))

between_or : (least greatest d : ℕ) (o : Option ℕ) → IsBetween least greatest d → ((n : ℕ) → o ≡ Some n → IsBetween least greatest n) → IsBetween least greatest (unwrap_or o d)
between_or least greatest d None fine there = fine
between_or least greatest d (Some n) fine there = there n refl

value_between : (least greatest d : ℕ) (o : Option (List ℕ)) → IsBetween least greatest d → IsBetween least greatest (unwrap_or (with o (number_in least greatest)) d)
value_between least greatest d None fine = fine
value_between least greatest d (Some w) fine = between_or least greatest d (number_in least greatest w) fine (λ n e. within_between least greatest (number w) n e)

reading : (codec : Codec) (items : List Item) → fault_of codec ≡ None → GoodReading codec (block_of items) (limit_of items)
reading codec items passed =
    record {
      passed = passed;
      block_in = value_between 1 1048576 65536 (value_in (codes "--block") items) (omega arith, omega arith);
      limit_in = (value_between 0 1099511627776 1099511627776 (value_in (codes "--limit") items) (omega arith, omega arith)).1;
    }

-- codecs and ways of writing
codec_passed : (o : Option Codec) (codec : Codec) → passed_codec o ≡ Some codec → fault_of codec ≡ None
codec_passed None codec e = absurd (cc)
codec_passed (Some c) codec e =
    let there = where_true (is_none (fault_of c)) c codec e in
    ap fault_of (sym there.1) ∙ none_there (fault_of c) there.0

out_passed : (o : Option Out) (out : Out) → passed_out o ≡ Some out → out_fault out ≡ None
out_passed None out e = absurd (cc)
out_passed (Some c) out e =
    let there = where_true (is_none (out_fault c)) c out e in
    ap out_fault (sym there.1) ∙ none_there (out_fault c) there.0

-- places in order
abbrev IsFine : Option (ℕ × Option ℕ) → Type 0
IsFine None = Unit {0}
IsFine (Some p) = EndsBehind p.0 p.1

ordered_by : (b : Bool) (j k : ℕ) → nat_le j k ≡ b → IsFine (if b then Some (j, Some k) else None)
ordered_by true j k e = leb-true j k e
ordered_by false j k e = tt

ordered_fine : (first until : Option ℕ) → IsFine (ordered first until)
ordered_fine None until = tt
ordered_fine (Some j) None = tt
ordered_fine (Some j) (Some k) = ordered_by (nat_le j k) j k refl

alone_fine : (o : Option ℕ) → IsFine (option_map (λ j. (j, None)) o)
alone_fine None = tt
alone_fine (Some j) = tt

either_fine : (b : Bool) (o p : Option (ℕ × Option ℕ)) → IsFine o → IsFine p → IsFine (if b then o else p)
either_fine true o p f g = f
either_fine false o p f g = g

places_fine : (w : List ℕ) → IsFine (places_of w)
places_fine w =
    either_fine (length w == 0) (Some (0, None)) (range_of (drop 1 w)) tt
    (either_fine (length (from 46 (drop 1 w)) == 0) (option_map (λ j. (j, None)) (number (drop 1 w)))
    (ordered (number (before 46 (drop 1 w))) (with (part_value (codes "..") (from 46 (drop 1 w))) number))
    (alone_fine (number (drop 1 w))) (ordered_fine (number (before 46 (drop 1 w))) (with (part_value (codes "..") (from 46 (drop 1 w))) number)))

abbrev IsFineSub : Option SubWord → Type 0
IsFineSub None = Unit {0}
IsFineSub (Some s) = IsOrdered s

sub_fine : (name : List ℕ) (o : Option (ℕ × Option ℕ)) → IsFine o → IsFineSub (option_map (λ p. record { name = name; first = p.0; until = p.1 }) o)
sub_fine name None fine = tt
sub_fine name (Some p) fine = fine

given_by : (word : Bool) (o : Option SubWord) → IsFineSub o → IsFineSub (if word then o else None)
given_by true o fine = fine
given_by false o fine = tt

given_fine : (i : Item) → IsFineSub (sub_given i)
given_fine i =
    given_by (is_word i) (sub_of (text_of i))
    (sub_fine (name_part (text_of i)) (sub_places (text_of i)) (either_fine (is_name (name_part (text_of i))) (places_of (from 64 (text_of i))) None (places_fine (from 64 (text_of i))) tt))

cons_fine : (o : Option SubWord) (subs : List SubWord) → IsFineSub o → All IsOrdered subs → All IsOrdered (cons_option o subs)
cons_fine None subs fine all = all
cons_fine (Some s) subs fine all = All-cons IsOrdered s subs fine all

all_ordered : (items : List Item) → All IsOrdered (filter_map sub_given items)
all_ordered [] = λ k d inside. absurd (omega arith)
all_ordered (i ∷ items) = cons_fine (sub_given i) (filter_map sub_given items) (given_fine i) (all_ordered items)

-- the commands
frames_good : (o : Option Codec) (words : ℕ) (items : List Item) (r : Order) → ((c : Codec) → o ≡ Some c → fault_of c ≡ None)
    → needed words o (λ codec. Ok (Frames codec (block_of items) (limit_of items) (input_of items))) ≡ Ok r → IsGood r
frames_good None words items r passed e = absurd (cc)
frames_good (Some c) words items r passed e =
    let same : Frames c (block_of items) (limit_of items) (input_of items) ≡ r = cc in
    subst IsGood same (reading c items (passed c refl))

mill_good : (o : Option ℕ) (words : ℕ) (r : Order) → ((n : ℕ) → o ≡ Some n → n ≤ 100000) → needed words o (λ n. Ok (Mill n)) ≡ Ok r → IsGood r
mill_good None words r most e = absurd (cc)
mill_good (Some n) words r most e =
    let same : Mill n ≡ r = cc in
    subst IsGood same (most n refl)

written_by : (o : Option Item) (x r : Order) → unless_written o x ≡ Ok r → (o ≡ None) × (x ≡ r)
written_by None x r e = (refl, cc)
written_by (Some i) x r e = absurd (cc)

fits_by : (b : Bool) (f : WordFault) (x : Result Order WordFault) (r : Order) → (if b then Err f else x) ≡ Ok r → (b ≡ false) × (x ≡ Ok r)
fits_by true f x r e = absurd (cc)
fits_by false f x r e = (refl, e)

relay_made : (words : ℕ) (items : List Item) (codec : Codec) (out : Out) (subs : List SubWord) (r : Order) → fault_of codec ≡ None → out_fault out ≡ None
    → length subs ≤ 64 → All IsOrdered subs → AllPairs (λ s t. s.name ≢ t.name) subs → (written_as (input_of items) items ≡ None → All (λ s. s.name ≢ input_of items) subs)
    → relay_by words items codec out subs ≡ Ok r → IsGood r
relay_made words items codec out [] r passed fine most ordered distinct apart e = absurd (cc)
relay_made words items codec out (sub ∷ subs) r passed fine most ordered distinct apart e =
    let fits = fits_by (out_over codec out) _ _ r e in
    let written = written_by (written_as (input_of items) items) _ r fits.1 in
    subst IsGood written.1 (
      reading codec items passed,
      record {
        passed = fine;
        fits = fits.0;
        cap_in = value_between 1 1024 64 (value_in (codes "--cap") items) (omega arith, omega arith);
        some = omega arith;
        most = most;
        ordered = ordered;
        distinct = distinct;
        apart = apart written.0;
      },
    )

relay_good : (o : Option Codec) (p : Option Out) (words : ℕ) (items : List Item) (r : Order) → ((c : Codec) → o ≡ Some c → fault_of c ≡ None) → ((out : Out) → p ≡ Some out → out_fault out ≡ None)
    → length (subs_given items) ≤ 64 → AllPairs (λ s t. s.name ≢ t.name) (subs_given items) → needed words o (λ codec. needed words p (λ out. relay_by words items codec out (subs_given items))) ≡ Ok r → IsGood r
relay_good None p words items r passed fine most distinct e = absurd (cc)
relay_good (Some codec) None words items r passed fine most distinct e = absurd (cc)
relay_good (Some codec) (Some out) words items r passed fine most distinct e =
    relay_made words items codec out (subs_given items) r (passed codec refl) (fine out refl) most (all_ordered (behind_codec items)) distinct (input_apart (input_of items) items) e

codec_is : (items : List Item) (c : Codec) → codec_given items ≡ Some c → fault_of c ≡ None
codec_is items c e = let found = with_some (find is_word items) (λ i. passed_codec (codec_of (text_of i))) c e in codec_passed (codec_of (text_of found.0)) c found.1

out_is : (items : List Item) (out : Out) → out_given items ≡ Some out → out_fault out ≡ None
out_is items out e = let found = with_some (option_in (codes "--out") items) (λ i. passed_out (out_of (text_of i))) out e in out_passed (out_of (text_of found.0)) out found.1

n_is : (items : List Item) (n : ℕ) → n_given items ≡ Some n → n ≤ 100000
n_is items n e = let found = with_some (find is_word items) (λ i. number_in 0 100000 (text_of i)) n e in (within_between 0 100000 (number (text_of found.0)) n found.1).1

command_good : (command : CommandName) (words : ℕ) (items : List Item) (r : Order) → first_fault command [] items ≡ None → order_of command words items ≡ Ok r → IsGood r
command_good frames words items r none e = frames_good (codec_given items) words items r (codec_is items) e
command_good chain words items r none e = let same : Chain (input_of items) ≡ r = cc in subst IsGood same tt
command_good mill words items r none e = mill_good (n_given items) words r (n_is items) e
command_good relay words items r none e = relay_good (codec_given items) (out_given items) words items r (codec_is items) (out_is items) (most_subs items none) (names_differ items none) e

judged : (fault : Option WordFault) (x : Result Order WordFault) (r : Order) → unless_bad fault x ≡ Ok r → (fault ≡ None) × (x ≡ Ok r)
judged None x r e = (refl, e)
judged (Some f) x r e = absurd (cc)

behind_good : (command : Option CommandName) (words : List (List ℕ)) (r : Order) → order_behind command words ≡ Ok r → IsGood r
behind_good None words r e = absurd (cc)
behind_good (Some command) words r e =
    let fine = judged (first_fault command [] (items 1 words)) (order_of command (length words + 1) (items 1 words)) r e in
    command_good command (length words + 1) (items 1 words) r fine.0 fine.1

-- an order of some words is good
pub good_order : (words : List (List ℕ)) (r : Order) → order words ≡ Ok r → IsGood r
good_order [] r e = absurd (cc)
good_order (w ∷ words) r e = behind_good (command_of w) words r e

pub good_read : (words : List (List ℕ)) (r : Result Order WordFault) → r ≡ order words → IfOk r IsGood
good_read words (Ok o) e = good_order words o (sym e)
good_read words (Err f) e = tt
