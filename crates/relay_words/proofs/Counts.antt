-- There are at most 64 subscribers where no word is bad.
use Rattle.std.proofs.Common.{◌≡◌, ℕ, suc, ◌+◌, ◌<◌, ◌≤◌, Bool, true, false, cond, List, [], ◌∷◌, ◌++◌, Option, Some, None, length, drop, nat_le, refl, sym, ap, ◌∙◌, arith, subst, if◌then◌else◌, leb-false, append-nil, append_assoc}
use Rattle.std.specs.Prelude.{◌||◌, ◌&&◌, not, count_by}
use Rattle.std.specs.List.{list_any, position_or_len, filter_map, cons_option}
use Rattle.std.specs.Option.{option_or}
use Rattle.std.proofs.lemmas.Bool.{or_parts}
use Rattle.std.proofs.lemmas.List.Sums.{sum_by-cons}
use Rattle.relay_words.specs.declared.command.CommandName.TheVariants.{Relay}
use Rattle.relay_words.specs.declared.faults.UsageKind.{UsageKind}
use Rattle.relay_words.specs.declared.faults.UsageKind.TheVariants.{Twice, Sub}
use Rattle.relay_words.specs.declared.faults.WordFault.{WordFault}
use Rattle.relay_words.specs.declared.subscribers.SubWord.{SubWord}
use Rattle.relay_words.specs.Subscribers.{is_sub, same_name, sub_of}
use Rattle.relay_words.specs.Item.{Item, is_word, text_of}
use Rattle.relay_words.specs.Faults.{fault_where}
use Rattle.relay_words.specs.Kinds.{behind_codec, codec_fault, sub_fault, option_fault, item_fault, first_fault}
use Rattle.relay_words.specs.Orders.{sub_given}

pub neither : {A : Type 0} (f g : Option A) → option_or f g ≡ None → (f ≡ None) × (g ≡ None)
neither None g e = (refl, e)
neither (Some f) g e = absurd (cc)

pub not_where : (b : Bool) (at : ℕ) (kind : UsageKind) → fault_where b at kind ≡ None → b ≡ false
not_where true at kind e = absurd (cc)
not_where false at kind e = refl

alone : (b : Bool) (i : Item) → drop (cond (not b) (1 + 0) 0 + 1) (i ∷ []) ≡ []
alone true i = refl
alone false i = refl

-- what stands behind the first item that passes, where the first does or doesn't
behind_first : (b : Bool) (x : Item) (xs : List Item) → drop (cond (not b) (1 + position_or_len is_word xs) 0 + 1) (x ∷ xs) ≡ (if b then xs else behind_codec xs)
behind_first true x xs = refl
behind_first false x xs =
    let e : 1 + position_or_len is_word xs + 1 ≡ suc (position_or_len is_word xs + 1) = omega arith in
    ap (λ n. drop n (x ∷ xs)) e

joined : (b c : Bool) (xs ys : List Item) (i : Item) → ys ≡ (if c then behind_codec xs ++ i ∷ [] else []) → (if b then xs ++ i ∷ [] else ys) ≡ (if b || c then (if b then xs else behind_codec xs) ++ i ∷ [] else [])
joined true c xs ys i e = refl
joined false c xs ys i e = e

-- what stands behind the first word, with one item more
pub behind_push : (before : List Item) (i : Item) → behind_codec (before ++ i ∷ []) ≡ (if list_any is_word before then behind_codec before ++ i ∷ [] else [])
behind_push [] i = alone (is_word i) i
behind_push (x ∷ xs) i =
    behind_first (is_word x) x (xs ++ i ∷ []) ∙ joined (is_word x) (list_any is_word xs) xs (behind_codec (xs ++ i ∷ [])) i (behind_push xs i)
    ∙ ap (λ l. if is_word x || list_any is_word xs then l ++ i ∷ [] else []) (sym (behind_first (is_word x) x xs))

count_cons : (x : Item) (xs : List Item) → count_by is_word (x ∷ xs) ≡ cond (is_word x) 1 0 + count_by is_word xs
count_cons x xs = sum_by-cons (λ x. cond (is_word x) 1 0) x xs

count_push : (xs : List Item) (i : Item) → count_by is_word (xs ++ i ∷ []) ≡ count_by is_word xs + cond (is_word i) 1 0
count_push [] i = omega arith
count_push (x ∷ xs) i = omega (arith, count_push xs i, count_cons x xs, count_cons x (xs ++ i ∷ []))

-- a word that is no bad subscriber isn't the 65th
room_left : (before : List Item) (i : Item) → sub_fault before i ≡ None → count_by is_word before < 64
room_left before i e =
    let second = (neither (fault_where (is_sub (text_of i) && list_any (λ j. is_word j && same_name (text_of j) (text_of i)) before) i.at Twice) _ e).1 in
    let both = or_parts (not (is_sub (text_of i))) (nat_le 64 (count_by is_word before)) (not_where _ i.at Sub second) in
    omega (arith, leb-false 64 (count_by is_word before) both.1)

pub sub_judged : (word any : Bool) (s c o : Option WordFault) → word ≡ true → any ≡ true → (if word then (if any then s else c) else o) ≡ None → s ≡ None
sub_judged true true s c o p q e = e
sub_judged true false s c o p q e = absurd (cc)
sub_judged false any s c o p q e = absurd (cc)

kept_by : (any word : Bool) (before : List Item) (i : Item) → list_any is_word before ≡ any → is_word i ≡ word → count_by is_word (behind_codec before) ≤ 64 → item_fault Relay before i ≡ None
    → count_by is_word (if any then behind_codec before ++ i ∷ [] else []) ≤ 64
kept_by false word before i p q within e = omega arith
kept_by true false before i p q within e =
    let none : cond {A = ℕ} (is_word i) 1 0 ≡ 0 = ap (λ (b : Bool). cond {A = ℕ} b 1 0) q in
    omega (arith, count_push (behind_codec before) i, none)
kept_by true true before i p q within e =
    let one : cond {A = ℕ} (is_word i) 1 0 ≡ 1 = ap (λ (b : Bool). cond {A = ℕ} b 1 0) q in
    let room = room_left (behind_codec before) i (sub_judged (is_word i) (list_any is_word before) (sub_fault (behind_codec before) i) (codec_fault i) (option_fault Relay before i) q p e) in
    omega (arith, count_push (behind_codec before) i, one, room)

kept : (before : List Item) (i : Item) → count_by is_word (behind_codec before) ≤ 64 → item_fault Relay before i ≡ None → count_by is_word (behind_codec (before ++ i ∷ [])) ≤ 64
kept before i within e =
    let P : List Item → Type 0 = λ l. count_by is_word l ≤ 64 in
    subst P (sym (behind_push before i)) (kept_by (list_any is_word before) (is_word i) before i refl refl within e)

counted : (before items : List Item) → count_by is_word (behind_codec before) ≤ 64 → first_fault Relay before items ≡ None → count_by is_word (behind_codec (before ++ items)) ≤ 64
counted before [] within e =
    let P : List Item → Type 0 = λ l. count_by is_word (behind_codec l) ≤ 64 in
    subst P (sym (append-nil before)) within
counted before (i ∷ items) within e =
    let parts = neither (item_fault Relay before i) (first_fault Relay (before ++ i ∷ []) items) e in
    let P : List Item → Type 0 = λ l. count_by is_word (behind_codec l) ≤ 64 in
    subst P (append_assoc before (i ∷ []) items) (counted (before ++ i ∷ []) items (kept before i within parts.0) parts.1)

made_by : (word : Bool) (o : Option SubWord) (subs : List SubWord) → length (cons_option (if word then o else None) subs) ≤ cond word 1 0 + length subs
made_by false o subs = omega arith
made_by true None subs = omega arith
made_by true (Some s) subs = omega arith

made : (items : List Item) → length (filter_map sub_given items) ≤ count_by is_word items
made [] = omega arith
made (i ∷ items) = omega (arith, count_cons i items, made_by (is_word i) (sub_of (text_of i)) (filter_map sub_given items), made items)

-- no more than 64 subscribers are given
pub most_subs : (items : List Item) → first_fault Relay [] items ≡ None → length (filter_map sub_given (behind_codec items)) ≤ 64
most_subs items e = omega (arith, made (behind_codec items), counted [] items (omega arith) e)
