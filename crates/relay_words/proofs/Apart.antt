-- The names of subscribers differ from each other and from that of the input, where no word is bad.
use Rattle.std.proofs.Common.{◌≡◌, ℕ, Bool, true, false, List, [], ◌∷◌, ◌++◌, Option, Some, None, All, refl, sym, ap, ◌∙◌, arith, subst, if◌then◌else◌, append-nil, append_assoc}
use Rattle.std.specs.Prelude.{◌≢◌, ◌&&◌, ◌||◌, not, AllPairs, bytes_eq, find, option_map}
use Rattle.std.specs.List.{list_any, filter_map, cons_option}
use Rattle.std.proofs.lemmas.Bool.{or_parts}
use Rattle.std.proofs.lemmas.Slice.Eq.{bytes_eq-Decides}
use Rattle.std.proofs.lemmas.List.Elements.{All-cons, filter_map-append}
use Rattle.std.proofs.lemmas.List.Quantifiers.{all_pairs_push}
use Rattle.relay_words.specs.declared.command.CommandName.TheVariants.{Relay}
use Rattle.relay_words.specs.declared.faults.UsageKind.TheVariants.{Twice, Sub}
use Rattle.relay_words.specs.declared.subscribers.SubWord.{SubWord}
use Rattle.relay_words.specs.Subscribers.{name_part, sub_places, sub_of, is_sub, same_name}
use Rattle.relay_words.specs.Item.{Item, is_word, text_of}
use Rattle.relay_words.specs.Faults.{fault_where}
use Rattle.relay_words.specs.Kinds.{behind_codec, codec_fault, sub_fault, option_fault, item_fault, first_fault}
use Rattle.relay_words.specs.Orders.{sub_given, written_as}
use Rattle.relay_words.proofs.Counts.{neither, not_where, sub_judged, behind_push}

-- two subscribers have two names
abbrev DifferentNames : SubWord → SubWord → Type 0
DifferentNames s t = s.name ≢ t.name

named : (w : List ℕ) (o : Option (ℕ × Option ℕ)) (s : SubWord) → option_map (λ p. record { name = name_part w; first = p.0; until = p.1 }) o ≡ Some s → s.name ≡ name_part w
named w None s e = absurd (cc)
named w (Some p) s e =
    let made : SubWord = record { name = name_part w; first = p.0; until = p.1 } in
    let same : made ≡ s = cc in
    ap (λ (t : SubWord). t.name) (sym same)

differs : (name n w : List ℕ) → n ≡ w → bytes_eq w name ≡ false → n ≢ name
differs name n w is e = λ same. let found : bytes_eq w name ≡ true = (bytes_eq-Decides w name).1 (sym is ∙ same) in absurd (cc)

apart_by : (word : Bool) (i : Item) (o : Option SubWord) (name : List ℕ) (others : List SubWord) → sub_of (text_of i) ≡ o → (word && bytes_eq (name_part (text_of i)) name) ≡ false
    → All (λ s. s.name ≢ name) others → All (λ s. s.name ≢ name) (cons_option (if word then o else None) others)
apart_by false i o name others is e all = all
apart_by true i None name others is e all = all
apart_by true i (Some s) name others is e all =
    All-cons (λ s. s.name ≢ name) s others (differs name s.name (name_part (text_of i)) (named (text_of i) (sub_places (text_of i)) s is) e) all

-- no subscriber has a name that no word has
apart : (name : List ℕ) (items : List Item) → list_any (λ j. is_word j && bytes_eq (name_part (text_of j)) name) items ≡ false → All (λ s. s.name ≢ name) (filter_map sub_given items)
apart name [] e = λ k d inside. absurd (omega arith)
apart name (i ∷ items) e =
    let parts = or_parts (is_word i && bytes_eq (name_part (text_of i)) name) (list_any (λ j. is_word j && bytes_eq (name_part (text_of j)) name) items) e in
    apart_by (is_word i) i (sub_of (text_of i)) name (filter_map sub_given items) refl parts.0 (apart name items parts.1)

none_by : (b : Bool) (i : Item) (o : Option Item) → (if b then Some i else o) ≡ None → (b ≡ false) × (o ≡ None)
none_by true i o e = absurd (cc)
none_by false i o e = (refl, e)

none_found : (p : Item → Bool) (items : List Item) → find p items ≡ None → list_any p items ≡ false
none_found p [] e = refl
none_found p (i ∷ items) e =
    let parts = none_by (p i) i (find p items) e in
    ap (λ b. b || list_any p items) parts.0 ∙ none_found p items parts.1

-- no subscriber has the name of the input
pub input_apart : (input : List ℕ) (items : List Item) → written_as input items ≡ None → All (λ s. s.name ≢ input) (filter_map sub_given (behind_codec items))
input_apart input items e = apart input (behind_codec items) (none_found (λ i. is_word i && bytes_eq (name_part (text_of i)) input) (behind_codec items) e)

sub_good : (b c : Bool) → not b ≡ false → (b && c) ≡ false → c ≡ false
sub_good true c p q = q
sub_good false c p q = absurd (cc)

-- a subscriber that isn't refused has another name than those before it
name_new : (before : List Item) (i : Item) → sub_fault before i ≡ None → list_any (λ j. is_word j && same_name (text_of j) (text_of i)) before ≡ false
name_new before i e =
    let parts = neither (fault_where (is_sub (text_of i) && list_any (λ j. is_word j && same_name (text_of j) (text_of i)) before) i.at Twice) _ e in
    let both = or_parts (not (is_sub (text_of i))) _ (not_where _ i.at Sub parts.1) in
    sub_good (is_sub (text_of i)) (list_any (λ j. is_word j && same_name (text_of j) (text_of i)) before) both.0 (not_where _ i.at Twice parts.0)

pushed : (o : Option SubWord) (i : Item) (subs : List SubWord) → sub_of (text_of i) ≡ o → AllPairs DifferentNames subs → All (λ s. s.name ≢ name_part (text_of i)) subs
    → AllPairs DifferentNames (subs ++ cons_option o [])
pushed None i subs is pairs new = let P : List SubWord → Type 0 = λ l. AllPairs DifferentNames l in subst P (sym (append-nil subs)) pairs
pushed (Some s) i subs is pairs new =
    all_pairs_push DifferentNames subs s pairs
    (λ k d inside same. new k d inside (same ∙ named (text_of i) (sub_places (text_of i)) s is))

grown : (word any : Bool) (before : List Item) (i : Item) → is_word i ≡ word → list_any is_word before ≡ any → AllPairs DifferentNames (filter_map sub_given (behind_codec before)) → item_fault Relay before i ≡ None
    → AllPairs DifferentNames (filter_map sub_given (if any then behind_codec before ++ i ∷ [] else []))
grown word false before i p q pairs e = λ k l d below inside. absurd (omega arith)
grown false true before i p q pairs e =
    let none : sub_given i ≡ None = ap (λ (b : Bool). if b then sub_of (text_of i) else None) p in
    let P : List SubWord → Type 0 = λ l. AllPairs DifferentNames l in
    subst P (sym (filter_map-append sub_given (behind_codec before) (i ∷ []) ∙ ap (λ o. filter_map sub_given (behind_codec before) ++ cons_option o []) none ∙ append-nil (filter_map sub_given (behind_codec before)))) pairs
grown true true before i p q pairs e =
    let one : sub_given i ≡ sub_of (text_of i) = ap (λ (b : Bool). if b then sub_of (text_of i) else None) p in
    let fine = sub_judged (is_word i) (list_any is_word before) (sub_fault (behind_codec before) i) (codec_fault i) (option_fault Relay before i) p q e in
    let P : List SubWord → Type 0 = λ l. AllPairs DifferentNames l in
    subst P (sym (filter_map-append sub_given (behind_codec before) (i ∷ []) ∙ ap (λ o. filter_map sub_given (behind_codec before) ++ cons_option o []) one))
    (pushed (sub_of (text_of i)) i (filter_map sub_given (behind_codec before)) refl pairs (apart (name_part (text_of i)) (behind_codec before) (name_new (behind_codec before) i fine)))

differ : (before items : List Item) → AllPairs DifferentNames (filter_map sub_given (behind_codec before)) → first_fault Relay before items ≡ None
    → AllPairs DifferentNames (filter_map sub_given (behind_codec (before ++ items)))
differ before [] pairs e =
    let P : List Item → Type 0 = λ l. AllPairs DifferentNames (filter_map sub_given (behind_codec l)) in
    subst P (sym (append-nil before)) pairs
differ before (i ∷ items) pairs e =
    let parts = neither (item_fault Relay before i) (first_fault Relay (before ++ i ∷ []) items) e in
    let P : List Item → Type 0 = λ l. AllPairs DifferentNames (filter_map sub_given (behind_codec l)) in
    let Q : List Item → Type 0 = λ l. AllPairs DifferentNames (filter_map sub_given l) in
    subst P (append_assoc before (i ∷ []) items) (differ (before ++ i ∷ []) items
    (subst Q (sym (behind_push before i)) (grown (is_word i) (list_any is_word before) before i refl refl pairs parts.0)) parts.1)

-- the names of subscribers differ
pub names_differ : (items : List Item) → first_fault Relay [] items ≡ None → AllPairs DifferentNames (filter_map sub_given (behind_codec items))
names_differ items e = differ [] items (λ k l d below inside. absurd (omega arith)) e
