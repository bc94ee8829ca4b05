-- What is found in a list is its least front with an ending, and the longest ending there.
use Rattle.std.proofs.Common.{◌≡◌, ℕ, zero, suc, ◌+◌, ◌-◌, ◌<◌, ◌≤◌, Bool, true, false, ◌⊎◌, inl, inr, List, [], ◌∷◌, ◌++◌, Option, Some, None, length, take, drop, nat_lt, nat_eq, if◌then◌else◌, refl, ap, sym, subst, ◌∙◌, arith, length-append, append_assoc, take-append-drop, take_all, ltb-false}
use Rattle.std.proofs.lemmas.Bool.{ltb-true, cases_lt}
use Rattle.std.proofs.lemmas.Slice.Eq.{bytes_eq-Decides}
use Rattle.std.proofs.lemmas.List.Prefix.{end_rest}
use Rattle.std.specs.List.{ends_with, Contains}
use Rattle.std.specs.Option.{MatchOption}
use Rattle.frame_head.specs.Endings.{EndsWith, NoneEnds, IsFirstEnding, longer, longest_ending, ended_or, first_ended}

-- the test for an ending, and what it says
pub tells_ending : (s m : List ℕ) → ends_with nat_eq s m ≡ true → EndsWith s m
tells_ending s m test =
    let is : m ≡ drop (length s - length m) s = (bytes_eq-Decides m (drop (length s - length m) s)).0 test in
    (take (length s - length m) s, sym (take-append-drop (length s - length m) s) ∙ ap (λ w. take (length s - length m) s ++ w) (sym is))

pub ending_tells : (s m : List ℕ) → EndsWith s m → ends_with nat_eq s m ≡ true
ending_tells s m ends = (bytes_eq-Decides m (drop (length s - length m) s)).1 (sym (end_rest s m ends.0 ends.1))

-- the longest of some endings that a list has at its end
record IsLongest (endings : List (List ℕ)) (s ending : List ℕ) : Type 0 where
  among : Contains endings ending
  ends : EndsWith s ending
  longest : (m : List ℕ) → Contains endings m → EndsWith s m → length m ≤ length ending

head_of : (m : List ℕ) (ms : List (List ℕ)) → Contains (m ∷ ms) m
head_of m ms = (0, omega arith, refl)

tail_of : (m x : List ℕ) (ms : List (List ℕ)) → Contains ms x → Contains (m ∷ ms) x
tail_of m x ms (k, below, is) = (suc k, omega arith, is)

member_of : (m x : List ℕ) (ms : List (List ℕ)) → Contains (m ∷ ms) x → (m ≡ x) ⊎ Contains ms x
member_of m x ms (zero, below, is) = inl is
member_of m x ms (suc k, below, is) = inr (k, omega arith, is)

-- a list that has none of some endings has none of one more
none_more : (s m : List ℕ) (ms : List (List ℕ)) → (EndsWith s m → ⊥) → NoneEnds ms s → NoneEnds (m ∷ ms) s
none_more s m ms not none = λ x there ends.
    elim (member_of m x ms there) [
      | inl same ↦ not (let P : List ℕ → Type 0 = λ w. EndsWith s w in subst P (sym same) ends)
      | inr behind ↦ none x behind ends
    ]

-- the longest of some endings is the longest of one more that isn't there or isn't longer
longest_more : (s m e : List ℕ) (ms : List (List ℕ)) → (EndsWith s m → length m ≤ length e) → IsLongest ms s e → IsLongest (m ∷ ms) s e
longest_more s m e ms least is = record {
  among = tail_of m e ms is.among;
  ends = is.ends;
  longest = λ x there ends.
      elim (member_of m x ms there) [
        | inl same ↦
            let P : List ℕ → Type 0 = λ w. EndsWith s w in
            let size : length m ≡ length x = ap (λ (w : List ℕ). length w) same in
            omega (arith, least (subst P (sym same) ends), size)
        | inr behind ↦ is.longest x behind ends
      ];
}

-- an ending that is at least as long as all others is the longest
longest_here : (s m : List ℕ) (ms : List (List ℕ)) → EndsWith s m → ((x : List ℕ) → Contains ms x → EndsWith s x → length x ≤ length m) → IsLongest (m ∷ ms) s m
longest_here s m ms ends most = record {
  among = head_of m ms;
  ends = ends;
  longest = λ x there also.
      elim (member_of m x ms there) [
        | inl same ↦ let size : length m ≡ length x = ap (λ (w : List ℕ). length w) same in omega (arith, size)
        | inr behind ↦ most x behind also
      ];
}

abbrev Longest : List (List ℕ) → List ℕ → Option (List ℕ) → Type 0
Longest endings s o = MatchOption o (NoneEnds endings s) (λ e. IsLongest endings s e)

choose : (s m e : List ℕ) (ms : List (List ℕ)) (less : Bool) → nat_lt (length m) (length e) ≡ less → EndsWith s m → IsLongest ms s e → Longest (m ∷ ms) s (if less then Some e else Some m)
choose s m e ms true less ends is = longest_more s m e ms (λ _. omega (arith, ltb-true (length m) (length e) less)) is
choose s m e ms false less ends is =
    longest_here s m ms ends (λ x there also. omega (arith, is.longest x there also, ltb-false (length m) (length e) less))

longest_by : (s m : List ℕ) (ms : List (List ℕ)) (here : Bool) (o : Option (List ℕ)) → ends_with nat_eq s m ≡ here → Longest ms s o → Longest (m ∷ ms) s (if here then longer m o else o)
longest_by s m ms true None test none = longest_here s m ms (tells_ending s m test) (λ x there also. absurd (none x there also))
longest_by s m ms true (Some e) test is = choose s m e ms (nat_lt (length m) (length e)) refl (tells_ending s m test) is
longest_by s m ms false None test none =
    none_more s m ms (λ ends. let clash : true ≡ false = sym (ending_tells s m ends) ∙ test in cc clash) none
longest_by s m ms false (Some e) test is =
    longest_more s m e ms (λ ends. let clash : true ≡ false = sym (ending_tells s m ends) ∙ test in absurd (cc clash)) is

-- the longest ending is what its name says
longest_is : (endings : List (List ℕ)) (s : List ℕ) → Longest endings s (longest_ending endings s)
longest_is [] s = λ m there ends. omega (arith, there.1)
longest_is (m ∷ ms) s = longest_by s m ms (ends_with nat_eq s m) (longest_ending ms s) refl (longest_is ms s)

-- what is found in `s` behind `front`
record Found (endings : List (List ℕ)) (front s f e : List ℕ) : Type 0 where
  behind : List ℕ
  is : front ++ s ≡ f ++ behind
  more : length front < length f
  longest : IsLongest endings f e
  least : (n : ℕ) → 0 < n → length front + n < length f → NoneEnds endings (front ++ take n s)

abbrev Finds : List (List ℕ) → List ℕ → List ℕ → Option (List ℕ × List ℕ) → Type 0
Finds endings front s o = MatchOption o ((n : ℕ) → 0 < n → n ≤ length s → NoneEnds endings (front ++ take n s)) (λ p. Found endings front s p.0 p.1)

-- the fronts of `x ∷ s` behind `front`, of which the first has no ending
pass : (endings : List (List ℕ)) (front : List ℕ) (x : ℕ) (s : List ℕ) (n : ℕ) → NoneEnds endings (front ++ x ∷ []) → ((k : ℕ) → 0 < k → suc k ≡ n → NoneEnds endings ((front ++ x ∷ []) ++ take k s)) → 0 < n
    → NoneEnds endings (front ++ take n (x ∷ s))
pass endings front x s zero here later some = absurd (omega arith)
pass endings front x s (suc zero) here later some = here
pass endings front x s (suc (suc k)) here later some =
    let P : List ℕ → Type 0 = λ w. NoneEnds endings w in
    subst P (append_assoc front (x ∷ []) (take (suc k) s)) (later (suc k) (omega arith) refl)

finds_by : (endings : List (List ℕ)) (front : List ℕ) (x : ℕ) (s : List ℕ) (here : Option (List ℕ)) (later : Option (List ℕ × List ℕ)) → Longest endings (front ++ x ∷ []) here → Finds endings (front ++ x ∷ []) s later
    → Finds endings front (x ∷ s) (ended_or (front ++ x ∷ []) here later)
finds_by endings front x s (Some e) later is next = record {
  behind = s;
  is = sym (append_assoc front (x ∷ []) s);
  more = omega (arith, length-append front (x ∷ []));
  longest = is;
  least = λ n some less. absurd (omega (arith, length-append front (x ∷ [])));
}
finds_by endings front x s None None none next = λ n some within.
    pass endings front x s n none (λ k more is. next k more (omega arith)) some
finds_by endings front x s None (Some p) none next = record {
  behind = next.behind;
  is = sym (append_assoc front (x ∷ []) s) ∙ next.is;
  more = omega (arith, next.more, length-append front (x ∷ []));
  longest = next.longest;
  least = λ n some less. pass endings front x s n none (λ k more is. next.least k more (omega (arith, length-append front (x ∷ [])))) some;
}

finds : (endings : List (List ℕ)) (front s : List ℕ) → Finds endings front s (first_ended endings front s)
finds endings front [] = λ n some within. absurd (omega arith)
finds endings front (x ∷ s) =
    finds_by endings front x s (longest_ending endings (front ++ x ∷ [])) (first_ended endings (front ++ x ∷ []) s) (longest_is endings (front ++ x ∷ [])) (finds endings (front ++ x ∷ []) s)

-- no bytes have an ending that isn't empty
none_empty : (endings : List (List ℕ)) → ((m : List ℕ) → Contains endings m → 0 < length m) → NoneEnds endings []
none_empty endings some = λ m there ends. omega (arith, some m there, ap (λ (w : List ℕ). length w) ends.1, length-append ends.0 m)

-- a front of any size, from those that have a byte and aren't longer than the list
each_front : (endings : List (List ℕ)) (s : List ℕ) (n : ℕ) → ((m : List ℕ) → Contains endings m → 0 < length m) → ((k : ℕ) → 0 < k → k ≤ length s → k ≤ n → NoneEnds endings (take k s)) → NoneEnds endings (take n s)
each_front endings s zero some each = none_empty endings some
each_front endings [] (suc n) some each = none_empty endings some
each_front endings (x ∷ s) (suc n) some each =
    elim (cases_lt (length (x ∷ s)) (suc n)) [
      | inr within ↦ each (suc n) (omega arith) within (omega arith)
      | inl more ↦
          let P : List ℕ → Type 0 = λ w. NoneEnds endings w in
          let same : take (length (x ∷ s)) (x ∷ s) ≡ take (suc n) (x ∷ s) = take_all (length (x ∷ s)) (x ∷ s) (omega arith) ∙ sym (take_all (suc n) (x ∷ s) (omega arith)) in
          subst P same (each (length (x ∷ s)) (omega arith) (omega arith) (omega arith))
    ]

first_by : (endings : List (List ℕ)) (s : List ℕ) (o : Option (List ℕ × List ℕ)) → ((m : List ℕ) → Contains endings m → 0 < length m) → Finds endings [] s o
    → MatchOption o ((n : ℕ) → NoneEnds endings (take n s)) (λ p. IsFirstEnding endings s p.0 p.1)
first_by endings s None some none = λ n. each_front endings s n some (λ k more within _. none k more within)
first_by endings s (Some p) some found = record {
  is_front = (found.behind, found.is);
  among = found.longest.among;
  ends = found.longest.ends;
  longest = found.longest.longest;
  least = λ n less. each_front endings s n some (λ k more within below. found.least k more (omega arith));
}

pub first_ending : (endings : List (List ℕ)) → ((m : List ℕ) → Contains endings m → 0 < length m) → (s : List ℕ)
    → MatchOption (first_ended endings [] s) ((n : ℕ) → NoneEnds endings (take n s)) (λ p. IsFirstEnding endings s p.0 p.1)
first_ending endings some s = first_by endings s (first_ended endings [] s) some (finds endings [] s)
