-- A frame that passes stages, one after another.
use Rattle.std.proofs.Common.{◌≡◌, ℕ, ◌+◌, ◌≤◌, List, [], ◌∷◌, ◌++◌, Some, length, refl, sym, ap, subst, ◌∙◌, append_assoc, arith, length-append, slice_get, slice_set}
use Rattle.std.proofs.lemmas.List.{append-nil}
use Rattle.iobuf_chain.specs.Lists.{Each}
use Rattle.iobuf_chain.proofs.Lists.{at_seam}
use Rattle.iobuf_chain.proofs.Copied.{each_behind}
use Rattle.pipeline.specs.Plain.{Said, pass, skip, fail}
use Rattle.pipeline.specs.Meanings.{Meaning, answer, says, later, then_says, later_all, then_later, RefusesAt}
use Rattle.pipeline.proofs.Meanings.{answers_join, states_join, length-later_all}

-- so many first stages passed a frame of the bytes x on, and it has the bytes y
pub record Passes (all : List Meaning) (x : List ℕ) (i : ℕ) (now : List Meaning) (y : List ℕ) : Type 0 where
  pub done : List Meaning
  pub rest : List Meaning
  pub all_is : all ≡ done ++ rest
  pub count : length done ≡ i
  pub passed : answer done x ≡ pass y
  pub now_is : now ≡ later_all done x ++ rest

pub passes_none : (all : List Meaning) (x : List ℕ) → Passes all x 0 all x
passes_none all x = record { done = []; rest = all; all_is = refl; count = refl; passed = refl; now_is = refl }

-- what the stage after them is
record Next (all : List Meaning) (x : List ℕ) (now : List Meaning) (m k : Meaning) (i : ℕ) : Type 0 where
  pub done : List Meaning
  pub rest : List Meaning
  pub all_is : all ≡ done ++ (m ∷ rest)
  pub count : length done ≡ i
  pub now_is : now ≡ later_all done x ++ (m ∷ rest)
  pub set_is : slice_set now i k ≡ later_all done x ++ (k ∷ rest)

next_of : (all : List Meaning) (x : List ℕ) (i : ℕ) (now : List Meaning) (y : List ℕ) (m k : Meaning) → Passes all x i now y
    → slice_get now i ≡ Some m
    → (n : Next all x now m k i) × (answer n.done x ≡ pass y)
next_of all x i now y m k is there =
    let size : length (later_all is.done x) ≡ i = length-later_all is.done x ∙ is.count in
    let P : ℕ → Type 0 = λ (j : ℕ). slice_get (later_all is.done x ++ is.rest) j ≡ Some m in
    let at = at_seam (later_all is.done x) is.rest m k (subst P (sym size) (ap (λ ms. slice_get ms i) (sym is.now_is) ∙ there)) in (
      record {
        done = is.done;
        rest = at.0;
        all_is = is.all_is ∙ ap (λ ms. is.done ++ ms) at.1;
        count = is.count;
        now_is = is.now_is ∙ ap (λ ms. later_all is.done x ++ ms) at.1;
        set_is =
            ap (λ ms. slice_set ms i k) is.now_is ∙ ap (λ (j : ℕ). slice_set (later_all is.done x ++ is.rest) j k) (sym size) ∙ at.2;
      },
      is.passed,
    )

-- one more stage passes it on
pub passes_more : (all : List Meaning) (x : List ℕ) (i : ℕ) (now new : List Meaning) (y z : List ℕ) (m k : Meaning) → Passes all x i now y
    → slice_get now i ≡ Some m → pass z ≡ says m y → k ≡ later m y → new ≡ slice_set now i k → Passes all x (i + 1) new z
passes_more all x i now new y z m k is there said is_later set =
    let both = next_of all x i now y m k is there in
    let n = both.0 in
    let one : answer (m ∷ []) y ≡ pass z = ap (λ s. then_says s (answer [])) (sym said) in
    let last : later_all (m ∷ []) y ≡ k ∷ [] = ap (λ s. later m y ∷ then_later s (later_all []) []) (sym said) ∙ ap (λ j. j ∷ []) (sym is_later) in
    record {
      done = n.done ++ m ∷ [];
      rest = n.rest;
      all_is = n.all_is ∙ sym (append_assoc n.done (m ∷ []) n.rest);
      count = length-append n.done (m ∷ []) ∙ (let c = n.count in omega (arith, c));
      passed = answers_join n.done (m ∷ []) x ∙ ap (λ s. then_says s (answer (m ∷ []))) both.1 ∙ one;
      now_is =
          set ∙ n.set_is
          ∙ sym (append_assoc (later_all n.done x) (k ∷ []) n.rest)
          ∙ ap (λ ms. (later_all n.done x ++ ms) ++ n.rest) (sym last)
          ∙ ap (λ ms. ms ++ n.rest) (sym (states_join n.done (m ∷ []) x
          ∙ ap (λ s. later_all n.done x ++ then_later s (later_all (m ∷ [])) (m ∷ [])) both.1));
    }

-- what holds of each stage holds of the one after them
pub passes_each : (P : Meaning → Type 0) (all : List Meaning) (x : List ℕ) (i : ℕ) (now : List Meaning) (y : List ℕ) (m : Meaning) → Passes all x i now y
    → slice_get now i ≡ Some m → Each P all → P m
passes_each P all x i now y m is there each =
    let n = (next_of all x i now y m m is there).0 in
    let Q : List Meaning → Type 0 = λ ms. Each P ms in
    (each_behind P n.done (m ∷ n.rest) (subst Q n.all_is each)).0

-- a stage ends it
ends_in : (s : Said) (behind : List ℕ → Said) → ((z : List ℕ) → s ≡ pass z → ⊥) → then_says s behind ≡ s
ends_in (pass z) behind ends = absurd (ends z refl)
ends_in (skip z) behind ends = refl
ends_in (fail n z) behind ends = refl

stays_in : (s : Said) (behind : List ℕ → List Meaning) (stay : List Meaning) → ((z : List ℕ) → s ≡ pass z → ⊥) → then_later s behind stay ≡ stay
stays_in (pass z) behind stay ends = absurd (ends z refl)
stays_in (skip z) behind stay ends = refl
stays_in (fail n z) behind stay ends = refl

pub passes_end : (all : List Meaning) (x : List ℕ) (i : ℕ) (now new : List Meaning) (y : List ℕ) (m k : Meaning) (s : Said) → Passes all x i now y
    → slice_get now i ≡ Some m → s ≡ says m y → ((z : List ℕ) → s ≡ pass z → ⊥) → k ≡ later m y → new ≡ slice_set now i k
    → (s ≡ answer all x) × (new ≡ later_all all x)
passes_end all x i now new y m k s is there said ends is_later set =
    let both = next_of all x i now y m k is there in
    let n = both.0 in
    let ends' : (z : List ℕ) → says m y ≡ pass z → ⊥ = λ z e. ends z (said ∙ e) in (
      sym (ap (λ ms. answer ms x) n.all_is ∙ answers_join n.done (m ∷ n.rest) x
          ∙ ap (λ t. then_says t (answer (m ∷ n.rest))) both.1
          ∙ ends_in (says m y) (answer n.rest) ends' ∙ sym said),
      set ∙ n.set_is
          ∙ sym (ap (λ ms. later_all ms x) n.all_is ∙ states_join n.done (m ∷ n.rest) x
          ∙ ap (λ t. later_all n.done x ++ then_later t (later_all (m ∷ n.rest)) (m ∷ n.rest)) both.1
          ∙ ap (λ ms. later_all n.done x ++ (later m y ∷ ms)) (stays_in (says m y) (later_all n.rest) n.rest ends')
          ∙ ap (λ j. later_all n.done x ++ (j ∷ n.rest)) (sym is_later)),
    )

no_more : {X : Type 0} (xs : List X) → length xs ≤ 0 → xs ≡ []
no_more [] h = refl
no_more (x ∷ xs) h = absurd (omega arith)

-- all stages passed it on
pub passes_all : (all : List Meaning) (x : List ℕ) (i : ℕ) (now : List Meaning) (y : List ℕ) → Passes all x i now y → length all ≤ i
    → (pass y ≡ answer all x) × (now ≡ later_all all x)
passes_all all x i now y is le =
    let size = ap length is.all_is ∙ length-append is.done is.rest in
    let none : is.rest ≡ [] = no_more is.rest (let c = is.count in omega (arith, size, c, le)) in
    let whole : all ≡ is.done = is.all_is ∙ ap (λ ms. is.done ++ ms) none ∙ append-nil is.done in (
      sym is.passed ∙ ap (λ ms. answer ms x) (sym whole),
      is.now_is ∙ ap (λ ms. later_all is.done x ++ ms) none ∙ append-nil (later_all is.done x) ∙ ap (λ ms. later_all ms x) (sym whole),
    )

-- memory is refused at the next
pub passes_refused : (all : List Meaning) (x : List ℕ) (i : ℕ) (now new : List Meaning) (y left : List ℕ) (m k : Meaning) → Passes all x i now y
    → slice_get now i ≡ Some m → left ≡ y → k ≡ m → new ≡ slice_set now i k → RefusesAt all new x left
passes_refused all x i now new y left m k is there same stays set =
    let both = next_of all x i now y m k is there in
    let n = both.0 in
    record {
      done = n.done;
      rest = m ∷ n.rest;
      before_is = n.all_is;
      some = omega arith;
      passed = both.1 ∙ ap (λ z. pass z) (sym same);
      after_is = set ∙ n.set_is ∙ ap (λ j. later_all n.done x ++ (j ∷ n.rest)) stays;
    }
