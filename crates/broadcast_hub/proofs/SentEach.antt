-- Batches that are sent one after another, to the last subscription first.
use Rattle.std.proofs.Common.{◌≡◌, ℕ, zero, suc, ◌+◌, ◌<◌, ◌≤◌, Bool, true, false, if◌then◌else◌, List, [], ◌∷◌, ◌++◌, length, take, drop, Option, Some, None, refl, sym, ap, subst, ◌∙◌, append_assoc, append-nil, length-append, arith, slice_index_or, slice_set}
use Rattle.std.proofs.lemmas.List.{length-set, get_or-set_other, drop_more, drop-set, take_all, drop_all}
use Rattle.iobuf_chain.specs.Lists.{Each}
use Rattle.iobuf_chain.proofs.Copied.{each_before, each_map}
use Rattle.frame_batch.specs.Batches.{Batched, room_of}
use Rattle.broadcast_hub.specs.Hubs.{Kept, is_live, live_in}
use Rattle.broadcast_hub.specs.Publishing.{HasRoomIfLive}
use Rattle.broadcast_hub.specs.Sending.{IsSent, AreSent, batches_in, SendsEach, SendsFrom, IsNextSent}
use Rattle.broadcast_hub.proofs.Places.{by_bool, how_many_more}

abbrev one_if : Bool → ℕ
one_if b = if b then 1 else 0

each_at : (P : Kept → Type 0) (xs : List Kept) (k : ℕ) (d : Kept) → Each P xs → k < length xs → P (slice_index_or xs k d)
each_at P [] k d all there = absurd (omega (arith, there))
each_at P (x ∷ xs) zero d all there = all.0
each_at P (x ∷ xs) (suc k) d all there = each_at P xs k d all.1 (omega (arith, there))

first_batch : (o : Option Batched) (os : List (Option Batched)) → batches_in (o ∷ os) ≡ batches_in (o ∷ []) ++ batches_in os
first_batch None os = refl
first_batch (Some b) os = refl

-- one batch for who is live, none for another
counts : (o : Option Batched) (s t : Kept) → IsSent o s t → length (batches_in (o ∷ [])) ≡ one_if (is_live s.standing)
counts None s t is = sym (ap one_if is.0)
counts (Some b) s t is = sym (ap one_if is.0)

pub sends_begin : (bs : List Batched) (ss : List Kept) → live_in ss ≡ length bs → SendsFrom (length ss) bs bs ss ss
sends_begin bs ss count = record {
  places = refl;
  sent = [];
  parts = sym (append-nil bs);
  behind_is = (let P : List Kept → Type 0 = λ xs. SendsEach [] xs xs in subst P (sym (drop_all (length ss) ss (omega arith))) record { parts = []; sent = tt; batches = refl });
  rest = λ k d below. refl;
  count = ap live_in (take_all (length ss) ss (omega arith)) ∙ count;
}

pub sends_some : (p : ℕ) (all left : List Batched) (old now : List Kept) (d : Kept) → SendsFrom (p + 1) all left old now → p < length old
    → is_live (slice_index_or now p d).standing ≡ true → 0 < length left
sends_some p all left old now d f there live =
    let more = how_many_more is_live p old d there in
    let count = f.count in
    let one : one_if (is_live (slice_index_or old p d).standing) ≡ 1 = ap one_if (ap (λ (s : Kept). is_live s.standing) (sym (f.rest p d (omega arith))) ∙ live) in
    omega (arith, more, count, one)

pub sends_room : (n p : ℕ) (all left : List Batched) (old now : List Kept) (d : Kept) → SendsFrom (p + 1) all left old now → p < length old
    → Each (λ b. room_of b ≡ n) all → Each (HasRoomIfLive n) old → Each (λ b. HasRoomIfLive (room_of b) (slice_index_or now p d)) left
sends_room n p all left old now d f there sizes rooms =
    let P : List Batched → Type 0 = λ bs. Each (λ b. room_of b ≡ n) bs in
    let Q : Kept → Type 0 = λ s. HasRoomIfLive n s in
    let room = subst Q (sym (f.rest p d (omega arith))) (each_at (HasRoomIfLive n) old p d rooms there) in
    each_map (λ b. room_of b ≡ n) (λ b. HasRoomIfLive (room_of b) (slice_index_or now p d)) left
    (λ b is. let S : ℕ → Type 0 = λ m. HasRoomIfLive m (slice_index_or now p d) in subst S (sym is) room)
    (each_before (λ b. room_of b ≡ n) left f.sent (subst P f.parts sizes))

pub sends_step : (p : ℕ) (all left fewer : List Batched) (old now : List Kept) (y d : Kept) → SendsFrom (p + 1) all left old now → p < length old
    → IsNextSent left fewer (slice_index_or now p d) y → SendsFrom p all fewer old (slice_set now p y)
sends_step p all left fewer old now y d f there next =
    let size = f.places in
    let within : p < length now = omega (arith, size, there) in
    let was : slice_index_or now p d ≡ slice_index_or old p d = f.rest p d (omega arith) in
    let one : IsSent next.part (slice_index_or old p d) y = (let P : Kept → Type 0 = λ s. IsSent next.part s y in subst P was next.sent) in
    let more = how_many_more is_live p old d there in
    let count = f.count in
    let single = counts next.part (slice_index_or old p d) y one in
    let sum = ap length next.batches ∙ length-append fewer (batches_in (next.part ∷ [])) in
    record {
      places = length-set now p y ∙ f.places;
      sent = batches_in (next.part ∷ []) ++ f.sent;
      parts = f.parts ∙ ap (λ bs. bs ++ f.sent) next.batches ∙ append_assoc fewer (batches_in (next.part ∷ [])) f.sent;
      behind_is =
          let P : List Kept → Type 0 = λ xs. SendsEach (batches_in (next.part ∷ []) ++ f.sent) xs (drop p (slice_set now p y)) in
          let Q : List Kept → Type 0 = λ ys. SendsEach (batches_in (next.part ∷ []) ++ f.sent) (slice_index_or old p d ∷ drop (p + 1) old) ys in
          subst P (sym (drop_more old p d there)) (subst Q (sym (drop-set now p y within)) record {
            parts = next.part ∷ f.behind_is.parts;
            sent = (one, f.behind_is.sent);
            batches = first_batch next.part f.behind_is.parts ∙ ap (λ bs. batches_in (next.part ∷ []) ++ bs) f.behind_is.batches;
          });
      rest = λ k e below. get_or-set_other now p k y e (λ is. absurd (omega (arith, below, is))) ∙ f.rest k e (omega (arith, below));
      count = omega (arith, more, count, single, sum);
    }

pub none_to_send : (all left : List Batched) (old now : List Kept) → SendsFrom 0 all left old now → left ≡ []
none_to_send all [] old now f = refl
none_to_send all (b ∷ left) old now f = let count = f.count in absurd (omega (arith, count))

pub sends_end : (all left : List Batched) (old now : List Kept) → SendsFrom 0 all left old now → SendsEach all old now
sends_end all left old now f =
    let P : List Batched → Type 0 = λ bs. SendsEach bs old now in
    subst P (sym (f.parts ∙ ap (λ bs. bs ++ f.sent) (none_to_send all left old now f))) f.behind_is
