-- Who is full after a publication.
use Rattle.std.proofs.Common.{◌≡◌, ℕ, zero, suc, ◌+◌, ◌<◌, ◌≤◌, Bool, true, false, List, [], ◌∷◌, ◌++◌, length, drop, Option, Some, None, refl, sym, ap, subst, ◌∙◌, arith, slice_index_or}
use Rattle.iobuf_chain.specs.Lists.{Each}
use Rattle.sub_queue.specs.declared.items.Item.{Item}
use Rattle.sub_queue.specs.declared.items.Item.TheVariants.{One, Ended}
use Rattle.sub_queue.specs.Ends.{Fed}
use Rattle.sub_queue.specs.Sizes.{behind, weight_of}
use Rattle.frame_batch.specs.Batches.{Batched, room_of}
use Rattle.broadcast_hub.specs.Hubs.{Kept, is_live}
use Rattle.broadcast_hub.specs.Publishing.{HasRoomIfLive, SomeIsFull}
use Rattle.broadcast_hub.specs.Sending.{IsLeastAt, IsSent, AreSent, batches_in, SendsEach}
use Rattle.broadcast_hub.proofs.Outcome.{not_both, first_full, sent_length}

weight_push : (known : ℕ) (items : List (Item Batched)) (b : Batched) → known ≤ length items
    → weight_of room_of (drop known (items ++ One b ∷ [])) ≡ weight_of room_of (drop known items) + room_of b
weight_push zero [] b most = omega arith
weight_push zero (x ∷ xs) b most = let more = weight_push zero xs b (omega arith) in omega (arith, more)
weight_push (suc n) [] b most = absurd (omega (arith, most))
weight_push (suc n) (x ∷ xs) b most = weight_push n xs b (omega (arith, most))

-- a live one has so much more behind what is known, and else is as it was
pub record Filled (n : ℕ) (s t : Kept) : Type 0 where
  pub behind_is : is_live s.standing ≡ true → behind room_of t.feed ≡ behind room_of s.feed + n
  pub cap : t.feed.cap ≡ s.feed.cap
  pub live : is_live t.standing ≡ is_live s.standing
  pub id : t.id ≡ s.id

fills : (n : ℕ) (o : Option Batched) (s t : Kept) → IsSent o s t → Each (λ b. room_of b ≡ n) (batches_in (o ∷ [])) → Filled n s t
fills n None s t is sizes = record {
  behind_is = λ alive. absurd (not_both (is_live s.standing) alive is.0);
  cap = ap (λ (z : Kept). z.feed.cap) is.1;
  live = ap (λ (z : Kept). is_live z.standing) is.1;
  id = ap (λ (z : Kept). z.id) is.1;
}
fills n (Some b) s t is sizes = record {
  behind_is = λ alive.
      let whole = ap (λ (f : Fed Batched). weight_of room_of (drop f.known f.sent)) is.2.0 in
      let known = ap (λ (k : ℕ). weight_of room_of (drop k (s.feed.sent ++ One b ∷ []))) is.3 in
      let same = is.3 in
      let most = is.2.2 in
      let more = weight_push s.feed.known s.feed.sent b (omega (arith, same, most)) in
      let size = sizes.0 in
      omega (arith, whole, known, more, size);
  cap = ap (λ (f : Fed Batched). f.cap) is.2.0;
  live = ap (λ (z : Kept). is_live z.standing) is.1;
  id = ap (λ (z : Kept). z.id) is.1;
}

filled_at : (n : ℕ) (os : List (Option Batched)) (ss ts : List Kept) → AreSent os ss ts → Each (λ b. room_of b ≡ n) (batches_in os)
    → (k : ℕ) (d : Kept) → k < length ss → Filled n (slice_index_or ss k d) (slice_index_or ts k d)
filled_at n [] [] [] sent sizes k d there = absurd (omega (arith, there))
filled_at n (None ∷ os) (s ∷ ss) (t ∷ ts) sent sizes zero d there = fills n None s t sent.0 tt
filled_at n (Some b ∷ os) (s ∷ ss) (t ∷ ts) sent sizes zero d there = fills n (Some b) s t sent.0 (sizes.0, tt)
filled_at n (None ∷ os) (s ∷ ss) (t ∷ ts) sent sizes (suc k) d there = filled_at n os ss ts sent.1 sizes k d (omega (arith, there))
filled_at n (Some b ∷ os) (s ∷ ss) (t ∷ ts) sent sizes (suc k) d there = filled_at n os ss ts sent.1 sizes.1 k d (omega (arith, there))
filled_at n [] [] (t ∷ ts) sent sizes k d there = absurd sent
filled_at n [] (s ∷ ss) ts sent sizes k d there = absurd sent
filled_at n (o ∷ os) [] ts sent sizes k d there = absurd sent
filled_at n (o ∷ os) (s ∷ ss) [] sent sizes k d there = absurd sent

-- who had room for just what was sent has none for a frame more
pub fills_first : (n id : ℕ) (bs : List Batched) (ss ts : List Kept) → IsLeastAt n id ss (length ss) → SendsEach bs ss ts → Each (λ b. room_of b ≡ n) bs
    → SomeIsFull ts
fills_first n id bs ss ts l sent sizes =
    let P : List Batched → Type 0 = λ cs. Each (λ b. room_of b ≡ n) cs in
    let each = filled_at n sent.parts ss ts sent.sent (subst P (sym sent.batches) sizes) in
    let size = sent_length sent.parts ss ts sent.sent in
    let within = l.within in
    let there : l.before < length ss = omega (arith, within) in
    record {
      id = id;
      first = first_full 0 id (length ts) ts (omega arith) record {
        before = l.before;
        within = omega (arith, within, size);
        id_is = λ d. (each l.before d there).id ∙ l.id_is d;
        live = λ d. (each l.before d there).live ∙ l.live d;
        just = λ d. (let f = each l.before d there in let grown = f.behind_is (l.live d) in let cap = f.cap in let just = l.just d in omega (arith, grown, cap, just));
        rooms = λ k d below alive. (let f = each k d (omega (arith, below, there)) in
            let was = sym f.live ∙ alive in
            let grown = f.behind_is was in let cap = f.cap in let room = l.rooms k d below was in omega (arith, grown, cap, room));
      };
    }
