-- A look, and then a publication by what is known.
use Rattle.std.proofs.Common.{◌≡◌, ◌⊎◌, ℕ, zero, suc, ◌+◌, ◌<◌, ◌≤◌, Bool, List, [], ◌∷◌, ◌++◌, length, take, drop, refl, sym, ap, subst, ◌∙◌, arith, inl, inr}
use Rattle.std.specs.List.{AllZip}
use Rattle.buffer_model.specs.Segment.{Segment}
use Rattle.storage.specs.declared.release.NoOwner.{NoOwner}
use Rattle.sub_queue.specs.declared.items.Item.TheVariants.{One}
use Rattle.sub_queue.specs.Ends.{Fed}
use Rattle.sub_queue.specs.Sizes.{Looked, HasRoom}
use Rattle.frame_batch.specs.Batches.{Batched, room_of}
use Rattle.broadcast_hub.specs.declared.subscription.Standing.{Standing}
use Rattle.broadcast_hub.specs.declared.subscription.Standing.TheVariants.{Live, Leaving, Gone}
use Rattle.broadcast_hub.specs.Hubs.{Kept, Hubbed, is_live, live_in}
use Rattle.broadcast_hub.specs.Publishing.{Sends, SendsAs, Publishes, Looks, LooksAs, ReturnsCome, nodes_of, nodes_sent}
use Rattle.broadcast_hub.specs.declared.answers.PubFault.{PubFault}
use Rattle.broadcast_hub.specs.declared.answers.Published.{Published}
use Rattle.storage.specs.declared.back.Back.{Back}
use Rattle.std.specs.Prelude.{Option, Some, None, Result, Ok, Err, IfOk}

-- a look leaves how a subscription stands and what it was sent
stand_look : (s t : Kept) (x : Standing) → LooksAs x s t → (t.standing ≡ s.standing) × (t.feed.sent ≡ s.feed.sent)
stand_look s t Live (inl same) = (ap (λ (z : Kept). z.standing) same, ap (λ (z : Kept). z.feed.sent) same)
stand_look s t Live (inr h) = (ap (λ (z : Kept). z.standing) h.0, ap (λ (f : Fed Batched). f.sent) h.1.0)
stand_look s t (Leaving n e) same = (ap (λ (z : Kept). z.standing) same, ap (λ (z : Kept). z.feed.sent) same)
stand_look s t (Gone n e) same = (ap (λ (z : Kept). z.standing) same, ap (λ (z : Kept). z.feed.sent) same)

pub live_looked : (ss ts : List Kept) → AllZip Looks ss ts → live_in ts ≡ live_in ss
live_looked [] [] all = refl
live_looked [] (t ∷ ts) all = absurd all
live_looked (s ∷ ss) [] all = absurd all
live_looked (s ∷ ss) (t ∷ ts) all =
    let more = live_looked ss ts all.1 in
    let one = ap (λ (x : Standing). live_in (record s { standing = x } ∷ [])) (stand_look s t s.standing all.0).0 in
    omega (arith, more, one)

pub nodes_looked : (ss ts us : List Kept) → AllZip Looks ss ts → nodes_sent ts us ≡ nodes_sent ss us
nodes_looked [] [] us all = refl
nodes_looked [] (t ∷ ts) us all = absurd all
nodes_looked (s ∷ ss) [] us all = absurd all
nodes_looked (s ∷ ss) (t ∷ ts) [] all = refl
nodes_looked (s ∷ ss) (t ∷ ts) (u ∷ us) all =
    ap (λ (n : ℕ). nodes_of (drop n u.feed.sent) ++ nodes_sent ts us) (ap length (stand_look s t s.standing all.0).1)
    ∙ ap (λ (ns : List (Segment NoOwner)). nodes_of (drop (length s.feed.sent) u.feed.sent) ++ ns) (nodes_looked ss ts us all.1)

sends_learned : (xs : List (List ℕ)) (f : Fed Batched) (s u : Kept) → Looked s.feed f → SendsAs Live xs (record s { feed = f }) u → SendsAs Live xs s u
sends_learned xs f s u l h = record {
  batch = h.batch;
  frames_are = h.frames_are;
  sent = (
    h.sent.0 ∙ (λ i. record { line = ap (λ (g : Fed Batched). g.line) l.0 i; cap = ap (λ (g : Fed Batched). g.cap) l.0 i; sent = ap (λ (g : Fed Batched). g.sent ++ One h.batch ∷ []) l.0 i; known = u.feed.known }),
    (let a = l.1 in let b = h.sent.1 in omega (arith, a, b)),
    (let a = h.sent.2 in let same = ap (λ (g : Fed Batched). length g.sent) l.0 in omega (arith, a, same)),
  );
  rest = h.rest;
  room = (let P : Fed Batched → Type 0 = λ g. HasRoom room_of (length xs) (record g { known = u.feed.known }) in subst P l.0 h.room);
}

sends_looked : (xs : List (List ℕ)) (s t u : Kept) → Looks s t → Sends xs t u → Sends xs s u
sends_looked xs s t u l h = go s.standing refl l
  where
    same : t ≡ s → Sends xs s u
    same is = let P : Kept → Type 0 = λ z. Sends xs z u in subst P is h

    go : (x : Standing) → x ≡ s.standing → LooksAs x s t → Sends xs s u
    go (Leaving n e) is m = same m
    go (Gone n e) is m = same m
    go Live is (inl m) = same m
    go Live is (inr m) =
        let P : Kept → Type 0 = λ z. Sends xs z u in
        let Q : Standing → Type 0 = λ x. SendsAs x xs (record s { feed = t.feed }) u in
        let R : Standing → Type 0 = λ x. SendsAs x xs s u in
        subst R is (sends_learned xs t.feed s u m.1 (subst Q (sym is) (subst P m.0 h)))

all_looked : (xs : List (List ℕ)) (ss ts us : List Kept) → AllZip Looks ss ts → AllZip (Sends xs) ts us → AllZip (Sends xs) ss us
all_looked xs [] [] [] l h = tt
all_looked xs [] [] (u ∷ us) l h = absurd h
all_looked xs [] (t ∷ ts) us l h = absurd l
all_looked xs (s ∷ ss) [] us l h = absurd l
all_looked xs (s ∷ ss) (t ∷ ts) [] l h = absurd h
all_looked xs (s ∷ ss) (t ∷ ts) (u ∷ us) l h = (sends_looked xs s t u l.0 h.0, all_looked xs ss ts us l.1 h.1)

pub publishes_looked : (n : ℕ) (xs : List (List ℕ)) (a b c : Hubbed) → AllZip Looks a.kept b.kept → b ≡ record a { kept = b.kept } → (length xs ≡ 0 → b ≡ a)
    → (0 < length xs → 0 < n) → Publishes (take n xs) b c → Publishes (take n xs) a c
publishes_looked zero [] a b c l is none some h = h ∙ none refl
publishes_looked (suc n) [] a b c l is none some h = h ∙ none refl
publishes_looked zero (x ∷ xs) a b c l is none some h = absurd (let e = some (omega arith) in omega (arith, e))
publishes_looked (suc n) (x ∷ xs) a b c l is none some h = (
  h.0 ∙ (λ i. record {
    published = ap (λ (z : Hubbed). z.published + length (x ∷ take n xs)) is i;
    closed = ap (λ (z : Hubbed). z.closed) is i;
    next = ap (λ (z : Hubbed). z.next) is i;
    kept = c.kept;
  }),
  all_looked (x ∷ take n xs) a.kept b.kept c.kept l h.1,
)

pub publishes_looked_if : (r : Result Published PubFault) (batch : Batched) (a b c : Hubbed) → AllZip Looks a.kept b.kept → b ≡ record a { kept = b.kept }
    → (length batch.frames ≡ 0 → b ≡ a) → IfOk r (λ p. 0 < length batch.frames → 0 < p.count) → IfOk r (λ p. Publishes (take p.count batch.frames) b c)
    → IfOk r (λ p. Publishes (take p.count batch.frames) a c)
publishes_looked_if (Ok p) batch a b c l is none some h = publishes_looked p.count batch.frames a b c l is none some h
publishes_looked_if (Err f) batch a b c l is none some h = tt

pub returns_looked_if : (r : Result Published PubFault) (batch : Batched) (ts ss : List Kept) → live_in ts ≡ live_in ss → IfOk r (λ p. ReturnsCome ts batch p.returns)
    → IfOk r (λ p. ReturnsCome ss batch p.returns)
returns_looked_if (Ok p) batch ts ss same h = come p.returns h
  where
    come : (o : Option (List (Back NoOwner))) → ReturnsCome ts batch o → ReturnsCome ss batch o
    come None h = (let some = h.0 in omega (arith, some, same), h.1)
    come (Some backs) (inl none) = inl (sym same ∙ none)
    come (Some backs) (inr empty) = inr empty
returns_looked_if (Err f) batch ts ss same h = tt
