-- A share that is given back whole, each node of it to its node.
use Rattle.std.proofs.Common.{◌≡◌, ℕ, suc, ◌+◌, ◌<◌, Bool, true, false, cond, List, [], ◌∷◌, ◌++◌, Option, Some, None, IfSome, length, slice_get, refl, sym, ap, subst, ◌∙◌, append-nil, arith, inl, inr}
use Rattle.std.specs.List.{AllZip}
use Rattle.buffer_model.specs.Share.{Share, IsWhole}
use Rattle.buffer_model.specs.Segment.{Segment, bytes_of}
use Rattle.buffer_model.specs.Stake.{Stake, Storage, held, weight_at, weight_in, total, IsHeldAt, IsOneWay, Keeps, is_at}
use Rattle.buffer_model.specs.Minted.{Numbers}
use Rattle.buffer_model.specs.Clones.{Clones}
use Rattle.buffer_model.proofs.Storages.{at_or_not}
use Rattle.buffer_model.proofs.Totals.{keeps_equal, total-append, one_way-append, one_way-front, one_way-back}
use Rattle.iobuf_chain.specs.Accounts.{held_by}
use Rattle.iobuf_chain.specs.Copies.{IsSameStorage}
use Rattle.iobuf_chain.specs.Shares.{ClonesEach, Regains, IsReturnable, AreReturnable, Rejoins, RejoinsAt, RejoinsEach}
use Rattle.iobuf_chain.specs.Many.{StayOn, KeepsTotalsBut}
use Rattle.iobuf_chain.proofs.Accounts.{held_by-append}
use Rattle.iobuf_chain.proofs.Rejoined.{unmanaged}
use Rattle.iobuf_chain.proofs.Shared.{RejoinsTo, rejoins_begin, rejoins_next, rejoins_step}

by_option : {T : Type 0} (P : Option T → Type 0) (o : Option T) → P None → ((t : T) → P (Some t)) → P o
by_option P None none some = none
by_option P (Some t) none some = some t

module _ {O : Type 0} where
  -- the next share may be given back to the next node
  pub rejoins_may : (i : ℕ) (before clones after left rest : List (Segment O)) (s : Segment O) → RejoinsTo i before clones after left
      → left ≡ s ∷ rest → IfSome (slice_get after i) (λ n. IsReturnable n.share s.share)
  rejoins_may i before clones after left rest s r front =
      let next = rejoins_next i before clones after left rest s r front in
      let P : Option (Segment O) → Type 0 = λ o. IfSome o (λ n. IsReturnable n.share s.share) in
      subst P (sym next.1) next.2

  pub rejoins_there : (i : ℕ) (before clones after left rest : List (Segment O)) (s : Segment O) → RejoinsTo i before clones after left
      → left ≡ s ∷ rest → i < length after
  rejoins_there i before clones after left rest s r front = (rejoins_next i before clones after left rest s r front).3

  -- the first share was given back
  pub rejoins_first : (before clones after rest : List (Segment O)) (s : Segment O) → AreReturnable before clones → s ∷ rest ≡ clones
      → RejoinsAt 0 before s.share after → RejoinsTo 1 before clones after rest
  rejoins_first before clones after rest s may is at =
      rejoins_step 0 before clones before after clones rest s (rejoins_begin before clones may) (sym is) at

  pub first_may : (before clones rest : List (Segment O)) (s : Segment O) → AreReturnable before clones → s ∷ rest ≡ clones
      → IfSome (slice_get before 0) (λ n. IsReturnable n.share s.share)
  first_may before clones rest s may is = rejoins_may 0 before clones before clones rest s (rejoins_begin before clones may) (sym is)

  pub first_there : (before clones rest : List (Segment O)) (s : Segment O) → AreReturnable before clones → s ∷ rest ≡ clones → 0 < length before
  first_there before clones rest s may is = rejoins_there 0 before clones before clones rest s (rejoins_begin before clones may) (sym is)

  rejoins_window : (n m : Segment O) (s : Share O) → Rejoins n s m → m.window ≡ n.window
  rejoins_window n m s (inl r) = ap (λ (t : Segment O). t.window) r.0
  rejoins_window n m s (inr r) = ap (λ (t : Segment O). t.window) r.0

  -- nodes stay as many, with the same bytes, where shares are given back to them
  pub rejoins_sum : (ns ss ms : List (Segment O)) → RejoinsEach ns ss ms → (length ms ≡ length ns) × (bytes_of ms ≡ bytes_of ns)
  rejoins_sum ns [] ms r = (ap length r, ap bytes_of r)
  rejoins_sum [] (s ∷ ss) ms r = absurd r
  rejoins_sum (n ∷ ns) (s ∷ ss) [] r = absurd r
  rejoins_sum (n ∷ ns) (s ∷ ss) (m ∷ ms) r =
      let more = rejoins_sum ns ss ms r.1 in (
        ap (λ (k : ℕ). suc k) more.0,
        ap (λ bytes. bytes ++ bytes_of ms) (rejoins_window n m s.share r.0) ∙ ap (λ bytes. n.window ++ bytes) more.1,
      )

  -- nodes that stay on their storages
  pub stay_themselves : (xs : List (Segment O)) → StayOn xs xs
  stay_themselves [] = tt
  stay_themselves (x ∷ xs) = ((refl, refl), stay_themselves xs)

  pub stay_same : (xs ys : List (Segment O)) → ys ≡ xs → StayOn xs ys
  stay_same xs ys is = let P : List (Segment O) → Type 0 = λ zs. StayOn xs zs in subst P (sym is) (stay_themselves xs)

  pub stay_then : (xs ys zs : List (Segment O)) → StayOn xs ys → StayOn ys zs → StayOn xs zs
  stay_then [] [] [] a b = tt
  stay_then (x ∷ xs) (y ∷ ys) (z ∷ zs) a b = ((b.0.0 ∙ a.0.0, b.0.1 ∙ a.0.1), stay_then xs ys zs a.1 b.1)
  stay_then [] [] (z ∷ zs) a b = absurd b
  stay_then [] (y ∷ ys) zs a b = absurd a
  stay_then (x ∷ xs) [] zs a b = absurd a
  stay_then (x ∷ xs) (y ∷ ys) [] a b = absurd b

  pub stay_from : (xs ys zs : List (Segment O)) → xs ≡ zs → StayOn xs ys → StayOn zs ys
  stay_from xs ys zs e all = let P : List (Segment O) → Type 0 = λ w. StayOn w ys in subst P e all

  rejoins_on : (n m : Segment O) (s : Share O) → Rejoins n s m → IsSameStorage m.share n.share
  rejoins_on n m s (inl r) = (ap (λ (t : Segment O). t.share.number) r.0, ap (λ (t : Segment O). t.share.table) r.0)
  rejoins_on n m s (inr r) = (ap (λ (t : Segment O). t.share.number) r.0, ap (λ (t : Segment O). t.share.table) r.0)

  pub rejoins_stay : (ns ss ms : List (Segment O)) → RejoinsEach ns ss ms → StayOn ns ms
  rejoins_stay ns [] ms r = stay_same ns ms r
  rejoins_stay [] (s ∷ ss) ms r = absurd r
  rejoins_stay (n ∷ ns) (s ∷ ss) [] r = absurd r
  rejoins_stay (n ∷ ns) (s ∷ ss) (m ∷ ms) r = (rejoins_on n m s.share r.0, rejoins_stay ns ss ms r.1)

  pub regains_stay : (xs ys : List (Segment O)) → AllZip Regains xs ys → StayOn xs ys
  regains_stay [] [] all = tt
  regains_stay [] (y ∷ ys) all = absurd all
  regains_stay (x ∷ xs) [] all = absurd all
  regains_stay (x ∷ xs) (y ∷ ys) all = ((all.0.number, all.0.table), regains_stay xs ys all.1)

  clone_stays : (old new : Numbers) (b n c : Segment O) → Clones old new b n c → IsSameStorage n.share b.share
  clone_stays old new b n c is = elim is.shares [
    | inl (same, splits) ↦ elim splits [
      | inl w ↦ (ap (λ (s : Share O). s.number) w.1, ap (λ (s : Share O). s.table) w.1)
      | inr w ↦ (ap (λ (s : Share O). s.number) w.1, ap (λ (s : Share O). s.table) w.1)
    ]
    | inr (adds, renews) ↦ (ap (λ (s : Share O). s.number) renews.1, ap (λ (s : Share O). s.table) renews.1)
  ]

  pub clones_stay : (old new : Numbers) (bs ns cs : List (Segment O)) → ClonesEach old new bs ns cs → StayOn bs ns
  clones_stay old new [] [] [] is = tt
  clones_stay old new (b ∷ bs) (n ∷ ns) (c ∷ cs) is = (clone_stays old is.0 b n c is.1, clones_stay is.0 new bs ns cs is.2)
  clones_stay old new [] [] (z ∷ cs) is = absurd is
  clones_stay old new [] (y ∷ ns) [] is = absurd is
  clones_stay old new [] (y ∷ ns) (z ∷ cs) is = absurd is
  clones_stay old new (x ∷ bs) [] [] is = absurd is
  clones_stay old new (x ∷ bs) [] (z ∷ cs) is = absurd is
  clones_stay old new (x ∷ bs) (y ∷ ns) [] is = absurd is

  -- what may be given back to a node still may while that stays on its storage
  may_still : (n m c : Share O) → IsReturnable n c → IsSameStorage m n → IsReturnable m c
  may_still n m c (inl none) on = inl none
  may_still n m c (inr (inl whole)) on = inr (inl whole)
  may_still n m c (inr (inr same)) on = inr (inr (same.0 ∙ sym on.0, same.1 ∙ sym on.1))

  pub stays_returnable : (ns ms cs : List (Segment O)) → AreReturnable ns cs → StayOn ns ms → AreReturnable ms cs
  stays_returnable [] [] [] may on = tt
  stays_returnable (n ∷ ns) (m ∷ ms) [] may on = tt
  stays_returnable (n ∷ ns) (m ∷ ms) (c ∷ cs) may on = (may_still n.share m.share c.share may.0 on.0, stays_returnable ns ms cs may.1 on.1)
  stays_returnable [] [] (c ∷ cs) may on = absurd may
  stays_returnable [] (m ∷ ms) cs may on = absurd on
  stays_returnable (n ∷ ns) [] cs may on = absurd on

  -- a hold that isn't on a storage has nothing of it
  apart_weight : (z : Storage) (s : Share O) (w : ℕ) → (IsHeldAt z s → ⊥) → weight_at z s.number s.table w ≡ 0
  apart_weight z s w other =
      by_option (λ n. n ≡ s.number → weight_at z n s.table w ≡ 0) s.number (λ e. refl)
      (λ m e. by_option (λ t. t ≡ s.table → weight_at z (Some m) t w ≡ 0) s.table (λ f. refl)
      (λ t f. elim (at_or_not z m t) [
        | inl same ↦ absurd (other (sym e ∙ ap (λ x. Some x) same.1, sym f ∙ ap (λ x. Some x) same.2))
        | inr not ↦ ap (λ (b : Bool). cond b w 0) not.0
      ]) refl) refl

  weight_sum : (z : Storage) (s : Share O) (x y : ℕ) → weight_at z s.number s.table (x + y) ≡ weight_at z s.number s.table x + weight_at z s.number s.table y
  weight_sum z s x y =
      by_option (λ n. weight_at z n s.table (x + y) ≡ weight_at z n s.table x + weight_at z n s.table y) s.number refl
      (λ m. by_option (λ t. weight_at z (Some m) t (x + y) ≡ weight_at z (Some m) t x + weight_at z (Some m) t y) s.table refl
      (λ t.
      let P : Bool → Type 0 = λ b. cond b (x + y) 0 ≡ cond b x 0 + cond b y 0 in
      elim (is_at z m t) as P [ true ↦ refl | false ↦ refl ]))

  stays_of : (z : Storage) (n m : Segment O) (s : Share O) → m ≡ n → weight_in z (held s) ≡ 0 → Keeps (held n.share ∷ held s ∷ []) (held m.share ∷ []) z
  stays_of z n m s same none =
      let P : Segment O → Type 0 = λ t. Keeps (held n.share ∷ held s ∷ []) (held t.share ∷ []) z in
      subst P (sym same) record { total = omega (arith, none); way = λ kind is. (is.0, tt) }

  -- a node and its share, before the share was given back and after
  rejoin_keeps : (z : Storage) (n m : Segment O) (s : Share O) → IsReturnable n.share s → Rejoins n s m → (IsHeldAt z s → IsWhole s → ⊥)
      → Keeps (held n.share ∷ held s ∷ []) (held m.share ∷ []) z
  rejoin_keeps z n m s may (inl (same, inl nothing)) other =
      stays_of z n m s same (ap (λ (w : ℕ). weight_at z s.number s.table w) nothing ∙ (let twice = weight_sum z s 0 0 in omega (arith, twice)))
  rejoin_keeps z n m s may (inl (same, inr whole)) other =
      stays_of z n m s same (apart_weight z s (s.weight + s.absorbed) (λ at. other at whole))
  rejoin_keeps z n m s (inl none) (inr (same, part_is, managed)) other = absurd (unmanaged s none managed)
  rejoin_keeps z n m s (inr (inl whole)) (inr (same, part_is, managed)) other = absurd (part_is whole)
  rejoin_keeps z n m s (inr (inr on)) (inr (same, part_is, managed)) other =
      let gone = s.weight + s.absorbed in
      let P : Segment O → Type 0 = λ t. Keeps (held n.share ∷ held s ∷ []) (held t.share ∷ []) z in
      let all : n.share.weight + (n.share.absorbed + gone) ≡ (n.share.weight + n.share.absorbed) + gone = omega arith in
      let moved = ap (λ (w : ℕ). weight_at z n.share.number n.share.table w) all in
      let sum = weight_sum z n.share (n.share.weight + n.share.absorbed) gone in
      let there : weight_at z s.number s.table gone ≡ weight_at z n.share.number n.share.table gone
      = ap (λ o. weight_at z o s.table gone) on.0 ∙ ap (λ o. weight_at z n.share.number o gone) on.1 in
      subst P (sym same) record { total = omega (arith, moved, sum, there); way = λ kind is. (is.0, tt) }

  -- nodes, and behind them others of which the first is a share of their first
  rejoin_more : (z : Storage) (n s m : Segment O) (ns ss ms : List (Segment O)) → Keeps (held n.share ∷ held s.share ∷ []) (held m.share ∷ []) z
      → Keeps (held_by (ns ++ ss)) (held_by ms) z → Keeps (held_by ((n ∷ ns) ++ (s ∷ ss))) (held_by (m ∷ ms)) z
  rejoin_more z n s m ns ss ms one rest = record {
    total =
        let long = ap (λ hs. total z hs) (held_by-append ns (s ∷ ss)) ∙ total-append z (held_by ns) (held_by (s ∷ ss)) in
        let short = ap (λ hs. total z hs) (held_by-append ns ss) ∙ total-append z (held_by ns) (held_by ss) in
        let first = one.total in
        let others = rest.total in
        omega (arith, long, short, first, others);
    way = λ kind is.
        let P : List (Stake O) → Type 0 = λ hs. IsOneWay z kind hs in
        let parts : IsOneWay z kind (held_by ns ++ held_by (s ∷ ss)) = subst P (held_by-append ns (s ∷ ss)) is.1 in
        let front = one_way-front z kind (held_by ns) (held_by (s ∷ ss)) parts in
        let behind = one_way-back z kind (held_by ns) (held_by (s ∷ ss)) parts in
        let both = one_way-append z kind (held_by ns) (held_by ss) front behind.1 in
        ((one.way kind (is.0, (behind.0, tt))).0, rest.way kind (subst P (sym (held_by-append ns ss)) both));
  }

  pub rejoins_keep : (ns ss ms : List (Segment O)) → AreReturnable ns ss → RejoinsEach ns ss ms → KeepsTotalsBut ss (held_by (ns ++ ss)) (held_by ms)
  rejoins_keep ns [] ms may r z none = keeps_equal _ _ (ap held_by (append-nil ns ∙ sym r)) z
  rejoins_keep [] (s ∷ ss) ms may r z none = absurd r
  rejoins_keep (n ∷ ns) (s ∷ ss) [] may r z none = absurd r
  rejoins_keep (n ∷ ns) (s ∷ ss) (m ∷ ms) may r z none =
      rejoin_more z n s m ns ss ms (rejoin_keeps z n m s.share may.0 r.0 none.0) (rejoins_keep ns ss ms may.1 r.1 z none.1)

  pub rejoins_keep_from : (xs ns ts ss ms : List (Segment O)) → ns ≡ xs → ss ≡ ts → AreReturnable xs ts → RejoinsEach ns ss ms
      → KeepsTotalsBut ts (held_by (xs ++ ts)) (held_by ms)
  rejoins_keep_from xs ns ts ss ms e f may r =
      let P : List (Segment O) → Type 0 = λ w. RejoinsEach w ss ms in
      let Q : List (Segment O) → Type 0 = λ w. RejoinsEach xs w ms in
      rejoins_keep xs ts ms may (subst Q f (subst P e r))
