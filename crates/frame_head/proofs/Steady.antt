-- Codecs whose heads stay, and what follows for the units of joined streams.
use Rattle.std.proofs.Common.{◌≡◌, ℕ, zero, suc, ◌+◌, ◌-◌, ◌<◌, ◌≤◌, List, [], ◌∷◌, ◌++◌, length, drop, refl, ap, sym, ◌∙◌, arith, length-append, length-drop, drop-drop}
use Rattle.frame_head.specs.declared.codecs.Codec.{Codec}
use Rattle.frame_head.specs.Heads.{Head, More, Whole, Bad, UsesAtLeast, FrameAt, FaultAt}
use Rattle.frame_head.specs.Codecs.{head}
use Rattle.frame_head.specs.Units.{unit_and, units_from, left_by, rest_after, overrun_by, overrun_after}
use Rattle.frame_head.proofs.Lists.{drop_both}

-- what the laws on units need to know of a codec
pub record Steady (c : Codec) : Type 0 where
  pub stable : (s r : List ℕ) → (head c s ≡ More → ⊥) → head c (s ++ r) ≡ head c s
  pub advances : (s : List ℕ) → UsesAtLeast 1 (head c s)
  pub opens : head c [] ≡ More

-- what so many units at most are is the same for two numbers
pub record Same (c : Codec) (n m at : ℕ) (s : List ℕ) : Type 0 where
  pub units : units_from c n at s ≡ units_from c m at s
  pub rest : rest_after c n s ≡ rest_after c m s
  pub overrun : overrun_after c n s ≡ overrun_after c m s

pub record SameBy (c : Codec) (n m at : ℕ) (s : List ℕ) (h : Head) : Type 0 where
  pub units : unit_and at h (λ u. units_from c n (at + u) (drop u s)) ≡ unit_and at h (λ u. units_from c m (at + u) (drop u s))
  pub rest : left_by s h (λ u. rest_after c n (drop u s)) ≡ left_by s h (λ u. rest_after c m (drop u s))
  pub overrun : overrun_by s h (λ u. overrun_after c n (drop u s)) ≡ overrun_by s h (λ u. overrun_after c m (drop u s))

same_by : (c : Codec) (n m at : ℕ) (s : List ℕ) (h : Head) → UsesAtLeast 1 h → ((u : ℕ) → 0 < u → Same c n m (at + u) (drop u s)) → SameBy c n m at s h
same_by c n m at s More some more = record { units = refl; rest = refl; overrun = refl }
same_by c n m at s (Whole bytes used) some more =
    let e : Same c n m (at + used) (drop used s) = more used some in
    record { units = ap (λ w. FrameAt at bytes ∷ w) e.units; rest = e.rest; overrun = ap (λ w. (used - length s) + w) e.overrun }
same_by c n m at s (Bad kind used) some more =
    let e : Same c n m (at + used) (drop used s) = more used some in
    record { units = ap (λ w. FaultAt at kind ∷ w) e.units; rest = e.rest; overrun = ap (λ w. (used - length s) + w) e.overrun }

-- no unit is in no bytes
none_by : (c : Codec) (n at : ℕ) (h : Head) → h ≡ More
    → (unit_and at h (λ u. units_from c n (at + u) (drop u [])) ≡ []) × (left_by [] h (λ u. rest_after c n (drop u [])) ≡ []) × (overrun_by [] h (λ u. overrun_after c n (drop u [])) ≡ 0)
none_by c n at h is = rw is (refl, refl, refl)

-- as many units as there are bytes are enough
pub same : (c : Codec) → Steady c → (n m at : ℕ) (s : List ℕ) → length s ≤ n → length s ≤ m → Same c n m at s
same c steady zero zero at s a b = record { units = refl; rest = refl; overrun = refl }
same c steady zero (suc m) at [] a b =
    let e = none_by c m at (head c []) steady.opens in record { units = sym e.0; rest = sym e.1; overrun = sym e.2 }
same c steady zero (suc m) at (x ∷ s) a b = absurd (omega arith)
same c steady (suc n) zero at [] a b =
    let e = none_by c n at (head c []) steady.opens in record { units = e.0; rest = e.1; overrun = e.2 }
same c steady (suc n) zero at (x ∷ s) a b = absurd (omega arith)
same c steady (suc n) (suc m) at s a b =
    let e = same_by c n m at s (head c s) (steady.advances s) (λ u some. same c steady n m (at + u) (drop u s) (omega (arith, length-drop u s)) (omega (arith, length-drop u s))) in
    record { units = e.units; rest = e.rest; overrun = e.overrun }

-- what is left isn't longer
shorter_by : (c : Codec) (n : ℕ) (s : List ℕ) (h : Head) → ((u : ℕ) → length (rest_after c n (drop u s)) ≤ length (drop u s)) → length (left_by s h (λ u. rest_after c n (drop u s))) ≤ length s
shorter_by c n s More more = omega arith
shorter_by c n s (Whole bytes used) more = omega (arith, more used, length-drop used s)
shorter_by c n s (Bad kind used) more = omega (arith, more used, length-drop used s)

pub shorter : (c : Codec) (n : ℕ) (s : List ℕ) → length (rest_after c n s) ≤ length s
shorter c zero s = omega arith
shorter c (suc n) s = shorter_by c n s (head c s) (λ u. shorter c n (drop u s))

-- the units of joined streams: those of the first, and those of what it leaves with the second
pub record Resumed (c : Codec) (n at : ℕ) (h p : List ℕ) : Type 0 where
  pub units : units_from c n at (h ++ p) ≡ units_from c n at h ++ units_from c n (at + length h + overrun_after c n h - length (rest_after c n h)) (rest_after c n h ++ drop (overrun_after c n h) p)
  pub rest : rest_after c n (h ++ p) ≡ rest_after c n (rest_after c n h ++ drop (overrun_after c n h) p)
  pub overrun : overrun_after c n (h ++ p) ≡ (overrun_after c n h - length p) + overrun_after c n (rest_after c n h ++ drop (overrun_after c n h) p)

-- the same, where the first head of the first stream is `d`
pub record ResumedBy (c : Codec) (n at : ℕ) (h p : List ℕ) (d : Head) (kept : List ℕ) (over : ℕ) : Type 0 where
  pub units : units_from c (suc n) at (h ++ p) ≡ unit_and at d (λ u. units_from c n (at + u) (drop u h)) ++ units_from c (suc n) (at + length h + over - length kept) (kept ++ drop over p)
  pub rest : rest_after c (suc n) (h ++ p) ≡ rest_after c (suc n) (kept ++ drop over p)
  pub overrun : overrun_after c (suc n) (h ++ p) ≡ (over - length p) + overrun_after c (suc n) (kept ++ drop over p)

-- the same behind a head that used `u`
record Behind (c : Codec) (n at u : ℕ) (h p : List ℕ) (kept : List ℕ) (over : ℕ) : Type 0 where
  units : units_from c n (at + u) (drop u (h ++ p)) ≡ units_from c n (at + u) (drop u h) ++ units_from c (suc n) (at + length h + over - length kept) (kept ++ drop over p)
  rest : rest_after c n (drop u (h ++ p)) ≡ rest_after c (suc n) (kept ++ drop over p)
  overrun : (u - length (h ++ p)) + overrun_after c n (drop u (h ++ p)) ≡ (over - length p) + overrun_after c (suc n) (kept ++ drop over p)

behind : (c : Codec) → Steady c → (n at u : ℕ) (h p kept : List ℕ) (over : ℕ) → length (h ++ p) ≤ suc n → 0 < u
    → kept ≡ rest_after c n (drop u h) → over ≡ overrun_after c n (drop u h)
    → Resumed c n (at + u) (drop u h) (drop (u - length h) p)
    → Behind c n at u h p kept ((u - length h) + over)
behind c steady n at u h p kept over within some k o more =
    let left : drop u (h ++ p) ≡ drop u h ++ drop (u - length h) p = drop_both u h p in
    let later : drop over (drop (u - length h) p) ≡ drop ((u - length h) + over) p = drop-drop over (u - length h) p in
    let short : length kept ≤ length (drop u h) = rw k (shorter c n (drop u h)) in
    let next = kept ++ drop ((u - length h) + over) p in
    let fits : length (kept ++ drop ((u - length h) + over) p) ≤ n = omega (arith, length-append kept (drop ((u - length h) + over) p), length-drop ((u - length h) + over) p, length-append h p, length-drop u h) in
    let place : at + u + length (drop u h) + over - length kept ≡ at + length h + ((u - length h) + over) - length kept = omega (arith, length-drop u h) in
    let enough = same c steady n (suc n) (at + length h + ((u - length h) + over) - length kept) next fits (omega arith) in
    let units : units_from c n (at + u) (drop u h ++ drop (u - length h) p) ≡ units_from c n (at + u) (drop u h) ++ units_from c n (at + u + length (drop u h) + over - length kept) (kept ++ drop over (drop (u - length h) p)) = rw (k, o) more.units in
    let rest : rest_after c n (drop u h ++ drop (u - length h) p) ≡ rest_after c n (kept ++ drop over (drop (u - length h) p)) = rw (k, o) more.rest in
    let overrun : overrun_after c n (drop u h ++ drop (u - length h) p) ≡ (over - length (drop (u - length h) p)) + overrun_after c n (kept ++ drop over (drop (u - length h) p)) = rw (k, o) more.overrun in
    record {
      units = ap (λ w. units_from c n (at + u) w) left ∙ units ∙ ap (λ w. units_from c n (at + u) (drop u h) ++ units_from c n (at + u + length (drop u h) + over - length kept) (kept ++ w)) later
          ∙ ap (λ w. units_from c n (at + u) (drop u h) ++ units_from c n w next) place ∙ ap (λ w. units_from c n (at + u) (drop u h) ++ w) enough.units;
      rest = ap (λ w. rest_after c n w) left ∙ rest ∙ ap (λ w. rest_after c n (kept ++ w)) later ∙ enough.rest;
      overrun =
          let all : overrun_after c n (drop u (h ++ p)) ≡ (over - length (drop (u - length h) p)) + overrun_after c (suc n) next = ap (λ w. overrun_after c n w) left ∙ overrun ∙ ap (λ w. (over - length (drop (u - length h) p)) + overrun_after c n (kept ++ w)) later ∙ ap (λ w. (over - length (drop (u - length h) p)) + w) enough.overrun in
          omega (arith, all, length-append h p, length-drop (u - length h) p);
    }

resumed_by : (c : Codec) → Steady c → (n at : ℕ) (h p : List ℕ) (d : Head) → length (h ++ p) ≤ suc n → ((d ≡ More → ⊥) → head c (h ++ p) ≡ d) → UsesAtLeast 1 d
    → ((u : ℕ) → 0 < u → Resumed c n (at + u) (drop u h) (drop (u - length h) p))
    → ResumedBy c n at h p d (left_by h d (λ u. rest_after c n (drop u h))) (overrun_by h d (λ u. overrun_after c n (drop u h)))
resumed_by c steady n at h p More within stays some more =
    let place : at + length h + 0 - length h ≡ at = omega arith in
    record { units = rw place refl; rest = refl; overrun = omega arith }
resumed_by c steady n at h p (Whole bytes used) within stays some more =
    let b = behind c steady n at used h p (rest_after c n (drop used h)) (overrun_after c n (drop used h)) within some refl refl (more used some) in
    let e : head c (h ++ p) ≡ Whole bytes used = stays (λ i. cc) in
    record {
      units = ap (λ d. unit_and at d (λ u. units_from c n (at + u) (drop u (h ++ p)))) e ∙ ap (λ w. FrameAt at bytes ∷ w) b.units;
      rest = ap (λ d. left_by (h ++ p) d (λ u. rest_after c n (drop u (h ++ p)))) e ∙ b.rest;
      overrun = ap (λ d. overrun_by (h ++ p) d (λ u. overrun_after c n (drop u (h ++ p)))) e ∙ b.overrun;
    }
resumed_by c steady n at h p (Bad kind used) within stays some more =
    let b = behind c steady n at used h p (rest_after c n (drop used h)) (overrun_after c n (drop used h)) within some refl refl (more used some) in
    let e : head c (h ++ p) ≡ Bad kind used = stays (λ i. cc) in
    record {
      units = ap (λ d. unit_and at d (λ u. units_from c n (at + u) (drop u (h ++ p)))) e ∙ ap (λ w. FaultAt at kind ∷ w) b.units;
      rest = ap (λ d. left_by (h ++ p) d (λ u. rest_after c n (drop u (h ++ p)))) e ∙ b.rest;
      overrun = ap (λ d. overrun_by (h ++ p) d (λ u. overrun_after c n (drop u (h ++ p)))) e ∙ b.overrun;
    }

pub resumed : (c : Codec) → Steady c → (n at : ℕ) (h p : List ℕ) → length (h ++ p) ≤ n → Resumed c n at h p
resumed c steady zero at h p within = record { units = refl; rest = refl; overrun = omega arith }
resumed c steady (suc n) at h p within =
    let b = resumed_by c steady n at h p (head c h) within (λ not. steady.stable h p not) (steady.advances h)
    (λ u some. resumed c steady n (at + u) (drop u h) (drop (u - length h) p)
    (omega (arith, length-append h p, length-append (drop u h) (drop (u - length h) p), length-drop u h, length-drop (u - length h) p))) in
    record { units = b.units; rest = b.rest; overrun = b.overrun }

-- what is left is open
open_by : (c : Codec) (n : ℕ) (s : List ℕ) (h : Head) → head c s ≡ h → UsesAtLeast 1 h → ((u : ℕ) → 0 < u → head c (rest_after c n (drop u s)) ≡ More) → head c (left_by s h (λ u. rest_after c n (drop u s))) ≡ More
open_by c n s More is some more = is
open_by c n s (Whole bytes used) is some more = more used some
open_by c n s (Bad kind used) is some more = more used some

pub rest_open : (c : Codec) → Steady c → (n : ℕ) (s : List ℕ) → length s ≤ n → head c (rest_after c n s) ≡ More
rest_open c steady zero [] within = steady.opens
rest_open c steady zero (x ∷ s) within = absurd (omega arith)
rest_open c steady (suc n) s within =
    open_by c n s (head c s) refl (steady.advances s) (λ u some. rest_open c steady n (drop u s) (omega (arith, length-drop u s)))

no_more : (over kept left used n : ℕ) → (0 < over → kept ≡ 0) → kept ≤ left → left ≡ n - used → 0 < (used - n) + over → kept ≡ 0
no_more zero kept left used n more short is some = omega arith
no_more (suc over) kept left used n more short is some = more (omega arith)

-- nothing is left where bytes behind the end are used
nothing_by : (c : Codec) (n : ℕ) (s : List ℕ) (h : Head) → ((u : ℕ) → 0 < overrun_after c n (drop u s) → length (rest_after c n (drop u s)) ≡ 0)
    → 0 < overrun_by s h (λ u. overrun_after c n (drop u s)) → length (left_by s h (λ u. rest_after c n (drop u s))) ≡ 0
nothing_by c n s More more some = absurd (omega arith)
nothing_by c n s (Whole bytes used) more some = no_more (overrun_after c n (drop used s)) _ _ used (length s) (more used) (shorter c n (drop used s)) (length-drop used s) some
nothing_by c n s (Bad kind used) more some = no_more (overrun_after c n (drop used s)) _ _ used (length s) (more used) (shorter c n (drop used s)) (length-drop used s) some

pub nothing_left : (c : Codec) (n : ℕ) (s : List ℕ) → 0 < overrun_after c n s → length (rest_after c n s) ≡ 0
nothing_left c zero s some = absurd (omega arith)
nothing_left c (suc n) s some = nothing_by c n s (head c s) (λ u. nothing_left c n (drop u s)) some
