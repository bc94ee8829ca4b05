-- Streams in pieces.
use Rattle.std.proofs.Common.{◌≡◌, ℕ, suc, ◌+◌, ◌-◌, ◌<◌, ◌≤◌, List, [], ◌∷◌, ◌++◌, length, drop, flat_map, refl, ap, sym, ◌∙◌, arith, length-append, length-drop, append_assoc, append-nil, add-zero, drop_of_length-le}
use Rattle.std.proofs.Math.Seq.{drop-append_seam}
use Rattle.frame_head.specs.declared.codecs.Codec.{Codec}
use Rattle.frame_head.specs.Heads.{Head, More, Whole, Bad, UsesAtLeast, FramingUnit, FrameAt, FaultAt}
use Rattle.frame_head.specs.Codecs.{head}
use Rattle.frame_head.specs.Units.{unit_and, left_by, overrun_by, units_from, rest_after, overrun_after, units, rest, overrun, units_of_end, ended}
use Rattle.frame_head.specs.Laws.{Extends, added_by, added_in_turn, added_at_end}
use Rattle.frame_head.proofs.Steady.{Steady, same, shorter, nothing_left, resumed}
use Rattle.frame_head.proofs.Lists.{nil_from_length}

-- what a longer stream adds, from what the shorter left and used
pub record Longer (c : Codec) (h p : List ℕ) : Type 0 where
  pub all : units c (h ++ p) ≡ units c h ++ units_from c (length (rest c h ++ drop (overrun c h) p)) (length h + overrun c h - length (rest c h)) (rest c h ++ drop (overrun c h) p)
  pub left : rest c (h ++ p) ≡ rest c (rest c h ++ drop (overrun c h) p)
  pub over : overrun c (h ++ p) ≡ (overrun c h - length p) + overrun c (rest c h ++ drop (overrun c h) p)

longer_by : (c : Codec) → Steady c → (n : ℕ) (h p kept : List ℕ) (over : ℕ) → length (h ++ p) ≡ n → kept ≡ rest_after c n h → over ≡ overrun_after c n h → length kept ≤ length h
    → (units_from c n 0 (h ++ p) ≡ units_from c n 0 h ++ units_from c (length (kept ++ drop over p)) (length h + over - length kept) (kept ++ drop over p))
    × (rest_after c n (h ++ p) ≡ rest c (kept ++ drop over p))
    × (overrun_after c n (h ++ p) ≡ (over - length p) + overrun c (kept ++ drop over p))
longer_by c steady n h p kept over within k o short =
    let r = resumed c steady n 0 h p (omega arith) in
    let place : 0 + length h + over - length kept ≡ length h + over - length kept = omega arith in
    let fits : length (kept ++ drop over p) ≤ n = omega (arith, length-append kept (drop over p), length-drop over p, length-append h p) in
    let enough = same c steady n (length (kept ++ drop over p)) (length h + over - length kept) (kept ++ drop over p) fits (omega arith) in
    let units : units_from c n 0 (h ++ p) ≡ units_from c n 0 h ++ units_from c n (0 + length h + over - length kept) (kept ++ drop over p) = rw (k, o) r.units in
    let rest : rest_after c n (h ++ p) ≡ rest_after c n (kept ++ drop over p) = rw (k, o) r.rest in
    let overrun : overrun_after c n (h ++ p) ≡ (over - length p) + overrun_after c n (kept ++ drop over p) = rw (k, o) r.overrun in (
      units ∙ ap (λ a. units_from c n 0 h ++ units_from c n a (kept ++ drop over p)) place ∙ ap (λ w. units_from c n 0 h ++ w) enough.units,
      rest ∙ enough.rest,
      overrun ∙ ap (λ w. (over - length p) + w) enough.overrun,
    )

pub longer : (c : Codec) → Steady c → (h p : List ℕ) → Longer c h p
longer c steady h p =
    let e = same c steady (length (h ++ p)) (length h) 0 h (omega (arith, length-append h p)) (omega arith) in
    let l = longer_by c steady (length (h ++ p)) h p (rest c h) (overrun c h) refl (sym e.rest) (sym e.overrun) (shorter c (length h) h) in
    record { all = l.0 ∙ ap (λ w. w ++ units_from c (length (rest c h ++ drop (overrun c h) p)) (length h + overrun c h - length (rest c h)) (rest c h ++ drop (overrun c h) p)) e.units; left = l.1; over = l.2 }

pub extends : (c : Codec) → Steady c → (h p : List ℕ) → Extends (units c h) (units c (h ++ p))
extends c steady h p = (units_from c (length (rest c h ++ drop (overrun c h) p)) (length h + overrun c h - length (rest c h)) (rest c h ++ drop (overrun c h) p), (longer c steady h p).all)

-- a piece adds what the longer stream's units have behind those of the shorter
added_behind : (a b : List FramingUnit) → Extends a b → b ≡ a ++ drop (length a) b
added_behind a b more = more.1 ∙ ap (λ w. a ++ w) (sym (ap (λ w. drop (length a) w) more.1 ∙ drop-append_seam a more.0))

-- what pieces add in turn, behind the units that were there, are the units of all of them
pieces_add : (c : Codec) → Steady c → (h : List ℕ) (pieces : List (List ℕ)) → units c (h ++ flat_map (λ p. p) pieces) ≡ units c h ++ added_in_turn c h pieces
pieces_add c steady h [] = ap (λ w. units c w) (append-nil h) ∙ sym (append-nil (units c h))
pieces_add c steady h (p ∷ pieces) =
    ap (λ w. units c w) (sym (append_assoc h p (flat_map (λ p. p) pieces))) ∙ pieces_add c steady (h ++ p) pieces
    ∙ ap (λ w. w ++ added_in_turn c (h ++ p) pieces) (added_behind (units c h) (units c (h ++ p)) (extends c steady h p))
    ∙ append_assoc (units c h) (added_by c h p) (added_in_turn c (h ++ p) pieces)

pub any_cutting : (c : Codec) → Steady c → (pieces : List (List ℕ))
    → added_in_turn c [] pieces ++ added_at_end c (flat_map (λ p. p) pieces) ≡ ended c (flat_map (λ p. p) pieces)
any_cutting c steady pieces =
    let s = flat_map (λ p. p) pieces in
    let more : Extends (units c s) (ended c s) = (units_of_end c (length s - length (rest c s)) (rest c s), refl) in
    ap (λ w. w ++ added_at_end c s) (sym (pieces_add c steady [] pieces)) ∙ sym (added_behind (units c s) (ended c s) more)

-- what a head that uses all of `s` leaves to its behind
whole_by : (c : Codec) → Steady c → (n at : ℕ) (s : List ℕ) (d : Head) → UsesAtLeast (length s) d
    → (unit_and at d (λ u. units_from c n (at + u) (drop u s)) ≡ unit_and at d (λ u. []))
    × (left_by s d (λ u. rest_after c n (drop u s)) ≡ left_by s d (λ u. []))
    × (overrun_by s d (λ u. overrun_after c n (drop u s)) ≡ overrun_by s d (λ u. 0))
whole_by c steady n at s More all = (refl, refl, refl)
whole_by c steady n at s (Whole bytes used) all =
    let e : drop used s ≡ [] = drop_of_length-le s all in
    let none = same c steady n 0 (at + used) [] (omega arith) (omega arith) in
    rw e (ap (λ w. FrameAt at bytes ∷ w) none.units, none.rest, ap (λ w. (used - length s) + w) none.overrun)
whole_by c steady n at s (Bad kind used) all =
    let e : drop used s ≡ [] = drop_of_length-le s all in
    let none = same c steady n 0 (at + used) [] (omega arith) (omega arith) in
    rw e (ap (λ w. FaultAt at kind ∷ w) none.units, none.rest, ap (λ w. (used - length s) + w) none.overrun)

-- the units of bytes that their first head uses all
whole : (c : Codec) → Steady c → (at : ℕ) (s : List ℕ) (d : Head) → head c s ≡ d → UsesAtLeast (length s) d
    → (units_from c (length s) at s ≡ unit_and at d (λ u. [])) × (rest c s ≡ left_by s d (λ u. [])) × (overrun c s ≡ overrun_by s d (λ u. 0))
whole c steady at s d is all =
    let n = length s in
    let e = same c steady (length s) (suc (length s)) at s (omega arith) (omega arith) in
    let w = whole_by c steady n at s d all in (
      e.units ∙ ap (λ w. unit_and at w (λ u. units_from c n (at + u) (drop u s))) is ∙ w.0,
      e.rest ∙ ap (λ w. left_by s w (λ u. rest_after c n (drop u s))) is ∙ w.1,
      e.overrun ∙ ap (λ w. overrun_by s w (λ u. overrun_after c n (drop u s))) is ∙ w.2,
    )

nought : (n : ℕ) → 0 + n ≡ n
nought n = omega arith

-- bytes that a head uses all, with what was left before them
pub absorbed : (c : Codec) → Steady c → (h q s : List ℕ) (d : Head) → s ≡ rest c h ++ q → overrun c h ≡ 0 → head c s ≡ d → UsesAtLeast (length s) d
    → (units c (h ++ q) ≡ units c h ++ unit_and (length h - length (rest c h)) d (λ u. [])) × (rest c (h ++ q) ≡ left_by s d (λ u. [])) × (overrun c (h ++ q) ≡ overrun_by s d (λ u. 0))
absorbed c steady h q s d joined none is all =
    let l = longer c steady h q in
    let e : rest c h ++ drop (overrun c h) q ≡ s = ap (λ w. rest c h ++ drop w q) none ∙ sym joined in
    let place : length h + overrun c h - length (rest c h) ≡ length h - length (rest c h) = omega (arith, none) in
    let nothing : overrun c h - length q ≡ 0 = omega (arith, none) in
    let w = whole c steady (length h - length (rest c h)) s d is all in (
      l.all ∙ ap (λ a. units c h ++ units_from c (length (rest c h ++ drop (overrun c h) q)) a (rest c h ++ drop (overrun c h) q)) place
          ∙ ap (λ x. units c h ++ units_from c (length x) (length h - length (rest c h)) x) e ∙ ap (λ x. units c h ++ x) w.0,
      l.left ∙ ap (λ x. rest c x) e ∙ w.1,
      l.over ∙ ap (λ x. x + overrun c (rest c h ++ drop (overrun c h) q)) nothing ∙ ap (λ x. 0 + overrun c x) e ∙ ap (λ x. 0 + x) w.2 ∙ nought (overrun_by s d (λ u. 0)),
    )

-- bytes that were used before they came
pub passed : (c : Codec) → Steady c → (h q : List ℕ) → 0 < overrun c h → length q ≤ overrun c h
    → (units c (h ++ q) ≡ units c h) × (rest c h ≡ []) × (rest c (h ++ q) ≡ []) × (overrun c (h ++ q) ≡ overrun c h - length q)
passed c steady h q some within =
    let l = longer c steady h q in
    let empty : rest c h ≡ [] = nil_from_length (rest c h) (omega (arith, nothing_left c (length h) h some)) in
    let gone : drop (overrun c h) q ≡ [] = drop_of_length-le q within in
    let e : rest c h ++ drop (overrun c h) q ≡ [] = ap (λ w. w ++ drop (overrun c h) q) empty ∙ gone in (
      l.all ∙ ap (λ x. units c h ++ units_from c (length x) (length h + overrun c h - length (rest c h)) x) e ∙ append-nil (units c h),
      empty,
      l.left ∙ ap (λ x. rest c x) e,
      l.over ∙ ap (λ x. (overrun c h - length q) + overrun c x) e ∙ add-zero (overrun c h - length q),
    )
