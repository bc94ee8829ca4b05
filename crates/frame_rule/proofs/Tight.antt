-- Nodes that each have data still do as their bytes are cut off and handed out.
use Rattle.std.proofs.Common.{◌≡◌, ℕ, ◌+◌, ◌-◌, ◌<◌, ◌≤◌, ◌⊎◌, List, [], ◌∷◌, ◌++◌, length, take, drop, slice_get, ap, sym, subst, ◌∙◌, append_assoc, append-nil, arith, inl, inr, length-append, length-drop, length-take}
use Rattle.std.specs.Prelude.{IfSome}
use Rattle.storage.specs.declared.release.NoOwner.{NoOwner}
use Rattle.buffer_model.specs.Segment.{Segment, bytes_of, trimmed_start, trimmed_end}
use Rattle.buffer_model.specs.Minted.{Numbers}
use Rattle.iobuf_chain.specs.Copies.{HasData}
use Rattle.iobuf_chain.specs.Lists.{Each}
use Rattle.iobuf_chain.specs.Shares.{SharesFront}
use Rattle.iobuf_chain.proofs.Copied.{each_append, each_before, each_behind}
use Rattle.chain_unshare.specs.Splits.{IsSide, SplitsAt, StopsAt}
use Rattle.frame_rule.specs.declared.unit.FrameUnit.{FrameUnit}
use Rattle.frame_rule.specs.declared.unit.FrameUnit.TheVariants.{Frame, Fault}
use Rattle.frame_rule.specs.declared.haul.Haul.{Haul}
use Rattle.frame_rule.specs.Hauls.{AddsTight, IsTight, IsTightUnit, Settles}
use Rattle.frame_rule.proofs.Sharing.{splits, whole}

pub tight_as : (nodes same : List (Segment NoOwner)) → nodes ≡ same → IsTight same → IsTight nodes
tight_as nodes same e is = let P : List (Segment NoOwner) → Type 0 = λ w. IsTight w in subst P (sym e) is

pub tight_one : (nodes : List (Segment NoOwner)) (s : Segment NoOwner) → nodes ≡ s ∷ [] → IsTight nodes
tight_one nodes s e = inl (ap (λ (w : List (Segment NoOwner)). length w) e)

-- a part of such nodes: each has data, or there is at most one
abbrev IsTightPart : List (Segment NoOwner) → Type 0
IsTightPart nodes = Each HasData nodes ⊎ (length nodes ≤ 1)

tight_parts : (xs ys : List (Segment NoOwner)) → IsTight (xs ++ ys) → IsTightPart xs × IsTightPart ys
tight_parts xs ys (inl one) = (inr (let size = length-append xs ys in omega (arith, one, size)), inr (let size = length-append xs ys in omega (arith, one, size)))
tight_parts xs ys (inr each) = (inl (each_before HasData xs ys each), inl (each_behind HasData xs ys each))

tight_side : (old new : Numbers) (nodes side : List (Segment NoOwner)) → IsSide old new nodes side → IsTightPart nodes → IsTight side
tight_side old new nodes side (inl same) (inl each) = tight_as side nodes same.0 (inr each)
tight_side old new nodes side (inl same) (inr few) = tight_as side nodes same.0 (inl (let some = same.1 in omega (arith, few, some)))
tight_side old new nodes side (inr none) part = tight_one side _ none.1.nodes_are

-- a node between others is cut: its front comes behind those before it, and its rest in front of those behind it
cut_between : (run behind : List (Segment NoOwner)) (node front rest : Segment NoOwner) → IsTight (run ++ node ∷ behind) → HasData front → HasData rest
    → IsTight (run ++ front ∷ []) × IsTight (rest ∷ behind)
cut_between run behind node front rest (inl one) f r =
    let all = length-append run (node ∷ behind) in
    let some = length-append run (front ∷ []) in
    (inl (omega (arith, one, all, some)), inl (let e : length (rest ∷ behind) ≡ 1 = omega (arith, one, all) in e))
cut_between run behind node front rest (inr each) f r =
    let behind_run = each_behind HasData run (node ∷ behind) each in
    (inr (each_append HasData run (front ∷ []) (each_before HasData run (node ∷ behind) each) (f, tt)), inr (r, behind_run.1))

-- both sides of a chain that is split
pub splits_tight : (n : ℕ) (old new : Numbers) (before front rest : List (Segment NoOwner)) → SplitsAt n old new before front rest → IsTight before → IsTight front × IsTight rest
splits_tight n old new before front rest is tight =
    let run : List (Segment NoOwner) = is.run in
    let past : List (Segment NoOwner) = is.past in
    let apart : IsTight (run ++ past) = tight_as (run ++ past) before (sym is.is_run.parts) tight in
    let parts = tight_parts run past apart in
    elim is.parts [
      | inl (e, between) ↦ (tight_side old between.mid run front between.front_side parts.0, tight_side between.mid new past rest between.rest_side parts.1)
      | inr (more, s) ↦
          let k : ℕ = n - length (bytes_of run) in
          let low : k < length s.node.window = let P : List (Segment NoOwner) → Type 0 = λ ys. StopsAt k ys in subst P s.past_is is.is_run.longest in
          let all : IsTight (run ++ s.node ∷ s.behind) = let P : List (Segment NoOwner) → Type 0 = λ ys. IsTight (run ++ ys) in subst P s.past_is apart in
          let gone : length s.clone.window ≡ length s.node.window = ap (λ (t : Segment NoOwner). length t.window) s.clones.clone_lists in
          let left : length s.left.window ≡ length s.node.window = ap (λ (t : Segment NoOwner). length t.window) s.clones.lists in
          let first : HasData (trimmed_end (length s.node.window - k) s.clone) =
          let size = length-take (length s.clone.window - (length s.node.window - k)) s.clone.window in omega (arith, size, gone, low, more) in
          let last : HasData (trimmed_start k s.left) = let size = length-drop k s.left.window in omega (arith, size, left, low) in
          let both = cut_between run s.behind s.node (trimmed_end (length s.node.window - k) s.clone) (trimmed_start k s.left) all first last in
          (tight_as front _ s.front_is both.0, tight_as rest _ s.rest_is both.1)
    ]

-- what is left of a chain whose first node was shared in front
pub shared_tight : (k front back : ℕ) (before frame after : List (Segment NoOwner)) → SharesFront k front back before frame after → 0 < k
    → IfSome (slice_get before 0) (λ t. k < length t.window) → IsTight before → IsTight after
shared_tight k front back before frame after s some fits tight = (splits_tight k [] [] before (whole s) after (splits s [] some fits) tight).1

-- nodes of which some has data
pub tight_data : (nodes : List (Segment NoOwner)) → IsTight nodes → 0 < length (bytes_of nodes) → Each HasData nodes
tight_data [] is some = tt
tight_data (s ∷ []) is some = let size = length-append s.window [] in (omega (arith, size, some), tt)
tight_data (s ∷ t ∷ ss) (inl one) some = absurd (omega (arith, one))
tight_data (s ∷ t ∷ ss) (inr each) some = each

pub adds_none : (us vs : List FrameUnit) → vs ≡ us → AddsTight us vs
adds_none us vs same = record { added = []; haul = same ∙ sym (append-nil us); tight = tt }

pub adds_unit : (us vs : List FrameUnit) (u : FrameUnit) → IsTightUnit u → vs ≡ us ++ u ∷ [] → AddsTight us vs
adds_unit us vs u is more = record { added = u ∷ []; haul = more; tight = (is, tt) }

pub adds_further : (us vs ws : List FrameUnit) → AddsTight us vs → AddsTight vs ws → AddsTight us ws
adds_further us vs ws p q = record {
  added = p.added ++ q.added;
  haul = q.haul ∙ ap (λ w. w ++ q.added) p.haul ∙ append_assoc us p.added q.added;
  tight = each_append IsTightUnit p.added q.added p.tight q.tight;
}

-- what is kept of such nodes in the end
pub settled_tight : (nodes now : List (Segment NoOwner)) (us : List FrameUnit) (h k : Haul) → IsTight nodes → AddsTight us h.units.items → Settles nodes now h k
    → Each HasData now × AddsTight us k.units.items
settled_tight nodes now us h k is adds (inl same) =
    let P : List (Segment NoOwner) → Type 0 = λ w. Each HasData w in
    (subst P (sym same.0) (tight_data nodes is same.1), adds_further us h.units.items k.units.items adds (adds_none _ _ (ap (λ (x : Haul). x.units.items) same.2)))
settled_tight nodes now us h k is adds (inr none) =
    let P : List (Segment NoOwner) → Type 0 = λ w. Each HasData w in
    (subst P (sym none.0) tt, adds_further us h.units.items k.units.items adds (adds_none _ _ none.2.units))
