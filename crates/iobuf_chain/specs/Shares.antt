-- Chains that are shared: a second chain over the same bytes.
use Rattle.std.specs.Prelude.{◌≡◌, ℕ, ◌+◌, ◌-◌, ◌<◌, Bool, true, false, List, [], ◌∷◌, ◌++◌, length, slice_get, slice_set, Option, Some, None, ◌⊎◌}
use Rattle.buffer_model.specs.Share.{Share, own, IsWhole, IsManaged, absorbed_in}
use Rattle.std.specs.List.{AllZip}
use Rattle.share_count.specs.Weights.{full}
use Rattle.buffer_model.specs.Segment.{Segment, trimmed_start, trimmed_end, between_rooms, shared_as}
use Rattle.buffer_model.specs.Minted.{Numbers, Adds, IsNew}
use Rattle.buffer_model.specs.Clones.{Clones, SharesPart}

module _ {O : Type 0} where
  -- each node is cloned, in order: the mint, the nodes before and after, and the clones
  abbrev pub ClonesEach : Numbers → Numbers → List (Segment O) → List (Segment O) → List (Segment O) → Type 0
  ClonesEach old new [] [] [] = new ≡ old
  ClonesEach old new (b ∷ bs) (n ∷ ns) (c ∷ cs) = (mid : Numbers) × Clones old mid b n c × ClonesEach mid new bs ns cs
  ClonesEach old new _ _ _ = ⊥

  -- of n bytes from place `at`, those that a window has
  abbrev pub narrowed : ℕ → ℕ → Segment O → Segment O
  narrowed at n s = let t = trimmed_start at s in trimmed_end (length t.window - n) t

  -- it has some of them
  abbrev pub HasSome : ℕ → ℕ → Segment O → Type 0
  HasSome at n s = (at < length s.window) × (0 < n)

  -- what is shared of one node: where it has some of the n bytes from place `at`, its clone with a window on them;
  -- else nothing, and it stays
  abbrev pub SharesOne : ℕ → ℕ → Numbers → Numbers → Segment O → Segment O → Option (Segment O) → Type 0
  SharesOne at n old new before after None = (HasSome at n before → ⊥) × (after ≡ before) × (new ≡ old)
  SharesOne at n old new before after (Some c) =
      HasSome at n before × Clones old new before after (shared_as c.share before)
      × (c ≡ narrowed at n (shared_as c.share before))

  -- so many first nodes in turn; behind them `left` of the n bytes are still to be shared, and the others stay. A
  -- node passes so many places and takes so many bytes as it has
  abbrev pub SharesNodes : ℕ → ℕ → ℕ → Numbers → Numbers → List (Segment O) → List (Segment O)
      → List (Option (Segment O)) → Type 0
  SharesNodes at n left old new bs ms [] = (left ≡ n) × (ms ≡ bs) × (new ≡ old)
  SharesNodes at n left old new (b ∷ bs) (m ∷ ms) (o ∷ os) =
      (mid : Numbers) × SharesOne at n old mid b m o
      × SharesNodes (at - length b.window) (n - (length b.window - at)) left mid new bs ms os
  SharesNodes at n left old new _ _ (o ∷ os) = ⊥

  -- those that were made
  abbrev pub present : List (Option (Segment O)) → List (Segment O)
  present [] = []
  present (None ∷ os) = present os
  present (Some c ∷ os) = c ∷ present os

  -- nodes before and after some of n bytes from place `at` were shared, with what is left of them, and the shares
  pub record SharesSome (at n left : ℕ) (old new : Numbers) (before after shares : List (Segment O)) : Type 0 where
    pub parts : List (Option (Segment O))
    pub nodes : SharesNodes at n left old new before after parts
    pub shares_are : shares ≡ present parts

  -- a chain before and after n bytes of it from place `at` were shared, and the share: of each node that has one of
  -- these bytes a clone with a window on them, in order; the others stay as they are
  abbrev pub SharesRange : ℕ → ℕ → Numbers → Numbers → List (Segment O) → List (Segment O) → List (Segment O) → Type 0
  SharesRange at n old new before after share = SharesSome at n 0 old new before after share

  -- one node without data and without room, on a storage that was just made
  pub record IsEmptyChain (old new : Numbers) (nodes : List (Segment O)) : Type 0 where
    pub share : Share O
    pub nodes_are : nodes ≡ between_rooms 0 0 [] share ∷ []
    pub storage : IsNew old new own share
    pub mint : Adds 1 old new

  -- a node before, and after a share that was made of it was given back and absorbed: the same lists on the same
  -- storage, with the same weight in all
  pub record Regains (before after : Segment O) : Type 0 where
    pub lists : after ≡ shared_as after.share before
    pub number : after.share.number ≡ before.share.number
    pub table : after.share.table ≡ before.share.table
    pub way : after.share.way ≡ before.share.way
    pub weight : after.share.weight + after.share.absorbed ≡ before.share.weight + before.share.absorbed

  -- a share that may be given back to a node: it is empty, or all of its storage, or of the node's storage
  abbrev pub IsReturnable : Share O → Share O → Type 0
  IsReturnable node share = (share.number ≡ None) ⊎ ((share.weight + share.absorbed ≡ full)
      ⊎ ((share.number ≡ node.number) × (share.table ≡ node.table)))

  -- a node before and after a share was given back to it: it absorbed the share's weight; and it stays as it was
  -- where the share had none of its storage
  abbrev pub Rejoins : Segment O → Share O → Segment O → Type 0
  Rejoins before share after =
      ((after ≡ before) × ((share.weight + share.absorbed ≡ 0) ⊎ IsWhole share))
      ⊎ ((after ≡ shared_as (absorbed_in (share.weight + share.absorbed) before.share) before) × (IsWhole share → ⊥)
      × IsManaged share)

  -- shares that are given back, each to its node: the nodes before, the shares of the first of them, and the nodes
  -- after
  abbrev pub RejoinsEach : List (Segment O) → List (Segment O) → List (Segment O) → Type 0
  RejoinsEach nodes [] after = after ≡ nodes
  RejoinsEach (n ∷ ns) (s ∷ ss) (m ∷ ms) = Rejoins n s.share m × RejoinsEach ns ss ms
  RejoinsEach _ (s ∷ ss) _ = ⊥

  -- each share may be given back to its node
  abbrev pub AreReturnable : List (Segment O) → List (Segment O) → Type 0
  AreReturnable nodes [] = Unit {0}
  AreReturnable [] (s ∷ ss) = ⊥
  AreReturnable (n ∷ ns) (s ∷ ss) = IsReturnable n.share s.share × AreReturnable ns ss

  -- the first nodes are cloned, and the others stay
  pub record ClonesFirst (old new : Numbers) (before after clones : List (Segment O)) : Type 0 where
    pub done : List (Segment O)
    pub left : List (Segment O)
    pub todo : List (Segment O)
    pub before_is : before ≡ done ++ todo
    pub after_is : after ≡ left ++ todo
    pub clones_are : ClonesEach old new done left clones

  -- node i is cloned: the mint, the chain before and after, and the clone
  pub record ClonesAt (i : ℕ) (old new : Numbers) (before after : List (Segment O)) (clone : Segment O) : Type 0 where
    pub node : Segment O
    pub left : Segment O
    pub there : slice_get before i ≡ Some node
    pub clones : Clones old new node left clone
    pub after_is : after ≡ slice_set before i left

  -- what node i has of some bytes is shared: the mint, the nodes before and after, and the shares before and after
  pub record SharesAt (i at n : ℕ) (old new : Numbers) (before after shares more : List (Segment O)) : Type 0 where
    pub node : Segment O
    pub left : Segment O
    pub part : Option (Segment O)
    pub there : slice_get before i ≡ Some node
    pub one : SharesOne at n old new node left part
    pub after_is : after ≡ slice_set before i left
    pub more_is : more ≡ shares ++ present (part ∷ [])

  -- a share is given back to node i
  pub record RejoinsAt (i : ℕ) (before : List (Segment O)) (share : Share O) (after : List (Segment O)) : Type 0 where
    pub node : Segment O
    pub settled : Segment O
    pub there : slice_get before i ≡ Some node
    pub rejoins : Rejoins node share settled
    pub after_is : after ≡ slice_set before i settled

  -- the next of some shares may be given back to node i, where that has some of the bytes
  abbrev pub IsReturnableAt : ℕ → ℕ → ℕ → List (Segment O) → List (Segment O) → Type 0
  IsReturnableAt i at n nodes shares =
      (node share : Segment O) (rest : List (Segment O)) → slice_get nodes i ≡ Some node → HasSome at n node
      → shares ≡ share ∷ rest → IsReturnable node.share share.share

  -- nodes and shares before and after the next share was given back to node i, where that has some of the bytes
  pub record RejoinsNext (i at n : ℕ) (before shares after left : List (Segment O)) : Type 0 where
    pub node : Segment O
    pub there : slice_get before i ≡ Some node
    pub stays_or_gives :
        ((HasSome at n node → shares ≡ []) × (after ≡ before) × (left ≡ shares))
        ⊎ (HasSome at n node × (share : Segment O) × (shares ≡ share ∷ left) × RejoinsAt i before share.share after)

  -- nodes of which some bytes were shared, and the shares
  pub record IsSharedSo (at n : ℕ) (before nodes shares : List (Segment O)) : Type 0 where
    pub left : ℕ
    pub old : Numbers
    pub new : Numbers
    pub shared : SharesSome at n left old new before nodes shares

  -- whatever the nodes were before they were shared so, they have all of it again
  abbrev pub RegainsAll : ℕ → ℕ → List (Segment O) → List (Segment O) → List (Segment O) → Type 0
  RegainsAll at n nodes shares after =
      (before : List (Segment O)) → IsSharedSo at n before nodes shares → AllZip Regains before after

  -- a chain before its first k bytes left, those, and the chain afterwards: the first node is cloned, the clone has
  -- its first k bytes, and the node itself has the others and stays
  pub record CutsFirst (k : ℕ) (old new : Numbers) (before front after : List (Segment O)) : Type 0 where
    pub node : Segment O
    pub behind : List (Segment O)
    pub left : Segment O
    pub clone : Segment O
    pub before_is : before ≡ node ∷ behind
    pub clones : Clones old new node left clone
    pub front_is : front ≡ trimmed_end (length node.window - k) clone ∷ []
    pub after_is : after ≡ trimmed_start k left ∷ behind

  -- nodes before a part of the first one's weight was shared, and afterwards, and the share
  pub record SharesFirst (before after : List (Segment O)) (clone : Segment O) : Type 0 where
    pub node : Segment O
    pub behind : List (Segment O)
    pub left : Segment O
    pub before_is : before ≡ node ∷ behind
    pub shares : SharesPart node left clone
    pub after_is : after ≡ left ∷ behind

  -- a chain before its first k bytes left, a share of them without the first `front` and the last `back`, and the
  -- chain afterwards: the share is of the first node, which stays with its other bytes
  pub record SharesFront (k front back : ℕ) (before frame after : List (Segment O)) : Type 0 where
    pub node : Segment O
    pub behind : List (Segment O)
    pub left : Segment O
    pub clone : Segment O
    pub before_is : before ≡ node ∷ behind
    pub shares : SharesPart node left clone
    pub frame_is : frame ≡ trimmed_start front (trimmed_end back (trimmed_end (length node.window - k) clone)) ∷ []
    pub after_is : after ≡ trimmed_start k left ∷ behind
