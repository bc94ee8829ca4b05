-- Nodes that become one.
use Rattle.std.specs.Prelude.{◌≡◌, ℕ, ◌<◌, ◌≤◌, List, [], ◌∷◌, ◌++◌, length, take, Option}
use Rattle.buffer_model.specs.Share.{Share, own}
use Rattle.buffer_model.specs.Segment.{Segment, bytes_of}
use Rattle.buffer_model.specs.Minted.{Numbers, Adds, IsNew}
use Rattle.storage.specs.declared.back.Back.{Back}
use Rattle.chain_unshare.specs.Backs.{HandBack}

module _ {O : Type 0} where
  -- the room before the first node
  abbrev pub room_before : List (Segment O) → List ℕ
  room_before [] = []
  room_before (s ∷ ss) = s.before

  -- the room after the last node
  abbrev pub room_after : List (Segment O) → List ℕ
  room_after [] = []
  room_after (s ∷ []) = s.after
  room_after (s ∷ t ∷ ss) = room_after (t ∷ ss)

  -- the room before the first node, all data, and the room after the last node
  abbrev pub span_of : List (Segment O) → List ℕ
  span_of nodes = room_before nodes ++ (bytes_of nodes ++ room_after nodes)

  -- one window with all data, between the room before the first node and the room after the last
  abbrev pub joined : List (Segment O) → Share O → Segment O
  joined nodes share = record {
    before = room_before nodes;
    window = bytes_of nodes;
    after = room_after nodes;
    share = share;
  }

  -- one node for many, on a new storage, with the mint before and after
  pub record Joins (old new : Numbers) (nodes : List (Segment O)) (node : Segment O) : Type 0 where
    pub lists : node ≡ joined nodes node.share
    pub storage : IsNew old new own node.share
    pub mint : Adds 1 old new

  -- a chain before and after some nodes at its front became one, with those and the nodes behind them
  pub record Folds (old new : Numbers) (front rest after : List (Segment O)) : Type 0 where
    pub node : Segment O
    pub joins : Joins old new front node
    pub after_is : after ≡ node ∷ rest

  -- the fewest first nodes of a chain that have n bytes, and the nodes behind them
  pub record IsFewest (n : ℕ) (nodes front rest : List (Segment O)) : Type 0 where
    pub parts : nodes ≡ front ++ rest
    pub enough : n ≤ length (bytes_of front)
    pub fewest : (k : ℕ) → k < length front → length (bytes_of (take k front)) < n

  module _ (runs : O → ℕ) (last : O → Option (List ℕ)) (n : ℕ) where
    -- a chain before and after the fewest first nodes that have n bytes became one, and what those handed back
    pub record Gathers (old new : Numbers) (before after : List (Segment O)) (backs : List (Back O)) : Type 0 where
      pub front : List (Segment O)
      pub rest : List (Segment O)
      pub fewest : IsFewest n before front rest
      pub folds : Folds old new front rest after
      pub backs_are : HandBack runs last front backs
