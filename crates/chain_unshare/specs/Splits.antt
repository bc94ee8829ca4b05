-- Chains that are split: the first bytes leave, as a chain of their own.
use Rattle.std.specs.Prelude.{◌≡◌, ℕ, ◌-◌, ◌<◌, ◌≤◌, List, [], ◌∷◌, ◌++◌, length, ◌⊎◌}
use Rattle.buffer_model.specs.Segment.{Segment, bytes_of, trimmed_start, trimmed_end}
use Rattle.buffer_model.specs.Minted.{Numbers}
use Rattle.buffer_model.specs.Clones.{Clones}
use Rattle.iobuf_chain.specs.Shares.{IsEmptyChain}

module _ {O : Type 0} where
  -- no node is next, or one with more bytes than these
  abbrev pub StopsAt : ℕ → List (Segment O) → Type 0
  StopsAt left [] = Unit {0}
  StopsAt left (s ∷ ss) = left < length s.window

  -- the longest run of first nodes that have at most n bytes in all, and the nodes behind it
  pub record IsRun (n : ℕ) (nodes run past : List (Segment O)) : Type 0 where
    pub parts : nodes ≡ run ++ past
    pub most : length (bytes_of run) ≤ n
    pub longest : StopsAt (n - length (bytes_of run)) past

  -- one side of a chain that is split between nodes: its nodes; or, without any, one node without data and room on a
  -- new storage
  abbrev pub IsSide : Numbers → Numbers → List (Segment O) → List (Segment O) → Type 0
  IsSide old new nodes side = ((side ≡ nodes) × (0 < length nodes) × (new ≡ old))
      ⊎ ((nodes ≡ []) × IsEmptyChain old new side)

  -- it is split between nodes
  pub record SplitsBetween (old new : Numbers) (run past front rest : List (Segment O)) : Type 0 where
    pub mid : Numbers
    pub front_side : IsSide old mid run front
    pub rest_side : IsSide mid new past rest

  -- the node behind the run is cloned: the clone has its first k bytes and comes last in front, and the node itself
  -- has the others and stays
  pub record SplitsNode (k : ℕ) (old new : Numbers) (run past front rest : List (Segment O)) : Type 0 where
    pub node : Segment O
    pub behind : List (Segment O)
    pub past_is : past ≡ node ∷ behind
    pub left : Segment O
    pub clone : Segment O
    pub clones : Clones old new node left clone
    pub front_is : front ≡ run ++ trimmed_end (length node.window - k) clone ∷ []
    pub rest_is : rest ≡ trimmed_start k left ∷ behind

  -- a chain before its first n bytes left, those, and the chain afterwards, with the mint before and after
  pub record SplitsAt (n : ℕ) (old new : Numbers) (before front rest : List (Segment O)) : Type 0 where
    pub run : List (Segment O)
    pub past : List (Segment O)
    pub is_run : IsRun n before run past
    pub parts : ((n ≡ length (bytes_of run)) × SplitsBetween old new run past front rest)
        ⊎ ((length (bytes_of run) < n) × SplitsNode (n - length (bytes_of run)) old new run past front rest)
