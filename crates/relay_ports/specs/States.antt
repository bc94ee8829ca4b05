-- What is known of a source, a sink and a host: one record each.
use Rattle.std.specs.Prelude.{◌≡◌, ◌↔◌, ℕ, List, [], Option, Some, None, Bool, IfSome, find, reverse}
use Rattle.std.specs.Str.{bytes_eq}

-- a source: the bytes that its calls gave and those that it still has, where it tells them,
-- how often a call failed, how many calls came after the first that failed, and the length of
-- the longest slice that a call was handed, whether it failed or not
pub record SourceState : Type 0 where
  pub given : Option (List ℕ)
  pub left : Option (List ℕ)
  pub faults : ℕ
  pub after : ℕ
  pub longest : ℕ

-- a sink: the bytes that it took, where it tells them, how often a call failed, and how many calls
-- came after the first that failed; a call with an empty piece doesn't count
pub record SinkState : Type 0 where
  pub written : Option (List ℕ)
  pub faults : ℕ
  pub after : ℕ

-- an input that was finished: its name, and the state in which it was handed back
pub record InputEnd : Type 0 where
  pub name : List ℕ
  pub state : SourceState

-- an output that was finished: its name, the state in which it was handed back, and whether the finishing failed
pub record OutputEnd : Type 0 where
  pub name : List ℕ
  pub state : SinkState
  pub failed : Bool

-- a host: how often an opening or a finishing failed; the names whose opening failed, in order, and the names of
-- the inputs and of the outputs that are open, the latest first, where it tells them; the inputs and the outputs
-- that were finished, in order; the set of the numbers of the blocks that are out, in order, and how often a block
-- was lent; its report
pub record HostState : Type 0 where
  pub faults : ℕ
  pub refused : Option (List (List ℕ))
  pub open_inputs : Option (List (List ℕ))
  pub open_outputs : Option (List (List ℕ))
  pub inputs : List InputEnd
  pub outputs : List OutputEnd
  pub lent : List ℕ
  pub lends : ℕ
  pub report : SinkState

-- a source that wasn't called yet
abbrev pub IsFreshSource : SourceState → Type 0
IsFreshSource s = IfSome s.given (λ xs. xs ≡ []) × (s.faults ≡ 0) × (s.after ≡ 0) × (s.longest ≡ 0)

-- a sink that wasn't called yet
abbrev pub IsFreshSink : SinkState → Type 0
IsFreshSink w = IfSome w.written (λ xs. xs ≡ []) × (w.faults ≡ 0) × (w.after ≡ 0)

-- where a source tells what it has left, nothing is given exactly where nothing is left
abbrev pub TellsEnd : ℕ → SourceState → Type 0
TellsEnd n s = IfSome s.left (λ xs. (n ≡ 0) ↔ (xs ≡ []))

-- the last output that was finished under a name
abbrev pub last_output : List ℕ → List OutputEnd → Option OutputEnd
last_output name outputs = find (λ o. bytes_eq name o.name) (reverse outputs)

-- what an output took, where there is one and it tells that
abbrev pub written_by : Option OutputEnd → Option (List ℕ)
written_by None = None
written_by (Some o) = o.state.written

-- the text under a name: what the last output that was finished under it took
abbrev pub text_of : List ℕ → List OutputEnd → Option (List ℕ)
text_of name outputs = written_by (last_output name outputs)
