-- Chains that are split.
use Rattle.std.proofs.Common.{◌≡◌, ℕ, suc, zero, ◌+◌, ◌-◌, ◌<◌, ◌≤◌, List, [], ◌∷◌, ◌++◌, Option, Some, length, take, drop, refl, sym, ap, subst, ◌∙◌, append_assoc, arith, inl, inr, length-append, length-drop, length-take-le, slice_get, slice_set, Result, Ok, Err, IfOk}
use Rattle.std.proofs.lemmas.List.{append-nil, take-append-drop, take_all, drop-append-le, take-append-le, take_at, drop_at}
use Rattle.std.proofs.Math.Seq.{drop-nil}
use Rattle.buffer_model.specs.Share.{Share, own}
use Rattle.buffer_model.specs.Segment.{Segment, bytes_of, trimmed_start, trimmed_end, between_rooms}
use Rattle.buffer_model.specs.Stake.{Stake, Storage, Keeps, KeepsTotalsBeside}
use Rattle.buffer_model.specs.Minted.{Numbers, NumbersOn, AddsAtMost}
use Rattle.buffer_model.specs.Clones.{Clones}
use Rattle.buffer_model.proofs.Totals.{keeps_same, keeps_equal, keeps_any, keeps-append, keeps_made, apart_first, apart_then}
use Rattle.buffer_model.proofs.Minted.{adds_none, adds_at_most, same_on, adds_on}
use Rattle.buffer_model.proofs.Clones.{clone_keeps_totals}
use Rattle.std.specs.List.{AllZip}
use Rattle.iobuf_chain.specs.Accounts.{held_by, answered}
use Rattle.iobuf_chain.specs.Cuts.{IsShortBeyond}
use Rattle.iobuf_chain.specs.declared.fault.CutFault.{CutFault}
use Rattle.iobuf_chain.specs.Shares.{IsEmptyChain, Regains, Rejoins}
use Rattle.iobuf_chain.proofs.Lists.{drop_there, take-set, drop-set, set-set}
use Rattle.iobuf_chain.proofs.Bytes.{bytes_of-append, sum_more, sum_within, sum-set, sum-cut}
use Rattle.iobuf_chain.proofs.Accounts.{swaps_nodes, same_nodes, held_by-append}
use Rattle.iobuf_chain.proofs.Rejoined.{regains_keep, regains_at}
use Rattle.iobuf_chain.specs.Copies.{HasData, HasStorage, WithData, CopiesNoData, IsHeavy, IsStout, IsShareable}
use Rattle.iobuf_chain.proofs.Copied.{each_append, each_before, each_behind, each_map, own_storages, storage_of_same, clone_storage, heavy_is_stout, cut_of_heavy}
use Rattle.iobuf_chain.proofs.TrimmedEnds.{drop-joined, take-joined}
use Rattle.chain_unshare.specs.Splits.{StopsAt, IsRun, IsSide, SplitsBetween, SplitsNode, SplitsAt}

pub nothing_left : {X : Type 0} (n : ℕ) (xs : List X) → length xs ≤ n → drop n xs ≡ []
nothing_left n [] h = drop-nil n
nothing_left zero (x ∷ xs) h = absurd (omega arith)
nothing_left (suc n) (x ∷ xs) h = nothing_left n xs (omega arith)

abbrev is_ok : {X E : Type 0} → Result X E → Type 0
is_ok (Ok x) = Unit {0}
is_ok (Err e) = ⊥

-- an answer is not `Short` where there is enough
pub enough : {X : Type 0} (asked had : ℕ) (x : X) → asked ≤ had → IsShortBeyond asked had (Ok x)
enough {X = X} asked had x h = record {
  beyond = λ over. absurd (omega (arith, h, over));
  within = λ _ a k e. let P : Result X CutFault → Type 0 = is_ok in subst P e tt;
}

module _ {O : Type 0} where
  pub run_stops : (n i : ℕ) (xs : List (Segment O)) (x : Segment O) → length (bytes_of (take i xs)) ≤ n → slice_get xs i ≡ Some x
      → n - length (bytes_of (take i xs)) < length x.window → IsRun n xs (take i xs) (drop i xs)
  run_stops n i xs x most is more = record {
    parts = sym (take-append-drop i xs);
    most = most;
    longest = let P : List (Segment O) → Type 0 = λ ys. StopsAt (n - length (bytes_of (take i xs))) ys in subst P (sym (drop_there i xs x is)) more;
  }

  nothing_behind : (i : ℕ) (xs : List (Segment O)) → length xs ≤ i → drop i xs ≡ []
  nothing_behind i [] h = drop-nil i
  nothing_behind zero (x ∷ xs) h = absurd (omega arith)
  nothing_behind (suc i) (x ∷ xs) h = nothing_behind i xs (omega arith)

  pub run_all : (n i : ℕ) (xs : List (Segment O)) → length (bytes_of (take i xs)) ≤ n → length xs ≤ i → IsRun n xs (take i xs) (drop i xs)
  run_all n i xs most h = record {
    parts = sym (take-append-drop i xs);
    most = most;
    longest = let P : List (Segment O) → Type 0 = λ ys. StopsAt (n - length (bytes_of (take i xs))) ys in subst P (sym (nothing_behind i xs h)) tt;
  }

  -- the three ways between nodes
  pub between_none : (old new : Numbers) (xs front rest : List (Segment O)) → 0 < length xs → IsEmptyChain old new front → rest ≡ xs
      → SplitsBetween old new (take 0 xs) (drop 0 xs) front rest
  between_none old new xs front rest some made is = record { mid = new; front_side = inr (refl, made); rest_side = inl (is, some, refl) }

  pub between_all : (i : ℕ) (old new : Numbers) (xs front rest : List (Segment O)) → 0 < length xs → length xs ≤ i → front ≡ xs → IsEmptyChain old new rest
      → SplitsBetween old new (take i xs) (drop i xs) front rest
  between_all i old new xs front rest some h is made = record {
    mid = old;
    front_side = inl (is ∙ sym (take_all i xs h), (let e = ap length (take_all i xs h) in omega (arith, e)), refl);
    rest_side = inr (nothing_behind i xs h, made);
  }

  pub between_some : (i : ℕ) (old new : Numbers) (xs front rest : List (Segment O)) → 0 < i → i < length xs → new ≡ old
      → front ≡ take (i - 0) xs → rest ≡ drop i xs → SplitsBetween old new (take i xs) (drop i xs) front rest
  between_some i old new xs front rest some h same is left = record {
    mid = old;
    front_side = inl (is ∙ ap (λ (n : ℕ). take n xs) (let e : i - 0 ≡ i = omega arith in e), (let e = length-take-le i xs (omega arith) in omega (arith, e)), refl);
    rest_side = inl (left, (let e = length-drop i xs in omega (arith, e)), same);
  }

  pub empty_adds : (old new : Numbers) (c : List (Segment O)) → IsEmptyChain old new c → AddsAtMost 1 old new
  empty_adds old new c is = adds_at_most 1 1 old new is.mint (omega arith)

  pub clone_adds : (old new : Numbers) (before after clone : Segment O) → Clones old new before after clone → AddsAtMost 1 old new
  clone_adds old new before after clone is = elim is.shares [
    | inl (same, s) ↦ adds_none 1 old new same
    | inr (adds, s) ↦ adds_at_most 1 1 old new adds (omega arith)
  ]

  -- a node is cut: the windows before and after
  pub node_splits : (i k : ℕ) (old new : Numbers) (xs mid front cut rest : List (Segment O)) (w node left clone short long : Segment O)
      → slice_get xs i ≡ Some node → mid ≡ slice_set xs i w → Clones old new node left clone → short ≡ trimmed_end (length node.window - k) clone
      → long ≡ trimmed_start k left → front ≡ take i mid ++ short ∷ [] → cut ≡ drop i mid → rest ≡ slice_set cut 0 long
      → i < length xs → SplitsNode k old new (take i xs) (drop i xs) front rest
  node_splits i k old new xs mid front cut rest w node left clone short long at away clones ends starts front_is cut_is rest_is there = record {
    node = node;
    behind = drop (i + 1) xs;
    past_is = drop_there i xs node at;
    left = left;
    clone = clone;
    clones = clones;
    front_is = front_is ∙ ap (λ ys. take i ys ++ short ∷ []) away ∙ ap (λ ys. ys ++ short ∷ []) (take-set i w xs) ∙ ap (λ z. take i xs ++ z ∷ []) ends;
    rest_is = rest_is ∙ ap (λ ys. slice_set ys 0 long) (cut_is ∙ ap (drop i) away ∙ drop-set i w xs there) ∙ ap (λ z. z ∷ drop (i + 1) xs) starts;
  }

  side_bytes : (old new : Numbers) (nodes side : List (Segment O)) → IsSide old new nodes side → bytes_of side ≡ bytes_of nodes
  side_bytes old new nodes side is = elim is [
    | inl same ↦ ap (λ xs. bytes_of xs) same.0
    | inr none ↦ ap (λ xs. bytes_of xs) none.1.nodes_are ∙ ap (λ xs. bytes_of xs) (sym none.0)
  ]

  -- the bytes of both sides are those that were there
  pub splits_bytes : (n : ℕ) (old new : Numbers) (before front rest : List (Segment O)) → SplitsAt n old new before front rest
      → (bytes_of front ≡ take n (bytes_of before)) × (bytes_of rest ≡ drop n (bytes_of before))
  splits_bytes n old new before front rest is =
      let run : List (Segment O) = is.run in
      let past : List (Segment O) = is.past in
      let all : bytes_of before ≡ bytes_of run ++ bytes_of past = ap (λ xs. bytes_of xs) is.is_run.parts ∙ bytes_of-append run past in
      elim is.parts [
        | inl (e, between) ↦ (
          side_bytes old between.mid run front between.front_side ∙ sym (ap (take n) all ∙ take_at (bytes_of run) (bytes_of past) n (sym e)),
          side_bytes between.mid new past rest between.rest_side ∙ sym (ap (drop n) all ∙ drop_at (bytes_of run) (bytes_of past) n (sym e)),
        )
        | inr (more, s) ↦
            let w : List ℕ = s.node.window in
            let behind : List ℕ = bytes_of s.behind in
            let k : ℕ = n - length (bytes_of run) in
            let past_bytes : bytes_of past ≡ w ++ behind = ap (λ xs. bytes_of xs) s.past_is in
            let low : k < length w = let P : List (Segment O) → Type 0 = λ ys. StopsAt k ys in subst P s.past_is is.is_run.longest in
            let clone_window : s.clone.window ≡ w = ap (λ (t : Segment O). t.window) s.clones.clone_lists in
            let left_window : s.left.window ≡ w = ap (λ (t : Segment O). t.window) s.clones.lists in
            let size : length s.clone.window - (length w - k) ≡ k = let e = ap length clone_window in omega (arith, e, low) in
            let shows : take (length s.clone.window - (length w - k)) s.clone.window ≡ take k w
            = ap (λ (m : ℕ). take m s.clone.window) size ∙ ap (take k) clone_window in
            let front_bytes : bytes_of front ≡ bytes_of run ++ take k w
            = ap (λ xs. bytes_of xs) s.front_is ∙ bytes_of-append run (trimmed_end (length w - k) s.clone ∷ [])
            ∙ ap (λ bs. bytes_of run ++ bs) (append-nil (take (length s.clone.window - (length w - k)) s.clone.window) ∙ shows) in
            let rest_bytes : bytes_of rest ≡ drop k w ++ behind
            = ap (λ xs. bytes_of xs) s.rest_is ∙ ap (λ bs. drop k bs ++ behind) left_window in
            let most = is.is_run.most in (
              front_bytes
                  ∙ sym (ap (take n) (all ∙ ap (λ bs. bytes_of run ++ bs) past_bytes) ∙ take-joined n (bytes_of run) (w ++ behind)
                  ∙ ap (λ bs. bs ++ take k (w ++ behind)) (take_all n (bytes_of run) most)
                  ∙ ap (λ bs. bytes_of run ++ bs) (take-append-le k w behind (omega (arith, low)))),
              rest_bytes
                  ∙ sym (ap (drop n) (all ∙ ap (λ bs. bytes_of run ++ bs) past_bytes) ∙ drop-joined n (bytes_of run) (w ++ behind)
                  ∙ ap (λ bs. bs ++ drop k (w ++ behind)) (nothing_left n (bytes_of run) most)
                  ∙ drop-append-le k w behind (omega (arith, low))),
            )
      ]

  pub splits_join : (n : ℕ) (old new : Numbers) (before front rest : List (Segment O)) → SplitsAt n old new before front rest
      → bytes_of front ++ bytes_of rest ≡ bytes_of before
  splits_join n old new before front rest is =
      let both = splits_bytes n old new before front rest is in
      ap (λ bs. bs ++ bytes_of rest) both.0 ∙ ap (λ bs. take n (bytes_of before) ++ bs) both.1 ∙ take-append-drop n (bytes_of before)

  side_keeps : (old new : Numbers) (nodes side : List (Segment O)) → IsSide old new nodes side → KeepsTotalsBeside old new (held_by nodes) (held_by side)
  side_keeps old new nodes side is = elim is [
    | inl same ↦ keeps_any old new _ _ (same_nodes _ _ (sym same.0))
    | inr none ↦
        let made : KeepsTotalsBeside old new [] (held_by (between_rooms 0 0 [] none.1.share ∷ [])) = keeps_made old new own none.1.share none.1.storage in
        λ n h.
        let P : List (Segment O) → Type 0 = λ xs. Keeps (held_by xs) (held_by side) n in
        let Q : List (Segment O) → Type 0 = λ xs. Keeps [] (held_by xs) n in
        subst P (sym none.0) (subst Q (sym none.1.nodes_are) (made n h))
  ]

  side_on : (old new : Numbers) (nodes side : List (Segment O)) → IsSide old new nodes side → NumbersOn old new
  side_on old new nodes side is = elim is [
    | inl same ↦ same_on old new same.2
    | inr none ↦ adds_on 1 old new none.1.mint
  ]

  pub keeps_trans : (n : Storage) (xs ys zs : List (Stake O)) → Keeps xs ys n → Keeps ys zs n → Keeps xs zs n
  keeps_trans n xs ys zs p q = record { total = q.total ∙ p.total; way = λ kind is. q.way kind (p.way kind is) }

  -- two parts that keep totals, and change places
  parts_keep : (n : Storage) (run past front rest : List (Segment O)) → Keeps (held_by run) (held_by front) n → Keeps (held_by past) (held_by rest) n
      → Keeps (held_by (run ++ past)) (held_by (rest ++ front)) n
  parts_keep n run past front rest p q =
      keeps_trans n _ _ _ (keeps_equal _ _ (held_by-append run past) n)
      (keeps_trans n _ _ _ (keeps-append n _ _ _ _ p q)
      (keeps_trans n _ _ _ (keeps_equal _ _ (sym (held_by-append front rest)) n) (swaps_nodes [] front rest n)))

  pub between_keeps : (old new : Numbers) (before run past front rest : List (Segment O)) → before ≡ run ++ past → SplitsBetween old new run past front rest
      → KeepsTotalsBeside old new (held_by before) (held_by (rest ++ front))
  between_keeps old new before run past front rest parts is n h =
      let first = side_on old is.mid run front is.front_side in
      let next = side_on is.mid new past rest is.rest_side in
      let P : List (Segment O) → Type 0 = λ xs. Keeps (held_by xs) (held_by (rest ++ front)) n in
      subst P (sym parts)
      (parts_keep n run past front rest (side_keeps old is.mid run front is.front_side n (apart_first old is.mid new n next h))
      (side_keeps is.mid new past rest is.rest_side n (apart_then old is.mid new n first h)))

  pub node_keeps : (k : ℕ) (old new : Numbers) (before run past front rest : List (Segment O)) → before ≡ run ++ past → SplitsNode k old new run past front rest
      → KeepsTotalsBeside old new (held_by before) (held_by (rest ++ front))
  node_keeps k old new before run past front rest parts s n h =
      let short : Segment O = trimmed_end (length s.node.window - k) s.clone in
      let long : Segment O = trimmed_start k s.left in
      let cloned : Keeps (held_by (s.node ∷ [])) (held_by (long ∷ short ∷ [])) n = clone_keeps_totals old new s.node s.left s.clone s.clones n h in
      let P : List (Segment O) → Type 0 = λ xs. Keeps (held_by xs) (held_by (rest ++ front)) n in
      let same : List (Segment O) → List (Segment O) → Type 0 = λ xs ys. Keeps (held_by xs) (held_by ys) n in
      let begin : before ≡ run ++ (s.node ∷ [] ++ s.behind) = parts ∙ ap (λ xs. run ++ xs) s.past_is in
      let middle : same (run ++ (s.node ∷ [] ++ s.behind)) (run ++ (long ∷ short ∷ [] ++ s.behind))
      = keeps_trans n _ _ _ (keeps_equal _ _ (held_by-append run (s.node ∷ [] ++ s.behind)) n)
      (keeps_trans n _ _ _ (keeps-append n _ _ _ _ (keeps_same (held_by run) n) (keeps-append n (held_by (s.node ∷ [])) (held_by s.behind) (held_by (long ∷ short ∷ [])) (held_by s.behind) cloned (keeps_same (held_by s.behind) n)))
      (keeps_equal _ _ (sym (held_by-append run (long ∷ short ∷ [] ++ s.behind))) n)) in
      let turned : same (run ++ (long ∷ short ∷ [] ++ s.behind)) ((long ∷ short ∷ [] ++ s.behind) ++ run) = swaps_nodes [] run (long ∷ short ∷ [] ++ s.behind) n in
      let apart : same (long ∷ (short ∷ [] ++ (s.behind ++ run))) (long ∷ ((s.behind ++ run) ++ short ∷ [])) = swaps_nodes (long ∷ []) (short ∷ []) (s.behind ++ run) n in
      let end : long ∷ ((s.behind ++ run) ++ short ∷ []) ≡ rest ++ front
      = ap (λ xs. long ∷ xs) (append_assoc s.behind run (short ∷ [])) ∙ ap (λ xs. xs ++ (run ++ short ∷ [])) (sym s.rest_is) ∙ ap (λ xs. rest ++ xs) (sym s.front_is) in
      subst P (sym begin) (keeps_trans n _ _ _ middle (keeps_trans n _ _ _ turned (keeps_trans n _ _ _ apart (same_nodes _ _ end n))))

  -- a split at a run is the split of so many bytes
  pub at_node : (n i k : ℕ) (old new : Numbers) (xs front rest : List (Segment O)) → IsRun n xs (take i xs) (drop i xs)
      → k ≡ n - length (bytes_of (take i xs)) → 0 < k → SplitsNode k old new (take i xs) (drop i xs) front rest → SplitsAt n old new xs front rest
  at_node n i k old new xs front rest run e some s =
      let P : ℕ → Type 0 = λ m. SplitsNode m old new (take i xs) (drop i xs) front rest in
      record { run = take i xs; past = drop i xs; is_run = run; parts = inr (omega arith, subst P e s) }

  pub at_between : (n i k : ℕ) (old new : Numbers) (xs front rest : List (Segment O)) → IsRun n xs (take i xs) (drop i xs)
      → k ≡ n - length (bytes_of (take i xs)) → k ≤ 0 → SplitsBetween old new (take i xs) (drop i xs) front rest → SplitsAt n old new xs front rest
  at_between n i k old new xs front rest run e none s =
      let most = run.most in
      record { run = take i xs; past = drop i xs; is_run = run; parts = inl (omega (arith, most), s) }

  -- a chain stays, and an empty one may be made
  pub empty_beside : {E : Type 0} (old new : Numbers) (xs : List (Segment O)) (r : Result (List (Segment O)) E) → IfOk r (λ c. IsEmptyChain old new c)
      → KeepsTotalsBeside old new (held_by xs) (held_by (xs ++ answered r))
  empty_beside old new xs (Ok c) made n h = parts_keep n [] xs c xs (side_keeps old new [] c (inr (refl, made)) n h) (keeps_same (held_by xs) n)
  empty_beside old new xs (Err e) made n h = same_nodes _ _ (sym (append-nil xs)) n

  -- a chain leaves whole, and an empty one stands in its place
  pub empty_instead : (old new : Numbers) (xs made left gone : List (Segment O)) → IsEmptyChain old new made → left ≡ made → gone ≡ xs
      → KeepsTotalsBeside old new (held_by xs) (held_by (left ++ gone))
  empty_instead old new xs made left gone is stays goes n h =
      keeps_trans n _ _ _ (same_nodes _ _ (sym (append-nil xs)) n)
      (keeps_trans n _ _ _ (parts_keep n xs [] xs made (keeps_same (held_by xs) n) (side_keeps old new [] made (inr (refl, is)) n h))
      (same_nodes _ _ (ap (λ ys. ys ++ xs) (sym stays) ∙ ap (λ ys. left ++ ys) (sym goes)) n))

  pub refused_keeps : (a b : Numbers) (xs ys : List (Segment O)) → AllZip Regains xs ys → KeepsTotalsBeside a b (held_by xs) (held_by (ys ++ []))
  refused_keeps a b xs ys all n h = keeps_trans n _ _ _ (regains_keep xs ys all n) (same_nodes _ _ (sym (append-nil ys)) n)

  -- a node in the place of another, and back
  pub back_in : (i : ℕ) (xs mid new : List (Segment O)) (w x y : Segment O) → slice_get xs i ≡ Some x → mid ≡ slice_set xs i w → new ≡ slice_set mid i y
      → Regains x y → AllZip Regains xs new
  back_in i xs mid new w x y at away back r =
      let P : List (Segment O) → Type 0 = λ ys. AllZip Regains xs ys in
      subst P (sym (back ∙ ap (λ ys. slice_set ys i y) away ∙ set-set i w y xs)) (regains_at i xs x y at r)

  pub stops_there : (k i : ℕ) (xs : List (Segment O)) (x : Segment O) → StopsAt k (drop i xs) → slice_get xs i ≡ Some x → k < length x.window
  stops_there k i xs x stops at = let P : List (Segment O) → Type 0 = λ ys. StopsAt k ys in subst P (drop_there i xs x at) stops

  pub set_at_most : (i : ℕ) (xs : List (Segment O)) (w : Segment O) → length (bytes_of (slice_set xs i w)) ≤ length (bytes_of xs) + length w.window
  set_at_most i [] w = omega arith
  set_at_most zero (x ∷ xs) w =
      let a = length-append w.window (bytes_of xs) in
      let b = length-append x.window (bytes_of xs) in
      omega (arith, a, b)
  set_at_most (suc i) (x ∷ xs) w =
      let a = length-append x.window (bytes_of (slice_set xs i w)) in
      let b = length-append x.window (bytes_of xs) in
      let more = set_at_most i xs w in
      omega (arith, a, b, more)

  pub set_back : (i : ℕ) (xs mid : List (Segment O)) (w x y : Segment O) → slice_get xs i ≡ Some x → mid ≡ slice_set xs i w
      → length y.window ≤ length x.window → length (bytes_of (slice_set mid i y)) ≤ length (bytes_of xs)
  set_back i xs mid w x y at away le =
      let same : length (bytes_of (slice_set mid i y)) ≡ length (bytes_of (slice_set xs i y))
      = ap (λ ys. length (bytes_of (slice_set ys i y))) away ∙ ap (λ ys. length (bytes_of ys)) (set-set i w y xs) in
      let sums = sum-set i xs x y at in
      omega (arith, same, sums, le)

  pub cut_sum : (i : ℕ) (xs mid : List (Segment O)) (w x : Segment O) → slice_get xs i ≡ Some x → mid ≡ slice_set xs i w
      → length (bytes_of (take i mid)) + length x.window ≤ length (bytes_of xs)
  cut_sum i xs mid w x at away =
      let same : length (bytes_of (take i mid)) ≡ length (bytes_of (take i xs))
      = ap (λ ys. length (bytes_of (take i ys))) away ∙ ap (λ ys. length (bytes_of ys)) (take-set i w xs) in
      let more = sum_more i xs x at in
      let within = sum_within (i + 1) xs in
      omega (arith, same, more, within)

  pub rest_sum : (i : ℕ) (xs mid cut : List (Segment O)) (w x y : Segment O) → slice_get xs i ≡ Some x → mid ≡ slice_set xs i w → cut ≡ drop i mid
      → i < length xs → length y.window ≤ length x.window → length (bytes_of (slice_set cut 0 y)) ≤ length (bytes_of xs)
  rest_sum i xs mid cut w x y at away is there le =
      let shape : slice_set cut 0 y ≡ y ∷ drop (i + 1) xs = ap (λ ys. slice_set ys 0 y) (is ∙ ap (drop i) away ∙ drop-set i w xs there) in
      let same : length (bytes_of (slice_set cut 0 y)) ≡ length (bytes_of (y ∷ drop (i + 1) xs)) = ap (λ ys. length (bytes_of ys)) shape in
      let a = length-append y.window (bytes_of (drop (i + 1) xs)) in
      let more = sum_more i xs x at in
      let parts = sum-cut (i + 1) xs in
      omega (arith, same, a, more, parts, le)

  pub rejoins_window : (before after : Segment O) (s : Share O) → Rejoins before s after → after.window ≡ before.window
  rejoins_window before after s is = elim is [
    | inl same ↦ ap (λ (t : Segment O). t.window) same.0
    | inr more ↦ ap (λ (t : Segment O). t.window) more.0
  ]

  pub rejoins_as : (before after : Segment O) (s t : Share O) → s ≡ t → Rejoins before s after → Rejoins before t after
  rejoins_as before after s t e is = let P : Share O → Type 0 = λ x. Rejoins before x after in subst P e is

  -- nodes that hold P and the empty node of a side
  side_with : (P Q : Segment O → Type 0) (old new : Numbers) (nodes side : List (Segment O)) → ((s : Segment O) → P s → Q s) → IsSide old new nodes side
      → WithData P nodes → WithData Q side
  side_with P Q old new nodes side f is all =
      let R : List (Segment O) → Type 0 = λ xs. WithData Q xs in
      elim is [
        | inl same ↦ subst R (sym same.0) (each_map _ _ nodes (λ s h d. f s (h d)) all)
        | inr none ↦ subst R (sym none.1.nodes_are) ((λ some. absurd (let x : 0 < 0 = some in omega (arith, x))), tt)
      ]

  -- the nodes in front of a heavy chain are stout, and those that stay are heavy
  pub splits_heavy : (n : ℕ) (old new : Numbers) (before front rest : List (Segment O)) → SplitsAt n old new before front rest → WithData IsHeavy before
      → WithData IsStout front × WithData IsHeavy rest
  splits_heavy n old new before front rest is heavy =
      let run : List (Segment O) = is.run in
      let past : List (Segment O) = is.past in
      let R : List (Segment O) → Type 0 = λ xs. WithData IsHeavy xs in
      let apart : WithData IsHeavy (run ++ past) = subst R is.is_run.parts heavy in
      let first : WithData IsHeavy run = each_before _ run past apart in
      let second : WithData IsHeavy past = each_behind _ run past apart in
      elim is.parts [
        | inl (e, between) ↦ (
          side_with IsHeavy IsStout old between.mid run front heavy_is_stout between.front_side first,
          side_with IsHeavy IsHeavy between.mid new past rest (λ s h. h) between.rest_side second,
        )
        | inr (more, s) ↦
            let k : ℕ = n - length (bytes_of run) in
            let low : k < length s.node.window = let P : List (Segment O) → Type 0 = λ ys. StopsAt k ys in subst P s.past_is is.is_run.longest in
            let both : WithData IsHeavy (s.node ∷ s.behind) = subst R s.past_is second in
            let node_heavy : IsHeavy s.node = both.0 (omega (arith, low)) in
            let cut = cut_of_heavy k old new s.node s.left s.clone s.clones node_heavy (omega (arith, more)) low in
            let S : List (Segment O) → Type 0 = λ xs. WithData IsStout xs in (
              subst S (sym s.front_is)
                  (each_append _ run (trimmed_end (length s.node.window - k) s.clone ∷ []) (each_map _ _ run (λ x h d. heavy_is_stout x (h d)) first) ((λ some. cut.0), tt)),
              subst R (sym s.rest_is) ((λ some. cut.1), both.1),
            )
      ]

  -- where each node with data can be shared, none of its data is copied
  pub splits_copy_nothing : (n : ℕ) (old new : Numbers) (before front rest : List (Segment O)) → SplitsAt n old new before front rest
      → WithData IsShareable before → CopiesNoData before front × CopiesNoData before rest
  splits_copy_nothing n old new before front rest is may =
      let run : List (Segment O) = is.run in
      let past : List (Segment O) = is.past in
      let Q : Segment O → Type 0 = λ s. HasStorage s.share before in
      let R : List (Segment O) → Type 0 = λ xs. CopiesNoData before xs in
      let M : List (Segment O) → Type 0 = λ xs. WithData IsShareable xs in
      let all : CopiesNoData before (run ++ past) = subst R is.is_run.parts (own_storages before) in
      let first : CopiesNoData before run = each_before _ run past all in
      let second : CopiesNoData before past = each_behind _ run past all in
      elim is.parts [
        | inl (e, between) ↦ (
          side_with Q Q old between.mid run front (λ s h. h) between.front_side first,
          side_with Q Q between.mid new past rest (λ s h. h) between.rest_side second,
        )
        | inr (more, s) ↦
            let k : ℕ = n - length (bytes_of run) in
            let low : k < length s.node.window = let P : List (Segment O) → Type 0 = λ ys. StopsAt k ys in subst P s.past_is is.is_run.longest in
            let some : HasData s.node = omega (arith, low) in
            let can : WithData IsShareable (s.node ∷ s.behind) = subst M s.past_is (each_behind _ run past (subst M is.is_run.parts may)) in
            let both : CopiesNoData before (s.node ∷ s.behind) = subst R s.past_is second in
            let same = clone_storage old new s.node s.left s.clone s.clones (can.0 some) in (
              subst R (sym s.front_is)
                  (each_append _ run (trimmed_end (length s.node.window - k) s.clone ∷ []) first
                  ((λ data_is. storage_of_same s.clone.share s.node.share before same.0 (both.0 some)), tt)),
              subst R (sym s.rest_is) ((λ data_is. storage_of_same s.left.share s.node.share before same.1 (both.0 some)), both.1),
            )
      ]
