-- An input that is read in pieces.
use Rattle.std.proofs.Common.{◌≡◌, ℕ, ◌+◌, ◌-◌, ◌*◌, ◌<◌, ◌≤◌, List, [], ◌∷◌, ◌++◌, Option, Some, None, Result, Ok, Err, length, min, take, refl, sym, ap, ◌∙◌, subst, append_assoc, append-nil, arith, length-append}
use Rattle.std.specs.Result.{IfOk}
use Rattle.std.proofs.lemmas.List.{take-append-le}
use Rattle.relay_ports.specs.States.{SourceState}
use Rattle.buffered_io.specs.declared.reading.Filled.{Filled}
use Rattle.buffered_io.specs.declared.reading.Filled.TheVariants.{Full, Ended, Broken}
use Rattle.buffered_io.specs.declared.reading.Stop.{Stop}
use Rattle.buffered_io.specs.declared.reading.Stop.TheVariants.{End, Failure, Limit}
use Rattle.buffered_io.specs.Reading.{Read, ReadFailing, ReadsBlock, Probes, IsAtEnd}
use Rattle.buffered_io.proofs.Blocks.{read_nothing, read_both, read_failing, read_wider, failing_wider, same_read, same_failing}
use Rattle.input_pieces.specs.Pieces.{Reading, HasRead, IsPieceCount, ReadsSoFar, ReadsTo, asked, new_reading, stop_behind}

-- one piece more
next_count : (block bytes pieces more : ℕ) → bytes ≡ pieces * block → 0 < more → more ≤ block → IsPieceCount block (bytes + more) (pieces + 1)
next_count block bytes pieces more whole some fits = record { enough = omega (arith, whole, fits); no_more = omega (arith, whole, some) }

-- a piece that didn't come up to the limit had the block's size
next_whole : (block limit bytes pieces : ℕ) → bytes ≡ pieces * block → bytes + min block (limit - bytes) < limit → bytes + min block (limit - bytes) ≡ (pieces + 1) * block
next_whole block limit bytes pieces whole below = omega (arith, whole, below)

module _ {S : Type 0} {state : S → SourceState} where
  -- nothing was read yet
  pub read_none : (input : S) (block limit : ℕ) → 1 ≤ block → HasRead state block limit (state input) [] (new_reading input block limit)
  read_none input block limit some = record {
    block_is = refl;
    limit_is = refl;
    came = (read_nothing block (state input), omega arith);
    bytes = refl;
    pieces = record { enough = omega arith; no_more = omega (arith, some) };
    whole = λ _ _. omega arith;
  }

  -- what a reading that goes on has read
  going : {block limit : ℕ} {s : SourceState} {h : List ℕ} {r : Reading S} → r.stop ≡ None → HasRead state block limit s h r → Read block h s (state r.input) × (length h ≤ limit)
  going {block} {limit} {s} {h} {r} on has = let P : Option Stop → Type 0 = λ o. ReadsSoFar block limit o h s (state r.input) in subst P on has.came

  -- a block was filled
  pub piece_came : {block limit : ℕ} {s : SourceState} {h : List ℕ} (r : Reading S) (i : S) (filled : Filled) (bytes : List ℕ)
      → r.stop ≡ None → 0 < asked r → 0 < length bytes → ReadsBlock filled (asked r) bytes (state r.input) (state i) → HasRead state block limit s h r
      → HasRead state block limit s (h ++ bytes) (record r { input = i; read = r.read + length bytes; pieces = r.pieces + 1; stop = stop_behind filled })
  piece_came {block} {limit} {s} {h} r i filled bytes on some_asked some came has =
      let so_far = going on has in
      let longer : length (h ++ bytes) ≡ length h + length bytes = length-append h bytes in
      let size : asked r ≡ min block (limit - length h) = ap (λ b. min b (r.limit - r.read)) has.block_is ∙ ap (λ l. min block (l - r.read)) has.limit_is ∙ ap (λ n. min block (limit - n)) has.bytes in
      let below : length h < limit = omega (arith, some_asked, size) in
      let full : length h ≡ r.pieces * block = has.whole on below in
      let fits : asked r ≤ block = omega (arith, size) in
      let room : length h + asked r ≤ limit = omega (arith, size, so_far.1) in
      let count : length bytes ≤ asked r → IsPieceCount block (length (h ++ bytes)) (r.pieces + 1) = λ few. rw longer (next_count block (length h) r.pieces (length bytes) full some (omega (arith, few, fits))) in
      let read : r.read + length bytes ≡ length (h ++ bytes) = omega (arith, has.bytes, longer) in
      by filled came size fits room below full count read so_far
    where
      by : (f : Filled) → ReadsBlock f (asked r) bytes (state r.input) (state i) → asked r ≡ min block (limit - length h) → asked r ≤ block → length h + asked r ≤ limit → length h < limit
          → length h ≡ r.pieces * block → (length bytes ≤ asked r → IsPieceCount block (length (h ++ bytes)) (r.pieces + 1)) → r.read + length bytes ≡ length (h ++ bytes)
          → Read block h s (state r.input) × (length h ≤ limit)
          → HasRead state block limit s (h ++ bytes) (record r { input = i; read = r.read + length bytes; pieces = r.pieces + 1; stop = stop_behind f })
      by Full b size fits room below full count read so_far = record {
        block_is = has.block_is;
        limit_is = has.limit_is;
        came = (read_both so_far.0 (read_wider fits b.0), omega (arith, length-append h bytes, b.1, room));
        bytes = read;
        pieces = count (omega (arith, b.1));
        whole = λ _ less.
            let all : length (h ++ bytes) ≡ length h + min block (limit - length h) = length-append h bytes ∙ ap (λ n. length h + n) (b.1 ∙ size) in
            all ∙ next_whole block limit (length h) r.pieces full (omega (arith, all, less));
      }
      by Ended b size fits room below full count read so_far = record {
        block_is = has.block_is;
        limit_is = has.limit_is;
        came = (read_both so_far.0 (read_wider fits b.0), b.1, omega (arith, length-append h bytes, b.2, room));
        bytes = read;
        pieces = count (omega (arith, b.2));
        whole = λ none _. absurd (cc none);
      }
      by Broken b size fits room below full count read so_far = record {
        block_is = has.block_is;
        limit_is = has.limit_is;
        came = (read_failing so_far.0 (failing_wider fits b.0), omega (arith, length-append h bytes, b.1, room));
        bytes = read;
        pieces = count (omega (arith, b.1));
        whole = λ none _. absurd (cc none);
      }

  -- a block got no byte
  pub none_came : {block limit : ℕ} {s : SourceState} {h : List ℕ} (r : Reading S) (i : S) (filled : Filled) (stop : Stop) (bytes : List ℕ)
      → r.stop ≡ None → stop_behind filled ≡ Some stop → bytes ≡ [] → ReadsBlock filled (asked r) bytes (state r.input) (state i) → HasRead state block limit s h r
      → HasRead state block limit s h (record r { input = i; stop = stop_behind filled })
  none_came {block} {limit} {s} {h} r i filled stop bytes on over none came has = by filled over came (going on has)
    where
      fits : asked r ≤ block
      fits = omega (arith, has.block_is)

      by : (f : Filled) → stop_behind f ≡ Some stop → ReadsBlock f (asked r) bytes (state r.input) (state i) → Read block h s (state r.input) × (length h ≤ limit)
          → HasRead state block limit s h (record r { input = i; stop = stop_behind f })
      by Full is b so_far = absurd (cc is)
      by Ended is b so_far = record {
        block_is = has.block_is;
        limit_is = has.limit_is;
        came = (same_read (ap (λ x. h ++ x) none ∙ append-nil h) (read_both so_far.0 (read_wider fits b.0)), b.1, so_far.1);
        bytes = has.bytes;
        pieces = has.pieces;
        whole = λ absent _. absurd (cc absent);
      }
      by Broken is b so_far = record {
        block_is = has.block_is;
        limit_is = has.limit_is;
        came = (same_failing (ap (λ x. h ++ x) none ∙ append-nil h) (read_failing so_far.0 (failing_wider fits b.0)), so_far.1);
        bytes = has.bytes;
        pieces = has.pieces;
        whole = λ absent _. absurd (cc absent);
      }

  -- one byte was asked for at the limit
  pub limit_met : {block limit : ℕ} {s : SourceState} {h : List ℕ} (r : Reading S) (i : S) (stop : Stop)
      → r.stop ≡ None → 1 ≤ r.block → r.limit ≤ r.read → Probes stop (state r.input) (state i) → HasRead state block limit s h r
      → HasRead state block limit s h (record r { input = i; stop = Some stop })
  limit_met {block} {limit} {s} {h} r i stop on some met came has = record {
    block_is = has.block_is;
    limit_is = has.limit_is;
    came = by stop came (going on has);
    bytes = has.bytes;
    pieces = has.pieces;
    whole = λ absent _. absurd (cc absent);
  }
    where
      fits : 1 ≤ block
      fits = omega (arith, has.block_is, some)

      full : length h ≤ limit → length h ≡ limit
      full within = omega (arith, has.limit_is, has.bytes, met, within)

      by : (p : Stop) → Probes p (state r.input) (state i) → Read block h s (state r.input) × (length h ≤ limit) → ReadsTo block limit p h s (state i)
      by End b so_far = (same_read (append-nil h) (read_both so_far.0 (read_wider fits b.0)), b.1, so_far.1)
      by Failure b so_far = (same_failing (append-nil h) (read_failing so_far.0 (failing_wider fits b)), so_far.1)
      by Limit b so_far = (b.0, read_both so_far.0 (read_wider fits b.1), full so_far.1)

-- what came into the front of a block
pub in_front : (P : List ℕ → Type 0) (r : Result ℕ Stop) (was into post : List ℕ) → length into ≡ length was → IfOk r (λ n. P (take n into)) → IfOk r (λ n. n ≤ length was) → IfOk r (λ n. P (take n (into ++ post)))
in_front P (Ok n) was into post long piece fits = subst P (sym (take-append-le n into post (omega (arith, long, fits)))) piece
in_front P (Err e) was into post long piece fits = tt
