-- Nodes on storages that were just made.
use Rattle.std.proofs.Common.{◌≡◌, ℕ, ◌+◌, List, ◌++◌, length, replicate, sym, ap, subst, ◌∙◌}
use Rattle.raw_block.specs.Spans.{with_span}
use Rattle.buffer_model.specs.Share.{Share, Held, Way, own}
use Rattle.buffer_model.specs.Segment.{Segment, cut, block_of, between_rooms, shared_as}
use Rattle.buffer_model.specs.Minted.{Numbers, IsNew}
use Rattle.buffer_model.specs.Clones.{MovesOut}
use Rattle.buffer_model.proofs.Windows.{cut-rooms, copied, in_zeros}
use Rattle.storage.specs.Held.{with_bytes}
use Rattle.storage.specs.Made.{Makes}
use Rattle.iobuf_node.specs.Roomed.{MakesRoom}

module _ {O : Type 0} where
  share_on : (b : List ℕ) (start len : ℕ) (k : Share O) (n : Segment O) → n ≡ cut b start len k → n.share ≡ k
  share_on b start len k n is = ap (λ (x : Segment O). x.share) is

  -- a node on a new storage is on a new storage
  pub new_on : (old new : Numbers) (way : Way O) (b : List ℕ) (h : Held O) (start len : ℕ) (n : Segment O) → Makes old new way b h → n ≡ cut h.bytes start len h.share → IsNew old new way n.share
  new_on old new way b h start len n made is =
      let P : Share O → Type 0 = λ k. IsNew old new way k in
      subst P (sym (share_on h.bytes start len h.share n is)) made.storage

  -- a node on bytes between rooms shows them so
  pub rooms_on : (old new : Numbers) (way : Way O) (head tail : ℕ) (w : List ℕ) (h : Held O) (len : ℕ) (n : Segment O) → Makes old new way (replicate head 0 ++ (w ++ replicate tail 0)) h → len ≡ length w → n ≡ cut h.bytes head len h.share → n ≡ between_rooms head tail w n.share
  rooms_on old new way head tail w h len n made same is =
      is ∙ cut-rooms head tail w h len made.block same ∙ ap (between_rooms head tail w) (sym (share_on h.bytes head len h.share n is))

  -- a node whose data moved there has the rooms that were asked for
  pub room_on : (old new : Numbers) (head tail : ℕ) (w : List ℕ) (h : Held O) (len : ℕ) (before n : Segment O) → Makes old new own (replicate head 0 ++ (w ++ replicate tail 0)) h → w ≡ before.window → len ≡ length w → n ≡ cut h.bytes head len h.share → MakesRoom old new head tail before n
  room_on old new head tail w h len before n made window same is = record {
    lists = rooms_on old new own head tail w h len n made same is ∙ ap (λ x. between_rooms head tail x n.share) window;
    storage = new_on old new own (replicate head 0 ++ (w ++ replicate tail 0)) h head len n made is;
    mint = made.mint;
  }

  -- the same window on a copy of the block has moved out
  pub copy_on : (old new : Numbers) (v : Segment O) (start len : ℕ) (h : Held O) (b : List ℕ) (n : Segment O) → Makes old new own b h → b ≡ block_of v → start ≡ length v.before → len ≡ length v.window → n ≡ cut h.bytes start len h.share → MovesOut old new v n
  copy_on old new v start len h b n made block at width is = record {
    lists = is ∙ copied v start len h b at width block made.block ∙ ap (λ k. shared_as k v) (sym (share_on h.bytes start len h.share n is));
    storage = new_on old new own b h start len n made is;
    mint = made.mint;
  }

  -- a new storage of zeros with bytes written between the rooms
  pub filled_on : (old new : Numbers) (way : Way O) (head tail : ℕ) (w : List ℕ) (h r : Held O) → Makes old new way (replicate ((head + length w) + tail) 0) h → r ≡ with_bytes h (with_span h.bytes head w) → Makes old new way (replicate head 0 ++ (w ++ replicate tail 0)) r
  filled_on old new way head tail w h r made is =
      let P : Share O → Type 0 = λ k. IsNew old new way k in record {
        block = ap (λ (x : Held O). x.bytes) is ∙ ap (λ b. with_span b head w) made.block ∙ in_zeros head tail w;
        storage = subst P (sym (ap (λ (x : Held O). x.share) is)) made.storage;
        mint = made.mint;
      }
