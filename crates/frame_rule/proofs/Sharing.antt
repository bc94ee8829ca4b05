-- Frames that are shares of a chain's first node.
use Rattle.std.proofs.Common.{◌≡◌, ℕ, ◌-◌, ◌<◌, List, [], ◌∷◌, ◌++◌, length, take, drop, slice_get, refl, ap, sym, subst, ◌∙◌, arith, inr}
use Rattle.std.specs.Prelude.{IfSome}
use Rattle.storage.specs.declared.release.NoOwner.{NoOwner}
use Rattle.buffer_model.specs.Segment.{Segment, bytes_of, trimmed_start, trimmed_end}
use Rattle.buffer_model.specs.Stake.{KeepsTotals, KeepsTotalsBeside}
use Rattle.buffer_model.specs.Minted.{Numbers}
use Rattle.buffer_model.proofs.Totals.{keeps_equal}
use Rattle.buffer_model.proofs.Clones.{part_clones}
use Rattle.iobuf_chain.specs.Accounts.{held_by}
use Rattle.iobuf_chain.specs.Copies.{IsHeavy, WithData}
use Rattle.iobuf_chain.specs.Shares.{CutsFirst, SharesFront}
use Rattle.iobuf_chain.specs.Trims.{trimmed_front, trimmed_back}
use Rattle.iobuf_chain.proofs.FirstCuts.{cut_keeps_totals}
use Rattle.iobuf_chain.proofs.TrimmedEnds.{bytes_of-front, bytes_of-back}
use Rattle.chain_unshare.specs.Splits.{SplitsAt, StopsAt}
use Rattle.chain_unshare.proofs.Splitting.{splits_bytes, splits_heavy, splits_copy_nothing}
use Rattle.frame_rule.specs.Scanning.{inner}
use Rattle.frame_rule.specs.Hauls.{CutsShare}
use Rattle.frame_rule.proofs.Moving.{heavy_shareable}

module _ {k front back : ℕ} {before frame after : List (Segment NoOwner)} (s : SharesFront k front back before frame after) where
  -- the share before it loses its edges
  abbrev pub whole : List (Segment NoOwner)
  whole = trimmed_end (length s.node.window - k) s.clone ∷ []

  cuts : (m : Numbers) → CutsFirst k m m before whole after
  cuts m = record {
    node = s.node;
    behind = s.behind;
    left = s.left;
    clone = s.clone;
    before_is = s.before_is;
    clones = part_clones m s.node s.left s.clone s.shares;
    front_is = refl;
    after_is = s.after_is;
  }

  at_first : IfSome (slice_get before 0) (λ t. k < length t.window) → StopsAt (k - 0) before
  at_first fits =
      let P : List (Segment NoOwner) → Type 0 = λ w. IfSome (slice_get w 0) (λ t. k < length t.window) in
      let within : k < length s.node.window = subst P s.before_is fits in
      let Q : List (Segment NoOwner) → Type 0 = λ w. StopsAt (k - 0) w in
      subst Q (sym s.before_is) (let e : k - 0 < length s.node.window = omega (arith, within) in e)

  pub splits : (m : Numbers) → 0 < k → IfSome (slice_get before 0) (λ t. k < length t.window) → SplitsAt k m m before whole after
  splits m some fits = record {
    run = [];
    past = before;
    is_run = record { parts = refl; most = omega arith; longest = at_first fits };
    parts = inr (
      some,
      record {
        node = s.node;
        behind = s.behind;
        past_is = s.before_is;
        left = s.left;
        clone = s.clone;
        clones = part_clones m s.node s.left s.clone s.shares;
        front_is = ap (λ (n : ℕ). trimmed_end (length s.node.window - n) s.clone ∷ []) (let e : k ≡ k - 0 = omega arith in e);
        rest_is = s.after_is ∙ ap (λ (n : ℕ). trimmed_start n s.left ∷ s.behind) (let e : k ≡ k - 0 = omega arith in e);
      },
    );
  }

  pub trims : frame ≡ trimmed_front front (trimmed_back back whole)
  trims = s.frame_is
      ∙ ap (λ (n : ℕ). trimmed_start front (trimmed_end n (trimmed_end (length s.node.window - k) s.clone)) ∷ []) (let e : back ≡ back - 0 = omega arith in e)

  pub rest_bytes : 0 < k → IfSome (slice_get before 0) (λ t. k < length t.window) → bytes_of after ≡ drop k (bytes_of before)
  rest_bytes some fits = (splits_bytes k [] [] before whole after (splits [] some fits)).1

  pub frame_bytes : 0 < k → IfSome (slice_get before 0) (λ t. k < length t.window) → bytes_of frame ≡ inner front back (take k (bytes_of before))
  frame_bytes some fits =
      ap (λ w. bytes_of w) trims ∙ bytes_of-front front (trimmed_back back whole) ∙ ap (λ w. drop front w) (bytes_of-back back whole)
      ∙ ap (λ w. inner front back w) ((splits_bytes k [] [] before whole after (splits [] some fits)).0)

  pub whole_totals : (m : Numbers) → KeepsTotalsBeside m m (held_by before) (held_by (after ++ whole))
  whole_totals m = cut_keeps_totals k m m before after whole (cuts m)

  pub frame_totals : KeepsTotals (held_by whole) (held_by frame)
  frame_totals = keeps_equal _ _ (ap (λ w. held_by w) (sym s.frame_is))

  pub shares : 0 < k → IfSome (slice_get before 0) (λ t. k < length t.window) → WithData IsHeavy before → CutsShare before whole after
  shares some fits heavy =
      let copies = splits_copy_nothing k [] [] before whole after (splits [] some fits) (heavy_shareable before heavy) in
      let weights = splits_heavy k [] [] before whole after (splits [] some fits) heavy in
      record { front_copies = copies.0; rest_copies = copies.1; stout = weights.0; heavy = weights.1 }
