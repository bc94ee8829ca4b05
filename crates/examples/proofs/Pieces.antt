-- One piece more of a stream.
use Rattle.std.proofs.Common.{◌≡◌, ℕ, ◌<◌, ◌+◌, List, [], ◌∷◌, ◌++◌, length, take, slice_index_or, ap, sym, subst, ◌∙◌, append-nil}
use Rattle.std.specs.Prelude.{flat_map, map}
use Rattle.std.proofs.lemmas.List.{take_more, map-append}
use Rattle.std.proofs.lemmas.Grind.{flat_map-append}
use Rattle.frame_head.specs.declared.codecs.Codec.{Codec}
use Rattle.frame_head.specs.Heads.{FramingUnit}
use Rattle.frame_head.specs.Units.{units, ended}
use Rattle.frame_rule.specs.declared.unit.FrameUnit.{FrameUnit}
use Rattle.frame_rule.specs.Decoding.{TakesIn, TakesEnd}
use Rattle.frame_rule.specs.Units.{Grew, units_of, unit_of}

-- the bytes of the first pieces and of the next
pub joined_more : {X : Type 0} (f : X → List ℕ) (xs : List X) (i : ℕ) (d : X) → i < length xs
    → flat_map f (take (i + 1) xs) ≡ flat_map f (take i xs) ++ f (slice_index_or xs i d)
joined_more f xs i d inside =
    ap (λ w. flat_map f w) (take_more xs i d inside)
    ∙ flat_map-append f (take i xs) (slice_index_or xs i d ∷ [])
    ∙ ap (λ w. flat_map f (take i xs) ++ w) (append-nil (f (slice_index_or xs i d)))

-- what was found is all of the units, where it was all of those before
pub all_found : {some all : List FramingUnit} {old new : List FrameUnit} → units_of old ≡ some → Grew some all old new → units_of new ≡ all
all_found {old = old} found g =
    ap (λ w. units_of w) g.haul ∙ map-append unit_of old g.added ∙ ap (λ w. w ++ units_of g.added) found ∙ sym g.units

-- a piece was fed: `all` is fed now
pub fed_on : (stood now : List ℕ → Type 0) (was codec : Codec) (h p all : List ℕ) (old new : List FrameUnit) → all ≡ h ++ p → was ≡ codec → stood h → units_of old ≡ units codec h
    → TakesIn stood now was p old new → now all × (units_of new ≡ units codec all)
fed_on stood now was codec h p all old new is same stands found next =
    let S : List ℕ → Type 0 = λ t. now t in
    let G : Codec → Type 0 = λ c. Grew (units c h) (units c (h ++ p)) old new in
    (subst S (sym is) (next.stands h stands), all_found found (subst G same (next.grew h stands)) ∙ ap (λ t. units codec t) (sym is))

-- the stream ended behind `all`
pub ended_on : (stood : List ℕ → Type 0) (was codec : Codec) (h all : List ℕ) (old new : List FrameUnit) → h ≡ all → was ≡ codec → stood h → units_of old ≡ units codec h
    → TakesEnd stood was old new → units_of new ≡ ended codec all
ended_on stood was codec h all old new is same stands found next =
    let G : Codec → Type 0 = λ c. Grew (units c h) (ended c h) old new in
    all_found found (subst G same (next h stands)) ∙ ap (λ t. ended codec t) is
