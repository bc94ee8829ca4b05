use Rattle.std.proofs.Common.{rules, ◌≡◌, ℕ, true, false, List, [], ◌++◌, flat_map, length, refl, ap, sym, subst, ◌∙◌, append_assoc, append-nil, arith, length-append}
use Rattle.storage.specs.declared.release.NoOwner.{NoOwner}
use Rattle.buffer_model.specs.Segment.{Segment, bytes_of}
use Rattle.frame_head.specs.declared.codecs.Codec.{Codec}
use Rattle.frame_head.specs.Units.{units, ended}
use Rattle.frame_rule.specs.Decoding.{Decoding}
use Rattle.frame_rule.specs.declared.unit.FrameUnit.{FrameUnit}
use Rattle.frame_rule.specs.Units.{Grew, GrewPartly}
use Rattle.frame_rule.specs.declared.decoder.FeedFault.TheVariants.{NoMemory, Dead}
use Rattle.std.specs.Prelude.{IsErrOf}
use Rattle.buffer_model.specs.Stake.{KeepsTotals, KeepsTotalsBeside}
use Rattle.buffer_model.proofs.Totals.{keeps_beside_then, keeps_same}
use Rattle.iobuf_chain.specs.Accounts.{held_by}
use Rattle.iobuf_chain.specs.Copies.{HasData}
use Rattle.iobuf_chain.specs.Lists.{Each}
use Rattle.frame_rule.specs.Hauls.{hauled}
use Rattle.frame_rule.proofs.Gathered.{aside, ended_longer, ended_ok, grew_further, grew_none, partly_further, partly_longer}
use Rattle.frame_rule.proofs.Intakes.{on_ok}
use Rattle.frame_rule.proofs.Pieces.{ended_dead, ended_lost, fed_dead, fed_lost, on_ok_both, returns_first, returns_none, shares_as, shares_begin, shares_next, tight_next}
use Rattle.frame_rule.proofs.Tight.{adds_further, adds_none}
use Rattle.frame_rule.proofs.Moving.{begins_further, begins_same, keeps_later, numbers_further, numbers_same, shares_further}
use Rattle.frame_rule.proofs.feeds.feed_all.Goals as goal

pub pieces-preserved : goal.pieces-preserved
pieces-preserved g c =
    let bytes : List (List (Segment NoOwner)) → List ℕ = λ ps. flat_map (λ p. bytes_of p) ps in
    let p : List ℕ = bytes_of c.in-Some.piece in
    let rest : List ℕ = flat_map (λ q. bytes_of q) c.pop_front.new.self.items in
    let parts : flat_map (λ q. bytes_of q) c.pieces.pieces.items ≡ p ++ rest = ap bytes c.in-Some.ensures.items in
    let fed = ap (λ (d : Decoding). d.fed) c.in_ok-feed.ensures.state.1 in
    let same : (g.D.Decoder.state c.pieces.decoder).codec ≡ (g.D.Decoder.state c.args.decoder.now).codec = c.pieces.invariant.codec in
    let nodes : List (List (Segment NoOwner)) → List (Segment NoOwner) = λ ps. flat_map (λ q. q) ps in
    let kept : List (Segment NoOwner) = (g.D.Decoder.state c.pieces.decoder).kept in
    let behind : List (Segment NoOwner) = nodes c.pop_front.new.self.items in
    let apart : kept ++ flat_map (λ q. q) c.pieces.pieces.items ≡ (kept ++ c.in-Some.piece) ++ behind =
    ap (λ w. kept ++ w) (ap nodes c.in-Some.ensures.items) ∙ sym (append_assoc kept c.in-Some.piece behind) in
    record {
      codec = ap (λ (d : Decoding). d.codec) c.in_ok-feed.ensures.state.1 ∙ same;
      dead = ap (λ (d : Decoding). d.dead) c.in_ok-feed.ensures.state.1 ∙ c.pieces.invariant.dead;
      fed = let e = ap length parts in let l = length-append p rest in let i = c.pieces.invariant.fed in omega (arith, e, l, i, fed);
      stands = λ h st.
          let before = c.pieces.invariant.stands h st in
          let P : List ℕ → Type 0 = λ w. g.D.Decoder.stands c.feed.new.self w in
          let Q : List ℕ → Type 0 = λ w. Grew (units (g.D.Decoder.state c.args.decoder.now).codec (h ++ before.0)) (units (g.D.Decoder.state c.args.decoder.now).codec w) c.pieces.haul.units.items c.feed.new.haul.units.items in
          let C : Codec → Type 0 = λ k. Grew (units k (h ++ before.0)) (units k ((h ++ before.0) ++ p)) c.pieces.haul.units.items c.feed.new.haul.units.items in
          let assoc = append_assoc h before.0 p in (
            before.0 ++ p,
            append_assoc before.0 p rest ∙ ap (λ w. before.0 ++ w) (sym parts) ∙ before.1,
            subst P assoc (c.in_ok-feed.ensures.units.stands (h ++ before.0) before.2),
            grew_further _ _ _ _ _ _ before.3 (subst Q assoc (subst C same (c.in_ok-feed.ensures.units.grew (h ++ before.0) before.2))),
          );
      back = begins_further _ _ _ c.pieces.invariant.back c.in_ok-feed.ensures.back;
      totals = λ alive.
          let P : List (Segment NoOwner) → Type 0 = λ w. KeepsTotalsBeside c.args.mint.now c.pieces.mint
          (held_by ((g.D.Decoder.state c.args.decoder.now).kept ++ flat_map (λ q. q) c.args.pieces.items) ++ hauled c.args.haul.now) (held_by w ++ hauled c.pieces.haul) in
          keeps_beside_then c.args.mint.now c.pieces.mint c.feed.new.mint _ _ _ c.pieces.invariant.mint c.in_ok-feed.ensures.mint (subst P apart (c.pieces.invariant.totals alive))
          (aside c.pieces.mint c.feed.new.mint (kept ++ c.in-Some.piece) (g.D.Decoder.state c.feed.new.self).kept (flat_map (λ q. q) c.pop_front.new.self.items) (hauled c.pieces.haul) (hauled c.feed.new.haul)
          (c.in_ok-feed.ensures.totals (c.pieces.invariant.dead ∙ alive)));
      mint = numbers_further _ _ _ c.pieces.invariant.mint c.in_ok-feed.ensures.mint;
      untouched = λ dead. absurd (let alive = c.in_ok-feed.ensures.state.0 in let same = c.pieces.invariant.dead in let never : true ≡ false = sym dead ∙ sym same ∙ alive in cc never);
      copies = λ heavy.
          shares_next _ kept c.in-Some.piece behind (g.D.Decoder.state c.feed.new.self).kept _ _ _
          (shares_as _ _ _ _ _ apart (c.pieces.invariant.copies heavy)) (λ is. c.in_ok-feed.ensures.copies is);
      tight = λ tight.
          let P : List (Segment NoOwner) → Type 0 = λ w. Each HasData w in
          let was = c.pieces.invariant.tight tight in
          tight_next kept c.in-Some.piece behind (g.D.Decoder.state c.feed.new.self).kept _ _ _
          (subst P apart was.0, was.1) (λ is. c.in_ok-feed.ensures.tight is);
    }

pub returns-clause-units : goal.returns-clause-units
returns-clause-units g c =
    on_ok c.end.result c.end.ensures.units (λ ends h st.
    let before = c.pieces.invariant.stands h st in
    let none : c.pieces.pieces.items ≡ [] = search rules in
    let all : before.0 ≡ flat_map (λ p. bytes_of p) c.args.pieces.items =
    sym (ap (λ ps. before.0 ++ flat_map (λ p. bytes_of p) ps) none ∙ append-nil before.0) ∙ before.1 in
    let C : Codec → Type 0 = λ k. Grew (units k (h ++ before.0)) (ended k (h ++ before.0)) c.pieces.haul.units.items c.end.new.haul.units.items in
    let A : List ℕ → Type 0 = λ w. Grew (units (g.D.Decoder.state c.args.decoder.now).codec h) (ended (g.D.Decoder.state c.args.decoder.now).codec (h ++ w)) c.args.haul.now.units.items c.end.new.haul.units.items in
    subst A all (grew_further _ _ _ _ _ _ before.3 (subst C c.pieces.invariant.codec (ends (h ++ before.0) before.2))))

pub returns-in_err-feed-clause-part : goal.returns-in_err-feed-clause-part
returns-in_err-feed-clause-part g c is h st =
    let was : IsErrOf c.feed.result NoMemory = search rules in
    let codec : Codec = (g.D.Decoder.state c.args.decoder.now).codec in
    let before = c.pieces.invariant.stands h st in
    let p : List ℕ = bytes_of c.in-Some.piece in
    let rest : List ℕ = flat_map (λ q. bytes_of q) c.pop_front.new.self.items in
    let bytes : List (List (Segment NoOwner)) → List ℕ = λ ps. flat_map (λ q. bytes_of q) ps in
    let parts : flat_map (λ q. bytes_of q) c.pieces.pieces.items ≡ p ++ rest = ap bytes c.in-Some.ensures.items in
    let C : Codec → Type 0 = λ k. GrewPartly (units k (h ++ before.0)) (units k ((h ++ before.0) ++ p)) c.pieces.haul.units.items c.feed.new.haul.units.items in
    let laws = g.met.D.Decoder in
    let more = ended_longer codec (laws.counted c.args.decoder.now h st).2 ((h ++ before.0) ++ p) rest in
    let all : ((h ++ before.0) ++ p) ++ rest ≡ h ++ flat_map (λ q. bytes_of q) c.args.pieces.items =
    append_assoc (h ++ before.0) p rest ∙ append_assoc h before.0 (p ++ rest) ∙ ap (λ w. h ++ (before.0 ++ w)) (sym parts) ∙ ap (λ w. h ++ w) before.1 in
    partly_longer _ _ _ more.0 _ _ (partly_further _ _ _ _ _ _ before.3 (subst C c.pieces.invariant.codec (c.feed.ensures.part was (h ++ before.0) before.2)))
    (ap (λ w. ended codec w) (sym all) ∙ more.1)

pub returns-clause-totals : goal.returns-clause-totals
returns-clause-totals g c =
    on_ok c.end.result (ended_ok _ _ c.end.result c.end.ensures.state) (λ state.
    let alive : (g.D.Decoder.state c.args.decoder.now).dead ≡ false = sym c.pieces.invariant.dead ∙ state.0 in
    let none : c.pieces.pieces.items ≡ [] = search rules in
    let nodes : List (List (Segment NoOwner)) → List (Segment NoOwner) = λ ps. flat_map (λ q. q) ps in
    let kept : List (Segment NoOwner) = (g.D.Decoder.state c.pieces.decoder).kept in
    let rest : kept ++ flat_map (λ q. q) c.pieces.pieces.items ≡ kept = ap (λ ps. kept ++ flat_map (λ q. q) ps) none ∙ append-nil kept in
    let P : List (Segment NoOwner) → Type 0 = λ w. KeepsTotalsBeside c.args.mint.now c.pieces.mint
    (held_by ((g.D.Decoder.state c.args.decoder.now).kept ++ flat_map (λ q. q) c.args.pieces.items) ++ hauled c.args.haul.now) (held_by w ++ hauled c.pieces.haul) in
    let Q : List (Segment NoOwner) → Type 0 = λ w. KeepsTotals (held_by kept ++ hauled c.pieces.haul) (held_by w ++ hauled c.end.new.haul) in
    keeps_later c.args.mint.now c.pieces.mint _ _ _ (subst P rest (c.pieces.invariant.totals alive))
    (subst Q (ap (λ (d : Decoding). d.kept) state.1) (c.end.ensures.totals state.0)))

pub returns-clause-still : goal.returns-clause-still
returns-clause-still g c is =
    let end = ended_dead _ _ c.end.result is c.end.ensures.state in
    end.1 ∙ (c.pieces.invariant.untouched (sym c.pieces.invariant.dead ∙ end.0)).0

pub returns-clause-returned : goal.returns-clause-returned
returns-clause-returned g c is =
    let end = ended_dead _ _ c.end.result is c.end.ensures.state in
    let still = c.pieces.invariant.untouched (sym c.pieces.invariant.dead ∙ end.0) in
    let none : c.pieces.pieces.items ≡ [] = search rules in
    returns_none _ _ _ _ (sym still.1 ∙ none) still.2 (c.end.ensures.returned is)

pub returns-clause-lost : goal.returns-clause-lost
returns-clause-lost g c is =
    let end = ended_lost _ _ c.end.result is c.end.ensures.state in
    (end.0, end.1 ∙ c.pieces.invariant.codec)

pub returns-clause-copies : goal.returns-clause-copies
returns-clause-copies g c heavy =
    let none : c.pieces.pieces.items ≡ [] = search rules in
    let kept : List (Segment NoOwner) = (g.D.Decoder.state c.pieces.decoder).kept in
    let rest : kept ++ flat_map (λ q. q) c.pieces.pieces.items ≡ kept = ap (λ ps. kept ++ flat_map (λ q. q) ps) none ∙ append-nil kept in
    let shares = shares_as _ _ _ _ _ rest (c.pieces.invariant.copies heavy) in
    on_ok_both c.end.result (ended_ok _ _ c.end.result c.end.ensures.state) (c.end.ensures.copies shares.heavy) (λ state last.
    shares_further _ kept [] _ _ _ shares (shares_as kept _ [] _ _ (ap (λ (d : Decoding). d.kept) state.1) last))

pub returns-clause-tight : goal.returns-clause-tight
returns-clause-tight g c tight =
    let none : c.pieces.pieces.items ≡ [] = search rules in
    let kept : List (Segment NoOwner) = (g.D.Decoder.state c.pieces.decoder).kept in
    let rest : kept ++ flat_map (λ q. q) c.pieces.pieces.items ≡ kept = ap (λ ps. kept ++ flat_map (λ q. q) ps) none ∙ append-nil kept in
    let P : List (Segment NoOwner) → Type 0 = λ w. Each HasData w in
    let was = c.pieces.invariant.tight tight in
    on_ok c.end.result (c.end.ensures.tight (subst P rest was.0)) (λ last. adds_further _ _ _ was.1 last)

pub returns-in_err-feed-clause-still : goal.returns-in_err-feed-clause-still
returns-in_err-feed-clause-still g c is =
    let was : IsErrOf c.feed.result Dead = search rules in
    let fed = fed_dead _ _ _ c.feed.result was c.feed.ensures.state in
    fed.1 ∙ (c.pieces.invariant.untouched (sym c.pieces.invariant.dead ∙ fed.0)).0

pub returns-in_err-feed-clause-returned : goal.returns-in_err-feed-clause-returned
returns-in_err-feed-clause-returned g c is =
    let was : IsErrOf c.feed.result Dead = search rules in
    let fed = fed_dead _ _ _ c.feed.result was c.feed.ensures.state in
    let still = c.pieces.invariant.untouched (sym c.pieces.invariant.dead ∙ fed.0) in
    returns_first c.in-Some.piece _ c.pop_front.new.self.items _ _ _ (sym still.1 ∙ c.in-Some.ensures.items) still.2 (c.feed.ensures.returned was)

pub returns-in_err-feed-clause-lost : goal.returns-in_err-feed-clause-lost
returns-in_err-feed-clause-lost g c is =
    let was : IsErrOf c.feed.result NoMemory = search rules in
    let fed = fed_lost _ _ _ c.feed.result was c.feed.ensures.state in
    (fed.0, fed.1 ∙ c.pieces.invariant.codec)

pub pieces-init : goal.pieces-init
pieces-init g c = record {
  codec = refl;
  dead = refl;
  fed = refl;
  stands = λ h st.
      let k : Codec = (g.D.Decoder.state c.args.decoder.now).codec in
      let us : List FrameUnit = c.args.haul.now.units.items in
      let S : List ℕ → Type 0 = λ w. g.D.Decoder.stands c.args.decoder.now w in
      let G : List ℕ → Type 0 = λ w. Grew (units k h) (units k w) us us in
      ([], refl, subst S (sym (append-nil h)) st, subst G (sym (append-nil h)) (grew_none (units k h) us));
  back = begins_same c.args.haul.now.back.items c.args.haul.now.back.items refl;
  totals = λ alive z apart. keeps_same _ z;
  mint = numbers_same c.args.mint.now c.args.mint.now refl;
  untouched = λ dead. (refl, refl, refl);
  copies = λ heavy. shares_begin _ _ heavy;
  tight = λ tight. (tight, adds_none _ _ refl);
}
